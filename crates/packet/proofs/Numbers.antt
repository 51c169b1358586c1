-- No reason for a refusal has the number 0, which is told where nothing is refused, and no two have the same.
use Rattle.std.proofs.Common.{◌≡◌, refl, sym, ap, ◌∙◌, ℕ, true≢false, false, cond, eqb, eq-eqb, Result, Ok, Err}
use Rattle.std.specs.Result.{is_ok}
use Rattle.packet.specs.declared.Packet.{Packet}
use Rattle.packet.specs.declared.refused.Refused.{Refused}
use Rattle.packet.specs.declared.refused.Refused.TheVariants.{Source, Length, Direct, OutOfRange, Size, NoMesh, NotThere, LogRoom, Codes, CutShort, Version, Record, Starts, ManyRows, RouteBits, FixedRoutes, OffMesh, Targets, KeyBits, TreeRoom, RecordRoom, FewerRoom, GroupsRoom}
use Rattle.packet.specs.Refused.{number_of, told}
use Rattle.packet.specs.Bytes.{Taken, as_taken}

pub told_some : (r : Refused) → eqb (number_of r) 0 ≡ false
told_some Source = refl
told_some Length = refl
told_some Direct = refl
told_some OutOfRange = refl
told_some Size = refl
told_some NoMesh = refl
told_some NotThere = refl
told_some LogRoom = refl
told_some Codes = refl
told_some CutShort = refl
told_some Version = refl
told_some Record = refl
told_some Starts = refl
told_some ManyRows = refl
told_some RouteBits = refl
told_some FixedRoutes = refl
told_some OffMesh = refl
told_some Targets = refl
told_some KeyBits = refl
told_some TreeRoom = refl
told_some RecordRoom = refl
told_some FewerRoom = refl
told_some GroupsRoom = refl

-- the reason that a number stands for
abbrev reason : ℕ → Refused
reason n =
    (cond (eqb n 1) Source
    (cond (eqb n 2) Length
    (cond (eqb n 4) Direct
    (cond (eqb n 6) OutOfRange
    (cond (eqb n 7) Size
    (cond (eqb n 8) NoMesh
    (cond (eqb n 9) NotThere
    (cond (eqb n 10) LogRoom
    (cond (eqb n 11) Codes
    (cond (eqb n 12) CutShort
    (cond (eqb n 13) Version
    (cond (eqb n 14) Record
    (cond (eqb n 15) Starts
    (cond (eqb n 16) ManyRows
    (cond (eqb n 17) RouteBits
    (cond (eqb n 18) FixedRoutes
    (cond (eqb n 19) OffMesh
    (cond (eqb n 20) Targets
    (cond (eqb n 21) KeyBits
    (cond (eqb n 26) TreeRoom
    (cond (eqb n 27) RecordRoom
    (cond (eqb n 28) FewerRoom
    GroupsRoom))))))))))))))))))))))

reason_back : (r : Refused) → reason (number_of r) ≡ r
reason_back Source = refl
reason_back Length = refl
reason_back Direct = refl
reason_back OutOfRange = refl
reason_back Size = refl
reason_back NoMesh = refl
reason_back NotThere = refl
reason_back LogRoom = refl
reason_back Codes = refl
reason_back CutShort = refl
reason_back Version = refl
reason_back Record = refl
reason_back Starts = refl
reason_back ManyRows = refl
reason_back RouteBits = refl
reason_back FixedRoutes = refl
reason_back OffMesh = refl
reason_back Targets = refl
reason_back KeyBits = refl
reason_back TreeRoom = refl
reason_back RecordRoom = refl
reason_back FewerRoom = refl
reason_back GroupsRoom = refl

pub same_reason : (r s : Refused) → number_of r ≡ number_of s → r ≡ s
same_reason r s e = sym (reason_back r) ∙ ap reason e ∙ reason_back s

pub number_some : (r : Refused) → number_of r ≡ 0 → ⊥
number_some r e = true≢false (sym (eq-eqb (number_of r) 0 e) ∙ told_some r)

pub ok_told : {A : Type 0} → (r : Result A Refused) → is_ok r ≡ eqb (told r) 0
ok_told (Ok x) = refl
ok_told (Err s) = sym (told_some s)

-- ---- what is told of taking says which packet was taken, or why none was

pub told_taken : (r : Result Packet Refused) → (as_taken r).refusal ≡ told r
told_taken (Ok p) = refl
told_taken (Err s) = refl

pub taken_packet : (r : Result Packet Refused) (p : Packet) → as_taken r ≡ record { refusal = 0; packet = p } → r ≡ Ok p
taken_packet (Ok q) p e = ap (λ (t : Taken). Ok t.packet) e
taken_packet (Err s) p e = absurd (true≢false (sym (eq-eqb (number_of s) 0 (ap (λ (t : Taken). t.refusal) e)) ∙ told_some s))

pub taken_alike : (a b : Result Packet Refused) → as_taken a ≡ as_taken b → a ≡ b
taken_alike a (Ok p) e = taken_packet a p e
taken_alike (Ok p) (Err s) e = sym (taken_packet (Err s) p (sym e))
taken_alike (Err r) (Err s) e = ap Err (same_reason r s (ap (λ (t : Taken). t.refusal) e))
