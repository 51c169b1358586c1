-- The kinds that a record keeps, by their numbers, and what the steps of reading and writing promise each other of them.
use Rattle.std.specs.Prelude.{ℕ, ◌≡◌, true, false, List, length, get_or, Result, MatchResult}
use Rattle.packet.specs.declared.refused.Refused.{Refused}
use Rattle.packet.specs.declared.refused.Refused.TheVariants.{Record}
use Rattle.packet.specs.Refusal.{first_of}
use Rattle.packet.specs.Refused.{number_of as number}
use Rattle.records.specs.declared.Call.{Call}
use Rattle.records.specs.declared.kinds.Kind.{Kind}
use Rattle.records.specs.declared.kinds.Kind.TheVariants.{Injection, Round, LinkChange, Registers}
use Rattle.records.specs.Records.{read_refusals, body_fine, keepable, record_of, write_refusals, written_on}

abbrev pub number_of : Kind → ℕ
number_of Injection = 1
number_of Round = 2
number_of LinkChange = 3
number_of Registers = 4

-- The kind with a number; refusal 14 where there is none.
abbrev pub Decodes : ℕ → Result Kind Refused → Type 0
Decodes n r = MatchResult r (λ kind. number_of kind ≡ n) (λ e. (e ≡ Record) × ((kind : Kind) → number_of kind ≡ n → ⊥))

-- ---- reading

-- The kind of a record that is there, where all goes together; refusal 14 where it does not.
abbrev pub Fine : List ℕ → Result Kind Refused → Type 0
Fine s r = MatchResult r (λ kind. (number_of kind ≡ get_or s 3 0) × (body_fine s ≡ true)) (λ e. (e ≡ Record) × (body_fine s ≡ false))

-- The kind of a record that is not refused; else the refusal.
abbrev pub KindRead : List ℕ → Result Kind Refused → Type 0
KindRead s r =
    MatchResult r (λ kind. (number_of kind ≡ get_or s 3 0) × (first_of (read_refusals s) ≡ 0))
    (λ e. number e ≡ first_of (read_refusals s))

-- ---- writing

-- The kind of a call that a record keeps as it is; refusal 14 where none does.
abbrev pub Keeps : Call → Result Kind Refused → Type 0
Keeps c r = MatchResult r (λ kind. (number_of kind ≡ c.kind) × (keepable c ≡ true)) (λ e. (e ≡ Record) × (keepable c ≡ false))

-- The room with the record of a call, and how long it is; or as it came, with the refusal.
abbrev pub WrittenOn : Call → List ℕ → List ℕ → Result ℕ Refused → Type 0
WrittenOn c before after r =
    (after ≡ written_on c before)
    × MatchResult r (λ n. (n ≡ length (record_of c)) × (first_of (write_refusals (length before) c) ≡ 0))
    (λ e. number e ≡ first_of (write_refusals (length before) c))
