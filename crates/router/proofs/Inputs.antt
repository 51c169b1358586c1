-- What is known of the inputs of the one-router call once nothing is refused.
use mathlib.Core.Path.{◌≡◌, refl, sym, ap, ◌∙◌}
use mathlib.Core.Bool.{Bool, true, false, cond, not, ◌&&◌, and-eq-true_iff, true≢false}
use mathlib.Core.List.{List}
use Rattle.std.specs.Prelude.{Result, Ok, Err, IfOk}
use Prim.Native.Nat.{ℕ, zero, suc, ◌*◌, ◌/◌, ◌≤◌, ◌<◌}
use native.Mathlib.Nat.{le_of_eq, mod-lt}
use native.Mathlib.Omega.{arith}
use lib.Dec.{eqb, leb, lit<}
use lib.ListN.{length}
use borrow.Author.Tests.{leb-true, eqb-true, eq-eqb, ne_eqb, not-false}
use Rattle.packet.specs.declared.Packet.{Packet}
use Rattle.packet.specs.declared.refused.Refused.{Refused}
use Rattle.packet.specs.Refused.{number_of, told}
use Rattle.packet.specs.Bytes.{Taken, packet_at, not_taken, as_taken, control_at, taken_of}
use Rattle.packet.specs.Control.{is_direct}
use Rattle.packet.specs.Refusal.{first_of, packet_refusals}
use Rattle.packet.proofs.Refusals.{packet_first, take_refused}
use Rattle.packet.proofs.Numbers.{told_some}
use Rattle.packet.proofs.First.{first_append, not_refused}
use Rattle.tables.specs.Accept.{few_rows, codes_fine, all_codes}
use Rattle.steps.specs.declared.Setting.{Setting}
use Rattle.steps.specs.Deciding.{Checked}
use Rattle.tables.specs.Sizes.{size_fine}
use Rattle.tables.proofs.Sizes.{Size, size}
use Rattle.tables.specs.Tables.{ChipTables}
use Rattle.router.specs.Call.{setting_fine, source_fine, setting_refusals, pass_refusals, checked_of}

source_small : (source : ℕ) → source_fine source ≡ true → source < 8
source_small source e = go (leb source 5) refl
  where
    go : (b : Bool) → leb source 5 ≡ b → source < 8
    go true f = omega (arith, leb-true source 5 f)
    go false f = omega (arith, eqb-true source 7 (simp f at e))

-- each test of the setting has passed
pub record Fine (source : ℕ) (tables : ChipTables) (t : Setting) : Type 0 where
  pub sized : size_fine t.width t.height ≡ true
  pub setting : setting_fine t ≡ true
  pub coded : codes_fine tables.codes (t.height * t.width) ≡ true
  pub sourced : source_fine source ≡ true

pub fine : (source : ℕ) (tables : ChipTables) (t : Setting) (room : ℕ) → first_of (setting_refusals source tables t room) ≡ 0 → Fine source tables t
fine source tables t room e =
    let fine = not_refused (setting_refusals source tables t room) refl e in
    record {
      sized = not-false _ (fine 7);
      setting = not-false _ (fine 6);
      coded = not-false _ (fine 11);
      sourced = not-false _ (fine 1);
    }

pub checked : (p : Packet) (source : ℕ) (tables : ChipTables) (t : Setting) → p.control < 256 → Fine source tables t → Checked p source tables t
checked p source tables t hc f =
    let s : Size t.width t.height = size t.width t.height f.sized in
    let h : _ = simp and-eq-true_iff at f.setting in
    let k : length tables.codes ≡ t.height * t.width = eqb-true _ _ ((and-eq-true_iff (eqb (length tables.codes) (t.height * t.width)) (all_codes tables.codes)).0 f.coded).0 in
    record {
      control = hc;
      from = source_small source f.sourced;
      monitor = omega (arith, leb-true, h);
      phase = omega (arith, leb-true, h);
      ready = omega (arith, leb-true, h);
      width = s.width_high;
      height = s.height_high;
      enough = le_of_eq (sym k);
    }

-- ---- what the checks find, one after the other

module _ (bytes : List ℕ) (source : ℕ) (tables : ChipTables) (t : Setting) (room : ℕ) where
  found : ℕ → Taken
  found n = cond (eqb n 0) (record { refusal = 0; packet = packet_at bytes }) (not_taken n)

  -- the setting is asked before the packet
  pub before_packet : (n : ℕ) → first_of (setting_refusals source tables t room) ≡ n → eqb n 0 ≡ false → first_of (pass_refusals bytes source tables t room) ≡ n
  before_packet n e some = first_append (setting_refusals source tables t room) (packet_refusals bytes) refl ∙ simp (e, some)

  pub after_setting : first_of (setting_refusals source tables t room) ≡ 0 → first_of (pass_refusals bytes source tables t room) ≡ first_of (packet_refusals bytes)
  after_setting e = first_append (setting_refusals source tables t room) (packet_refusals bytes) refl ∙ simp e

  pub refused_setting : (n : ℕ) → first_of (setting_refusals source tables t room) ≡ n → (n ≡ 0 → ⊥) → checked_of bytes source tables t room ≡ not_taken n
  unfolding checked_of found
  refused_setting n e some = ap found (before_packet n e (ne_eqb n 0 some)) ∙ simp (ne_eqb n 0 some)

  module _ (fine-setting : first_of (setting_refusals source tables t room) ≡ 0) where
    by_packet : checked_of bytes source tables t room ≡ found (cond (eqb (taken_of bytes).refusal 0) (cond (is_direct (control_at bytes)) 4 0) (taken_of bytes).refusal)
    unfolding checked_of found
    by_packet =
        let first : first_of (pass_refusals bytes source tables t room) ≡ first_of (packet_refusals bytes) =
        first_append (setting_refusals source tables t room) (packet_refusals bytes) refl ∙ simp fine-setting in
        ap found (first ∙ packet_first bytes)

    pub refused_packet : ((taken_of bytes).refusal ≡ 0 → ⊥) → checked_of bytes source tables t room ≡ taken_of bytes
    unfolding found
    refused_packet some = by_packet ∙ simp (ne_eqb _ _ some) (sym (take_refused bytes some))

    pub refused_direct : (taken_of bytes).refusal ≡ 0 → is_direct (control_at bytes) ≡ true → checked_of bytes source tables t room ≡ not_taken 4
    unfolding found
    refused_direct e d = by_packet ∙ simp (eq-eqb _ _ e, d)

    pub accepted : (taken_of bytes).refusal ≡ 0 → is_direct (control_at bytes) ≡ false → checked_of bytes source tables t room ≡ record { refusal = 0; packet = packet_at bytes }
    unfolding found
    accepted e d = by_packet ∙ simp (eq-eqb _ _ e, d)

  -- where the first refusal is told, and else the packet in the bytes is taken
  pub told_checked : (r : Result Packet Refused) → told r ≡ first_of (pass_refusals bytes source tables t room) → IfOk r (λ p. p ≡ packet_at bytes)
      → as_taken r ≡ checked_of bytes source tables t room
  unfolding checked_of found
  told_checked (Ok p) e w = ap (λ (q : Packet). as_taken (Ok q)) w ∙ ap found e
  told_checked (Err s) e w =
      let refused : found (number_of s) ≡ not_taken (number_of s) = simp (told_some s) in
      sym refused ∙ ap found e

-- where nothing is refused, each test has passed, and the packet is the one that stands in the bytes
pub record NoneRefused (bytes : List ℕ) (source : ℕ) (tables : ChipTables) (t : Setting) (room : ℕ) : Type 0 where
  pub tests : Fine source tables t
  pub packet : checked_of bytes source tables t room ≡ record { refusal = 0; packet = packet_at bytes }

pub none_refused : (bytes : List ℕ) (source : ℕ) (tables : ChipTables) (t : Setting) (room : ℕ) → (checked_of bytes source tables t room).refusal ≡ 0 → NoneRefused bytes source tables t room
unfolding checked_of
none_refused bytes source tables t room e = go (first_of (setting_refusals source tables t room)) refl (first_of (pass_refusals bytes source tables t room)) refl
  where
    go : (n : ℕ) → first_of (setting_refusals source tables t room) ≡ n → (m : ℕ) → first_of (pass_refusals bytes source tables t room) ≡ m → NoneRefused bytes source tables t room
    go zero f zero g = record { tests = fine source tables t room f; packet = simp (eq-eqb _ _ g) }
    go zero f (suc m) g =
        let some : suc m ≡ 0 → ⊥ = λ z. omega arith in
        let wrong : (checked_of bytes source tables t room).refusal ≡ suc m = simp (g, ne_eqb _ _ some) in
        absurd (omega arith)
    go (suc n) f m g =
        let some : suc n ≡ 0 → ⊥ = λ z. omega arith in
        let wrong : (checked_of bytes source tables t room).refusal ≡ suc n = ap (λ (x : Taken). x.refusal) (refused_setting bytes source tables t room (suc n) f some) in
        absurd (omega arith)

-- the packet that is then taken may pass
pub checked_packet : (bytes : List ℕ) (source : ℕ) (tables : ChipTables) (t : Setting) (room : ℕ) (r : Result Packet Refused)
    → as_taken r ≡ checked_of bytes source tables t room → IfOk r (λ p. Checked p source tables t)
checked_packet bytes source tables t room (Err s) e = tt
checked_packet bytes source tables t room (Ok p) e =
    let n = none_refused bytes source tables t room (sym (ap (λ (x : Taken). x.refusal) e)) in
    let whole : p ≡ packet_at bytes = ap (λ (x : Taken). x.packet) (e ∙ n.packet) in
    checked p source tables t (rw whole (mod-lt _ (lit< tt))) n.tests

-- ---- which of the tables' numbers it is

-- where one of three tests fails, the first that does
pub lent_number : (few routes fixed : Bool) (rest : ℕ) → ((few && routes) && fixed) ≡ false → cond (not few) 16 (cond (not routes) 17 18) ≡ cond (not few) 16 (cond (not routes) 17 (cond (not fixed) 18 rest))
lent_number true true true rest e = absurd (true≢false e)
lent_number true true false rest e = refl
lent_number true false fixed rest e = refl
lent_number false routes fixed rest e = refl

pub all_fine : (few routes fixed : Bool) → ((few && routes) && fixed) ≡ true → (few ≡ true) × ((routes ≡ true) × (fixed ≡ true))
all_fine few routes fixed e =
    let t = (and-eq-true_iff (few && routes) fixed).0 e in
    let u = (and-eq-true_iff few routes).0 t.0 in
    (u.0, (u.1, t.1))

-- 17 comes after 16
pub few_at_17 : (bytes : List ℕ) (source : ℕ) (tables : ChipTables) (t : Setting) (room : ℕ) → (checked_of bytes source tables t room).refusal ≡ 17 → length tables.rows / 3 ≤ 1024
unfolding checked_of
few_at_17 bytes source tables t room e = leb-true _ _ (go (size_fine t.width t.height) (setting_fine t) (few_rows (length tables.rows / 3)) _ (by_number (first_of (pass_refusals bytes source tables t room)) (eqb (first_of (pass_refusals bytes source tables t room)) 0) e))
  where
    by_number : (n : ℕ) (b : Bool) → (cond {A = Taken} b (record { refusal = 0; packet = packet_at bytes }) (not_taken n)).refusal ≡ 17 → n ≡ 17
    by_number n true f = absurd (omega arith)
    by_number n false f = f

    go : (sized set few : Bool) (n : ℕ) → cond (not sized) 7 (cond (not set) 6 (cond (not few) 16 n)) ≡ 17 → few ≡ true
    go false set few n f = absurd (omega arith)
    go true false few n f = absurd (omega arith)
    go true true false n f = absurd (omega arith)
    go true true true n f = refl
