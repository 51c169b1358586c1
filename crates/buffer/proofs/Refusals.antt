-- The first refusal that applies to a call on a mesh, test by test.
use Rattle.std.proofs.Common.{◌≡◌, ℕ, ◌*◌, ◌/◌, ◌<◌, ◌≤◌, Bool, true, false, cond, not, ◌&&◌, eqb, ltb, List, [], ◌∷◌, length, sym, refl, ap, ◌∙◌, true≢false, arith, lit<, ne_eqb, eqb-true}
use mathlib.Core.Bool.{false≢true}
use Rattle.std.specs.Prelude.{Option, Some, None, Result, Ok, Err, is_some}
use Rattle.buffer.specs.declared.testing.Wrong.{Wrong}
use borrow.Author.Tests.{eqb-false}
use Rattle.packet.specs.Refusal.{first_of, refuse, packet_refusals}
use Rattle.packet.specs.Bytes.{right_length, control_at}
use Rattle.packet.specs.Control.{is_direct}
use Rattle.tables.specs.Accept.{starts_right, rows_few}
use Rattle.packet.proofs.First.{first_append}
use Rattle.mesh.specs.Lending.{Tables}
use Rattle.buffer.specs.Layout.{mesh_of, chips_of}
use Rattle.mesh.specs.Weights.{in_flight}
use Rattle.buffer.specs.Holding.{holds_mesh}
use Rattle.mesh.specs.Refusals.{tables_refusals, place_in, inject_refusals, round_refusals, chip_refusals, number_refusals}
use Rattle.buffer.specs.Testing.{Numbers, numbers_of, tested_of, inject_number, round_number, place_told, Sized}

pub inject_first : (holds : Bool) (chips chip : ℕ) (t : Tables) (room : ℕ) (bytes : List ℕ) → first_of (inject_refusals holds chips chip t room bytes)
    ≡ cond (not holds) 8 (cond (not (ltb chip chips)) 9 (cond (eqb (first_of (tables_refusals t chips)) 0) (cond (ltb room 6) 10 (first_of (packet_refusals bytes))) (first_of (tables_refusals t chips))))
inject_first holds chips chip t room bytes =
    ap (λ (n : ℕ). cond (not holds) 8 (cond (not (ltb chip chips)) 9 n)) (first_append (tables_refusals t chips) (refuse (ltb room 6) 10 ∷ packet_refusals bytes) refl)

pub round_first : (holds : Bool) (chips flying : ℕ) (t : Tables) (room : ℕ) → first_of (round_refusals holds chips flying t room)
    ≡ cond (not holds) 8 (cond (eqb (first_of (tables_refusals t chips)) 0) (cond (ltb room (flying * 6)) 10 0) (first_of (tables_refusals t chips)))
round_first holds chips flying t room =
    ap (λ (n : ℕ). cond (not holds) 8 n) (first_append (tables_refusals t chips) (refuse (ltb room (flying * 6)) 10 ∷ []) refl)

pub number_first : (holds : Bool) (chips chip number end : ℕ) → first_of (number_refusals holds chips chip number end)
    ≡ cond (eqb (first_of (chip_refusals holds chips chip)) 0) (cond (ltb number end) 0 9) (first_of (chip_refusals holds chips chip))
number_first holds chips chip number end = go holds (ltb chip chips) (ltb number end)
  where
    go : (a b c : Bool) → ◌≡◌ {A = ℕ} (cond (not a) 8 (cond (not (b && c)) 9 0))
        (cond (eqb (cond (not a) 8 (cond (not b) 9 0)) 0) (cond c 0 9) (cond (not a) 8 (cond (not b) 9 0)))
    go false b c = refl
    go true false c = refl
    go true true false = refl
    go true true true = refl

-- ---- where buffer and tables were tested

pub some_holds : {A : Type 0} → (x : Option (Result A Wrong)) → is_some x ≡ (numbers_of x).holds
some_holds None = refl
some_holds (Some (Ok y)) = refl
some_holds (Some (Err w)) = refl

module _ (l : List ℕ) (t : Tables) (x : Numbers) (tested : x ≡ tested_of l t) where
  pub inject_number_lem : (chip room : ℕ) (bytes : List ℕ) → inject_number x (chips_of l) chip room bytes ≡ first_of (inject_refusals (holds_mesh l) (chips_of l) chip t room bytes)
  inject_number_lem chip room bytes = ap (λ (y : Numbers). inject_number y (chips_of l) chip room bytes) tested ∙ go (holds_mesh l)
    where
      go : (b : Bool) → inject_number (record { holds = b; tables = cond b (first_of (tables_refusals t (chips_of l))) 0; place = cond b (place_in t (chips_of l) (first_of (tables_refusals t (chips_of l)))) 0 }) (chips_of l) chip room bytes ≡ first_of (inject_refusals b (chips_of l) chip t room bytes)
      go true = sym (inject_first true (chips_of l) chip t room bytes)
      go false = sym (inject_first false (chips_of l) chip t room bytes)

  pub round_number_lem : (room : ℕ) → round_number x (in_flight (mesh_of l)) room ≡ first_of (round_refusals (holds_mesh l) (chips_of l) (in_flight (mesh_of l)) t room)
  round_number_lem room = ap (λ (y : Numbers). round_number y (in_flight (mesh_of l)) room) tested ∙ go (holds_mesh l)
    where
      go : (b : Bool) → round_number (record { holds = b; tables = cond b (first_of (tables_refusals t (chips_of l))) 0; place = cond b (place_in t (chips_of l) (first_of (tables_refusals t (chips_of l)))) 0 }) (in_flight (mesh_of l)) room ≡ first_of (round_refusals b (chips_of l) (in_flight (mesh_of l)) t room)
      go true = sym (round_first true (chips_of l) (in_flight (mesh_of l)) t room)
      go false = sym (round_first false (chips_of l) (in_flight (mesh_of l)) t room)

-- ---- the place of a refusal

-- every number below 15 has none
below_15 : (t : Tables) (chips n : ℕ) → n < 15 → 0 ≡ place_in t chips n
below_15 t chips n h = simp (ne_eqb n 15 (λ z. omega arith), ne_eqb n 16 (λ z. omega arith), ne_eqb n 17 (λ z. omega arith), ne_eqb n 18 (λ z. omega arith))

packet_small : (bytes : List ℕ) → first_of (packet_refusals bytes) < 15
packet_small bytes = go (right_length bytes) (is_direct (control_at bytes))
  where
    go : (a b : Bool) → cond (not a) 2 (cond b 4 0) < 15
    go true true = lit< tt
    go true false = lit< tt
    go false b = lit< tt

module _ (l : List ℕ) (t : Tables) (x : Numbers) (tested : x ≡ tested_of l t) where
  -- a number that is not the tables' is below 15
  told : (n : ℕ) → (x.holds ≡ false → n ≡ 8) → (n ≡ 0 → ⊥) → ((n ≡ x.tables → ⊥) → n < 15) → place_told x n ≡ place_in t (chips_of l) n
  told n none some other = go (eqb n x.tables) refl (holds_mesh l) refl
    where
      go : (b : Bool) → eqb n x.tables ≡ b → (h : Bool) → holds_mesh l ≡ h → cond b x.place 0 ≡ place_in t (chips_of l) n
      go false e h f = below_15 t (chips_of l) n (other (eqb-false n x.tables e))
      go true e true f =
          let number : n ≡ first_of (tables_refusals t (chips_of l)) = eqb-true n x.tables e ∙ ap (λ (y : Numbers). y.tables) tested ∙ simp f in
          ap (λ (y : Numbers). y.place) tested ∙ simp f (ap (place_in t (chips_of l)) (sym number))
      go true e false f =
          let eight : n ≡ 8 = none (ap (λ (y : Numbers). y.holds) tested ∙ f) in
          let zero : x.tables ≡ 0 = ap (λ (y : Numbers). y.tables) tested ∙ simp f in
          absurd (omega (arith, eqb-true n x.tables e))

  pub inject_place : (chip room : ℕ) (bytes : List ℕ) (n : ℕ) → n ≡ inject_number x (chips_of l) chip room bytes → (n ≡ 0 → ⊥) → place_told x n ≡ place_in t (chips_of l) n
  inject_place chip room bytes n e some = told n (λ f. e ∙ simp f) some (λ other. go x.holds (ltb chip (chips_of l)) (eqb x.tables 0) (ltb room 6) e other)
    where
      go : (a b c d : Bool) → n ≡ cond (not a) 8 (cond (not b) 9 (cond c (cond d 10 (first_of (packet_refusals bytes))) x.tables)) → (n ≡ x.tables → ⊥) → n < 15
      go false b c d f other = omega arith
      go true false c d f other = omega arith
      go true true true true f other = omega arith
      go true true true false f other = omega (arith, packet_small bytes)
      go true true false d f other = absurd (other f)

  pub round_place : (flying room n : ℕ) → n ≡ round_number x flying room → (n ≡ 0 → ⊥) → place_told x n ≡ place_in t (chips_of l) n
  round_place flying room n e some = told n (λ f. e ∙ simp f) some (λ other. go x.holds (eqb x.tables 0) (ltb room (flying * 6)) e other)
    where
      go : (a c d : Bool) → n ≡ cond (not a) 8 (cond c (cond d 10 0) x.tables) → (n ≡ x.tables → ⊥) → n < 15
      go false c d f other = omega arith
      go true true true f other = omega arith
      go true true false f other = omega arith
      go true false d f other = absurd (other f)

-- ---- which of the tables' numbers it is

-- where one of four tests fails, the first that does
pub lent_number : (right few routes fixed : Bool) (rest : ℕ) → ((right && few) && routes && fixed) ≡ false
    → cond (not right) 15 (cond (not few) 16 (cond (not routes) 17 18)) ≡ cond (not right) 15 (cond (not few) 16 (cond (not routes) 17 (cond (not fixed) 18 rest)))
lent_number true true true true rest e = absurd (true≢false e)
lent_number true true true false rest e = refl
lent_number true true false fixed rest e = refl
lent_number true false routes fixed rest e = refl
lent_number false few routes fixed rest e = refl

pub lent_none : (right few routes fixed : Bool) (rest : ℕ) → ((right && few) && routes && fixed) ≡ true → rest ≡ cond (not right) 15 (cond (not few) 16 (cond (not routes) 17 (cond (not fixed) 18 rest)))
lent_none true true true true rest e = refl
lent_none true true true false rest e = absurd (false≢true e)
lent_none true true false fixed rest e = absurd (false≢true e)
lent_none true false routes fixed rest e = absurd (false≢true e)
lent_none false few routes fixed rest e = absurd (false≢true e)

pub lent_starts : (right few routes fixed : Bool) → ((right && few) && routes && fixed) ≡ true → (right && few) ≡ true
lent_starts true true routes fixed e = refl
lent_starts true false routes fixed e = absurd (false≢true e)
lent_starts false few routes fixed e = absurd (false≢true e)

-- 16 comes after 15, and 17 and 18 after both
pub tables_sized : (t : Tables) (chips n : ℕ) → n ≡ first_of (tables_refusals t chips) → Sized t.starts chips (length t.rows / 3) n
tables_sized t chips n e =
    let right = starts_right t.starts chips (length t.rows / 3) in
    let few = rows_few t.starts in
    record { right = λ low. go right few _ e low; few = λ low. on right few _ e low }
  where
    go : (right few : Bool) (rest : ℕ) → n ≡ cond (not right) 15 (cond (not few) 16 rest) → 16 ≤ n → right ≡ true
    go true few rest f low = refl
    go false few rest f low = absurd (omega arith)

    on : (right few : Bool) (rest : ℕ) → n ≡ cond (not right) 15 (cond (not few) 16 rest) → 17 ≤ n → few ≡ true
    on true true rest f low = refl
    on true false rest f low = absurd (omega arith)
    on false few rest f low = absurd (omega arith)
