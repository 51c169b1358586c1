-- Rows that match no key, as a board's unused ones: a row matches some key exactly when its key has no bit outside its mask, and a table gives
-- every key the same route without the others.
use Rattle.std.specs.Prelude.{ℕ, ◌≡◌, refl, Bool, true, false, cond, List, [], ◌∷◌, Option, Some, None}
use Rattle.std.proofs.Common.{sym, ◌∙◌, true≢false, eqb-true, eq-eqb}
use Rattle.std.proofs.Math.Path.{ap}
use Rattle.std.specs.Int.Bits.{bit_and}
use Rattle.tables.specs.Rows.{Entry, matches, used, next, first_match, matched_of, route_for}
use Rattle.tables.specs.Shown.{matched_shown}
use Rattle.tables.proofs.Masked.{used_of_match}

-- The table without the rows that have a key bit outside their mask.
unfoldable pub used_rows : List Entry → List Entry
used_rows [] = []
used_rows (r ∷ rs) = cond (used r.key r.mask) (r ∷ used_rows rs) (used_rows rs)

pub unused_matches_nothing : (key row mask : ℕ) → (bit_and row mask ≡ row → ⊥) → matches key row mask ≡ false
unused_matches_nothing key row mask outside = go (matches key row mask) refl
  where
    go : (b : Bool) → matches key row mask ≡ b → b ≡ false
    go true m = absurd (outside (eqb-true (bit_and row mask) row (used_of_match key row mask m)))
    go false m = refl

-- Every other row matches a key: its own.
pub used_matches_itself : (row mask : ℕ) → bit_and row mask ≡ row → matches row row mask ≡ true
used_matches_itself row mask inside = eq-eqb (bit_and row mask) row inside

next_route : (r : Entry) (rs : List Entry) (f : Option ℕ) → matched_of (r ∷ rs) (next f) ≡ matched_of rs f
next_route r rs (Some n) = refl
next_route r rs None = refl

-- a first row that does not match changes no route, and one that does is found in any table that it heads
module _ (key : ℕ) (r : Entry) (rs : List Entry) where
  route_past : matches key r.key r.mask ≡ false → route_for key (r ∷ rs) ≡ route_for key rs
  unfolding first_match
  route_past m = ap (λ (b : Bool). matched_of (r ∷ rs) (cond b (Some 0) (next (first_match key rs)))) m ∙ next_route r rs (first_match key rs)

  route_here : (others : List Entry) → matches key r.key r.mask ≡ true → route_for key (r ∷ rs) ≡ route_for key (r ∷ others)
  unfolding first_match
  route_here others m = simp m

alike : (key : ℕ) (rows : List Entry) → route_for key (used_rows rows) ≡ route_for key rows
unfolding used_rows
alike key [] = refl
alike key (r ∷ rs) = go (alike key rs) (used r.key r.mask) refl (matches key r.key r.mask) refl
  where
    go : route_for key (used_rows rs) ≡ route_for key rs → (u : Bool) → used r.key r.mask ≡ u → (m : Bool) → matches key r.key r.mask ≡ m
        → route_for key (cond u (r ∷ used_rows rs) (used_rows rs)) ≡ route_for key (r ∷ rs)
    go rest true u true m = route_here key r (used_rows rs) rs m
    go rest true u false m = route_past key r (used_rows rs) m ∙ rest ∙ sym (route_past key r rs m)
    go rest false u true m = absurd (true≢false (sym (used_of_match key r.key r.mask m) ∙ u))
    go rest false u false m = rest ∙ sym (route_past key r rs m)

pub same_routes : (key : ℕ) (rows : List Entry) → matched_shown (route_for key (used_rows rows)) ≡ matched_shown (route_for key rows)
same_routes key rows = ap matched_shown (alike key rows)
