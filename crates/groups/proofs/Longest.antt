-- The longest table is as long as any, and room that is not too short for it is enough for each.
use Prim.Native.Nat.{ℕ, zero, suc, ◌+◌, ◌-◌, ◌≤◌, ◌<◌, max}
use mathlib.Core.Path.{◌≡◌, refl, sym, ap, ◌∙◌}
use mathlib.Core.Bool.{Bool, true, false, cond}
use mathlib.Core.List.{List}
use native.Mathlib.Omega.{arith}
use native.Mathlib.Nat.{le_trans}
use native.Mathlib.Numerals.{add-one}
use mathlib.Core.Logic.{⊎_elim}
use lib.Dec.{ltb}
use lib.ListN.{get_or}
use borrow.Author.Tests.{ltb-true, ltb-false, ne_eqb}
use Rattle.lists.proofs.Firsts.{lt_or_ge}
use Rattle.groups.specs.Groups.{room_for}
use Rattle.groups.specs.Room.{larger, longest, room_short}

pub longest_none : (starts : List ℕ) → longest starts 0 ≡ 0
unfolding longest
longest_none starts = refl

pub longest_next : (starts : List ℕ) (c : ℕ) → longest starts (suc c) ≡ larger (longest starts c) (get_or starts (c + 1) 0 - get_or starts c 0)
unfolding longest
longest_next starts c = refl

larger_max : (a b : ℕ) → max a b ≡ larger a b
larger_max a b = go (ltb a b) refl
  where
    go : (t : Bool) → ltb a b ≡ t → max a b ≡ cond t b a
    go true e = omega (arith, ltb-true a b e)
    go false e = omega (arith, ltb-false a b e)

pub longest_more : (starts : List ℕ) (c most rows : ℕ) → most ≡ longest starts c → rows ≡ get_or starts (c + 1) 0 - get_or starts c 0 → max most rows ≡ longest starts (c + 1)
longest_more starts c most rows e f = (λ i. max (e i) (f i)) ∙ larger_max _ _ ∙ sym (longest_next starts c) ∙ ap (longest starts) (sym (add-one c))

larger_left : (a b : ℕ) → a ≤ larger a b
larger_left a b = go (ltb a b) refl
  where
    go : (t : Bool) → ltb a b ≡ t → a ≤ cond t b a
    go true e = omega (arith, ltb-true a b e)
    go false e = omega arith

larger_right : (a b : ℕ) → b ≤ larger a b
larger_right a b = go (ltb a b) refl
  where
    go : (t : Bool) → ltb a b ≡ t → b ≤ cond t b a
    go true e = omega arith
    go false e = ltb-false a b e

pub longest_most : (starts : List ℕ) (chips c : ℕ) → c < chips → get_or starts (c + 1) 0 - get_or starts c 0 ≤ longest starts chips
unfolding longest
longest_most starts zero c h = absurd (omega arith)
longest_most starts (suc n) c h =
    let l = larger_left (longest starts n) (get_or starts (n + 1) 0 - get_or starts n 0) in
    let r = larger_right (longest starts n) (get_or starts (n + 1) 0 - get_or starts n 0) in
    ⊎_elim
    (λ (k : c < n). le_trans (longest_most starts n c k) l)
    (λ (k : n ≤ c). let e : c ≡ n = omega arith in rw e r)
    (lt_or_ge c n)

-- where some room is lent and it is not too short, it is enough
pub room_enough : (room rows : ℕ) → room_short room rows ≡ false → (room ≡ 0 → ⊥) → room_for rows ≤ room
room_enough room rows e some = ltb-false room (room_for rows) (simp (ne_eqb room 0 some) at e)
