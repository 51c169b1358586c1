-- The tests of lent tables, entry by entry: what is known of all from those that are still to come.
use mathlib.Core.Path.{◌≡◌, refl, sym, ap, ◌∙◌}
use mathlib.Core.Bool.{Bool, true, false, ◌&&◌, and_assoc, and-true}
use mathlib.Core.List.{List, [], ◌∷◌}
use Rattle.std.specs.List.{fold}
use Prim.Native.Nat.{ℕ, ◌+◌, ◌*◌, ◌/◌, ◌^◌, ◌<◌, ◌≤◌}
use native.Mathlib.Omega.{arith}
use lib.ListN.{length, get_or, drop, drop_of_length-le}
use lib.Seq.{drop-cons}
use native.Mathlib.Numerals.{add-one}
use lib.Dec.{ltb}
use lib.Bits.{bit_or, bit_and, or_lt, or_add_and, and_le_l, and_le_r}
use borrow.Author.Tests.{lt-ltb, le-ltb, ltb-true, ltb-false}
use Rattle.tables.specs.Rows.{rows_of}
use Rattle.tables.specs.Accept.{all_routes, all_fixed, all_codes}
use Rattle.tables.proofs.RowByRow.{rows_step, rows_end}

-- two numbers joined are below a power of two when both are
pub or_below : (k a b : ℕ) → ltb (bit_or a b) (2 ^ k) ≡ (ltb a (2 ^ k) && ltb b (2 ^ k))
or_below k a b = go (ltb a (2 ^ k)) (ltb b (2 ^ k)) refl refl
  where
    sum : bit_or a b + bit_and a b ≡ a + b
    sum = or_add_and a b

    left : bit_and a b ≤ a
    left = and_le_l a b

    right : bit_and a b ≤ b
    right = and_le_r a b

    go : (p q : Bool) → ltb a (2 ^ k) ≡ p → ltb b (2 ^ k) ≡ q → ltb (bit_or a b) (2 ^ k) ≡ (p && q)
    go true true x y = lt-ltb (bit_or a b) (2 ^ k) (or_lt k a b (ltb-true _ _ x) (ltb-true _ _ y))
    go true false x y = let big : 2 ^ k ≤ b = ltb-false _ _ y in le-ltb (bit_or a b) (2 ^ k) (omega (arith, sum, left))
    go false q x y = let big : 2 ^ k ≤ a = ltb-false _ _ x in le-ltb (bit_or a b) (2 ^ k) (omega (arith, sum, right))

-- a test of every entry so far, of all joined, and of the entries to come
pub or_on : (k a b : ℕ) (all rest : Bool) → all ≡ (ltb a (2 ^ k) && (ltb b (2 ^ k) && rest)) → all ≡ (ltb (bit_or a b) (2 ^ k) && rest)
or_on k a b all rest e =
    e ∙ sym (and_assoc (ltb a (2 ^ k)) (ltb b (2 ^ k)) rest) ∙ ap (λ (f : Bool). f && rest) (sym (or_below k a b))

module _ (s : List ℕ) (i : ℕ) where
  routes_step : i * 3 + 2 < length s → all_routes (rows_of (drop (i * 3) s)) ≡ (ltb (get_or s (i * 3 + 2) 0) 67108864 && all_routes (rows_of (drop ((i + 1) * 3) s)))
  unfolding all_routes
  routes_step h = ap all_routes (rows_step s i h)

  routes_end : length s / 3 ≤ i → all_routes (rows_of (drop (i * 3) s)) ≡ true
  unfolding all_routes
  routes_end h = ap all_routes (rows_end s i h)

  pub routes_joined : (all : Bool) (joined : ℕ) → i * 3 + 2 < length s → all ≡ (ltb joined 67108864 && all_routes (rows_of (drop (i * 3) s)))
      → all ≡ (ltb (bit_or joined (get_or s (i * 3 + 2) 0)) 67108864 && all_routes (rows_of (drop ((i + 1) * 3) s)))
  routes_joined all joined h e = or_on 26 joined (get_or s (i * 3 + 2) 0) all _ (e ∙ ap (λ (r : Bool). ltb joined 67108864 && r) (routes_step h))

  pub routes_last : (all : Bool) (joined : ℕ) → length s / 3 ≤ i → all ≡ (ltb joined 67108864 && all_routes (rows_of (drop (i * 3) s))) → all ≡ ltb joined 67108864
  routes_last all joined h e = e ∙ ap (λ (r : Bool). ltb joined 67108864 && r) (routes_end h) ∙ and-true (ltb joined 67108864)

  fixed_step : i < length s → all_fixed (drop i s) ≡ (ltb (get_or s i 0) 67108864 && all_fixed (drop (i + 1) s))
  unfolding all_fixed
  fixed_step h = ap all_fixed (drop-cons s i 0 h) ∙ simp add-one

  fixed_end : length s ≤ i → all_fixed (drop i s) ≡ true
  unfolding all_fixed
  fixed_end h = ap all_fixed (drop_of_length-le s h)

  pub fixed_joined : (all : Bool) (joined : ℕ) → i < length s → all ≡ (ltb joined 67108864 && all_fixed (drop i s))
      → all ≡ (ltb (bit_or joined (get_or s i 0)) 67108864 && all_fixed (drop (i + 1) s))
  fixed_joined all joined h e = or_on 26 joined (get_or s i 0) all _ (e ∙ ap (λ (r : Bool). ltb joined 67108864 && r) (fixed_step h))

  pub fixed_last : (all : Bool) (joined : ℕ) → length s ≤ i → all ≡ (ltb joined 67108864 && all_fixed (drop i s)) → all ≡ ltb joined 67108864
  fixed_last all joined h e = e ∙ ap (λ (r : Bool). ltb joined 67108864 && r) (fixed_end h) ∙ and-true (ltb joined 67108864)

-- all fixed routes joined
pub fixed_folded : (joined : ℕ) (s : List ℕ) → ltb (fold bit_or joined s) 67108864 ≡ (ltb joined 67108864 && all_fixed s)
unfolding all_fixed
fixed_folded joined [] = sym (and-true (ltb joined 67108864))
fixed_folded joined (r ∷ s) =
    fixed_folded (bit_or joined r) s ∙ ap (λ (f : Bool). f && all_fixed s) (or_below 26 joined r) ∙ and_assoc (ltb joined 67108864) (ltb r 67108864) (all_fixed s)

-- codes one by one
module _ (s : List ℕ) (i : ℕ) where
  pub codes_step : i < length s → all_codes (drop i s) ≡ (ltb (get_or s i 0) 8 && all_codes (drop (i + 1) s))
  unfolding all_codes
  codes_step h = ap all_codes (drop-cons s i 0 h) ∙ simp add-one

  pub codes_end : length s ≤ i → all_codes (drop i s) ≡ true
  unfolding all_codes
  codes_end h = ap all_codes (drop_of_length-le s h)

-- two numbers joined with two others, each with its own
pub two_on : (k a b c d : ℕ) (all rest : Bool) → all ≡ (ltb a (2 ^ k) && (ltb b (2 ^ k) && (ltb c (2 ^ k) && (ltb d (2 ^ k) && rest))))
    → all ≡ (ltb (bit_or a c) (2 ^ k) && (ltb (bit_or b d) (2 ^ k) && rest))
two_on k a b c d all rest e =
    e ∙ crossed (ltb a (2 ^ k)) (ltb b (2 ^ k)) (ltb c (2 ^ k)) (ltb d (2 ^ k))
    ∙ (λ i. sym (or_below k a c) i && (sym (or_below k b d) i && rest))
  where
    crossed : (p q r s : Bool) → (p && (q && (r && (s && rest)))) ≡ ((p && r) && ((q && s) && rest))
    crossed true true r s = refl
    crossed true false true s = refl
    crossed true false false s = refl
    crossed false q r s = refl

-- four rows at once
pub routes_four : (s : List ℕ) (i : ℕ) → (i + 3) * 3 + 2 < length s
    → all_routes (rows_of (drop (i * 3) s))
    ≡ (
    ltb (bit_or (bit_or (bit_or (get_or s (i * 3 + 2) 0) (get_or s ((i + 1) * 3 + 2) 0)) (get_or s ((i + 2) * 3 + 2) 0)) (get_or s ((i + 3) * 3 + 2) 0)) 67108864
    && all_routes (rows_of (drop ((i + 4) * 3) s))
    )
routes_four s i h =
    let two : i + 1 + 1 ≡ i + 2 = omega arith in
    let three : i + 2 + 1 ≡ i + 3 = omega arith in
    let four : i + 3 + 1 ≡ i + 4 = omega arith in
    let a = get_or s (i * 3 + 2) 0 in
    let b = bit_or a (get_or s ((i + 1) * 3 + 2) 0) in
    let c = bit_or b (get_or s ((i + 2) * 3 + 2) 0) in
    let first = routes_step s i (omega arith) in
    let second = rw two at (routes_joined s (i + 1) _ a (omega arith) first) in
    let third = rw three at (routes_joined s (i + 2) _ b (omega arith) second) in
    rw four at (routes_joined s (i + 3) _ c h third)
