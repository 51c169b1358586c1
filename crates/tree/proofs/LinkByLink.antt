-- A way's links by their places: which stands where, how many there are; a step along the way, and a link added.
use lib.Signed.{non_neg}
use Prim.Native.Nat.{ℕ, ◌+◌, ◌-◌, ◌≤◌, ◌<◌, ◌^◌}
use mathlib.Core.Path.{◌≡◌, sym, ap, ◌∙◌}
use mathlib.Core.Logic.{⊎_elim}
use mathlib.Core.Bool.{Bool, true, false, cond}
use mathlib.Core.List.{List, [], ◌∷◌, ◌++◌}
use native.Mathlib.Omega.{arith}
use native.Mathlib.Numerals.{add-one}
use borrow.Author.Tests.{lt-ltb, le-ltb}
use lib.Bits.{bit_or}
use lib.Dec.{ltb}
use lib.IntN.{ℤ, pos, negsuc, nat_abs}
use lib.ListN.{length, get_or, set, drop, replicate, length-append, length-replicate, get_or-replicate, drop_of_length-le, get_or-append}
use lib.Seq.{drop-cons, get_or-append-add}
use Rattle.lists.proofs.Firsts.{lt_or_ge}
use Rattle.links.specs.Across.{across}
use Rattle.tree.specs.declared.Way.{Way}
use Rattle.tree.specs.declared.Legs.{Legs}
use Rattle.tree.specs.Way.{shared_by, shared, links_in, diagonal_link, sideways_link, upright_link, links_of}
use Rattle.tree.specs.Growing.{Grown, Part, within, last_shared, added}
use Rattle.tree.specs.Walking.{legs_of, link_at, links_by}

-- ---- the legs of a way

pub record InOrder (legs : Legs) : Type 0 where
  pub turn_late : legs.shared ≤ legs.turn
  pub end_late : legs.turn ≤ legs.end

pub few_shared : (e n : ℤ) → (shared_by e n ≤ nat_abs e) × (shared_by e n ≤ nat_abs n)
few_shared (pos a) (pos b) = (omega arith, omega arith)
few_shared (negsuc a) (negsuc b) = (omega arith, omega arith)
few_shared (pos a) (negsuc b) = (omega arith, omega arith)
few_shared (negsuc a) (pos b) = (omega arith, omega arith)

pub in_order : (w : Way) → InOrder (legs_of w)
in_order w = let h = few_shared w.east w.north in record { turn_late = h.0; end_late = omega arith }

pub links_by_lem : (w : Way) → links_by (legs_of w) ≡ links_of w
unfolding links_of
links_by_lem w =
    let h = few_shared w.east w.north in
    let e : links_in w - nat_abs w.east ≡ nat_abs w.north - shared w = omega arith in
    ap (λ (k : ℕ). replicate (shared w) (diagonal_link w) ++ replicate (nat_abs w.east - shared w) (sideways_link w) ++ replicate k (upright_link w)) e

link_low : (w : Way) (j : ℕ) → link_at (legs_of w) j < 6
link_low w j = go (ltb j (shared w)) (ltb j (nat_abs w.east)) (non_neg w.east) (non_neg w.north)
  where
    go : (a b e n : Bool) → cond {A = ℕ} a (cond e 1 4) (cond b (cond e 0 3) (cond n 2 5)) < 6
    go true b true n = omega arith
    go true b false n = omega arith
    go false true true n = omega arith
    go false true false n = omega arith
    go false false e true = omega arith
    go false false e false = omega arith

-- ---- which stands where

module _ (legs : Legs) (o : InOrder legs) where
  first : List ℕ
  first = replicate legs.shared legs.diagonal

  second : List ℕ
  second = replicate (legs.turn - legs.shared) legs.sideways

  third : List ℕ
  third = replicate (legs.end - legs.turn) legs.upright

  first_long : length first ≡ legs.shared
  unfolding first
  first_long = length-replicate legs.shared legs.diagonal

  both_long : length (first ++ second) ≡ legs.turn
  unfolding first second
  both_long = simp (length-append, length-replicate) (omega (arith, o))

  all_long : length (links_by legs) ≡ legs.end
  all_long = simp (length-append, length-replicate) (omega (arith, o))

  link_here : (j : ℕ) → j < legs.end → get_or (links_by legs) j 0 ≡ link_at legs j
  unfolding first second third
  link_here j h =
      ⊎_elim
      (λ (a : j < legs.shared).
      get_or-append (first ++ second) third 0 j (omega (arith, o, both_long)) ∙ get_or-append first second 0 j (omega (arith, first_long))
      ∙ get_or-replicate legs.shared j legs.diagonal 0 a
      ∙ simp (lt-ltb j legs.shared a))
      (λ (a : legs.shared ≤ j).
      ⊎_elim
      (λ (b : j < legs.turn).
      let e : length first + (j - legs.shared) ≡ j = omega (arith, first_long) in
      get_or-append (first ++ second) third 0 j (omega (arith, both_long))
      ∙ ap (λ (k : ℕ). get_or (first ++ second) k 0) (sym e)
      ∙ get_or-append-add first second (j - legs.shared) 0
      ∙ get_or-replicate (legs.turn - legs.shared) (j - legs.shared) legs.sideways 0 (omega arith)
      ∙ simp (le-ltb j legs.shared a, lt-ltb j legs.turn b))
      (λ (b : legs.turn ≤ j).
      let e : length (first ++ second) + (j - legs.turn) ≡ j = omega (arith, both_long) in
      ap (λ (k : ℕ). get_or (links_by legs) k 0) (sym e)
      ∙ get_or-append-add (first ++ second) third (j - legs.turn) 0
      ∙ get_or-replicate (legs.end - legs.turn) (j - legs.turn) legs.upright 0 (omega arith)
      ∙ simp (le-ltb j legs.shared a, le-ltb j legs.turn b))
      (lt_or_ge j legs.turn))
      (lt_or_ge j legs.shared)

  pub next_link : (j : ℕ) → j < legs.end → drop j (links_by legs) ≡ link_at legs j ∷ drop (j + 1) (links_by legs)
  next_link j h =
      drop-cons (links_by legs) j 0 (omega (arith, all_long))
      ∙ (λ i. link_here j h i ∷ drop (sym (add-one j) i) (links_by legs))

  pub no_link : (j : ℕ) → legs.end ≤ j → drop j (links_by legs) ≡ []
  no_link j h = let past : length (links_by legs) ≤ j = omega (arith, all_long) in drop_of_length-le (links_by legs) past

pub legs_in_order : (legs : Legs) (w : Way) → legs ≡ legs_of w → InOrder legs
legs_in_order legs w e = rw e (in_order w)

pub legs_low : (legs : Legs) (w : Way) (j : ℕ) → legs ≡ legs_of w → link_at legs j < 6
legs_low legs w j e = rw e (link_low w j)

pub legs_links : (legs : Legs) (w : Way) → legs ≡ legs_of w → links_by legs ≡ links_of w
legs_links legs w e = ap links_by e ∙ links_by_lem w

pub links_long : (w : Way) → length (links_of w) ≡ links_in w
links_long w = ap length (sym (links_by_lem w)) ∙ all_long (legs_of w) (in_order w)

-- ---- along a way

module _ (width height : ℕ) (legs : Legs) (o : InOrder legs) (chip i j next : ℕ) (here : j < legs.end) (link : i ≡ link_at legs j) (leads : next ≡ across width height chip i) where
  rest : drop j (links_by legs) ≡ i ∷ drop (j + 1) (links_by legs)
  rest = next_link legs o j here ∙ ap (λ (k : ℕ). k ∷ drop (j + 1) (links_by legs)) (sym link)

  abbrev behind : List ℕ
  behind = drop (j + 1) (links_by legs)

  one_on : (entered : List ℕ) (part : Part)
      → last_shared width height entered part chip (drop j (links_by legs)) ≡ last_shared width height entered (cond (within entered next) (record { chip = next; links = behind }) part) next behind
  unfolding last_shared
  one_on entered part =
      ap (last_shared width height entered part chip) rest
      ∙ ap (λ (n : ℕ). last_shared width height entered (cond (within entered n) (record { chip = n; links = behind }) part) n behind) (sym leads)

  -- a chip of the way that is within the tree, and one that is not
  pub met : (entered : List ℕ) (part : Part) → within entered next ≡ true
      → last_shared width height entered part chip (drop j (links_by legs)) ≡ last_shared width height entered (record { chip = next; links = behind }) next behind
  met entered part e = one_on entered part ∙ ap (λ (b : Bool). last_shared width height entered (cond b (record { chip = next; links = behind }) part) next behind) e

  pub not_met : (entered : List ℕ) (part : Part) → within entered next ≡ false
      → last_shared width height entered part chip (drop j (links_by legs)) ≡ last_shared width height entered part next behind
  not_met entered part e = one_on entered part ∙ ap (λ (b : Bool). last_shared width height entered (cond b (record { chip = next; links = behind }) part) next behind) e

  pub one_added : (entered routes : List ℕ) (bit : ℕ) → bit ≡ 2 ^ i
      → added width height (record { entered = entered; routes = routes }) chip (drop j (links_by legs))
      ≡ added width height (record { entered = set entered next i; routes = set routes chip (bit_or (get_or routes chip 0) bit) }) next behind
  unfolding added
  one_added entered routes bit e =
      ap (added width height (record { entered = entered; routes = routes }) chip) rest
      ∙ (λ k. added width height (record { entered = set entered (sym leads k) i; routes = set routes chip (bit_or (get_or routes chip 0) (sym e k)) }) (sym leads k) behind)

module _ (width height : ℕ) (legs : Legs) (o : InOrder legs) (chip j : ℕ) (end : legs.end ≤ j) where
  pub all_met : (entered : List ℕ) (part : Part) → last_shared width height entered part chip (drop j (links_by legs)) ≡ part
  unfolding last_shared
  all_met entered part = ap (last_shared width height entered part chip) (no_link legs o j end)

  pub all_added : (t : Grown) → added width height t chip (drop j (links_by legs)) ≡ t
  unfolding added
  all_added t = ap (added width height t chip) (no_link legs o j end)
