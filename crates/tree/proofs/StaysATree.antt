-- A tree stays a tree when a link is added that leads from within to a chip outside, and when processors are added within.
use Prim.Native.Nat.{ℕ, suc, ◌*◌, ◌/◌, ◌^◌, ◌≤◌, ◌<◌}
use mathlib.Core.Path.{◌≡◌, refl, sym, ap, subst, ◌∙◌}
use mathlib.Core.Logic.{◌⊎◌, inl, inr, ⊎_elim}
use mathlib.Core.Bool.{Bool, true, cond}
use native.Mathlib.Omega.{arith}
use native.Mathlib.Decide.{ℕ_discrete}
use borrow.Author.Tests.{eq-eqb, ne_eqb}
use lib.Bits.{bit_or}
use lib.Dec.{eqb}
use lib.ListN.{length-set}
use lib.Seq.{get_or-set_same, get_or-set_other}
use Rattle.steps.specs.Links.{has}
use Rattle.links.proofs.Crossing.{across_there}
use Rattle.links.specs.Across.{across, opposite}
use Rattle.tree.specs.Growing.{Grown, one_more}
use Rattle.tree.specs.Rows.{entered_at, route_at}
use Rattle.tree.specs.Rooted.{is_link, Rooted}
use Rattle.tree.specs.Walking.{Marks}
use Rattle.tree.proofs.RouteBits.{bit_kept, bit_set, bit_of, none_in, processors_kept}
use Rattle.tree.proofs.AcrossBack.{across_back}

module _ (w h source : ℕ) (small : suc h * suc w ≤ 144) where
  abbrev all : ℕ
  all = suc h * suc w

  -- a tree with these processors on each chip
  pub record Good (t : Grown) (named : ℕ → ℕ) : Type 0 where
    pub rooted : Rooted (suc w) (suc h) source t
    pub marks : Marks t.entered t.routes
    pub processors : (chip : ℕ) → chip < suc h * suc w → route_at t chip / 64 ≡ named chip

  -- ---- a link more

  module _ (t : Grown) (named : ℕ → ℕ) (g : Good t named) (chip i : ℕ) (there : chip < suc h * suc w) (low : i < 6) (begun : entered_at t chip ≡ 7 → ⊥) (out : entered_at t (across (suc w) (suc h) chip i) ≡ 7) where
    abbrev next : ℕ
    next = across (suc w) (suc h) chip i

    abbrev new : Grown
    new = one_more (suc w) (suc h) t chip i

    abbrev r : Rooted (suc w) (suc h) source t
    r = g.rooted

    entered_next : entered_at new next ≡ i
    entered_next = get_or-set_same t.entered next i 0 (omega (arith, across_there (suc w) (suc h) chip i (omega arith) (omega arith), g.marks.entered_long))

    entered_other : (d : ℕ) → (d ≡ next → ⊥) → entered_at new d ≡ entered_at t d
    entered_other d n = get_or-set_other t.entered next d i 0 n

    route_here : route_at new chip ≡ bit_or (route_at t chip) (2 ^ i)
    route_here = get_or-set_same t.routes chip _ 0 (omega (arith, g.marks.routes_long))

    route_other : (d : ℕ) → (d ≡ chip → ⊥) → route_at new d ≡ route_at t d
    route_other d n = get_or-set_other t.routes chip d _ 0 n

    -- what is within the tree is not the chip that is entered
    not_next : (d : ℕ) → (entered_at t d ≡ 7 → ⊥) → d ≡ next → ⊥
    not_next d n e = n (ap (entered_at t) e ∙ out)

    -- the links that there were lead elsewhere, and from elsewhere
    link_elsewhere : (d j : ℕ) → d < all → j < 6 → is_link (suc w) (suc h) source t d j ≡ true → across (suc w) (suc h) d j ≡ next → ⊥
    link_elsewhere d j hd hj l = not_next (across (suc w) (suc h) d j) (λ e. omega (arith, r.entered_once d j hd hj l))

    link_within : (d j : ℕ) → d < all → j < 6 → is_link (suc w) (suc h) source t d j ≡ true → d ≡ next → ⊥
    link_within d j hd hj l e =
        none_in j hj (ap (λ (k : ℕ). has k j) (sym (ap (route_at t) e ∙ r.outside next (across_there (suc w) (suc h) chip i (omega arith) (omega arith)) out)) ∙ l)

    -- a link of the new tree is one that there was, or the one that is added
    link_of_lem : (d j : ℕ) → j < 6 → is_link (suc w) (suc h) source new d j ≡ true → (is_link (suc w) (suc h) source t d j ≡ true) ⊎ ((d ≡ chip) × (j ≡ i))
    link_of_lem d j hj l = go (ℕ_discrete d chip)
      where
        go : Dec (d ≡ chip) → (is_link (suc w) (suc h) source t d j ≡ true) ⊎ ((d ≡ chip) × (j ≡ i))
        go (no n) = inl (ap (λ (k : ℕ). has k j) (sym (route_other d n)) ∙ l)
        go (yes e) =
            ⊎_elim
            (λ (b : has (route_at t chip) j ≡ true). inl (ap (λ (c : ℕ). has (route_at t c) j) e ∙ b))
            (λ (b : j ≡ i). inr (e, b))
            (bit_of (route_at t chip) i j low hj (ap (λ (k : ℕ). has k j) (sym (ap (route_at new) e ∙ route_here)) ∙ l))

    kept : (d j : ℕ) → is_link (suc w) (suc h) source t d j ≡ true → is_link (suc w) (suc h) source new d j ≡ true
    kept d j l = go (ℕ_discrete d chip)
      where
        go : Dec (d ≡ chip) → is_link (suc w) (suc h) source new d j ≡ true
        go (no n) = ap (λ (k : ℕ). has k j) (route_other d n) ∙ l
        go (yes e) = ap (λ (k : ℕ). has k j) (ap (route_at new) e ∙ route_here) ∙ bit_kept (route_at t chip) (2 ^ i) j (ap (λ (c : ℕ). has (route_at t c) j) (sym e) ∙ l)

    abbrev deep : ℕ → ℕ
    deep d = cond (eqb d next) (suc (r.depth chip)) (r.depth d)

    deep_next : deep next ≡ suc (r.depth chip)
    deep_next = ap (λ (b : Bool). cond {A = ℕ} b (suc (r.depth chip)) (r.depth next)) (eq-eqb next next refl)

    deep_other : (d : ℕ) → (d ≡ next → ⊥) → deep d ≡ r.depth d
    deep_other d n = ap (λ (b : Bool). cond {A = ℕ} b (suc (r.depth chip)) (r.depth d)) (ne_eqb d next n)

    -- at the chip that is entered, and at any other
    by_next : (P : ℕ → Type 0) → P next → ((d : ℕ) → (d ≡ next → ⊥) → P d) → (d : ℕ) → P d
    by_next P here other d = go (ℕ_discrete d next)
      where
        go : Dec (d ≡ next) → P d
        go (yes e) = subst P (sym e) here
        go (no n) = other d n

    still_rooted : Rooted (suc w) (suc h) source new
    still_rooted = record {
      root = entered_other source (not_next source (λ e. omega (arith, r.root))) ∙ r.root;
      only_root = by_next (λ d. d < all → entered_at new d ≡ 6 → d ≡ source) (λ l e. absurd (omega (arith, entered_next)))
          (λ d n l e. r.only_root d l (sym (entered_other d n) ∙ e));
      kinds = by_next (λ d. d < all → entered_at new d ≤ 7) (λ l. omega (arith, entered_next)) (λ d n l. omega (arith, entered_other d n, r.kinds d l));
      outside = by_next (λ d. d < all → entered_at new d ≡ 7 → route_at new d ≡ 0) (λ l e. absurd (omega (arith, entered_next)))
          (λ d n l e.
          let was = sym (entered_other d n) ∙ e in
          route_other d (λ c. begun (ap (entered_at t) (sym c) ∙ was)) ∙ r.outside d l was);
      entered_once = λ d j hd hj l.
          ⊎_elim
          (λ (old : is_link (suc w) (suc h) source t d j ≡ true). entered_other _ (link_elsewhere d j hd hj old) ∙ r.entered_once d j hd hj old)
          (λ (added : (d ≡ chip) × (j ≡ i)). (λ k. entered_at new (across (suc w) (suc h) (added.0 k) (added.1 k))) ∙ entered_next ∙ sym added.1)
          (link_of_lem d j hj l);
      entered_from = by_next (λ d. d < all → entered_at new d < 6 → is_link (suc w) (suc h) source new (across (suc w) (suc h) d (opposite (entered_at new d))) (entered_at new d) ≡ true)
          (λ l e.
          (λ k. is_link (suc w) (suc h) source new (across (suc w) (suc h) next (opposite (entered_next k))) (entered_next k))
          ∙ (λ k. is_link (suc w) (suc h) source new (across_back w h chip i there low k) i)
          ∙ ap (λ (k : ℕ). has k i) route_here
          ∙ bit_set (route_at t chip) i low)
          (λ d n l e.
          (λ k. is_link (suc w) (suc h) source new (across (suc w) (suc h) d (opposite (entered_other d n k))) (entered_other d n k))
          ∙ kept _ _ (r.entered_from d l (omega (arith, entered_other d n))));
      depth = deep;
      top = deep_other source (not_next source (λ e. omega (arith, r.root))) ∙ r.top;
      deeper = λ d j hd hj l.
          ⊎_elim
          (λ (old : is_link (suc w) (suc h) source t d j ≡ true).
          deep_other _ (link_elsewhere d j hd hj old) ∙ r.deeper d j hd hj old ∙ ap suc (sym (deep_other d (link_within d j hd hj old))))
          (λ (added : (d ≡ chip) × (j ≡ i)).
          (λ k. deep (across (suc w) (suc h) (added.0 k) (added.1 k))) ∙ deep_next ∙ ap suc (sym (ap deep added.0 ∙ deep_other chip (not_next chip begun))))
          (link_of_lem d j hj l);
    }

    pub one_good : Good new named
    one_good = record {
      rooted = still_rooted;
      marks = record { entered_long = simp length-set g.marks.entered_long; routes_long = simp length-set g.marks.routes_long };
      processors = λ d l. go d l (ℕ_discrete d chip);
    }
      where
        go : (d : ℕ) → d < all → Dec (d ≡ chip) → route_at new d / 64 ≡ named d
        go d l (no n) = ap (λ (k : ℕ). k / 64) (route_other d n) ∙ g.processors d l
        go d l (yes e) =
            ap (λ (k : ℕ). k / 64) (ap (route_at new) e ∙ route_here) ∙ processors_kept (route_at t chip) i low ∙ ap (λ (c : ℕ). route_at t c / 64) (sym e)
            ∙ g.processors d l

    pub next_within : entered_at new next ≡ 7 → ⊥
    next_within e = omega (arith, entered_next)

    -- what was within stays
    pub still_within : (d : ℕ) → (entered_at t d ≡ 7 → ⊥) → entered_at new d ≡ 7 → ⊥
    still_within d n e = n (sym (entered_other d (not_next d n)) ∙ e)
