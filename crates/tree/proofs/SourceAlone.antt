-- The source alone is a tree.
use Prim.Native.Nat.{ℕ, suc, ◌*◌, ◌/◌, ◌≤◌, ◌<◌}
use mathlib.Core.Path.{◌≡◌, refl, sym, ap, ◌∙◌}
use mathlib.Core.Bool.{true}
use native.Mathlib.Omega.{arith}
use native.Mathlib.Decide.{ℕ_discrete}
use lib.ListN.{replicate, length-set, get_or-replicate}
use lib.Seq.{get_or-set_same, get_or-set_other}
use Rattle.steps.specs.Links.{has}
use Rattle.tree.specs.Growing.{source_alone}
use Rattle.tree.specs.Rows.{entered_at, route_at}
use Rattle.tree.specs.Rooted.{is_link}
use Rattle.tree.proofs.RouteBits.{none_in}
use Rattle.tree.proofs.StaysATree.{Good}

module _ (w h source : ℕ) (small : suc h * suc w ≤ 144) (there : source < suc h * suc w) where
  abbrev all : ℕ
  all = suc h * suc w

  no_route : (d : ℕ) → d < all → route_at (source_alone source) d ≡ 0
  no_route d l = get_or-replicate 144 d 0 0 (omega (arith, small))

  pub at_source : entered_at (source_alone source) source ≡ 6
  at_source = get_or-set_same (replicate 144 7) source 6 0 (omega (arith, small))

  elsewhere : (d : ℕ) → d < all → (d ≡ source → ⊥) → entered_at (source_alone source) d ≡ 7
  elsewhere d l n = get_or-set_other (replicate 144 7) source d 6 0 n ∙ get_or-replicate 144 d 7 0 (omega (arith, small))

  none : (d j : ℕ) → d < all → j < 6 → is_link (suc w) (suc h) source (source_alone source) d j ≡ true → ⊥
  none d j hd hj l = none_in j hj (ap (λ (k : ℕ). has k j) (sym (no_route d hd)) ∙ l)

  by_source : (P : ℕ → Type 0) → (d : ℕ) → (d ≡ source → P d) → ((d ≡ source → ⊥) → P d) → P d
  by_source P d f g = go (ℕ_discrete d source)
    where
      go : Dec (d ≡ source) → P d
      go (yes e) = f e
      go (no n) = g n

  pub alone : Good w h source small (source_alone source) (λ d. 0)
  alone = record {
    rooted = record {
      root = at_source;
      only_root = λ d l e. by_source (λ d. d ≡ source) d (λ s. s) (λ n. absurd (omega (arith, elsewhere d l n)));
      kinds = λ d l. by_source (λ d. entered_at (source_alone source) d ≤ 7) d (λ s. omega (arith, ap (entered_at (source_alone source)) s, at_source)) (λ n. omega (arith, elsewhere d l n));
      outside = λ d l e. no_route d l;
      entered_once = λ d j hd hj l. absurd (none d j hd hj l);
      entered_from = λ d l e.
          absurd (by_source (λ d. ⊥) d (λ s. omega (arith, ap (entered_at (source_alone source)) s, at_source)) (λ n. omega (arith, elsewhere d l n)));
      depth = λ d. 0;
      top = refl;
      deeper = λ d j hd hj l. absurd (none d j hd hj l);
    };
    marks = record { entered_long = simp length-set; routes_long = refl };
    processors = λ d l. let none : 0 / 64 ≡ 0 = refl in ap (λ (k : ℕ). k / 64) (no_route d l) ∙ none;
  }
