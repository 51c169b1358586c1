-- What an accepted call grows is a tree: the source alone is one, and it stays one target by target, since each way is a shortest one, cut at its last chip within.
use Prim.Native.Nat.{ℕ, zero, suc, ◌*◌, ◌/◌, ◌≤◌, ◌<◌}
use mathlib.Core.Path.{◌≡◌, sym, ap, subst, ◌∙◌}
use mathlib.Core.Bool.{Bool, true, false, cond, and-eq-true_iff}
use mathlib.Core.List.{List, [], ◌∷◌}
use native.Mathlib.Omega.{arith}
use native.Mathlib.Decide.{ℕ_discrete}
use borrow.Author.Tests.{eq-eqb, ne_eqb, ltb-true}
use lib.Bits.{bit_or}
use lib.Dec.{eqb, ltb}
use lib.ListN.{length-set}
use lib.Seq.{get_or-set_same, get_or-set_other}
use Rattle.lists.specs.Lists.{All}
use Rattle.steps.specs.Links.{has}
use Rattle.tables.specs.Sizes.{size_fine}
use Rattle.tables.proofs.Sizes as sizes
use Rattle.links.proofs.Crossing.{across_there}
use Rattle.links.specs.Across.{across, opposite}
use Rattle.tree.specs.Way.{links_of, way_between}
use Rattle.tree.specs.Growing.{Target, targets_of, Grown, source_alone, one_more, added, new_part, with_part, with_processors, with_target, grown_by}
use Rattle.tree.specs.Rows.{entered_at, route_at}
use Rattle.tree.specs.Call.{all_there, named_again}
use Rattle.tree.specs.Promises.{chip_after}
use Rattle.tree.specs.Rooted.{is_link, Rooted, processors_on, Grows, ATree}
use Rattle.tree.proofs.RouteBits.{links_kept, processors_more}
use Rattle.tree.proofs.LowRoutes.{LinkLow, links_low}
use Rattle.tree.proofs.FreshWay.{Out, Short, never_back, short_after, out_still, out_first, whole_new}
use Rattle.tree.proofs.FewestLinks.{fewest_links}
use Rattle.tree.proofs.AcrossBack.{across_back}
use Rattle.tree.proofs.NamedOnce.{not_named, each_named}
use Rattle.tree.proofs.StaysATree.{Good, one_good, next_within, still_within}
use Rattle.tree.proofs.SourceAlone.{alone, at_source}
use Rattle.tree.proofs.Answers as answers

abbrev Within : Grown → ℕ → Type 0
Within t chip = entered_at t chip ≡ 7 → ⊥

module _ (w h source : ℕ) (fine : size_fine (suc w) (suc h) ≡ true) where
  abbrev all : ℕ
  all = suc h * suc w

  small : all ≤ 144
  small = sizes.chips_small (suc w) (suc h) fine

  abbrev Fine : Grown → (ℕ → ℕ) → Type 0
  Fine t named = Good w h source small t named

  -- ---- processors added

  module _ (t : Grown) (named : ℕ → ℕ) (g : Fine t named) (chip p : ℕ) (there : chip < all) (within : Within t chip) where
    abbrev new : Grown
    new = with_processors (suc w) (suc h) t chip p

    route_here : route_at new chip ≡ bit_or (route_at t chip) (p * 64)
    route_here = get_or-set_same t.routes chip _ 0 (omega (arith, small, g.marks.routes_long))

    route_other : (d : ℕ) → (d ≡ chip → ⊥) → route_at new d ≡ route_at t d
    route_other d n = get_or-set_other t.routes chip d _ 0 n

    same_link : (d j : ℕ) → j < 6 → is_link (suc w) (suc h) source new d j ≡ is_link (suc w) (suc h) source t d j
    same_link d j hj = go (ℕ_discrete d chip)
      where
        go : Dec (d ≡ chip) → is_link (suc w) (suc h) source new d j ≡ is_link (suc w) (suc h) source t d j
        go (no n) = ap (λ (k : ℕ). has k j) (route_other d n)
        go (yes e) = ap (λ (k : ℕ). has k j) (ap (route_at new) e ∙ route_here) ∙ links_kept (route_at t chip) p j hj ∙ ap (λ (c : ℕ). has (route_at t c) j) (sym e)

    with_good : Fine new (λ d. cond (eqb d chip) (bit_or (named d) p) (named d))
    with_good =
        let r = g.rooted in
        record {
          rooted = record {
            root = r.root;
            only_root = r.only_root;
            kinds = r.kinds;
            outside = λ d l e. route_other d (λ c. within (ap (entered_at t) (sym c) ∙ e)) ∙ r.outside d l e;
            entered_once = λ d j hd hj l. r.entered_once d j hd hj (sym (same_link d j hj) ∙ l);
            entered_from = λ d l e. same_link _ (entered_at t d) e ∙ r.entered_from d l e;
            depth = r.depth;
            top = r.top;
            deeper = λ d j hd hj l. r.deeper d j hd hj (sym (same_link d j hj) ∙ l);
          };
          marks = record { entered_long = g.marks.entered_long; routes_long = simp length-set g.marks.routes_long };
          processors = λ d l. go d l (ℕ_discrete d chip);
        }
      where
        go : (d : ℕ) → d < all → Dec (d ≡ chip) → route_at new d / 64 ≡ cond (eqb d chip) (bit_or (named d) p) (named d)
        go d l (no n) =
            ap (λ (k : ℕ). k / 64) (route_other d n) ∙ g.processors d l
            ∙ sym (ap (λ (b : Bool). cond {A = ℕ} b (bit_or (named d) p) (named d)) (ne_eqb d chip n))
        go d l (yes e) =
            ap (λ (k : ℕ). k / 64) (ap (route_at new) e ∙ route_here) ∙ processors_more (route_at t chip) p
            ∙ ap (λ (c : ℕ). bit_or (route_at t c / 64) p) (sym e)
            ∙ ap (λ (k : ℕ). bit_or k p) (g.processors d l)
            ∙ sym (ap (λ (b : Bool). cond {A = ℕ} b (bit_or (named d) p) (named d)) (eq-eqb d chip e))

  -- ---- links added, one after the other

  record Added (t new : Grown) (named : ℕ → ℕ) (end : ℕ) : Type 0 where
    good : Fine new named
    ended : Within new end
    still : (d : ℕ) → Within t d → Within new d

  all_added : (is : List ℕ) (t : Grown) (named : ℕ → ℕ) (chip : ℕ) → Fine t named → chip < all → Within t chip → All LinkLow is → Out (suc w) (suc h) t.entered chip is
      → Short (suc w) (suc h) chip is → Added t (added (suc w) (suc h) t chip is) named (chip_after (suc w) (suc h) chip is)
  unfolding added chip_after All
  all_added [] t named chip g there begun low out short = record { good = g; ended = begun; still = λ d n. n }
  all_added (i ∷ is) t named chip g there begun low out short =
      let first = out_first (suc w) (suc h) t.entered chip i is out in
      let next = across (suc w) (suc h) chip i in
      let more = all_added is (one_more (suc w) (suc h) t chip i) named next (one_good w h source small t named g chip i there low.0 begun first.0) (across_there (suc w) (suc h) chip i (omega arith) (omega arith))
      (next_within w h source small t named g chip i there low.0 begun first.0)
      low.1
      (out_still (suc w) (suc h) t.entered next i next is (never_back (suc w) (suc h) chip i is low short) first.1)
      (short_after (suc w) (suc h) chip i is low short) in
      record {
        good = more.good;
        ended = more.ended;
        still = λ d n. more.still d (still_within w h source small t named g chip i there low.0 begun first.0 d n);
      }

  -- ---- a target, and all of them

  module _ (there : source < all) where
    one_target : (t : Grown) (named : ℕ → ℕ) (target : Target) → Fine t named → Within t source → target.chip < all
        → Added t (with_target (suc w) (suc h) source t target) (λ d. cond (eqb d target.chip) (bit_or (named d) target.processors) (named d)) target.chip
    one_target t named target g begun l =
        let way = links_of (way_between (suc w) (suc h) source target.chip) in
        let shortest = fewest_links (suc w) (suc h) source target.chip fine there l in
        let part = new_part (suc w) (suc h) t source way in
        let short : Short (suc w) (suc h) source way = λ links low e. shortest.none_shorter links low (e ∙ shortest.arrives) in
        let new = whole_new (suc w) (suc h) (λ c i. across_there (suc w) (suc h) c i (omega arith) (omega arith)) t.entered target.chip source way there begun (links_low _) short shortest.arrives in
        let grown = all_added part.links t named part.chip g new.there new.begun new.low new.out new.short in
        let ended : Within (with_part (suc w) (suc h) t part) target.chip = subst (Within (with_part (suc w) (suc h) t part)) new.ends grown.ended in
        record { good = with_good (with_part (suc w) (suc h) t part) named grown.good target.chip target.processors l ended; ended = ended; still = grown.still }

    record AllIn (t new : Grown) (named : ℕ → ℕ) (targets : List Target) : Type 0 where
      good : Fine new (λ d. processors_on d (named d) targets)
      within : All (λ target. Within new target.chip) targets
      still : (d : ℕ) → Within t d → Within new d

    all_targets : (ts : List Target) (t : Grown) (named : ℕ → ℕ) → Fine t named → Within t source → all_there all ts ≡ true → AllIn t (grown_by (suc w) (suc h) source t ts) named ts
    unfolding grown_by all_there processors_on All
    all_targets [] t named g begun e = record { good = g; within = tt; still = λ d n. n }
    all_targets (target ∷ ts) t named g begun e =
        let both = (and-eq-true_iff (ltb target.chip all) (all_there all ts)).0 e in
        let one = one_target t named target g begun (ltb-true target.chip all both.0) in
        let more = all_targets ts (with_target (suc w) (suc h) source t target) _ one.good (one.still source begun) both.1 in
        record { good = more.good; within = (more.still target.chip one.ended, more.within); still = λ d n. more.still d (one.still d n) }

    on_route : (t : Grown) (named : ℕ → ℕ) → ((d : ℕ) → d < all → route_at t d / 64 ≡ named d) → (ts : List Target) → all_there all ts ≡ true
        → All (λ target. named target.chip ≡ target.processors) ts → All (λ target. route_at t target.chip / 64 ≡ target.processors) ts
    unfolding all_there All
    on_route t named p [] e a = tt
    on_route t named p (u ∷ us) e a =
        let both = (and-eq-true_iff (ltb u.chip all) (all_there all us)).0 e in
        (p u.chip (ltb-true u.chip all both.0) ∙ a.0, on_route t named p us both.1 a.1)

    -- a link into a chip has the number that the chip was entered by, and so comes from the chip that lies behind
    one_in : (t : Grown) → Rooted (suc w) (suc h) source t → (c d i j : ℕ) → c < all → d < all → i < 6 → j < 6 → is_link (suc w) (suc h) source t c i ≡ true
        → is_link (suc w) (suc h) source t d j ≡ true → across (suc w) (suc h) c i ≡ across (suc w) (suc h) d j → (c ≡ d) × (i ≡ j)
    one_in t r c d i j hc hd hi hj l m e =
        let same : i ≡ j = sym (r.entered_once c i hc hi l) ∙ ap (entered_at t) e ∙ r.entered_once d j hd hj m in
        (sym (across_back w h c i hc hi) ∙ (λ k. across (suc w) (suc h) (e k) (opposite (same k))) ∙ across_back w h d j hd hj, same)

    pub grows : (ts : List Target) → all_there all ts ≡ true → named_again [] ts ≡ false → Grows (suc w) (suc h) source ts (grown_by (suc w) (suc h) source (source_alone source) ts)
    grows ts e once =
        let t = grown_by (suc w) (suc h) source (source_alone source) ts in
        let whole = all_targets ts (source_alone source) (λ d. 0) (alone w h source small there) (λ s. omega (arith, at_source w h source small there)) e in
        record {
          rooted = whole.good.rooted;
          one_way_in = one_in t whole.good.rooted;
          targets_within = whole.within;
          processors = whole.good.processors;
          named = on_route t (λ d. processors_on d 0 ts) whole.good.processors ts e (each_named [] ts once);
          no_others = λ d l n. whole.good.processors d l ∙ not_named d 0 ts n;
        }

pub a_tree : ATree
a_tree width height source key mask words rows starts none =
    let fine = answers.accepted width height source key mask words rows starts none in
    go width height fine.size fine.source_there fine.targets_there fine.once
  where
    go : (width height : ℕ) → size_fine width height ≡ true → source < height * width → all_there (height * width) (targets_of words) ≡ true → named_again [] (targets_of words) ≡ false
        → Grows width height source (targets_of words) (grown_by width height source (source_alone source) (targets_of words))
    go zero height f s e once = absurd (omega (arith, sizes.size 0 height f))
    go (suc w) zero f s e once = absurd (omega (arith, sizes.size (suc w) 0 f))
    go (suc w) (suc h) f s e once = grows w h source f s (targets_of words) e once
