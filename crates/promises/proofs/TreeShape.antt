-- The shape of a grown tree: what leads into a chip, where a chip of the tree hangs, that every chip of it is reached by links along it, and so how deep it can be.
use Prim.Native.Nat.{ℕ, zero, suc, ◌*◌, ◌≤◌, ◌<◌}
use mathlib.Core.Path.{◌≡◌, refl, sym, ap, ◌∙◌, subst}
use mathlib.Core.Bool.{Bool, true, false, and-true, and-eq-true_iff, true≢false}
use mathlib.Core.List.{List, [], ◌∷◌, ◌++◌}
use mathlib.Core.Logic.{◌⊎◌, inl, inr, ⊎_elim}
use native.Mathlib.Decide.{ℕ_discrete, dec_lt}
use native.Mathlib.Omega.{arith}
use lib.ListN.{length, length-append}
use Rattle.steps.specs.Links.{has}
use Rattle.steps.proofs.Sets.{has_none}
use Rattle.lists.specs.Lists.{All}
use Rattle.lists.proofs.Alls.{all_append}
use Rattle.links.specs.Across.{across, opposite}
use Rattle.tables.proofs.Sizes as sizes
use Rattle.links.proofs.Crossing.{across_there, opposite_there}
use Rattle.tree.specs.Rows.{entered_at, route_at}
use Rattle.tree.specs.Rooted.{is_link, Rooted}
use Rattle.tree.specs.Promises.{chip_after}
use Rattle.tree.proofs.Answers as answers
use Rattle.tree.proofs.ATree.{a_tree}
use Rattle.promises.specs.GrownTree.{Asked, refusal, tree, along, AtMostDeep}
use Rattle.promises.proofs.OppositeLinks.{there_and_back}

pub not_both : (b : Bool) → (b ≡ true → ⊥) → b ≡ false
not_both true h = absurd (h refl)
not_both false h = refl

twice : (e : ℕ) → e < 6 → opposite (opposite e) ≡ e
twice e h = omega arith

module _ (a : Asked) (none : refusal a ≡ 0) where
  abbrev pub all : ℕ
  all = a.height * a.width

  pub rooted : Rooted a.width a.height a.source (tree a)
  rooted = (a_tree a.width a.height a.source a.key a.mask a.words a.rows a.starts none).rooted

  abbrev pub depth : ℕ → ℕ
  depth = rooted.depth

  abbrev pub entered : ℕ → ℕ
  entered = entered_at (tree a)

  abbrev pub route : ℕ → ℕ
  route = route_at (tree a)

  abbrev pub leads : ℕ → ℕ → Bool
  leads = is_link a.width a.height a.source (tree a)

  abbrev pub next : ℕ → ℕ → ℕ
  next = across a.width a.height

  pub next_there : (c i : ℕ) → next c i < all
  next_there c i = let fine = answers.accepted a.width a.height a.source a.key a.mask a.words a.rows a.starts none in
      let size = sizes.size a.width a.height fine.size in
      across_there a.width a.height c i size.width_low size.height_low

  pub source_there : a.source < all
  source_there = (answers.accepted a.width a.height a.source a.key a.mask a.words a.rows a.starts none).source_there

  pub back : (c i : ℕ) → c < all → i < 6 → next (next c i) (opposite i) ≡ c
  back c i there near =
      let fine = answers.accepted a.width a.height a.source a.key a.mask a.words a.rows a.starts none in
      let size = sizes.size a.width a.height fine.size in
      there_and_back a.width a.height c i size.width_low size.height_low there near

  -- a link of the tree into a chip
  pub into : (c s : ℕ) → c < all → s < 6 → leads (next c s) (opposite s) ≡ true → (entered c ≡ opposite s) × (depth c ≡ suc (depth (next c s)))
  into c s there near e =
      let back-here = back c s there near in
      (ap entered (sym back-here) ∙ rooted.entered_once (next c s) (opposite s) (next_there c s) (opposite_there s) e, ap depth (sym back-here) ∙ rooted.deeper (next c s) (opposite s) (next_there c s) (opposite_there s) e)

  -- a link of the tree leaves a chip of it
  pub inside : (c i : ℕ) → c < all → leads c i ≡ true → entered c ≡ 7 → ⊥
  inside c i there e out = true≢false (sym e ∙ ap (λ (r : ℕ). has r i) (rooted.outside c there out) ∙ has_none i)

  -- where a chip of the tree hangs
  pub record Hangs (c : ℕ) : Type 0 where
    pub link : leads (next c (opposite (entered c))) (entered c) ≡ true
    pub deeper : depth c ≡ suc (depth (next c (opposite (entered c))))

  pub hangs : (c : ℕ) → c < all → entered c < 6 → Hangs c
  hangs c there e =
      let link = rooted.entered_from c there e in
      let two = twice (entered c) e in
      record { link = link; deeper = (into c (opposite (entered c)) there (opposite_there (entered c)) (ap (leads (next c (opposite (entered c)))) two ∙ link)).1 }

  -- a chip of the tree is the source, or hangs somewhere
  pub within_tree : (c : ℕ) → c < all → (entered c ≡ 7 → ⊥) → (c ≡ a.source) ⊎ (entered c < 6)
  within_tree c there in_tree = go (dec_lt (entered c) 6)
    where
      go : Dec (entered c < 6) → (c ≡ a.source) ⊎ (entered c < 6)
      go (yes h) = inr h
      go (no h) = let six : entered c ≡ 6 = omega (arith, rooted.kinds c there, in_tree) in inl (rooted.only_root c there six)

  -- any other chip is outside, and has no route
  pub no_route : (c : ℕ) → c < all → (c ≡ a.source → ⊥) → (entered c < 6 → ⊥) → route c ≡ 0
  no_route c there other high = go (ℕ_discrete (entered c) 7)
    where
      go : Dec (entered c ≡ 7) → route c ≡ 0
      go (yes out) = rooted.outside c there out
      go (no in_tree) = absurd (⊎_elim other high (within_tree c there in_tree))

  -- ---- links along the tree

  abbrev ends : ℕ → List ℕ → ℕ
  ends = chip_after a.width a.height

  ends_more : (c : ℕ) (is : List ℕ) (i : ℕ) → ends c (is ++ i ∷ []) ≡ next (ends c is) i
  unfolding chip_after
  ends_more c [] i = refl
  ends_more c (k ∷ is) i = ends_more (next c k) is i

  along_more : (c : ℕ) (is : List ℕ) (i : ℕ) → along a c is ≡ true → leads (ends c is) i ≡ true → along a c (is ++ i ∷ []) ≡ true
  unfolding along chip_after
  along_more c [] i h e = and-true (leads c i) ∙ e
  along_more c (k ∷ is) i h e =
      let both = (and-eq-true_iff (leads c k) (along a (next c k) is)).0 h in
      (and-eq-true_iff (leads c k) (along a (next c k) (is ++ i ∷ []))).1 (both.0, along_more (next c k) is i both.1 e)

  record LedTo (c d : ℕ) : Type 0 where
    links : List ℕ
    low : All (λ i. i < 6) links
    tree_links : along a a.source links ≡ true
    there : ends a.source links ≡ c
    many : length links ≡ d

  led_further : (d c : ℕ) → c < all → entered c < 6 → LedTo (next c (opposite (entered c))) d → LedTo c (suc d)
  unfolding All
  led_further d c there h to =
      let hang = hangs c there h in
      let two = twice (entered c) h in
      record {
        links = to.links ++ entered c ∷ [];
        low = all_append (λ i. i < 6) to.links (entered c ∷ []) to.low (h, tt);
        tree_links = along_more a.source to.links (entered c) to.tree_links (ap (λ (k : ℕ). leads k (entered c)) to.there ∙ hang.link);
        there = ends_more a.source to.links (entered c) ∙ (λ j. next (to.there j) (sym two j)) ∙ back c (opposite (entered c)) there (opposite_there (entered c));
        many = simp length-append (omega (arith, to.many));
      }

  led_to : (d c : ℕ) → c < all → (entered c ≡ 7 → ⊥) → depth c ≡ d → LedTo c d
  unfolding along chip_after All
  led_to zero c there in_tree e =
      ⊎_elim (λ (s : c ≡ a.source). record { links = []; low = tt; tree_links = refl; there = sym s; many = refl }) (λ (h : entered c < 6). absurd (omega (arith, (hangs c there h).deeper))) (within_tree c there in_tree)
  led_to (suc d) c there in_tree e =
      ⊎_elim (λ (s : c ≡ a.source). absurd (omega (arith, ap depth s, rooted.top)))
      (λ (h : entered c < 6).
      let from : ℕ = next c (opposite (entered c)) in
      let hang = hangs c there h in
      led_further d c there h (led_to d from (next_there c (opposite (entered c))) (inside from (entered c) (next_there c (opposite (entered c))) hang.link) (omega (arith, hang.deeper))))
      (within_tree c there in_tree)

  pub at_most : (f : ℕ) → AtMostDeep a f → (c : ℕ) → c < all → (entered c ≡ 7 → ⊥) → depth c ≤ f
  at_most f deep c there in_tree = let to = led_to (depth c) c there in_tree refl in subst (λ (n : ℕ). n ≤ f) to.many (deep to.links to.low to.tree_links)
