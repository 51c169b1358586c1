-- What arrives in a round by a grown tree: where each link of the chips at one depth holds one copy and no other link does, each chip one deeper gets one copy, by the link opposite to the one that it was entered by, and no other
-- chip gets any. It arrives without error, while the tree is at most F links deep.
use Prim.Native.Nat.{ℕ, zero, suc, ◌+◌, ◌-◌, ◌/◌, ◌<◌}
use mathlib.Core.Path.{◌≡◌, refl, sym, ap, ◌∙◌, subst}
use mathlib.Core.Bool.{Bool, true, false, cond, not, ◌&&◌, and-eq-true_iff}
use mathlib.Core.List.{List, [], ◌∷◌, ◌++◌, map}
use native.Mathlib.Decide.{ℕ_discrete}
use native.Mathlib.Nat.{mod-lt}
use native.Mathlib.Omega.{arith}
use lib.Dec.{eqb, lit<}
use borrow.Author.Tests.{eq-eqb, ne_eqb, eqb-true}
use Rattle.packet.proofs.Types.{mc_marked, marked_stamped}
use Rattle.steps.specs.Errors.{errors_of}
use Rattle.lists.specs.Lists.{All}
use Rattle.links.specs.Link.{Flight}
use Rattle.links.specs.Across.{across, opposite}
use Rattle.mesh.specs.Mesh.{Mesh, link_of}
use Rattle.mesh.specs.Steps.{Arrival, arriving_by, arriving_at}
use Rattle.mesh.specs.Sound.{SoundPacket}
use Rattle.links.proofs.Crossing.{opposite_there}
use Rattle.flood.proofs.WholeWay.{no_error}
use Rattle.promises.specs.History.{Tag}
use Rattle.promises.specs.Told.{Stamped, EachFlight}
use Rattle.promises.proofs.Clock.{code, young_before}
use Rattle.promises.proofs.Aged.{Aged, Ages}
use Rattle.promises.proofs.Towards.{to_any}
use Rattle.promises.proofs.TreeShape as shape
use Rattle.promises.proofs.TreeStep.{Trip, Copy, One, Holds}

module _ (w : Trip) where
  abbrev pub all : ℕ
  all = shape.all w.asked w.none

  abbrev pub depth : ℕ → ℕ
  depth = shape.depth w.asked w.none

  abbrev pub entered : ℕ → ℕ
  entered = shape.entered w.asked w.none

  abbrev pub route : ℕ → ℕ
  route = shape.route w.asked w.none

  abbrev pub leads : ℕ → ℕ → Bool
  leads = shape.leads w.asked w.none

  abbrev next : ℕ → ℕ → ℕ
  next = shape.next w.asked w.none

  -- the links of the chips at a depth
  abbrev pub leaves : ℕ → ℕ → ℕ → Bool
  leaves j c i = leads c i && eqb (depth c) j

  abbrev pub Full : ℕ → Mesh Tag → Type 0
  Full j m = (c i : ℕ) → c < all → i < 6 → Holds w (leaves j c i) (link_of m c i).held

  -- the chips that they lead to
  abbrev pub Due : ℕ → ℕ → Type 0
  Due j c = (entered c < 6) × (depth c ≡ suc j)

  -- ---- without error

  pub no_errors : (f r phase source : ℕ) → 0 < f → phase ≡ code (r / f) → source < 6 → (x : Flight Tag) → SoundPacket x.packet → Ages f r x → Copy w x → r < w.before + f → errors_of x.packet source phase ≡ 0
  no_errors f r phase source some now near x sound ages copy soon =
      let b = x.tag.before in
      let fine : _ = simp and-eq-true_iff at sound.fine in
      let stamped : Stamped x.packet = marked_stamped _ (mc_marked _ copy.fits.multicast) in
      let aged : Aged f r x = ages.aged stamped in
      let young : code (b / f) ≡ 3 - phase → ⊥ = λ e.
      young_before f some b r aged.begun (omega (arith, copy.begun, mod-lt b some)) (e ∙ ap (λ (k : ℕ). 3 - k) now) in
      no_error x.packet source (code (b / f)) phase near (record { odd = fine.0.1; long = ap not (eq-eqb _ _ (sym sound.right)); stamp = aged.stamp }) young

  -- ---- at a chip

  at : ℕ → ℕ → Flight Tag → Arrival Tag
  at c s x = record { chip = c; source = s; flight = x }

  -- by one of six links, and by no other
  joined : (x : Arrival Tag) (s : ℕ) → s < 6 → (by : ℕ → List (Arrival Tag)) → ((i : ℕ) → i < 6 → by i ≡ cond (eqb i s) (x ∷ []) []) → by 0 ++ by 1 ++ by 2 ++ by 3 ++ by 4 ++ by 5 ≡ x ∷ []
  joined x s near by e = (λ j. e 0 (lit< tt) j ++ e 1 (lit< tt) j ++ e 2 (lit< tt) j ++ e 3 (lit< tt) j ++ e 4 (lit< tt) j ++ e 5 (lit< tt) j) ∙ go s near
    where
      go : (s : ℕ) → s < 6
          → cond (eqb 0 s) (x ∷ []) [] ++ cond (eqb 1 s) (x ∷ []) [] ++ cond (eqb 2 s) (x ∷ []) [] ++ cond (eqb 3 s) (x ∷ []) [] ++ cond (eqb 4 s) (x ∷ []) [] ++ cond (eqb 5 s) (x ∷ []) [] ≡ x ∷ []
      go zero h = refl
      go (suc zero) h = refl
      go (suc (suc zero)) h = refl
      go (suc (suc (suc zero))) h = refl
      go (suc (suc (suc (suc zero)))) h = refl
      go (suc (suc (suc (suc (suc zero))))) h = refl
      go (suc (suc (suc (suc (suc (suc s)))))) h = absurd (omega arith)

  module _ (j : ℕ) (m : Mesh Tag) (wide : m.width ≡ w.asked.width) (high : m.height ≡ w.asked.height) (full : Full j m) (c : ℕ) (there : c < all) where
    -- a link that brings one
    brings : (s : ℕ) → s < 6 → leaves j (next c s) (opposite s) ≡ true → Due j c × (s ≡ opposite (entered c))
    brings s near e =
        let both = (and-eq-true_iff (leads (next c s) (opposite s)) (eqb (depth (next c s)) j)).0 e in
        let into = shape.into w.asked w.none c s there near both.0 in
        let level : depth (next c s) ≡ j = eqb-true _ _ both.1 in
        ((omega (arith, into.0, opposite_there s), omega (arith, into.1, level)), omega (arith, into.0))

    by_held : (s : ℕ) → arriving_by m c s ≡ map (at c s) (link_of m (next c s) (opposite s)).held
    unfolding at
    by_held s = λ i. map (λ (x : Flight Tag). record { chip = c; source = s; flight = x }) (link_of m (across (wide i) (high i) c s) (opposite s)).held

    by_none : (s : ℕ) → leaves j (next c s) (opposite s) ≡ false → arriving_by m c s ≡ []
    by_none s e =
        by_held s
        ∙ ap (map (at c s)) (subst (λ (b : Bool). Holds w b (link_of m (next c s) (opposite s)).held) e (full (next c s) (opposite s) (shape.next_there w.asked w.none c s) (opposite_there s)))

    pub none_arrives : (Due j c → ⊥) → arriving_at m c ≡ []
    none_arrives idle = λ i. by 0 (lit< tt) i ++ by 1 (lit< tt) i ++ by 2 (lit< tt) i ++ by 3 (lit< tt) i ++ by 4 (lit< tt) i ++ by 5 (lit< tt) i
      where
        by : (s : ℕ) → s < 6 → arriving_by m c s ≡ []
        by s near = by_none s (shape.not_both _ (λ e. idle (brings s near e).0))

    pub record ArrivesOne : Type 0 where
      pub copy : Flight Tag
      pub good : Copy w copy
      pub alone : arriving_at m c ≡ record { chip = c; source = opposite (entered c); flight = copy } ∷ []
      pub was : (link_of m (next c (opposite (entered c))) (opposite (opposite (entered c)))).held ≡ copy ∷ []

    -- what held of every packet in flight holds of it
    pub was_each : (one : ArrivesOne) (Q : Flight Tag → Type 0) → EachFlight Q m → Q one.copy
    unfolding All
    was_each one Q each = (subst (All Q) one.was (to_any Q m each (next c (opposite (entered c))) (opposite (opposite (entered c))) (opposite_there (opposite (entered c))))).0

    pub one_arrives : Due j c → ArrivesOne
    unfolding at
    one_arrives due =
        let from : ℕ = opposite (entered c) in
        let two : opposite (opposite (entered c)) ≡ entered c = omega (arith, due.0) in
        let hang = shape.hangs w.asked w.none c there due.0 in
        let on : leaves j (next c from) (opposite from) ≡ true =
        (and-eq-true_iff (leads (next c from) (opposite from)) (eqb (depth (next c from)) j)).1 (ap (leads (next c from)) two ∙ hang.link, eq-eqb (depth (next c from)) j (omega (arith, hang.deeper, due.1))) in
        let one : One w (link_of m (next c from) (opposite from)).held =
        subst (λ (b : Bool). Holds w b (link_of m (next c from) (opposite from)).held) on (full (next c from) (opposite from) (shape.next_there w.asked w.none c from) (opposite_there from)) in
        record {
          copy = one.copy;
          good = one.good;
          alone = joined (at c from one.copy) from (opposite_there (entered c)) (arriving_by m c) (λ s near. by one.copy one.is s near (ℕ_discrete s from));
          was = one.is;
        }
      where
        by : (x : Flight Tag) → (link_of m (next c (opposite (entered c))) (opposite (opposite (entered c)))).held ≡ x ∷ [] → (s : ℕ) → s < 6 → Dec (s ≡ opposite (entered c))
            → arriving_by m c s ≡ cond (eqb s (opposite (entered c))) (at c (opposite (entered c)) x ∷ []) []
        by x is s near (yes e) =
            ap (arriving_by m c) e ∙ by_held (opposite (entered c)) ∙ ap (map (at c (opposite (entered c)))) is
            ∙ ap (λ (b : Bool). cond b (at c (opposite (entered c)) x ∷ []) []) (sym (eq-eqb _ _ e))
        by x is s near (no other) = by_none s (shape.not_both _ (λ e. other (brings s near e).1)) ∙ ap (λ (b : Bool). cond b (at c (opposite (entered c)) x ∷ []) []) (sym (ne_eqb _ _ other))
