-- A link change and a chip's registers read, on a mesh's words.
use Rattle.std.proofs.Common.{◌≡◌, ℕ, ◌*◌, ◌<◌, ◌≤◌, Bool, true, false, eqb, ◌⊎◌, List, [], length, get_or, set, sym, refl, ap, ◌∙◌, subst, inl, inr, arith, lit<, length-set, get_or-set_other, get_or-set_same, drop-set-lt}
use Rattle.packet.specs.Refusal.{first_of}
use Rattle.mesh.specs.declared.Added.{Added}
use Rattle.links.specs.Offsets.{width_at, height_at, state_at, held_at, link_long, chip_long, chip_place, link_place, header_long}
use Rattle.links.specs.Words.{places_in, link_in}
use Rattle.links.specs.LinkWords.{state_of}
use Rattle.buffer.specs.Layout.{mesh_of, words_for, chips_of, words_of}
use Rattle.mesh.specs.Steps.{Going, with_chip, set_out}
use Rattle.buffer.specs.Holding.{holds_mesh, StatesFine}
use Rattle.lists.specs.Lists.{put_back}
use Rattle.buffer.specs.ChipWords.{changed_on, link_words}
use Rattle.buffer.specs.OnePass.{chip_words}
use Rattle.mesh.specs.Sound.{SoundMesh}
use Rattle.mesh.specs.Refusals.{number_refusals}
use Rattle.mesh.specs.Mesh.{link_of}
use Rattle.mesh.specs.Calls.{unless, with_up, with_link}
use Rattle.buffer.specs.Leaving.{Leaves, link_left, state_on}
use Rattle.lists.proofs.Parts.{length_back, part_same, part_before, part_behind, take_before, drop_behind}
use Rattle.buffer.proofs.ChipParts.{order, words_other, words_same, chip_link}
use Rattle.buffer.proofs.MeshParts.{mesh_chip, mesh_put}
use Rattle.buffer.proofs.StepAt.{chip_long_lem}
use Rattle.buffer.proofs.LinksChanged.{link_long_lem}
use Rattle.buffer.proofs.Headers.{head_same, SameHeader}
use Rattle.mesh.proofs.SoundChanges.{sound_linked}
use Rattle.buffer.proofs.SoundWords.{holds_sound, holds_states, still_holds}
use Rattle.buffer.proofs.Leaving.{refused_leaves, accepted_leaves, accepted_refusal}
use Rattle.buffer.proofs.Looks.{There, number_there, link_of_lem}

-- ---- one chip's words changed

module _ (l : List ℕ) (chip : ℕ) (h : There l chip) (ys : List ℕ) (sized : length ys ≡ chip_long)
    (states : (j : ℕ) → j < 6 → get_or (link_words j (chip_words chip l)) state_at 0 ≤ 1 → get_or (link_words j ys) state_at 0 ≤ 1) where
  abbrev changed : List ℕ
  changed = put_back (chip_place chip) chip_long ys l

  number : SameHeader l changed
  number = head_same l changed (take_before (chip_place chip) chip_long ys l h.fits sized header_long (omega arith))

  states_changed : StatesFine (put_back (chip_place chip) chip_long ys l)
  states_changed c j hc hj = go (order chip c)
    where
      there : c < chips_of l
      there = subst (λ (k : ℕ). c < k) (λ i. number height_at (lit< tt) i * number width_at (lit< tt) i) hc

      old : get_or (link_words j (chip_words c l)) state_at 0 ≤ 1
      old = holds_states l h.holds c j there hj

      by : (w : List ℕ) → chip_words c changed ≡ w → get_or (link_words j w) state_at 0 ≤ 1 → get_or (link_words j (chip_words c changed)) state_at 0 ≤ 1
      by w e f = subst (λ (v : List ℕ). get_or (link_words j v) state_at 0 ≤ 1) (sym e) f

      go : (chip < c) ⊎ ((chip ≡ c) ⊎ (c < chip)) → get_or (link_words j (chip_words c changed)) state_at 0 ≤ 1
      go (inl f) = by (chip_words c l) (part_behind (chip_place chip) chip_long ys l h.fits sized (chip_place c) chip_long (omega arith)) old
      go (inr (inl e)) = subst (λ (k : ℕ). get_or (link_words j (chip_words k changed)) state_at 0 ≤ 1) e
          (subst (λ (v : List ℕ). get_or (link_words j v) state_at 0 ≤ 1) (sym (part_same (chip_place chip) chip_long ys l h.fits sized)) (states j hj (holds_states l h.holds chip j h.near hj)))
      go (inr (inr f)) = by (chip_words c l) (part_before (chip_place chip) chip_long ys l h.fits sized (chip_place c) chip_long (omega arith)) old

  -- an accepted call that changes one chip, to a sound mesh
  pub chip_leaves : (r : ℕ) → r ≡ 0 → (g : Going (Unit {0})) → mesh_of (put_back (chip_place chip) chip_long ys l) ≡ g.mesh → SoundMesh g.mesh → Leaves l (put_back (chip_place chip) chip_long ys l) (unless r 0 (mesh_of l) g)
  chip_leaves r none g mesh sound =
      let long = length_back (chip_place chip) chip_long ys l h.fits sized in
      let words : words_of changed ≡ words_of l = λ i. words_for (number width_at (lit< tt) i) (number height_at (lit< tt) i) in
      accepted_leaves r 0 (mesh_of l) g none l changed mesh (still_holds l changed h.holds long words (subst SoundMesh (sym mesh) sound) states_changed) long
      (drop_behind (chip_place chip) chip_long ys l h.fits sized (words_of l) (omega (arith, h.near)))

-- ---- a link taken up or down

state_fine : (up : Bool) → state_of up ≤ 1
state_fine true = omega arith
state_fine false = omega arith

state_up : (up : Bool) → eqb (state_of up) 0 ≡ up
state_up true = refl
state_up false = refl

link_state : (up : Bool) (w : List ℕ) → length w ≡ link_long → link_in (state_on up 0 w) ≡ with_up up (link_in w)
link_state up w long =
    let count : get_or (set w state_at (state_of up)) held_at 0 ≡ get_or w held_at 0 = get_or-set_other w state_at held_at (state_of up) 0 (λ e. omega arith) in
    λ i. record {
      up = (ap (λ (k : ℕ). eqb k 0) (get_or-set_same w 0 (state_of up) 0 (omega arith)) ∙ state_up up) i;
      held = places_in (count i) (drop-set-lt 2 w 0 (state_of up) (lit< tt) i);
    }

module _ (l : List ℕ) (chip link : ℕ) (up : Bool) where
  pub link_refused : (r : ℕ) → r ≡ first_of (number_refusals (holds_mesh l) (chips_of l) chip link 6) → (r ≡ 0 → ⊥) → (r ≡ (link_left l chip link up).refusal) × Leaves l l (link_left l chip link up)
  unfolding mesh_of
  link_refused r e some =
      let f = refused_leaves (first_of (number_refusals (holds_mesh l) (chips_of l) chip link 6)) 0 (mesh_of l) (set_out (with_link (mesh_of l) chip link up)) (λ z. some (e ∙ z)) l [] in
      (e ∙ ap (λ (a : Added). a.refusal) f.answered, f.buffer)

  pub link_leaves : first_of (number_refusals (holds_mesh l) (chips_of l) chip link 6) ≡ 0
      → (0 ≡ (link_left l chip link up).refusal) × Leaves l (put_back (chip_place chip) chip_long (changed_on (state_on up) (chip_words chip l) link) l) (link_left l chip link up)
  unfolding mesh_of
  link_leaves none =
      let h = number_there l chip link 6 none in
      let w = link_words link (chip_words chip l) in
      let whole : length (chip_words chip l) ≡ chip_long = chip_long_lem l chip h.0.fits in
      let long : length (state_on up link w) ≡ link_long = length-set w state_at (state_of up) ∙ link_long_lem link (chip_words chip l) h.1 whole in
      let ys = changed_on (state_on up) (chip_words chip l) link in
      let sized : length ys ≡ chip_long = length_back (link_place link) link_long (state_on up link w) (chip_words chip l) (omega (arith, h.1, whole)) long ∙ whole in
      let states : (j : ℕ) → j < 6 → get_or (link_words j (chip_words chip l)) state_at 0 ≤ 1 → get_or (link_words j ys) state_at 0 ≤ 1 = λ j hj old. go j hj old (order link j) h whole long in
      let c = chip_link link h.1 (state_on up link w) (chip_words chip l) whole long in
      let up_set : link_in (state_on up link w) ≡ with_up up (link_of (mesh_of l) chip link) = link_state up w (link_long_lem link (chip_words chip l) h.1 whole) ∙ ap (with_up up) (sym (link_of_lem l chip link h.0.near h.1)) in
      let mesh : mesh_of (put_back (chip_place chip) chip_long ys l) ≡ with_link (mesh_of l) chip link up =
      mesh_put chip ys l h.0.fits sized h.0.near ∙ ap (with_chip (mesh_of l) chip) c
      ∙ (λ i. with_chip (mesh_of l) chip (record {
        registers = (sym (mesh_chip l chip h.0.near) i).registers;
        counters = (sym (mesh_chip l chip h.0.near) i).counters;
        links = set (sym (mesh_chip l chip h.0.near) i).links link (up_set i);
      })) in (
        accepted_refusal (first_of (number_refusals (holds_mesh l) (chips_of l) chip link 6)) 0 (mesh_of l) (set_out (with_link (mesh_of l) chip link up)) none,
        chip_leaves l chip h.0 ys sized states (first_of (number_refusals (holds_mesh l) (chips_of l) chip link 6)) none (set_out (with_link (mesh_of l) chip link up)) mesh (sound_linked (holds_sound l h.0.holds) chip link up h.0.near h.1),
      )
    where
      go : (j : ℕ) → j < 6 → get_or (link_words j (chip_words chip l)) state_at 0 ≤ 1 → (link < j) ⊎ ((link ≡ j) ⊎ (j < link)) → There l chip × (link < 6) → length (chip_words chip l) ≡ chip_long
          → length (state_on up link (link_words link (chip_words chip l))) ≡ link_long → get_or (link_words j (changed_on (state_on up) (chip_words chip l) link)) state_at 0 ≤ 1
      go j hj old (inl f) h whole long = subst (λ (v : List ℕ). get_or v state_at 0 ≤ 1) (sym (words_other link h.1 (state_on up link (link_words link (chip_words chip l))) (chip_words chip l) whole long j (λ e. omega arith))) old
      go j hj old (inr (inr f)) h whole long = subst (λ (v : List ℕ). get_or v state_at 0 ≤ 1) (sym (words_other link h.1 (state_on up link (link_words link (chip_words chip l))) (chip_words chip l) whole long j (λ e. omega arith))) old
      go j hj old (inr (inl e)) h whole long =
          subst (λ (k : ℕ). get_or (link_words k (changed_on (state_on up) (chip_words chip l) link)) state_at 0 ≤ 1) e
          (subst (λ (v : List ℕ). get_or v state_at 0 ≤ 1) (sym (words_same link h.1 (state_on up link (link_words link (chip_words chip l))) (chip_words chip l) whole long))
          (subst (λ (k : ℕ). k ≤ 1) (sym (get_or-set_same (link_words link (chip_words chip l)) 0 (state_of up) 0 (omega (arith, link_long_lem link (chip_words chip l) h.1 whole)))) (state_fine up)))
