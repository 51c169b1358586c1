-- A round on a mesh's words, step by step: all set aside, all of it arrived, the phase stepped on.
use Rattle.std.proofs.Common.{◌≡◌, ℕ, zero, suc, ◌+◌, ◌*◌, ◌<◌, ◌≤◌, Bool, true, false, cond, ltb, List, ◌∷◌, ◌++◌, map, length, get_or, take, drop, set, sym, refl, ap, ◌∙◌, subst, append_assoc, append-nil, add-zero, add-suc, suc-add, zero-add, arith, lit<, length-set, get_or-set_other, get_or-set_same, drop-set-lt}
use Rattle.links.specs.Offsets.{width_at, height_at, rounds_at, monitor_at, phase_at, elapsed_at, header_long, held_at, places_at, aside_at, aside_places_at, chip_long, chip_place}
use Rattle.links.specs.Link.{Flight, idle}
use Rattle.links.specs.Across.{across, opposite}
use Rattle.links.specs.Phase.{next_phase}
use Rattle.links.specs.Words.{aside_in}
use Rattle.mesh.specs.Mesh.{Chip}
use Rattle.buffer.specs.Layout.{chip_in, chips_in, mesh_of, chips_of}
use Rattle.mesh.specs.Steps.{emptied_chip, set_aside, arriving_by, arriving_at, arriving_from, arrivals, round_over}
use Rattle.buffer.specs.ChipWords.{link_words}
use Rattle.buffer.specs.OnePass.{chip_words}
use Rattle.buffer.specs.Aside.{AsideUpto}
use Rattle.buffer.specs.PassesInTurn.{aside_by, aside_from, AsideFew}
use Rattle.lists.specs.Lists.{up_to}
use Rattle.buffer.specs.Leaving.{over_words}
use Rattle.buffer.proofs.ChipParts.{link_at}
use Rattle.buffer.proofs.MeshParts.{mesh_chip}
use Rattle.links.proofs.Places.{length_places}
use Rattle.links.proofs.Crossing.{across_there, opposite_there}
use Rattle.buffer.proofs.Headers.{Head, head_same, SameHeader}
use Rattle.lists.proofs.UpTo.{upto_same}

-- ---- all set aside

module _ (l l₁ : List ℕ) (u : AsideUpto (chips_of l) (chips_of l) l l₁) where
  number : SameHeader l l₁
  number = head_same l l₁ u.head

  chips_aside : (n c : ℕ) → c + n ≤ chips_of l → chips_in c n l₁ ≡ map emptied_chip (chips_in c n l)
  unfolding chips_in
  chips_aside zero c h = refl
  chips_aside (suc n) c h = λ i. (u.done c (omega arith)).chip i ∷ chips_aside n (suc c) (omega arith) i

  pub mesh_aside : mesh_of l₁ ≡ set_aside (mesh_of l)
  unfolding mesh_of
  mesh_aside =
      let w = number width_at (lit< tt) in
      let h = number height_at (lit< tt) in
      λ i. record {
        width = w i;
        height = h i;
        rounds = number rounds_at (lit< tt) i;
        monitor = number monitor_at (lit< tt) i;
        phase = number phase_at (lit< tt) i;
        elapsed = number elapsed_at (lit< tt) i;
        chips = ((λ k. chips_in 0 (h k * w k) l₁) ∙ chips_aside (chips_of l) 0 (omega arith)) i;
      }

  module _ (fine : Head l) where
    -- what was set aside for a chip is what arrives there
    by_aside : (chip source : ℕ) → source < 6 → aside_by l₁ chip source ≡ arriving_by (mesh_of l) chip source
    unfolding mesh_of
    by_aside chip source hs =
        let from : ℕ = across (get_or l width_at 0) (get_or l height_at 0) chip source in
        let there : from < chips_of l = across_there (get_or l width_at 0) (get_or l height_at 0) chip source fine.wide fine.tall in
        let j = opposite source in
        ap (map (λ (f : Flight (Unit {0})). record { chip = chip; source = source; flight = f }))
        ((λ i. aside_in (link_words j (chip_words (across (number width_at (lit< tt) i) (number height_at (lit< tt) i) chip source) l₁)))
        ∙ (u.done from there).aside j (opposite_there source)
        ∙ sym (ap (λ (c : Chip (Unit {0})). (get_or c.links j idle).held) (mesh_chip l from there) ∙ ap (λ (x : _). x.held) (link_at j (opposite_there source) (chip_words from l))))

    pub at_aside : (chip : ℕ) → aside_from l₁ chip ≡ arriving_at (mesh_of l) chip
    unfolding up_to
    at_aside chip = upto_same (aside_by l₁ chip) (arriving_by (mesh_of l) chip) 6 (λ s hs. by_aside chip s hs)

    from_upto : (n c : ℕ) → up_to (arriving_at (mesh_of l)) (c + n) ≡ up_to (arriving_at (mesh_of l)) c ++ arriving_from (mesh_of l) c n
    unfolding up_to arriving_from
    from_upto zero c = ap (up_to (arriving_at (mesh_of l))) (add-zero c) ∙ sym (append-nil (up_to (arriving_at (mesh_of l)) c))
    from_upto (suc n) c =
        ap (up_to (arriving_at (mesh_of l))) (add-suc c n ∙ sym (suc-add c n)) ∙ from_upto n (suc c)
        ∙ append_assoc (up_to (arriving_at (mesh_of l)) c) (arriving_at (mesh_of l) c) (arriving_from (mesh_of l) (suc c) n)

    pub aside_arrivals : up_to (aside_from l₁) (chips_of l) ≡ arrivals (mesh_of l)
    unfolding up_to mesh_of
    aside_arrivals =
        upto_same (aside_from l₁) (arriving_at (mesh_of l)) (chips_of l) (λ c h. at_aside c) ∙ ap (up_to (arriving_at (mesh_of l))) (sym (zero-add (chips_of l))) ∙ from_upto (chips_of l) 0

    -- no link has set more aside than it held
    pub few_aside : ((c j : ℕ) → c < chips_of l → j < 6 → get_or (link_words j (chip_words c l)) held_at 0 ≤ 8) → AsideFew l₁
    few_aside few c j hc hj =
        let there : c < chips_of l = subst (λ (k : ℕ). c < k) (λ i. number height_at (lit< tt) i * number width_at (lit< tt) i) hc in
        let w = link_words j (chip_words c l) in
        let w₁ = link_words j (chip_words c l₁) in
        let e : get_or w₁ aside_at 0 ≡ get_or w held_at 0 =
        sym (length_places (get_or w₁ aside_at 0) (drop aside_places_at w₁)) ∙ ap length ((u.done c there).aside j hj) ∙ length_places (get_or w held_at 0) (drop places_at w) in
        subst (λ (k : ℕ). k ≤ 8) (sym e) (few c j there hj)

-- ---- the phase stepped on

chips_before_lem : (i x : ℕ) (l : List ℕ) → i < 6 → (n c : ℕ) → chips_in c n (set l i x) ≡ chips_in c n l
unfolding chips_in
chips_before_lem i x l h zero c = refl
chips_before_lem i x l h (suc n) c = λ k. chip_in (take chip_long (drop-set-lt (chip_place c) l i x (omega arith) k)) ∷ chips_before_lem i x l h n (suc c) k

pub mesh_over : (l : List ℕ) → header_long ≤ length l → mesh_of (over_words l) ≡ round_over (mesh_of l)
unfolding mesh_of
mesh_over l long = go (ltb (get_or l elapsed_at 0 + 1) (get_or l rounds_at 0))
  where
    go : (b : Bool) → mesh_of (cond b (set l elapsed_at (get_or l elapsed_at 0 + 1)) (set (set l elapsed_at 0) phase_at (next_phase (get_or l phase_at 0))))
        ≡ record {
          width = get_or l width_at 0;
          height = get_or l height_at 0;
          rounds = get_or l rounds_at 0;
          monitor = get_or l monitor_at 0;
          phase = cond b (get_or l phase_at 0) (next_phase (get_or l phase_at 0));
          elapsed = cond b (get_or l elapsed_at 0 + 1) 0;
          chips = chips_in 0 (chips_of l) l;
        }
    go true =
        let x = get_or l elapsed_at 0 + 1 in
        let other : (i : ℕ) → i < 5 → get_or (set l elapsed_at x) i 0 ≡ get_or l i 0 = λ i h. get_or-set_other l elapsed_at i x 0 (λ e. omega arith) in
        λ k. record {
          width = other width_at (lit< tt) k;
          height = other height_at (lit< tt) k;
          rounds = other rounds_at (lit< tt) k;
          monitor = other monitor_at (lit< tt) k;
          phase = other phase_at (lit< tt) k;
          elapsed = get_or-set_same l 5 x 0 (omega arith) k;
          chips = ((λ i. chips_in 0 (other height_at (lit< tt) i * other width_at (lit< tt) i) (set l elapsed_at x)) ∙ chips_before_lem elapsed_at x l (lit< tt) (chips_of l) 0) k;
        }
    go false =
        let x = next_phase (get_or l phase_at 0) in
        let other : (i : ℕ) → i < 4 → get_or (set (set l elapsed_at 0) phase_at x) i 0 ≡ get_or l i 0 = λ i h. get_or-set_other (set l elapsed_at 0) phase_at i x 0 (λ e. omega arith) ∙ get_or-set_other l elapsed_at i 0 0 (λ e. omega arith) in
        λ k. record {
          width = other width_at (lit< tt) k;
          height = other height_at (lit< tt) k;
          rounds = other rounds_at (lit< tt) k;
          monitor = other monitor_at (lit< tt) k;
          phase = get_or-set_same (set l elapsed_at 0) phase_at x 0 (simp length-set (omega arith)) k;
          elapsed = (get_or-set_other (set l elapsed_at 0) phase_at elapsed_at x 0 (λ e. omega arith) ∙ get_or-set_same l elapsed_at 0 0 (omega arith)) k;
          chips = ((λ i. chips_in 0 (other height_at (lit< tt) i * other width_at (lit< tt) i) (set (set l elapsed_at 0) phase_at x)) ∙ chips_before_lem phase_at x (set l elapsed_at 0) (lit< tt) (chips_of l) 0 ∙ chips_before_lem elapsed_at 0 l (lit< tt) (chips_of l) 0) k;
        }

pub length_over : (l : List ℕ) → length (over_words l) ≡ length l
length_over l = go (ltb (get_or l elapsed_at 0 + 1) (get_or l rounds_at 0))
  where
    go : (b : Bool) → length (cond b (set l elapsed_at (get_or l elapsed_at 0 + 1)) (set (set l elapsed_at 0) phase_at (next_phase (get_or l phase_at 0)))) ≡ length l
    go true = length-set l elapsed_at _
    go false = length-set (set l elapsed_at 0) phase_at _ ∙ length-set l elapsed_at 0

-- nothing behind the header changes
pub over_behind : (l : List ℕ) (b : ℕ) → header_long ≤ b → drop b (over_words l) ≡ drop b l
over_behind l b h = go (ltb (get_or l elapsed_at 0 + 1) (get_or l rounds_at 0))
  where
    go : (t : Bool) → drop b (cond t (set l elapsed_at (get_or l elapsed_at 0 + 1)) (set (set l elapsed_at 0) phase_at (next_phase (get_or l phase_at 0)))) ≡ drop b l
    go true = drop-set-lt b l elapsed_at _ (omega arith)
    go false = drop-set-lt b (set l elapsed_at 0) phase_at _ (omega arith) ∙ drop-set-lt b l elapsed_at 0 (omega arith)
