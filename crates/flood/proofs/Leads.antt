-- Where a link leads, as the mesh's words say it.
use Prim.Native.Nat.{ℕ, ◌+◌, ◌*◌, ◌/◌, ◌%◌, ◌≤◌, ◌<◌}
use mathlib.Core.Path.{◌≡◌, refl, sym, ap, ◌∙◌}
use mathlib.Core.Bool.{Bool, true, cond}
use mathlib.Core.List.{List}
use native.Mathlib.Omega.{arith}
use native.Mathlib.Nat.{mod-lt, div-lt_iff_lt-mul}
use lib.Dec.{eqb}
use mathlib.Core.Logic.{⊎_elim}
use lib.ListN.{length, get_or, set}
use lib.Seq.{get_or-set_same, get_or-set_other}
use Rattle.lists.proofs.Firsts.{lt_or_ge}
use borrow.Author.Tests.{eq-eqb, ne_eqb}
use Rattle.tables.specs.Sizes.{size_fine}
use Rattle.tables.proofs.Sizes.{size, chips_small}
use Rattle.links.specs.Link.{Link}
use Rattle.links.specs.Across.{across}
use Rattle.links.specs.Offsets.{width_at, height_at, state_at, chip_long, chip_place, link_place}
use Rattle.buffer.specs.Layout.{mesh_of, chips_of}
use Rattle.buffer.specs.Holding.{holds_mesh}
use Rattle.buffer.proofs.HoldsMesh.{holds_size, words_enough}
use Rattle.buffer.proofs.Looks.{link_of_lem}
use Rattle.buffer.proofs.LinkWords.{word_at}
use Rattle.flood.specs.Ways.{is_up, beyond}
use Rattle.flood.specs.Marks.{lead_of, Around}

-- What the words of a buffer that holds a mesh allow at a chip.
pub record OnMesh (l : List ℕ) (chip : ℕ) : Type 0 where
  pub size : size_fine (get_or l width_at 0) (get_or l height_at 0) ≡ true
  pub fits : chip_place chip + chip_long ≤ length l
  pub few : chip < 144
  pub wide : 1 ≤ get_or l width_at 0
  pub east : chip % get_or l width_at 0 < get_or l width_at 0
  pub north : chip / get_or l width_at 0 < get_or l height_at 0

pub on_mesh_lem : (l : List ℕ) (chip : ℕ) → holds_mesh l ≡ true → chip < chips_of l → OnMesh l chip
on_mesh_lem l chip holds h =
    let s = holds_size l holds in
    let wide : 1 ≤ get_or l width_at 0 = (size (get_or l width_at 0) (get_or l height_at 0) s).width_low in
    record {
      size = s;
      fits = omega (arith, words_enough l holds);
      few = omega (arith, chips_small (get_or l width_at 0) (get_or l height_at 0) s);
      wide = wide;
      east = mod-lt chip wide;
      north = (div-lt_iff_lt-mul wide).1 h;
    }

module _ (l : List ℕ) (chip i : ℕ) (near : chip < chips_of l) (link : i < 6) where
  up_of : is_up (mesh_of l) chip i ≡ eqb (get_or l (chip_place chip + link_place i + state_at) 0) 0
  up_of = ap (λ (x : Link (Unit {0})). x.up) (link_of_lem l chip i near link) ∙ ap (λ (n : ℕ). eqb n 0) (word_at chip i state_at l link (omega arith))

  pub leads_down : (get_or l (chip_place chip + link_place i + state_at) 0 ≡ 0 → ⊥) → 255 ≡ lead_of (mesh_of l) chip i
  leads_down some = sym (ap (λ (b : Bool). cond b (beyond (mesh_of l) chip i) 255) (up_of ∙ ne_eqb _ 0 some))

  pub leads_up : get_or l (chip_place chip + link_place i + state_at) 0 ≡ 0 → across (get_or l width_at 0) (get_or l height_at 0) chip i ≡ lead_of (mesh_of l) chip i
  unfolding mesh_of
  leads_up none = sym (ap (λ (b : Bool). cond b (beyond (mesh_of l) chip i) 255) (up_of ∙ eq-eqb _ 0 none))

-- a list filled from the front, one place at a time
pub set_next : (f : ℕ → ℕ) (l : List ℕ) (k v : ℕ) → k < length l → v ≡ f k → ((j : ℕ) → j < k → get_or l j 0 ≡ f j) → (j : ℕ) → j < k + 1 → get_or (set l k v) j 0 ≡ f j
set_next f l k v h e before j hj =
    ⊎_elim (λ (b : j < k). get_or-set_other l k j v 0 (λ (s : j ≡ k). omega arith) ∙ before j b)
    (λ (b : k ≤ j). let s : j ≡ k = omega arith in ap (λ (i : ℕ). get_or (set l k v) i 0) s ∙ get_or-set_same l k v 0 h ∙ e ∙ ap f (sym s))
    (lt_or_ge j k)

-- all links, six a chip, one behind the other
pub around_whole : (l around : List ℕ) → holds_mesh l ≡ true → ((j : ℕ) → j < chips_of l * 6 → get_or around j 0 ≡ lead_of (mesh_of l) (j / 6) (j % 6)) → Around (mesh_of l) (chips_of l) around
unfolding mesh_of
around_whole l around holds each =
    record {
      size = holds_size l holds;
      many_here = refl;
      each = λ chip i hc hi.
          let d : (chip * 6 + i) / 6 ≡ chip = omega arith in
          let r : (chip * 6 + i) % 6 ≡ i = omega arith in
          each (chip * 6 + i) (omega arith) ∙ (λ k. lead_of (mesh_of l) (d k) (r k));
    }
