-- A pass at a chip of a mesh's words: what the chip's block becomes, the mesh becomes.
use Rattle.std.proofs.Common.{◌≡◌, ℕ, ◌+◌, ◌<◌, ◌≤◌, ◌⊎◌, List, length, get_or, drop, ap, ◌∙◌, subst, inl, inr, arith, length-drop, length-take-le}
use Rattle.packet.specs.declared.Packet.{Packet}
use Rattle.steps.specs.declared.Outcome.{Outcome}
use Rattle.steps.specs.Deciding.{Checked}
use Rattle.steps.proofs.Bounds.{set_small}
use Rattle.links.specs.Offsets.{chip_long, chip_place}
use Rattle.links.specs.Link.{is_ready, idle}
use Rattle.links.specs.LinkWords.{still}
use Rattle.buffer.specs.Layout.{chip_in, mesh_of, chips_of, words_of}
use Rattle.mesh.specs.Steps.{with_chip}
use Rattle.lists.specs.Lists.{put_back}
use Rattle.buffer.specs.ChipWords.{link_words, ChipStep}
use Rattle.buffer.specs.OnePass.{chip_words, setting_in, CheckedAt, MeshStep}
use Rattle.lists.proofs.Parts.{length_back, part_same, part_before, part_behind, take_before, drop_behind}
use Rattle.buffer.proofs.ChipParts.{order}
use Rattle.buffer.proofs.MeshParts.{mesh_put}
use Rattle.tables.specs.Tables.{ChipTables}

pub checked_at : (l : List ℕ) (chip source : ℕ) (p : Packet) (tables : ChipTables) → CheckedAt l chip source p tables.codes → source < 8 → Checked p source tables (setting_in l chip)
checked_at l chip source p tables r near =
    record {
      control = r.control;
      from = near;
      monitor = r.monitor;
      phase = r.phase;
      ready = set_small (λ i. is_ready (get_or (chip_in (chip_words chip l)).links i idle));
      width = r.width;
      height = r.height;
      enough = r.enough;
    }

pub chip_long_lem : (l : List ℕ) (chip : ℕ) → chip_place chip + chip_long ≤ length l → length (chip_words chip l) ≡ chip_long
chip_long_lem l chip fits = length-take-le chip_long (drop (chip_place chip) l) (simp length-drop (omega arith))

module _ (l ys : List ℕ) (chip : ℕ) (o : Outcome) (fits : chip_place chip + chip_long ≤ length l) (there : chip < chips_of l) (step : ChipStep (chip_words chip l) ys o) where
  kept : (c j : ℕ) → j < 6 → still (link_words j (chip_words c (put_back (chip_place chip) chip_long ys l))) ≡ still (link_words j (chip_words c l))
  kept c j hj = go (order chip c)
    where
      go : (chip < c) ⊎ ((chip ≡ c) ⊎ (c < chip)) → still (link_words j (chip_words c (put_back (chip_place chip) chip_long ys l))) ≡ still (link_words j (chip_words c l))
      go (inl h) = ap (λ (w : List ℕ). still (link_words j w)) (part_behind (chip_place chip) chip_long ys l fits step.long (chip_place c) chip_long (omega arith))
      go (inr (inl h)) = subst (λ (k : ℕ). still (link_words j (chip_words k (put_back (chip_place chip) chip_long ys l))) ≡ still (link_words j (chip_words k l))) h
          (ap (λ (w : List ℕ). still (link_words j w)) (part_same (chip_place chip) chip_long ys l fits step.long) ∙ step.still j hj)
      go (inr (inr h)) = ap (λ (w : List ℕ). still (link_words j w)) (part_before (chip_place chip) chip_long ys l fits step.long (chip_place c) chip_long (omega arith))

  pub mesh_step : MeshStep l (put_back (chip_place chip) chip_long ys l) chip o
  mesh_step =
      record {
        long = length_back (chip_place chip) chip_long ys l fits step.long;
        head = take_before (chip_place chip) chip_long ys l fits step.long 6 (omega arith);
        mesh = mesh_put chip ys l fits step.long there ∙ ap (with_chip (mesh_of l) chip) step.chip;
        still = kept;
        past = drop_behind (chip_place chip) chip_long ys l fits step.long (words_of l) (omega arith);
      }
