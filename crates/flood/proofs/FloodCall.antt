-- What the call answers and leaves, refused or not.
use Prim.Native.Nat.{ℕ, ◌*◌, ◌≤◌}
use mathlib.Core.Path.{◌≡◌, refl, sym, ap, ◌∙◌}
use mathlib.Core.Bool.{Bool, true, cond}
use mathlib.Core.List.{List}
use lib.ListN.{length, get_or}
use borrow.Author.Tests.{eq-eqb, ne_eqb, eqb-true, not-false}
use Rattle.packet.specs.Refusal.{first_of}
use Rattle.packet.proofs.First.{none_applies}
use Rattle.tables.specs.Sizes.{size_fine}
use Rattle.tables.proofs.Sizes.{chips_small}
use Rattle.links.specs.Offsets.{width_at, height_at}
use Rattle.buffer.specs.Layout.{mesh_of, chips_of, words_of}
use Rattle.buffer.specs.Holding.{holds_mesh}
use Rattle.buffer.proofs.HoldsMesh.{holds_size, words_enough}
use Rattle.flood.specs.Codes.{codes_of, flood_refusals, flood_refusal, flooded}

-- The call's answer and its codes, as they are promised.
abbrev pub Answers : List ℕ → List ℕ → ℕ → List ℕ → Type 0
Answers l codes r after = (r ≡ flood_refusal (holds_mesh l) (mesh_of l) codes) × (after ≡ flooded (holds_mesh l) (mesh_of l) codes)

-- What is known where no refusal applies.
pub record Accepted (l codes : List ℕ) : Type 0 where
  pub holds : holds_mesh l ≡ true
  pub size : size_fine (get_or l width_at 0) (get_or l height_at 0) ≡ true
  pub words : words_of l ≤ length l
  pub few : chips_of l ≤ 144
  pub long : length codes ≡ chips_of l * chips_of l

module _ (l codes : List ℕ) (r : ℕ) (e : r ≡ first_of (flood_refusals (holds_mesh l) (chips_of l) (length codes))) where
  pub refused : (r ≡ 0 → ⊥) → Answers l codes r codes
  unfolding mesh_of
  refused some = (e, sym (ap (λ (b : Bool). cond b (codes_of (mesh_of l)) codes) (ne_eqb _ 0 (λ z. some (e ∙ z)))))

  pub accepted : r ≡ 0 → Accepted l codes
  accepted none =
      let off = none_applies (flood_refusals (holds_mesh l) (chips_of l) (length codes)) refl (sym e ∙ none) in
      let holds = not-false _ off.0 in
      record {
        holds = holds;
        size = holds_size l holds;
        words = words_enough l holds;
        few = chips_small (get_or l width_at 0) (get_or l height_at 0) (holds_size l holds);
        long = eqb-true _ _ (not-false _ off.1.0);
      }

  pub answered : r ≡ 0 → (after : List ℕ) → after ≡ codes_of (mesh_of l) → Answers l codes 0 after
  unfolding mesh_of
  answered none after w = (sym none ∙ e, w ∙ sym (ap (λ (b : Bool). cond b (codes_of (mesh_of l)) codes) (eq-eqb _ 0 (sym e ∙ none))))
