-- How many packets were set aside for a chip, counted link by link.
use Rattle.std.proofs.Common.{◌≡◌, ℕ, ◌+◌, List, length, sym, refl, ap, ◌∙◌, add-one, length-append}
use Rattle.lists.specs.Lists.{up_to}
use Rattle.buffer.specs.PassesInTurn.{aside_by}

module _ (l : List ℕ) (chip : ℕ) where
  pub counted_none : 0 ≡ length (up_to (aside_by l chip) 0)
  unfolding up_to
  counted_none = refl

  pub counted_next : (source count here : ℕ) → count ≡ length (up_to (aside_by l chip) source) → here ≡ length (aside_by l chip source)
      → count + here ≡ length (up_to (aside_by l chip) (source + 1))
  unfolding up_to
  counted_next source count here e h =
      (λ i. e i + h i)
      ∙ sym (length-append (up_to (aside_by l chip) source) (aside_by l chip source))
      ∙ ap (λ (k : ℕ). length (up_to (aside_by l chip) k)) (sym (add-one source))
