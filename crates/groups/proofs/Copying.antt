-- A list whose first words are those of another, with one more of them.
use Prim.Native.Nat.{ℕ, suc, ◌+◌, ◌<◌}
use mathlib.Core.Path.{◌≡◌, sym, ap, ◌∙◌}
use mathlib.Core.List.{List, [], ◌∷◌, ◌++◌, append_assoc}
use native.Mathlib.Omega.{arith}
use native.Mathlib.Numerals.{add-one}
use lib.ListN.{length, get_or, set, take, drop}
use lib.Seq.{drop-cons, set_at, length-take-le}
use Rattle.groups.proofs.Listing.{one_more}

pub one_copied : (marks room₀ room : List ℕ) (g : ℕ) → g < length marks → g < length room₀ → room ≡ take g marks ++ drop g room₀
    → set room g (get_or marks g 0) ≡ take (g + 1) marks ++ drop (g + 1) room₀
one_copied marks room₀ room g m h e =
    ap (λ (l : List ℕ). set l g (get_or marks g 0)) (e ∙ ap (λ (l : List ℕ). take g marks ++ l) (drop-cons room₀ g 0 h))
    ∙ set_at (take g marks) (get_or room₀ g 0) (drop (suc g) room₀) (get_or marks g 0) g (length-take-le g marks (omega arith))
    ∙ sym (append_assoc (take g marks) (get_or marks g 0 ∷ []) (drop (suc g) room₀))
    ∙ (λ i. sym (one_more marks g m) i ++ drop (sym (add-one g) i) room₀)
