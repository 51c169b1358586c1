-- 7 is a chip's code for itself alone.
use mathlib.Core.Path.{◌≡◌, refl}
use mathlib.Core.Bool.{Bool, true, false, cond}
use native.Mathlib.Omega.{arith}
use lib.Dec.{eqb, ltb}
use borrow.Author.Tests.{eq-eqb, eqb-true}
use Rattle.mesh.specs.Mesh.{many}
use Rattle.flood.specs.Ways.{fewest, first_link}
use Rattle.flood.specs.Shortest.{OneselfSeven}
use Rattle.flood.proofs.FirstLinks.{link_most, code_oneself}

pub oneself_seven : OneselfSeven
oneself_seven A m from to hf ht = (λ e. eqb-true from to (go (eqb from to) refl (ltb (fewest m from to) (many m)) e), λ e. code_oneself m from to (eq-eqb from to e))
  where
    go : (a : Bool) → eqb from to ≡ a → (b : Bool) → cond a 7 (cond b (first_link m from to) 6) ≡ 7 → eqb from to ≡ true
    go true x b e = x
    go false x true e = absurd (omega (arith, link_most m from to))
    go false x false e = absurd (omega arith)
