-- P2P codes by flooding: each code, all of them, and the call.
use Rattle.std.specs.Prelude.{ℕ, ◌*◌, Bool, cond, not, List, [], ◌∷◌, eqb, ltb, length}
use Rattle.packet.specs.Refusal.{Refusal, refuse, first_of}
use Rattle.lists.specs.Lists.{up_to}
use Rattle.mesh.specs.Mesh.{Mesh, many}
use Rattle.flood.specs.Ways.{fewest, first_link}

module _ {A : Type 0} (m : Mesh A) where
  -- "A chip's code for itself is 7; for a chip it can't reach over up links, 6; else the lowest link that begins a way of fewest links."
  abbrev pub code_of : ℕ → ℕ → ℕ
  code_of from to = cond (eqb from to) 7 (cond (ltb (fewest m from to) (many m)) (first_link m from to) 6)

  -- Chip after chip, as injection and round take them.
  abbrev pub codes_from : ℕ → List ℕ
  codes_from from = up_to (λ to. code_of from to ∷ []) (many m)

  unfoldable pub codes_of : List ℕ
  codes_of = up_to codes_from (many m)

-- "8 for a buffer without a mesh, 11 for a table of the wrong size." `long` is how many codes there is room for.
abbrev pub flood_refusals : Bool → ℕ → ℕ → List Refusal
flood_refusals holds chips long = refuse (not holds) 8 ∷ refuse (not (eqb long (chips * chips))) 11 ∷ []

-- A refused call leaves the table as it came.
module _ {A : Type 0} (holds : Bool) (m : Mesh A) (codes : List ℕ) where
  abbrev pub flood_refusal : ℕ
  flood_refusal = first_of (flood_refusals holds (many m) (length codes))

  abbrev pub flooded : List ℕ
  flooded = cond (eqb flood_refusal 0) (codes_of m) codes
