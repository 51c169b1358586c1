-- Opening a mesh: what is refused, in order, and the words of the mesh that is opened.
use Rattle.std.specs.Prelude.{ℕ, ◌*◌, cond, not, List, [], ◌∷◌, ◌++◌, drop, replicate, ◌==◌, nat_lt}
use Rattle.packet.specs.Refusal.{Refusal, refuse}
use Rattle.tables.specs.Sizes.{size_fine}
use Rattle.buffer.specs.declared.opening.SizeRead.{SizeRead}
use Rattle.buffer.specs.Layout.{words_for}
use Rattle.mesh.specs.Mesh.{rounds_fine}
use Rattle.links.specs.Offsets.{chip_long}

-- "On opening 7, 6, 8": W, H or F out of range; monitor above 19; buffer too short.
abbrev pub open_refusals : ℕ → ℕ → ℕ → ℕ → ℕ → List Refusal
open_refusals words width height rounds monitor =
    refuse (not (size_fine width height)) 7 ∷ refuse (not (rounds_fine rounds)) 7 ∷ refuse (nat_lt 19 monitor) 6
    ∷ refuse (nat_lt words (words_for width height)) 8
    ∷ []

-- The header, zeros for every chip, and the words past the needed length as they were.
abbrev pub opened_words : List ℕ → ℕ → ℕ → ℕ → ℕ → List ℕ
opened_words l width height rounds monitor =
    width ∷ height ∷ rounds ∷ monitor ∷ 0 ∷ 0 ∷ replicate (height * width * chip_long) 0 ++ drop (words_for width height) l

-- "Lent memory stays as it came" where a call is refused.
abbrev pub opening : ℕ → List ℕ → ℕ → ℕ → ℕ → ℕ → List ℕ
opening refusal l width height rounds monitor = cond (refusal == 0) (opened_words l width height rounds monitor) l

abbrev pub size_of : ℕ → ℕ → SizeRead
size_of width height =
    cond (size_fine width height) (record { refusal = 0; words = words_for width height }) (record { refusal = 7; words = 0 })
