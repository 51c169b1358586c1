-- How large a mesh may be.
use Rattle.std.specs.Prelude.{ℕ, Bool, ◌&&◌, leb}

-- "W and H are 1 to 12".
abbrev pub size_fine : ℕ → ℕ → Bool
size_fine width height = leb 1 width && leb width 12 && leb 1 height && leb height 12
