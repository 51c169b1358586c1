-- The ways of a grown tree and the ways of a flood: "a way's length is the fewest links between the two chips on a mesh with all links up".
use Rattle.std.specs.Prelude.{ℕ, ◌<◌, ◌≡◌, true, length}
use Rattle.mesh.specs.Mesh.{Mesh, many}
use Rattle.mesh.specs.Sound.{SoundMesh}
use Rattle.flood.specs.Ways.{is_up, fewest}
use Rattle.tree.specs.Way.{links_of, way_between}

abbrev pub AllUp : {A : Type 0} → Mesh A → Type 0
AllUp m = (chip i : ℕ) → chip < many m → i < 6 → is_up m chip i ≡ true

abbrev pub FewestOfAll : Type 1
FewestOfAll = (A : Type 0) (m : Mesh A) → SoundMesh m → AllUp m → (from to : ℕ) → from < many m → to < many m
    → length (links_of (way_between m.width m.height from to)) ≡ fewest m from to
