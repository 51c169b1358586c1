-- What a lab is promised of the codes.
use Rattle.std.specs.Prelude.{ℕ, suc, ◌*◌, ◌≤◌, ◌<◌, ◌≡◌, true, List, ◌∷◌, length}
use Rattle.tables.specs.Accept.{codes_fine}
use Rattle.mesh.specs.Mesh.{Mesh, many}
use Rattle.mesh.specs.Sound.{SoundMesh}
use Rattle.flood.specs.Ways.{Way, fewest}
use Rattle.flood.specs.Codes.{code_of, codes_of}

-- "6 exactly when no way exists".
pub record SixExactly {A : Type 0} (m : Mesh A) (from to : ℕ) : Type 0 where
  pub no_way : code_of m from to ≡ 6 → (links : List ℕ) → Way m from to links → ⊥
  pub six : ((links : List ℕ) → Way m from to links → ⊥) → code_of m from to ≡ 6

-- The code is a link: it begins a way of fewest links, no way is shorter, and no lower link begins one as short.
pub record Begins {A : Type 0} (m : Mesh A) (from to code : ℕ) : Type 0 where
  pub links : List ℕ
  pub way : Way m from to (code ∷ links)
  pub shortest : (others : List ℕ) → Way m from to others → suc (length links) ≤ length others
  pub counted : suc (length links) ≡ fewest m from to
  pub lowest : (i : ℕ) (others : List ℕ) → Way m from to (i ∷ others) → length others ≤ length links → code ≤ i

abbrev pub SixWhereNoWay : Type 1
SixWhereNoWay = (A : Type 0) (m : Mesh A) → SoundMesh m → (from to : ℕ) → from < many m → to < many m → SixExactly m from to

abbrev pub FewestLinks : Type 1
FewestLinks = (A : Type 0) (m : Mesh A) → SoundMesh m → (from to : ℕ) → from < many m → to < many m → code_of m from to < 6 → Begins m from to (code_of m from to)

abbrev pub OneselfSeven : Type 1
OneselfSeven = (A : Type 0) (m : Mesh A) (from to : ℕ) → from < many m → to < many m → (code_of m from to ≡ 7 → from ≡ to) × (from ≡ to → code_of m from to ≡ 7)

-- "The tables are acceptable to injection and round".
abbrev pub Acceptable : Type 1
Acceptable = (A : Type 0) (m : Mesh A) → codes_fine (codes_of m) (many m * many m) ≡ true
