-- Sums over what is in flight: how many packets a mesh has in flight, or what they weigh together.
use Rattle.std.specs.Prelude.{ℕ}
use Rattle.lists.specs.Lists.{total}
use Rattle.links.specs.Link.{Flight, Link}
use Rattle.mesh.specs.Mesh.{Chip, Mesh}

module _ {A : Type 0} (w : Flight A → ℕ) where
  abbrev pub weight_on : Link A → ℕ
  weight_on l = total w l.held

  abbrev pub on_chip : Chip A → ℕ
  on_chip c = total weight_on c.links

  abbrev pub on_mesh : Mesh A → ℕ
  on_mesh m = total on_chip m.chips

-- How many packets are in flight.
abbrev pub in_flight : {A : Type 0} → Mesh A → ℕ
in_flight m = on_mesh (λ f. 1) m
