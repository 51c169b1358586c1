use mathlib.Core.Path.{◌≡◌}
use mathlib.Core.Bool.{true}
use Prim.Native.Nat.{ℕ, ◌+◌, ◌*◌, ◌%◌, ◌<◌}
use native.Mathlib.Nat.{mod-lt}
use Rattle.tables.specs.Sizes.{size_fine}
use Rattle.tables.proofs.Chips.{chip_below}
use Rattle.tables.proofs.Sizes as sizes
use Rattle.links.proofs.across.across_link.Goals as goal

-- the chips of the row that the link leads to are there
row : (width height y : ℕ) → size_fine width height ≡ true → {north : ℕ} → north ≡ y % height → (x : ℕ) → x < width → north * width + x < 144
row width height y fine e x low =
    let s = sizes.size width height fine in
    rw e (chip_below _ _ x _ s.width_high s.height_high low (mod-lt y s.height_low)).small

pub returns-clause-upper_bound : goal.returns-clause-upper_bound
returns-clause-upper_bound c =
    let a = c.args in
    let x : c.east_of.result < a.width = rw c.east_of.ensures (mod-lt _ (sizes.size a.width a.height c.requires.0).width_low) in
    row a.width a.height _ c.requires.0 c.north_of.ensures _ x
