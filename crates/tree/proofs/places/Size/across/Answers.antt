use Rattle.std.proofs.Common.{refl}
use Rattle.tree.proofs.Standing.{leads_across}
use Rattle.tree.proofs.places.Size.across.Goals as goal

pub returns-clause-number : goal.returns-clause-number
returns-clause-number c = let a = c.args in
    leads_across a.self.fine a.link (record { east_low = c.requires.east_low; north_low = c.requires.north_low }) c.east_of.ensures c.north_of.ensures refl refl
