-- No directed link ever holds more than 8 packets: the mesh of every history is sound, since a pass sends by ready links alone.
use native.Mathlib.Omega.{arith}
use Rattle.links.specs.Link.{idle}
use Rattle.mesh.specs.Sound.{SoundLink}
use Rattle.lists.proofs.Alls.{all_get_d}
use Rattle.mesh.proofs.SoundChanges.{chip_sound}
use Rattle.promises.specs.Demand3.{NoLinkAbove8}
use Rattle.promises.proofs.Histories.{sound_always}

pub no_link_above_8 : NoLinkAbove8
no_link_above_8 w h f monitor o xs chip link there near =
    let c = chip_sound (sound_always w h f monitor o xs) chip there in (all_get_d SoundLink _ link idle c.links (omega (arith, c.six))).few
