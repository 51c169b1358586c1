-- A sound mesh stays sound where chips of it change to sound ones: over a link change and over a chip's registers being read.
use mathlib.Core.Path.{◌≡◌, refl, ◌∙◌}
use mathlib.Core.Bool.{Bool}
use mathlib.Core.List.{List}
use Prim.Native.Nat.{ℕ, ◌*◌, ◌<◌}
use native.Mathlib.Omega.{arith}
use lib.ListN.{length, get_or, length-set}
use Rattle.links.specs.Link.{idle}
use Rattle.mesh.specs.Mesh.{Chip, Mesh, fresh}
use Rattle.mesh.specs.Steps.{with_chips, with_chip}
use Rattle.mesh.specs.Calls.{with_link, with_empty}
use Rattle.mesh.specs.Sound.{SoundLink, SoundChip, SoundMesh}
use Rattle.lists.specs.Lists.{All}
use Rattle.lists.proofs.Alls.{all_get_d, all_set}

module _ {A : Type 0} {m : Mesh A} (sound : SoundMesh m) where
  -- other chips, all else as it was
  pub sound_chips : (chips : List (Chip A)) → length chips ≡ length m.chips → All SoundChip chips → SoundMesh (with_chips m chips)
  sound_chips chips long fine =
      record {
        size = sound.size;
        rounds = sound.rounds;
        monitor = sound.monitor;
        phase = sound.phase;
        elapsed = sound.elapsed;
        many = long ∙ sound.many;
        chips = fine;
      }

  -- one chip changed
  pub sound_chip : (chip : ℕ) (c : Chip A) → SoundChip c → SoundMesh (with_chip m chip c)
  sound_chip chip c h = sound_chips _ (length-set m.chips chip c) (all_set SoundChip m.chips chip c sound.chips h)

  pub chip_sound : (chip : ℕ) → chip < m.height * m.width → SoundChip (get_or m.chips chip fresh)
  chip_sound chip h = all_get_d SoundChip m.chips chip fresh sound.chips (omega (arith, sound.many))

  pub sound_linked : (chip link : ℕ) (up : Bool) → chip < m.height * m.width → link < 6 → SoundMesh (with_link m chip link up)
  sound_linked chip link up h k =
      let c = chip_sound chip h in
      let l : SoundLink (get_or (get_or m.chips chip fresh).links link idle) = all_get_d SoundLink (get_or m.chips chip fresh).links link idle c.links (omega (arith, c.six)) in
      sound_chip chip _
      (record {
        six = length-set (get_or m.chips chip fresh).links link _ ∙ c.six;
        registers = c.registers;
        links = all_set SoundLink (get_or m.chips chip fresh).links link _ c.links (record { few = l.few; fine = l.fine });
      })

  pub sound_emptied : (chip : ℕ) → chip < m.height * m.width → SoundMesh (with_empty m chip)
  sound_emptied chip h = let c = chip_sound chip h in sound_chip chip _ (record { six = c.six; registers = refl; links = c.links })
