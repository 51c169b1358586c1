-- What arrives in a sound mesh may pass: at a chip that is there, by a link, a packet that is sound.
use mathlib.Core.Path.{sym, subst}
use mathlib.Core.Logic.{inl}
use mathlib.Core.Bool.{and-eq-true_iff}
use Prim.Native.Nat.{ℕ, zero, suc, ◌+◌, ◌*◌, ◌≤◌, ◌<◌}
use native.Mathlib.Omega.{arith}
use lib.Dec.{lit<}
use lib.ListN.{get_or}
use borrow.Author.Tests.{ltb-true, eqb-true, not-true}
use Rattle.packet.specs.declared.Packet.{Packet}
use Rattle.tables.proofs.Sizes as sizes
use Rattle.links.specs.Link.{idle}
use Rattle.links.specs.Across.{across, opposite}
use Rattle.links.proofs.Crossing.{across_there, opposite_there}
use Rattle.mesh.specs.Mesh.{Mesh, fresh}
use Rattle.mesh.specs.Steps.{arriving_by, arriving_at, arriving_from, arrivals}
use Rattle.lists.specs.Lists.{All}
use Rattle.mesh.specs.Sound.{Passable, Arrives, SoundPacket, SoundLink, SoundChip, SoundMesh}
use Rattle.lists.proofs.Alls.{all_nil, all_append, all_get_d, all_map, all_weaken}

pub sound_passable : {p : Packet} → SoundPacket p → Passable p
sound_passable h =
    let t : _ = simp and-eq-true_iff at h.fine in
    record {
      control = ltb-true _ _ t.0.0.0;
      plain = not-true _ t.0.0.1;
      nine = omega (arith, h.right);
      absent = λ e. eqb-true _ _ (simp e at t.1);
    }

module _ {A : Type 0} {m : Mesh A} (sound : SoundMesh m) where
  by_sound : (chip source : ℕ) → chip < m.height * m.width → source < 6 → All (Arrives (m.height * m.width)) (arriving_by m chip source)
  by_sound chip source hc hs =
      all_map (Arrives (m.height * m.width)) _ _
      (all_weaken (λ f. SoundPacket f.packet) _ (λ f p. record { there = hc; from = inl hs; passable = sound_passable p }) _ link.fine)
    where
      size : sizes.Size m.width m.height
      size = sizes.size m.width m.height sound.size

      sender : SoundChip (get_or m.chips (across m.width m.height chip source) fresh)
      sender = all_get_d SoundChip m.chips _ fresh sound.chips (subst (λ (n : ℕ). across m.width m.height chip source < n) (sym sound.many) (across_there m.width m.height chip source size.width_low size.height_low))

      link : SoundLink (get_or (get_or m.chips (across m.width m.height chip source) fresh).links (opposite source) idle)
      link = all_get_d SoundLink _ (opposite source) idle sender.links (subst (λ (n : ℕ). opposite source < n) (sym sender.six) (opposite_there source))

  at_sound : (chip : ℕ) → chip < m.height * m.width → All (Arrives (m.height * m.width)) (arriving_at m chip)
  at_sound chip hc =
      all_append _ _ _
      (all_append _ _ _
      (all_append _ _ _
      (all_append _ _ _ (all_append _ _ _ (by_sound chip 0 hc (lit< tt)) (by_sound chip 1 hc (lit< tt))) (by_sound chip 2 hc (lit< tt)))
      (by_sound chip 3 hc (lit< tt)))
      (by_sound chip 4 hc (lit< tt)))
      (by_sound chip 5 hc (lit< tt))

  from_sound : (n chip : ℕ) → chip + n ≤ m.height * m.width → All (Arrives (m.height * m.width)) (arriving_from m chip n)
  unfolding arriving_from
  from_sound zero chip h = all_nil (Arrives (m.height * m.width))
  from_sound (suc n) chip h = all_append (Arrives (m.height * m.width)) (arriving_at m chip) (arriving_from m (suc chip) n) (at_sound chip (omega arith)) (from_sound n (suc chip) (omega arith))

  pub sound_arrivals : All (Arrives (m.height * m.width)) (arrivals m)
  sound_arrivals = from_sound (m.height * m.width) 0 (omega arith)
