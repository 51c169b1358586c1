-- A sound chip is sound after a pass with its own ready set: a ready link holds at most 6, and a pass sends at most two by it.
use mathlib.Core.Path.{◌≡◌, refl, sym, ap, ◌∙◌, subst}
use mathlib.Core.Bool.{Bool, true, false, and-eq-true_iff}
use mathlib.Core.List.{List, [], ◌∷◌, ◌++◌}
use Prim.Native.Nat.{ℕ, suc, ◌≤◌, ◌<◌}
use native.Mathlib.Omega.{arith}
use lib.Dec.{leb, lit<}
use lib.ListN.{length, get_or, length-append}
use borrow.Author.Tests.{leb-true}
use Rattle.packet.specs.declared.Packet.{Packet}
use Rattle.steps.specs.declared.Outcome.{Outcome}
use Rattle.steps.specs.declared.Setting.{Setting}
use Rattle.steps.specs.Links.{has}
use Rattle.steps.specs.Deciding.{outcome_of, packet_on, leg_packet, Source, Checked}
use Rattle.lists.proofs.Six.{six}
use Rattle.links.specs.Link.{Flight, Link, idle, is_ready, sent, link_after, ready_links}
use Rattle.mesh.specs.Mesh.{Chip}
use Rattle.mesh.specs.Steps.{links_after, chip_after}
use Rattle.lists.specs.Lists.{All}
use Rattle.mesh.specs.Sound.{Passable, SoundPacket, SoundLink, SoundChip}
use Rattle.lists.proofs.Alls.{all_append, all_get_d}
use Rattle.steps.proofs.Sets.{has_set}
use Rattle.steps.proofs.SentBy.{sends_ready, legs_ready}
use Rattle.mesh.proofs.SoundSends.{sends_sound, legs_sound}
use Rattle.mesh.proofs.SoundRegisters.{registers_kept}
use Rattle.tables.specs.Tables.{ChipTables}

module _ {A : Type 0} where
  sent_all : (b : Bool) (p : Packet) (tag : A) → (b ≡ true → SoundPacket p) → All (λ (f : Flight A). SoundPacket f.packet) (sent b p tag)
  unfolding All
  sent_all true p tag h = (h refl, tt)
  sent_all false p tag h = tt

  sent_few : (b c : Bool) (p q : Packet) (tag : A) (fs : List (Flight A)) → length fs ≤ 8 → (b ≡ true → length fs ≤ 6) → (c ≡ true → length fs ≤ 6) → length (fs ++ sent b p tag ++ sent c q tag) ≤ 8
  sent_few true true p q tag fs few h k = simp length-append (omega (arith, h refl))
  sent_few true false p q tag fs few h k = simp length-append (omega (arith, h refl))
  sent_few false true p q tag fs few h k = simp length-append (omega (arith, k refl))
  sent_few false false p q tag fs few h k = simp length-append (omega arith)

  -- a link after a pass, where there is room for what is sent, and what is sent is sound
  link_after_sound : (o : Outcome) (tag : A) (i : ℕ) (l : Link A) → SoundLink l → (has o.sent i ≡ true → length l.held ≤ 6) → (has o.leg_sent i ≡ true → length l.held ≤ 6)
      → (has o.sent i ≡ true → SoundPacket (packet_on o i)) → (has o.leg_sent i ≡ true → SoundPacket (leg_packet o)) → SoundLink (link_after o tag i l)
  link_after_sound o tag i l sound room room₂ fine fine₂ =
      record {
        few = sent_few (has o.sent i) (has o.leg_sent i) (packet_on o i) (leg_packet o) tag l.held sound.few room room₂;
        fine = all_append _ _ _ (all_append _ _ _ sound.fine (sent_all (has o.sent i) (packet_on o i) tag fine)) (sent_all (has o.leg_sent i) (leg_packet o) tag fine₂);
      }

  length_links_after : (o : Outcome) (tag : A) (i : ℕ) (ls : List (Link A)) → length (links_after o tag i ls) ≡ length ls
  unfolding links_after
  length_links_after o tag i [] = refl
  length_links_after o tag i (l ∷ ls) = ap suc (length_links_after o tag (suc i) ls)

  -- six links after a pass, one by one
  links_after_sound : (o : Outcome) (tag : A) (ls : List (Link A)) → length ls ≡ 6 → ((i : ℕ) → i < 6 → SoundLink (link_after o tag i (get_or ls i idle))) → All SoundLink (links_after o tag 0 ls)
  unfolding All links_after
  links_after_sound o tag ls h link =
      subst (λ (ks : List (Link A)). All SoundLink (links_after o tag 0 ks)) (sym (six idle ls h))
      (link 0 (lit< tt), (link 1 (lit< tt), (link 2 (lit< tt), (link 3 (lit< tt), (link 4 (lit< tt), (link 5 (lit< tt), tt))))))

  -- a ready link holds at most 6
  ready_few : (c : Chip A) (i : ℕ) → i < 6 → has (ready_links c.links) i ≡ true → length (get_or c.links i idle).held ≤ 6
  ready_few c i hi h =
      let t : is_ready (get_or c.links i idle) ≡ true = sym (has_set (λ j. is_ready (get_or c.links j idle)) i hi) ∙ h in
      leb-true _ _ ((and-eq-true_iff (get_or c.links i idle).up (leb (length (get_or c.links i idle).held) 6)).0 t).1

  pub sound_after : (c : Chip A) (tag : A) → SoundChip c → (p : Packet) (s : ℕ) (tables : ChipTables) (t : Setting) → t.ready ≡ ready_links c.links → Checked p s tables t
      → Source s → Passable p → SoundChip (chip_after (outcome_of p s tables t) tag c)
  sound_after c tag sound p s tables t ready h from passable =
      record {
        six = length_links_after o tag 0 c.links ∙ sound.six;
        registers = registers_kept p s tables t h from passable c.registers sound.registers;
        links = links_after_sound o tag c.links sound.six link;
      }
    where
      o : Outcome
      o = outcome_of p s tables t

      by_ready : (i : ℕ) → i < 6 → has t.ready i ≡ true → length (get_or c.links i idle).held ≤ 6
      by_ready i hi f = ready_few c i hi (ap (λ (r : ℕ). has r i) (sym ready) ∙ f)

      link : (i : ℕ) → i < 6 → SoundLink (link_after (outcome_of p s tables t) tag i (get_or c.links i idle))
      link i hi =
          link_after_sound o tag i (get_or c.links i idle) (all_get_d SoundLink c.links i idle sound.links (omega (arith, sound.six)))
          (λ f. by_ready i hi (sends_ready p s tables t h from i hi f)) (λ f. by_ready i hi (legs_ready p s tables t h from i hi f))
          (sends_sound p s tables t h from passable i hi) (legs_sound p s tables t h from passable i hi)
