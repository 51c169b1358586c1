-- What is in flight, by any measure of the packets: nothing after all is set aside, the same after a link change or a reading of registers, more by what a pass sends;
-- and what arrives in a round is what was in flight.
use mathlib.Core.Path.{◌≡◌, refl, sym, ◌∙◌, subst}
use mathlib.Core.Bool.{Bool, true, false, cond}
use mathlib.Core.List.{List}
use Prim.Native.Nat.{ℕ, ◌+◌, ◌*◌, ◌<◌}
use native.Mathlib.Nat.{add-zero}
use native.Mathlib.Omega.{arith}
use lib.ListN.{length, get_or}
use Rattle.packet.specs.declared.Packet.{Packet}
use Rattle.tables.proofs.Sizes as sizes
use Rattle.steps.specs.declared.Outcome.{Outcome}
use Rattle.steps.specs.Links.{has}
use Rattle.steps.specs.Deciding.{packet_on, leg_packet}
use Rattle.kept.specs.Units.{over_links}
use Rattle.lists.specs.Lists.{total}
use Rattle.lists.proofs.Six.{six}
use Rattle.lists.proofs.Totals.{total_append, total_none, total_map, total_set}
use Rattle.links.specs.Link.{Flight, Link, idle, sent, link_after}
use Rattle.mesh.specs.Mesh.{Chip, Mesh, fresh, chip_of, link_of}
use Rattle.mesh.specs.Lending.{Tables}
use Rattle.mesh.specs.Steps.{Arrival, Going, outcome_at, links_after, chip_after, with_chip, emptied, emptied_chip, set_aside, arrivals, pass_at}
use Rattle.mesh.specs.Calls.{with_up, with_link, with_empty}
use Rattle.mesh.specs.Weights.{weight_on, on_chip, on_mesh}
use Rattle.mesh.specs.Sound.{Arrives, SoundMesh}
use Rattle.mesh.proofs.SoundChanges.{chip_sound}
use Rattle.mesh.proofs.Torus.{arrivals_weigh}

module _ {A : Type 0} (w : Flight A → ℕ) where
  -- ---- a chip after a pass

  -- what link i gets
  abbrev pub gained : Outcome → A → ℕ → ℕ
  gained o tag i = cond (has o.sent i) (w (record { packet = packet_on o i; tag = tag })) 0 + cond (has o.leg_sent i) (w (record { packet = leg_packet o; tag = tag })) 0

  total_sent : (b : Bool) (p : Packet) (tag : A) → total w (sent b p tag) ≡ cond b (w (record { packet = p; tag = tag })) 0
  unfolding total
  total_sent true p tag = omega arith
  total_sent false p tag = refl

  link_gains : (o : Outcome) (tag : A) (i : ℕ) (l : Link A) → weight_on w (link_after o tag i l) ≡ weight_on w l + gained o tag i
  link_gains o tag i l =
      simp total_append (omega (arith, total_sent (has o.sent i) (packet_on o i) tag, total_sent (has o.leg_sent i) (leg_packet o) tag))

  pub chip_gains : (o : Outcome) (tag : A) (c : Chip A) → length c.links ≡ 6 → on_chip w (chip_after o tag c) ≡ on_chip w c + over_links (gained o tag)
  unfolding total links_after
  chip_gains o tag c h =
      subst (λ (ls : List (Link A)). total (weight_on w) (links_after o tag 0 ls) ≡ total (weight_on w) ls + over_links (gained o tag)) (sym (six idle c.links h))
      (omega (arith, gains 0, gains 1, gains 2, gains 3, gains 4, gains 5))
    where
      gains : (i : ℕ) → weight_on w (link_after o tag i (get_or c.links i idle)) ≡ weight_on w (get_or c.links i idle) + gained o tag i
      gains i = link_gains o tag i (get_or c.links i idle)

  -- ---- a mesh

  module _ (m : Mesh A) where
    -- after all is set aside nothing is in flight
    pub aside_weighs : on_mesh w (set_aside m) ≡ 0
    unfolding total
    aside_weighs =
        total_map (on_chip w) emptied_chip m.chips
        ∙ total_none _ (λ c. total_map (weight_on w) emptied c.links ∙ total_none _ (λ l. refl) c.links) m.chips

    module _ (sound : SoundMesh m) where
      -- what arrives in a round is what was in flight
      pub arrivals_weigh_in : total (λ (a : Arrival A). w a.flight) (arrivals m) ≡ on_mesh w m
      arrivals_weigh_in =
          let size = sizes.size m.width m.height sound.size in
          arrivals_weigh w m size.width_low size.height_low sound.many (λ k h. (chip_sound sound k h).six)

      module _ (chip : ℕ) (there : chip < m.height * m.width) where
        -- a chip changed
        pub more_weighs : (c : Chip A) (n : ℕ) → on_chip w c ≡ on_chip w (chip_of m chip) + n → on_mesh w (with_chip m chip c) ≡ on_mesh w m + n
        more_weighs c n e = omega (arith, total_set (on_chip w) m.chips chip c fresh (omega (arith, sound.many)))

        pub linked_weighs : (link : ℕ) (up : Bool) → link < 6 → on_mesh w (with_link m chip link up) ≡ on_mesh w m
        linked_weighs link up h =
            let six-here = (chip_sound sound chip there).six in
            let links = total_set (weight_on w) (chip_of m chip).links link (with_up up (link_of m chip link)) idle (omega arith) in
            more_weighs _ 0 (omega (arith, links)) ∙ add-zero (on_mesh w m)

        pub emptied_weighs : on_mesh w (with_empty m chip) ≡ on_mesh w m
        emptied_weighs = more_weighs _ 0 (sym (add-zero (on_chip w (chip_of m chip)))) ∙ add-zero (on_mesh w m)

  -- a pass: more by what it sends
  pub pass_gains : (t : Tables) (turn : A → A) (g : Going A) (a : Arrival A) → SoundMesh g.mesh → Arrives (g.mesh.height * g.mesh.width) a
      → on_mesh w (pass_at t turn g a).mesh ≡ on_mesh w g.mesh + over_links (gained (outcome_at t g.mesh a.chip a.source a.flight.packet) (turn a.flight.tag))
  pass_gains t turn g a sound h =
      more_weighs g.mesh sound a.chip h.there _ _ (chip_gains _ (turn a.flight.tag) (chip_of g.mesh a.chip) (chip_sound sound a.chip h.there).six)
