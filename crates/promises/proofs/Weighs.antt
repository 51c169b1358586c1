-- What a pass sends weighs, on the links where it lands, what the pass's own account says: a link marked 01 two, any other packet one.
use mathlib.Core.Path.{◌≡◌, refl, ap, ◌∙◌}
use mathlib.Core.Bool.{Bool, true, false, cond, ◌&&◌, and-false}
use Prim.Native.Nat.{ℕ, ◌+◌, ◌<◌}
use native.Mathlib.Omega.{arith}
use lib.Count.{ones, ones_in}
use lib.Dec.{eqb}
use lib.ListN.{length}
use borrow.Author.Tests.{eqb-true}
use Rattle.packet.specs.declared.Packet.{Packet}
use Rattle.packet.specs.Control.{mark_of}
use Rattle.packet.specs.Types.{is_marked}
use Rattle.packet.proofs.Types.{same_marked}
use Rattle.packet.proofs.Small.{every, at}
use Rattle.steps.specs.declared.Setting.{Setting}
use Rattle.steps.specs.Links.{has}
use Rattle.steps.specs.Deciding.{outcome_of, mark_on, packet_on, leg_packet, Source, Checked}
use Rattle.kept.specs.Counting.{sent_count}
use Rattle.kept.specs.Units.{weight, over_links, weight_sent}
use Rattle.steps.proofs.Bounds.{outcome_sets}
use Rattle.steps.proofs.SentPackets.{sent_marked, sent_plain, sent_leg, no_detour}
use Rattle.steps.proofs.Sets.{has_none}
use Rattle.links.specs.Link.{Flight}
use Rattle.mesh.specs.Mesh.{Chip}
use Rattle.mesh.specs.Steps.{chip_after}
use Rattle.mesh.specs.Weights.{on_chip}
use Rattle.tables.specs.Tables.{ChipTables}
use Rattle.promises.proofs.InFlight.{gained, chip_gains}

-- ---- a chip after a pass

abbrev pub weighed : {A : Type 0} → Flight A → ℕ
weighed x = weight x.packet

-- ---- what is sent

-- a set of links has a bit for each
bits_test : ℕ → Bool
bits_test n = eqb (over_links (λ i. cond (has n i) 1 0)) (ones n)

links_ones : (n : ℕ) → n < 64 → over_links (λ i. cond (has n i) 1 0) ≡ ones n
unfolding every bits_test ones ones_in
links_ones n h = eqb-true _ _ (at 64 bits_test refl n h)

over_add : (f g : ℕ → ℕ) → over_links (λ i. f i + g i) ≡ over_links f + over_links g
over_add f g = omega arith

-- whether there is a mark, and the mark, decide the weight
weight_of_lem : (q : Packet) (b : Bool) (m : ℕ) → is_marked q.control ≡ b → mark_of q.control ≡ m → weight q ≡ cond (b && eqb m 1) 2 1
weight_of_lem q b m eb em = λ i. cond (eb i && eqb (em i) 1) 2 1

module _ (p : Packet) (s : ℕ) (tables : ChipTables) (t : Setting) (h : Checked p s tables t) (from : Source s) where
  on_weighs : (i : ℕ) → weight (packet_on (outcome_of p s tables t) i) ≡ cond (eqb (mark_on (outcome_of p s tables t) i) 1) 2 1
  on_weighs i = go (is_marked (outcome_of p s tables t).packet.control) refl
    where
      go : (b : Bool) → is_marked (outcome_of p s tables t).packet.control ≡ b → weight (packet_on (outcome_of p s tables t) i) ≡ cond (eqb (mark_on (outcome_of p s tables t) i) 1) 2 1
      go true marked = let f = sent_marked p s tables t h from i marked in weight_of_lem (packet_on (outcome_of p s tables t) i) true (mark_on (outcome_of p s tables t) i) (same_marked _ _ f.kind ∙ marked) f.new
      go false other =
          let plain : mark_on (outcome_of p s tables t) i ≡ 0 = simp (no_detour p s tables t h from other, has_none) in
          ap weight (sent_plain p s tables t h from i other) ∙ simp (other, plain)

  leg_weighs : weight (leg_packet (outcome_of p s tables t)) ≡ 1
  leg_weighs = weight_of_lem (leg_packet (outcome_of p s tables t)) _ 3 refl (sent_leg p s tables t h from).new ∙ simp and-false

  sent_weighs : {A : Type 0} (tag : A) → over_links (gained weighed (outcome_of p s tables t) tag) ≡ weight_sent (outcome_of p s tables t)
  sent_weighs tag =
      let o = outcome_of p s tables t in
      (λ j. over_links (λ i. cond (has o.sent i) (on_weighs i j) 0 + cond (has o.leg_sent i) (leg_weighs j) 0))
      ∙ over_add (λ i. cond (has o.sent i) (cond (eqb (mark_on o i) 1) 2 1) 0) (λ i. cond (has o.leg_sent i) 1 0)
      ∙ ap (λ (n : ℕ). over_links (λ i. cond (has o.sent i) (cond (eqb (mark_on o i) 1) 2 1) 0) + n) (links_ones o.leg_sent (outcome_sets p s tables t).leg_sent)

  -- so a chip of six links weighs more by what the pass sends
  pub chip_weighs_sent : {A : Type 0} (tag : A) (c : Chip A) → length c.links ≡ 6
      → on_chip weighed (chip_after (outcome_of p s tables t) tag c) ≡ on_chip weighed c + weight_sent (outcome_of p s tables t)
  chip_weighs_sent tag c links = chip_gains weighed (outcome_of p s tables t) tag c links ∙ ap (λ (n : ℕ). on_chip weighed c + n) (sent_weighs tag)

  -- and holds more by as many as it sends
  pub chip_holds_sent : {A : Type 0} (tag : A) (c : Chip A) → length c.links ≡ 6
      → on_chip (λ x. 1) (chip_after (outcome_of p s tables t) tag c) ≡ on_chip (λ x. 1) c + sent_count (outcome_of p s tables t)
  chip_holds_sent tag c links =
      let o = outcome_of p s tables t in
      let sets = outcome_sets p s tables t in
      omega (
        arith,
        chip_gains (λ x. 1) o tag c links,
        over_add (λ i. cond (has o.sent i) 1 0) (λ i. cond (has o.leg_sent i) 1 0),
        links_ones o.sent sets.sent,
        links_ones o.leg_sent sets.leg_sent,
      )
