-- What holds of every packet in flight together with the chip that it is on its way to: over a pass, a link change, a reading of registers; and that it arrives there.
use mathlib.Core.Path.{◌≡◌, refl, sym, ap, ◌∙◌, subst}
use mathlib.Core.Bool.{Bool, true}
use Prim.Native.Nat.{ℕ, ◌*◌, ◌<◌}
use native.Mathlib.Omega.{arith}
use native.Mathlib.Decide.{ℕ_discrete}
use lib.ListN.{get_or}
use lib.Seq.{get_or-set_same, get_or-set_other}
use Rattle.tables.proofs.Sizes as sizes
use Rattle.steps.specs.declared.Outcome.{Outcome}
use Rattle.steps.specs.Links.{has}
use Rattle.steps.specs.Deciding.{packet_on, leg_packet}
use Rattle.lists.specs.Lists.{All}
use Rattle.lists.proofs.Alls.{all_nil, all_or, all_map, all_weaken}
use Rattle.lists.proofs.Changed.{set_keeps}
use Rattle.links.specs.Link.{Flight, Link, idle, link_after}
use Rattle.links.specs.Across.{across, opposite}
use Rattle.mesh.specs.Mesh.{Chip, Mesh, fresh, chip_of, link_of}
use Rattle.mesh.specs.Lending.{Tables}
use Rattle.mesh.specs.Steps.{Arrival, Going, outcome_at, arriving_by, arrivals, pass_at}
use Rattle.mesh.specs.Calls.{with_up, with_link, with_empty}
use Rattle.mesh.specs.Sound.{Arrives, SoundMesh}
use Rattle.links.proofs.Crossing.{opposite_there}
use Rattle.mesh.proofs.SoundChanges.{chip_sound}
use Rattle.flood.specs.Ways.{beyond}
use Rattle.promises.specs.Told.{EachFlight}
use Rattle.promises.proofs.Apart.{link_at}
use Rattle.promises.proofs.Flights.{each_here, each_link_gets, all_arrivals}
use Rattle.promises.proofs.OppositeLinks.{there_and_back}

module _ {A : Type 0} where
  abbrev pub EachTo : (ℕ → Flight A → Type 0) → Mesh A → Type 0
  EachTo P m = (chip i : ℕ) → i < 6 → All (P (beyond m chip i)) (link_of m chip i).held

  pub to_any : (Q : Flight A → Type 0) (m : Mesh A) → EachFlight Q m → EachTo (λ chip. Q) m
  to_any Q m each chip i near = all_or (λ (l : Link A). All Q l.held) (chip_of m chip).links i idle (each_here Q m chip each) (all_nil Q)

  -- what the links hold where nothing passes
  pub linked_held : (m : Mesh A) (chip link : ℕ) (up : Bool) (c i : ℕ) → (link_of (with_link m chip link up) c i).held ≡ (link_of m c i).held
  linked_held m chip link up c i =
      set_keeps (λ (x : Chip A). (get_or x.links i idle).held) m.chips chip c _ fresh
      (set_keeps (λ (l : Link A). l.held) (chip_of m chip).links link i (with_up up (link_of m chip link)) idle refl)

  pub emptied_held : (m : Mesh A) (chip c i : ℕ) → (link_of (with_empty m chip) c i).held ≡ (link_of m c i).held
  emptied_held m chip c i = set_keeps (λ (x : Chip A). (get_or x.links i idle).held) m.chips chip c _ fresh refl

module _ {A : Type 0} (P : ℕ → Flight A → Type 0) where
  pub to_weaken : (Q : ℕ → Flight A → Type 0) → ((chip : ℕ) (x : Flight A) → P chip x → Q chip x) → (m : Mesh A) → EachTo P m → EachTo Q m
  to_weaken Q f m each chip i near = all_weaken (P (beyond m chip i)) (Q (beyond m chip i)) (f (beyond m chip i)) _ (each chip i near)

  -- ---- the calls that pass nothing

  pub to_linked : (m : Mesh A) (chip link : ℕ) (up : Bool) → EachTo P m → EachTo P (with_link m chip link up)
  to_linked m chip link up each c i near = subst (All (P (beyond m c i))) (sym (linked_held m chip link up c i)) (each c i near)

  pub to_emptied : (m : Mesh A) (chip : ℕ) → EachTo P m → EachTo P (with_empty m chip)
  to_emptied m chip each c i near = subst (All (P (beyond m c i))) (sym (emptied_held m chip c i)) (each c i near)

  -- ---- a pass

  -- of each packet that a pass sends, with the tag of the sending and the chip where it is sent
  pub record SendsTo (m : Mesh A) (chip : ℕ) (o : Outcome) (tag : A) : Type 0 where
    pub links : (i : ℕ) → i < 6 → has o.sent i ≡ true → P (beyond m chip i) (record { packet = packet_on o i; tag = tag })
    pub leg : (i : ℕ) → i < 6 → has o.leg_sent i ≡ true → P (beyond m chip i) (record { packet = leg_packet o; tag = tag })

  module _ (t : Tables) (turn : A → A) (g : Going A) (a : Arrival A) (sound : SoundMesh g.mesh) (h : Arrives (g.mesh.height * g.mesh.width) a) where
    abbrev o : Outcome
    o = outcome_at t g.mesh a.chip a.source a.flight.packet

    pub to_after_pass : SendsTo g.mesh a.chip o (turn a.flight.tag) → EachTo P g.mesh → EachTo P (pass_at t turn g a).mesh
    to_after_pass sends each c i near = go (ℕ_discrete c a.chip)
      where
        here : link_of (pass_at t turn g a).mesh a.chip i ≡ link_after o (turn a.flight.tag) i (link_of g.mesh a.chip i)
        here =
            ap (λ (x : Chip A). get_or x.links i idle) (get_or-set_same g.mesh.chips a.chip _ fresh (omega (arith, sound.many, h.there)))
            ∙ link_at o (turn a.flight.tag) i (chip_of g.mesh a.chip).links (omega (arith, (chip_sound sound a.chip h.there).six))

        go : Dec (c ≡ a.chip) → All (P (beyond g.mesh c i)) (link_of (pass_at t turn g a).mesh c i).held
        go (yes e) =
            subst (λ (k : ℕ). All (P (beyond g.mesh k i)) (link_of (pass_at t turn g a).mesh k i).held) (sym e)
            (subst (λ (l : Link A). All (P (beyond g.mesh a.chip i)) l.held) (sym here)
            (each_link_gets (P (beyond g.mesh a.chip i)) o (turn a.flight.tag) i (link_of g.mesh a.chip i) (sends.links i near) (sends.leg i near) (each a.chip i near)))
        go (no other) =
            subst (λ (x : Chip A). All (P (beyond g.mesh c i)) (get_or x.links i idle).held) (sym (get_or-set_other g.mesh.chips a.chip c _ fresh other)) (each c i near)

  -- ---- a round

  abbrev pub ArrivesAt : Arrival A → Type 0
  ArrivesAt a = P a.chip a.flight

  pub to_arrival : (m : Mesh A) → SoundMesh m → EachTo P m → All ArrivesAt (arrivals m)
  to_arrival m sound each = all_arrivals ArrivesAt m by
    where
      by : (chip source : ℕ) → chip < m.height * m.width → source < 6 → All ArrivesAt (arriving_by m chip source)
      by chip source there near =
          let size = sizes.size m.width m.height sound.size in
          let back = there_and_back m.width m.height chip source size.width_low size.height_low there near in
          let from : ℕ = across m.width m.height chip source in
          all_map ArrivesAt (λ (x : Flight A). record { chip = chip; source = source; flight = x }) (link_of m from (opposite source)).held
          (subst (λ (k : ℕ). All (P k) (link_of m from (opposite source)).held) back (each from (opposite source) (opposite_there source)))
