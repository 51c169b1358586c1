-- The whole way, pass by pass: at each the packet is as right as it was, and one link nearer than before.
use Prim.Native.Nat.{ℕ, zero, suc, ◌+◌, ◌-◌, ◌*◌, ◌/◌, ◌%◌, ◌≤◌, ◌<◌}
use mathlib.Core.Path.{◌≡◌, refl, sym, ap, ◌∙◌, subst}
use mathlib.Core.Bool.{Bool, true, false, cond, ◌&&◌, not, and-false}
use mathlib.Core.List.{List}
use mathlib.Core.Logic.{◌⊎◌, inl, inr}
use native.Mathlib.Omega.{arith}
use native.Mathlib.Nat.{mod-lt}
use lib.Dec.{eqb, lit<}
use borrow.Author.Tests.{eq-eqb, ne_eqb, eqb-true}
use Rattle.packet.specs.declared.Packet.{Packet}
use Rattle.packet.specs.Control.{kind_of, mark_of, stamp_of}
use Rattle.packet.specs.Types.{is_stamped}
use Rattle.packet.specs.Parity.{is_odd, with_stamp}
use Rattle.packet.proofs.Rewrite.{FieldSet, stamp_set}
use Rattle.steps.specs.Errors.{errors_of, stamped_of, wrong_length}
use Rattle.steps.specs.Links.{has}
use Rattle.steps.specs.Deciding.{decided, outcome_of}
use Rattle.steps.proofs.Flags.{without_error}
use Rattle.lists.proofs.Firsts.{first_holds, first_is}
use Rattle.mesh.specs.Mesh.{Mesh, ready_of, many}
use Rattle.mesh.specs.Lending.{Tables}
use Rattle.mesh.specs.Steps.{outcome_at}
use Rattle.flood.specs.Ways.{Way, within, fewest}
use Rattle.flood.specs.Codes.{code_of}
use Rattle.flood.specs.OnItsWay.{Follows, Nearer}
use Rattle.flood.specs.WholeWay.{InTurn, Place, place_after, Crosses, local, WholeWay}
use Rattle.flood.proofs.WaysWithin.{within_way}
use Rattle.flood.proofs.SixWhereNoWay.{few_links}
use Rattle.flood.proofs.OnItsWay.{as_it_was, packet_sent, one_link_nearer, handed_to_the_monitor}
use Rattle.flood.proofs.SameLinks.{SameLinks, many_same, fewest_same, codes_same}
use Rattle.flood.proofs.PhasesPassed.{still_young}

-- ---- a P2P packet without error, after stamping and at its next pass

pub record Sent (q : Packet) (phase : ℕ) : Type 0 where
  pub odd : is_odd q ≡ true
  pub long : wrong_length q ≡ false
  pub stamp : stamp_of q.control ≡ phase

module _ (p : Packet) (source phase : ℕ) (byte : p.control < 256) (kind : kind_of p.control ≡ 1) (small : phase ≤ 3) (none : errors_of p source phase ≡ 0) where
  sent_local : source ≡ 7 → Sent (stamped_of p source (errors_of p source phase) phase) phase
  unfolding is_stamped
  sent_local at =
      let f : FieldSet stamp_of mark_of p (with_stamp p phase) phase = stamp_set p phase byte (omega arith) in
      let same : with_stamp p phase ≡ stamped_of p source (errors_of p source phase) phase =
      sym (λ i. cond (eq-eqb (errors_of p source phase) 0 none i && eq-eqb source 7 at i && not (eqb (kind i) 2)) (with_stamp p phase) p) in
      subst (λ (q : Packet). Sent q phase) same (record {
        odd = f.odd;
        long = (λ i. not (eqb (f.carries i) (f.nine i))) ∙ (without_error p source phase none).long;
        stamp = f.new;
      })

  sent_on_again : (before : ℕ) → source < 6 → stamp_of p.control ≡ before → Sent (stamped_of p source (errors_of p source phase) phase) before
  sent_on_again before near stamp =
      let other : eqb source 7 ≡ false = ne_eqb source 7 (λ e. omega arith) in
      let same : p ≡ stamped_of p source (errors_of p source phase) phase =
      sym (ap (λ (b : Bool). cond (eqb (errors_of p source phase) 0 && b && is_stamped p.control) (with_stamp p phase) p) other ∙ ap (λ (b : Bool). cond (b && is_stamped p.control) (with_stamp p phase) p) (and-false (eqb (errors_of p source phase) 0))) in
      subst (λ (q : Packet). Sent q before) same (record { odd = (without_error p source phase none).odd; long = (without_error p source phase none).long; stamp = stamp })

pub no_error : (q : Packet) (source before phase : ℕ) → source < 6 → Sent q before → (before ≡ 3 - phase → ⊥) → errors_of q source phase ≡ 0
no_error q source before phase near s young =
    let old : eqb (stamp_of q.control) (3 - phase) ≡ false = ne_eqb _ _ (λ e. young (sym s.stamp ∙ e)) in
    let local : eqb source 7 ≡ false = ne_eqb source 7 (λ e. omega arith) in
    simp (s.odd, s.long, old, local, and-false)

-- ---- one pass after the other

module _ {A : Type 0} (m : Mesh A) (to : ℕ) where
  pub fewest_oneself : to < many m → fewest m to to ≡ 0
  unfolding within
  fewest_oneself h = first_is (λ k. within m to k to) (many m) 0 (omega arith) (eq-eqb to to refl) (λ j l. absurd (omega arith))

  there_at_none : (c : ℕ) → 0 < many m → fewest m c to ≡ 0 → c ≡ to
  unfolding within
  there_at_none c h e = eqb-true c to (ap (λ (k : ℕ). within m to k c) (sym e) ∙ first_holds (λ k. within m to k c) (many m) (omega arith))

module _ {A : Type 0} (at : ℕ → Mesh A) (t : Tables) (p : Packet) (from to : ℕ) (turn : InTurn at (fewest (at 0) from to)) (f : Follows (at 0) t p 7 from to) (links : List ℕ) (w : Way (at 0) from to links)
    (few : fewest (at 0) from to ≤ (at 0).rounds)
    (room : (k : ℕ) → k < fewest (at 0) from to → has (ready_of (at k) (place_after t at to (local from p) k).chip) (code_of (at k) (place_after t at to (local from p) k).chip to) ≡ true) where
  abbrev all : ℕ
  all = fewest (at 0) from to

  abbrev place : ℕ → Place
  place k = place_after t at to (local from p) k

  same : (k : ℕ) → k ≤ all → SameLinks (at 0) (at k)
  same k b = record { fine = (turn.sound 0 (omega arith)).size; width = turn.width k b; height = turn.height k b; links = λ chip i. turn.links k chip i b }

  few_all : all < many (at 0)
  few_all = few_links (at 0) (turn.sound 0 (omega arith)) from to f.at f.there links w

  -- what holds where a packet is at its pass k
  record Here (k : ℕ) : Type 0 where
    follows : Follows (at k) t (place k).packet (place k).source (place k).chip to
    left : fewest (at 0) (place k).chip to + k ≡ all
    stamped : ((k ≡ 0) × ((place k).source ≡ 7)) ⊎ (((place k).source < 6) × (stamp_of (place k).packet.control ≡ (at 0).phase))

  module _ (k : ℕ) (b : k ≤ all) (h : Here k) where
    near : (place k).chip < many (at 0)
    near = rw (sym (many_same (at 0) (at k) (same k b))) h.follows.at

    -- the fewest links are as they were
    count : fewest (at k) (place k).chip to ≡ fewest (at 0) (place k).chip to
    count = fewest_same (at 0) (at k) (same k b) to (place k).chip near

    goes_on : k < all → Nearer (at k) (place k).chip to (outcome_at t (at k) (place k).chip (place k).source (place k).packet) (place k).packet
    goes_on l =
        let m : Mesh A = at k in
        let chip : ℕ = (place k).chip in
        let short : fewest (at k) (place k).chip to < many (at k) = omega (arith, count, many_same (at 0) (at k) (same k b), h.left, few_all) in
        let x = within_way m to (fewest m chip to) chip (first_holds (λ j. within m to j chip) (many m) short) in
        one_link_nearer A m (turn.sound k b) t (place k).packet (place k).source chip to h.follows (λ e. omega (arith, h.left, ap (λ (c : ℕ). fewest (at 0) c to) e, fewest_oneself (at 0) to f.there)) x.links x.way (room k l)

    -- the packet that is sent on
    sent_there : k < all → Sent (place (suc k)).packet (at 0).phase
    unfolding place_after
    sent_there l = subst (λ (q : Packet). Sent q (at 0).phase) (sym (packet_sent (at k) (turn.sound k b) t (place k).packet (place k).source (place k).chip to h.follows _)) (go h.stamped)
      where
        go : ((k ≡ 0) × ((place k).source ≡ 7)) ⊎ (((place k).source < 6) × (stamp_of (place k).packet.control ≡ (at 0).phase))
            → Sent (stamped_of (place k).packet (place k).source (errors_of (place k).packet (place k).source (at k).phase) (at k).phase) (at 0).phase
        go (inl s) = subst (Sent _) (ap (λ (i : ℕ). (at i).phase) s.0) (sent_local (place k).packet (place k).source (at k).phase h.follows.control h.follows.kind (turn.sound k b).phase h.follows.errors s.1)
        go (inr s) = sent_on_again (place k).packet (place k).source (at k).phase h.follows.control h.follows.kind (turn.sound k b).phase h.follows.errors (at 0).phase s.0 s.1

    next : k < all → Here (suc k)
    unfolding place_after
    next l =
        let n = goes_on l in
        let q = sent_there l in
        let was = as_it_was (at k) (turn.sound k b) t (place k).packet (place k).source (place k).chip to h.follows in
        let is = packet_sent (at k) (turn.sound k b) t (place k).packet (place k).source (place k).chip to h.follows (code_of (at k) (place k).chip to) in
        let from_link : (place (suc k)).source < 6 = mod-lt (code_of (at k) (place k).chip to + 3) (lit< tt) in
        let chips : many (at (suc k)) ≡ many (at k) = many_same (at 0) (at (suc k)) (same (suc k) l) ∙ sym (many_same (at 0) (at k) (same k b)) in
        let near_next : (place (suc k)).chip < many (at 0) = omega (arith, n.at, many_same (at 0) (at k) (same k b)) in
        record {
          follows = record {
            codes = f.codes ∙ sym (codes_same (at 0) (at (suc k)) (same (suc k) l));
            control = subst (λ (x : Packet). x.control < 256) (sym is) was.byte;
            kind = n.sent.kind ∙ h.follows.kind;
            errors = no_error (place (suc k)).packet (place (suc k)).source (at 0).phase (at (suc k)).phase from_link q (still_young at all turn k l (omega arith));
            destination = ap (λ (x : ℕ). x % 65536) n.sent.word ∙ h.follows.destination ∙ (λ j. to % wide j * 256 + to / wide j);
            at = omega (arith, n.at);
            there = omega (arith, f.there, many_same (at 0) (at (suc k)) (same (suc k) l));
          };
          left = omega (arith, n.nearer, count, fewest_same (at 0) (at k) (same k b) to (place (suc k)).chip near_next, h.left);
          stamped = inr (from_link, q.stamp);
        }
      where
        wide : (at k).width ≡ (at (suc k)).width
        wide = turn.width k b ∙ sym (turn.width (suc k) l)

  here : (k : ℕ) → k ≤ all → Here k
  unfolding place_after
  here zero l = record { follows = f; left = omega arith; stamped = inl (refl, refl) }
  here (suc k) l = next k (omega arith) (here k (omega arith)) l

  crosses : Crosses t at to (local from p) all
  unfolding outcome_of decided
  crosses =
      let h : Here all = here all (omega arith) in
      let there : (place all).chip ≡ to = there_at_none (at 0) to (place all).chip (omega (arith, few_all)) (omega (arith, h.left)) in
      let last : Follows (at all) t (place all).packet (place all).source to to = subst (λ (c : ℕ). Follows (at all) t (place all).packet (place all).source c to) there h.follows in
      record {
        sent = λ k l. (goes_on k (omega arith) (here k (omega arith)) l).sent;
        there = there;
        handed = handed_to_the_monitor A (at all) (turn.sound all (omega arith)) t (place all).packet (place all).source to last;
        right = last.errors;
      }

pub whole_way_lem : WholeWay
whole_way_lem A at t p from to turn f links w few room = crosses at t p from to turn f links w few room
