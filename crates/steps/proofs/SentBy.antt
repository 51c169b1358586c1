-- The links that a pass sends by: ready ones alone, none where there is an error, and for a second leg only where the packet has a mark.
use mathlib.Core.Path.{◌≡◌, refl, sym, ap, ◌∙◌}
use mathlib.Core.Bool.{Bool, true, false, cond, ◌&&◌, ◌||◌, and-false, and-eq-true_iff, false≢true}
use Prim.Native.Nat.{ℕ, ◌+◌, ◌^◌, ◌<◌}
use native.Mathlib.Nat.{mul-mod_right}
use lib.Pow.{pow-add}
use lib.Dec.{eqb}
use borrow.Author.Tests.{eqb-true, eqb-false, ne_eqb}
use Rattle.packet.specs.declared.Packet.{Packet}
use Rattle.packet.specs.Control.{mark_of}
use Rattle.packet.specs.Types.{is_marked}
use Rattle.tables.specs.Tables.{ChipTables}
use Rattle.steps.specs.declared.Setting.{Setting}
use Rattle.steps.specs.declared.Wanted.{Wanted}
use Rattle.steps.specs.Links.{has, set_of, links_of, link}
use Rattle.steps.specs.Detour.{carries, sends}
use Rattle.steps.specs.Errors.{errors_of, stamped_of}
use Rattle.steps.specs.Wants.{wanted_of}
use Rattle.steps.specs.Deciding.{has_leg, leg_set, decided, outcome_of, Source, Checked}
use Rattle.steps.proofs.Sets.{has_set, has_none}

module _ (e : ℕ) (p : Packet) (s phase : ℕ) (w : Wanted) (ready : ℕ) (i : ℕ) (hi : i < 6) where
  sent_ready_lem : has (decided e p s phase w ready).sent i ≡ true → has ready i ≡ true
  unfolding decided
  sent_ready_lem = go (is_marked p.control)
    where
      go : (b : Bool) → has (cond b (set_of (sends (links_of w.set) ready)) (set_of (λ j. has (links_of w.set) j && has ready j))) i ≡ true → has ready i ≡ true
      go true h =
          let t : sends (links_of w.set) ready i ≡ true = sym (has_set (sends (links_of w.set) ready) i hi) ∙ h in
          ((and-eq-true_iff (has ready i) (has (links_of w.set) i || carries (links_of w.set) ready i)).0 t).0
      go false h =
          let t : (has (links_of w.set) i && has ready i) ≡ true = sym (has_set (λ j. has (links_of w.set) j && has ready j) i hi) ∙ h in
          ((and-eq-true_iff (has (links_of w.set) i) (has ready i)).0 t).1

  -- where no link is wanted none sends
  none_sent : links_of w.set ≡ 0 → has (decided e p s phase w ready).sent i ≡ false
  unfolding decided
  none_sent = go (is_marked p.control) (links_of w.set)
    where
      go : (b : Bool) (l : ℕ) → l ≡ 0 → has (cond b (set_of (sends l ready)) (set_of (λ j. has l j && has ready j))) i ≡ false
      go true l z = has_set (sends l ready) i hi ∙ ap (λ (k : ℕ). sends k ready i) z ∙ simp (has_none, and-false)
      go false l z = has_set (λ j. has l j && has ready j) i hi ∙ ap (λ (k : ℕ). has k i && has ready i) z ∙ simp has_none

  leg_by : has (decided e p s phase w ready).leg_sent i ≡ true → (has (leg_set e p s) i && has ready i) ≡ true
  unfolding decided
  leg_by h = sym (has_set (λ j. has (leg_set e p s) j && has ready j) i hi) ∙ h

  leg_ready : has (decided e p s phase w ready).leg_sent i ≡ true → has ready i ≡ true
  leg_ready h = ((and-eq-true_iff (has (leg_set e p s) i) (has ready i)).0 (leg_by h)).1

  leg_there : has (decided e p s phase w ready).leg_sent i ≡ true → has_leg e p ≡ true
  leg_there h = go (has_leg e p) ((and-eq-true_iff (has (leg_set e p s) i) (has ready i)).0 (leg_by h)).0
    where
      go : (b : Bool) → has (cond b (2 ^ link (s + 5)) 0) i ≡ true → b ≡ true
      go true f = refl
      go false f = sym (has_none i) ∙ f

module _ (p : Packet) (s : ℕ) (tables : ChipTables) (t : Setting) (h : Checked p s tables t) (from : Source s) where
  abbrev e : ℕ
  e = errors_of p s t.phase

  abbrev q : Packet
  q = stamped_of p s (errors_of p s t.phase) t.phase

  abbrev w : Wanted
  w = wanted_of (errors_of p s t.phase) p s tables t

  pub sends_ready : (i : ℕ) → i < 6 → has (outcome_of p s tables t).sent i ≡ true → has t.ready i ≡ true
  unfolding outcome_of
  sends_ready = sent_ready_lem e q s t.phase w t.ready

  pub legs_ready : (i : ℕ) → i < 6 → has (outcome_of p s tables t).leg_sent i ≡ true → has t.ready i ≡ true
  unfolding outcome_of
  legs_ready = leg_ready e q s t.phase w t.ready

  -- a packet in error wants the monitor alone, so that no link sends
  pub no_link_wanted : (errors_of p s t.phase ≡ 0 → ⊥) → links_of (wanted_of (errors_of p s t.phase) p s tables t).set ≡ 0
  unfolding wanted_of
  no_link_wanted some = simp (ne_eqb _ _ some) (ap links_of (pow-add 2 6 t.monitor) ∙ mul-mod_right 64 (2 ^ t.monitor))

  pub sent_no_error : (i : ℕ) → i < 6 → has (outcome_of p s tables t).sent i ≡ true → errors_of p s t.phase ≡ 0
  unfolding outcome_of
  sent_no_error i hi sent = go (eqb e 0) refl
    where
      go : (b : Bool) → eqb e 0 ≡ b → errors_of p s t.phase ≡ 0
      go true z = eqb-true _ _ z
      go false z = absurd (false≢true (sym (none_sent e q s t.phase w t.ready i hi (no_link_wanted (eqb-false _ _ z))) ∙ sent))

  -- a leg that is sent is there: its packet is without error and has a mark
  leg_is : (i : ℕ) → i < 6 → has (outcome_of p s tables t).leg_sent i ≡ true → (eqb e 0 && is_marked q.control) ≡ true
  unfolding outcome_of
  leg_is i hi leg = ((and-eq-true_iff (eqb e 0 && is_marked q.control) (eqb (mark_of q.control) 1 || eqb (mark_of q.control) 2)).0 (leg_there e q s t.phase w t.ready i hi leg)).0

  pub leg_no_error : (i : ℕ) → i < 6 → has (outcome_of p s tables t).leg_sent i ≡ true → errors_of p s t.phase ≡ 0
  leg_no_error i hi leg = eqb-true _ _ ((and-eq-true_iff (eqb e 0) (is_marked q.control)).0 (leg_is i hi leg)).0

  pub leg_marked : (i : ℕ) → i < 6 → has (outcome_of p s tables t).leg_sent i ≡ true → is_marked (outcome_of p s tables t).packet.control ≡ true
  unfolding outcome_of decided
  leg_marked i hi leg = ((and-eq-true_iff (eqb e 0) (is_marked q.control)).0 (leg_is i hi leg)).1
