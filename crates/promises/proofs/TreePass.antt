-- One pass by a grown tree: where all six links of a chip are free, a matching packet without error and without a mark is sent by each link of the chip's route and handed to its processors, and nothing else is done with it.
use Prim.Native.Nat.{ℕ, zero, suc, ◌+◌, ◌/◌, ◌%◌, ◌^◌, ◌<◌}
use mathlib.Core.Path.{◌≡◌, refl, sym, ap, ◌∙◌, subst}
use mathlib.Core.Bool.{Bool, true, false, cond, not, ◌&&◌, ◌||◌, and-false, true≢false}
use mathlib.Core.List.{[], ◌∷◌}
use mathlib.Core.Logic.{◌⊎◌, inl, inr}
use native.Mathlib.Nat.{mod-lt}
use native.Mathlib.Omega.{arith}
use lib.Dec.{eqb, lit<}
use borrow.Author.Tests.{ne_eqb, eqb-true, lt-ltb, not-false}
use Rattle.packet.specs.declared.Packet.{Packet}
use Rattle.packet.specs.Control.{mark_of}
use Rattle.packet.specs.Types.{is_mc, is_marked}
use Rattle.packet.proofs.Types.{mc_marked}
use Rattle.tables.specs.Rows.{rows_of, first_match, route_for, matches}
use Rattle.tables.specs.Tables.{ChipTables}
use Rattle.steps.specs.declared.Outcome.{Outcome}
use Rattle.steps.specs.declared.Setting.{Setting}
use Rattle.steps.specs.declared.Wanted.{Wanted}
use Rattle.steps.specs.Links.{has, set_of, links_of, link}
use Rattle.steps.specs.Detour.{carries, sends, drops, carry_set, send_set, drop_set, plain_send_set, plain_drop_set}
use Rattle.steps.specs.Errors.{errors_of}
use Rattle.steps.specs.Wants.{mark_wanted, wanted_of}
use Rattle.steps.specs.Deciding.{leg_set, mark_on, packet_on, decided, outcome_of, Source, Checked}
use Rattle.steps.proofs.Sets.{has_none, has_set}
use Rattle.steps.proofs.Stamping.{outcome_stamped}
use Rattle.steps.proofs.SentPackets.{sent_marked}
use Rattle.links.specs.Across.{opposite}
use Rattle.tree.specs.Rows.{needs_row}

-- what a pass does with a packet by a route
pub record ByRoute (o : Outcome) (route : ℕ) : Type 0 where
  pub errors : o.errors ≡ 0
  pub wanted : o.wanted ≡ route
  pub sent : (i : ℕ) → i < 6 → has o.sent i ≡ has route i
  pub carried : o.carried ≡ 0
  pub dropped : o.dropped ≡ 0
  pub leg_sent : o.leg_sent ≡ 0
  pub leg_dropped : o.leg_dropped ≡ 0

-- ---- with all six links ready

full : (i : ℕ) → i < 6 → has 63 i ≡ true
full zero h = refl
full (suc zero) h = refl
full (suc (suc zero)) h = refl
full (suc (suc (suc zero))) h = refl
full (suc (suc (suc (suc zero)))) h = refl
full (suc (suc (suc (suc (suc zero))))) h = refl
full (suc (suc (suc (suc (suc (suc i)))))) h = absurd (omega arith)

low_digit : (r i : ℕ) → i < 6 → r % 64 / 2 ^ i % 2 ≡ r / 2 ^ i % 2
low_digit r zero h = omega arith
low_digit r (suc zero) h = omega arith
low_digit r (suc (suc zero)) h = omega arith
low_digit r (suc (suc (suc zero))) h = omega arith
low_digit r (suc (suc (suc (suc zero)))) h = omega arith
low_digit r (suc (suc (suc (suc (suc zero))))) h = omega arith
low_digit r (suc (suc (suc (suc (suc (suc i)))))) h = absurd (omega arith)

low_links : (r i : ℕ) → i < 6 → has (links_of r) i ≡ has r i
low_links r i h = ap (λ (n : ℕ). eqb n 1) (low_digit r i h)

set_none : (f : ℕ → Bool) → ((i : ℕ) → i < 6 → f i ≡ false) → set_of f ≡ 0
set_none f none =
    λ j.
    cond (none 0 (lit< tt) j) 1 0 + cond (none 1 (lit< tt) j) 2 0 + cond (none 2 (lit< tt) j) 4 0 + cond (none 3 (lit< tt) j) 8 0 + cond (none 4 (lit< tt) j) 16 0
    + cond (none 5 (lit< tt) j) 32 0

pub set_all : (f : ℕ → Bool) → ((i : ℕ) → i < 6 → f i ≡ true) → set_of f ≡ 63
set_all f all =
    λ j.
    cond (all 0 (lit< tt) j) 1 0 + cond (all 1 (lit< tt) j) 2 0 + cond (all 2 (lit< tt) j) 4 0 + cond (all 3 (lit< tt) j) 8 0 + cond (all 4 (lit< tt) j) 16 0
    + cond (all 5 (lit< tt) j) 32 0

module _ (w i : ℕ) (h : i < 6) where
  next : link (i + 1) < 6
  next = mod-lt (i + 1) (lit< tt)

  none_carried : carries w 63 i ≡ false
  none_carried = (λ j. has w (link (i + 1)) && not (full (link (i + 1)) next j) && full i h j) ∙ ap (λ (b : Bool). b && true) (and-false (has w (link (i + 1))))

  all_sent : sends w 63 i ≡ has w i
  all_sent = (λ j. full i h j && (has w i || none_carried j)) ∙ go (has w i)
    where
      go : (b : Bool) → (true && (b || false)) ≡ b
      go true = refl
      go false = refl

  none_dropped : drops w 63 i ≡ false
  none_dropped = (λ j. has w i && not (full i h j) && not (has 63 (link (i + 5)))) ∙ ap (λ (b : Bool). b && not (has 63 (link (i + 5)))) (and-false (has w i))

module _ (e : ℕ) (q : Packet) (source phase : ℕ) (w : Wanted) (marked : is_marked q.control ≡ true) (plain : mark_of q.control ≡ 0) where
  no_leg : leg_set e q source ≡ 0
  no_leg = (λ j. cond (eqb e 0 && is_marked q.control && (eqb (plain j) 1 || eqb (plain j) 2)) (2 ^ link (source + 5)) 0) ∙ ap (λ (b : Bool). cond b (2 ^ link (source + 5)) 0) (and-false (eqb e 0 && is_marked q.control))

  all_ready : e ≡ 0 → ByRoute (decided e q source phase w 63) w.set
  unfolding decided
  all_ready none =
      record {
        errors = none;
        wanted = refl;
        sent = λ i h.
            ap (λ (b : Bool). has (cond b (send_set (links_of w.set) 63) (plain_send_set (links_of w.set) 63)) i) marked
            ∙ has_set (sends (links_of w.set) 63) i h
            ∙ all_sent (links_of w.set) i h
            ∙ low_links w.set i h;
        carried = ap (λ (b : Bool). cond b (carry_set (links_of w.set) 63) 0) marked ∙ set_none (carries (links_of w.set) 63) (none_carried (links_of w.set));
        dropped = ap (λ (b : Bool). cond b (drop_set (links_of w.set) 63) (plain_drop_set (links_of w.set) 63)) marked ∙ set_none (drops (links_of w.set) 63) (none_dropped (links_of w.set));
        leg_sent = ap (λ (l : ℕ). plain_send_set l 63) no_leg;
        leg_dropped = ap (λ (l : ℕ). plain_drop_set l 63) no_leg;
      }

-- ---- what it wants

-- where a packet comes from at a chip of the tree: from the chip itself at the source, and elsewhere by the link opposite to the one that the chip was entered by
abbrev pub ComesBy : ℕ → ℕ → Type 0
ComesBy entered source = ((source ≡ 7) × (entered ≡ 6)) ⊎ ((entered < 6) × (source ≡ opposite entered))

-- a packet that goes by the tree
pub record Fits (key mask : ℕ) (p : Packet) : Type 0 where
  pub multicast : is_mc p.control ≡ true
  pub unmarked : mark_of p.control ≡ 0
  pub matching : matches p.word key mask ≡ true

-- a chip that is passed straight through
straight : (entered route source : ℕ) → ComesBy entered source → needs_row entered route ≡ false → (eqb source 7 ≡ false) × (2 ^ link (source + 3) ≡ route)
straight entered route source (inl x) e =
    let z : ◌≡◌ {A = Bool} true false = ap (λ (k : ℕ). needs_row k route) (sym x.1) ∙ e in
    absurd (true≢false z)
straight entered route source (inr x) e =
    let same : route ≡ 2 ^ entered = eqb-true _ _ (not-false _ (ap (λ (b : Bool). cond b (not (eqb route (2 ^ entered))) (eqb entered 6)) (sym (lt-ltb entered 6 x.0)) ∙ e)) in
    let back : link (source + 3) ≡ entered = omega (arith, x.0, x.1) in
    (ne_eqb source 7 (λ h. omega (arith, x.0, x.1)), ap (λ (k : ℕ). 2 ^ k) back ∙ sym same)

module _ (key mask entered route : ℕ) (p : Packet) (source : ℕ) (fits : Fits key mask p) (from : ComesBy entered source) (monitor : ℕ) where
  row_wanted : (b : Bool) → needs_row entered route ≡ b → (mark_wanted (route_for p.word (rows_of (cond b (key ∷ mask ∷ route ∷ []) []))) 0 source monitor).set ≡ route
  unfolding rows_of first_match
  row_wanted true e = simp fits.matching
  row_wanted false e = let h = straight entered route source from e in simp h.0 h.1

-- ---- the pass

module _ (key mask entered route : ℕ) (p : Packet) (s : ℕ) (tables : ChipTables) (t : Setting) (h : Checked p s tables t) (from : Source s) (fits : Fits key mask p) (comes : ComesBy entered s)
    (rows : tables.rows ≡ cond (needs_row entered route) (key ∷ mask ∷ route ∷ []) []) (ready : t.ready ≡ 63) (none : errors_of p s t.phase ≡ 0) where
  abbrev o : Outcome
  o = outcome_of p s tables t

  marked : is_marked o.packet.control ≡ true
  marked = mc_marked _ (ap (λ (k : ℕ). eqb k 0) (outcome_stamped p s tables t h from).kind ∙ fits.multicast)

  set_wanted : (e : ℕ) → e ≡ 0 → (wanted_of e p s tables t).set ≡ route
  unfolding wanted_of
  set_wanted e none = simp (none, fits.multicast, fits.unmarked, rows) (row_wanted key mask entered route p s fits comes t.monitor (needs_row entered route) refl)

  pub by_route : ByRoute o route
  unfolding outcome_of decided
  by_route =
      subst (ByRoute o) (set_wanted (errors_of p s t.phase) none)
      (subst (λ (r : ℕ). ByRoute (decided (errors_of p s t.phase) o.packet s t.phase (wanted_of (errors_of p s t.phase) p s tables t) r) (wanted_of (errors_of p s t.phase) p s tables t).set) (sym ready)
      (all_ready (errors_of p s t.phase) o.packet s t.phase (wanted_of (errors_of p s t.phase) p s tables t) marked ((outcome_stamped p s tables t h from).mark ∙ fits.unmarked) none))

  pub sent_fits : (i : ℕ) → Fits key mask (packet_on o i)
  sent_fits i =
      let set = sent_marked p s tables t h from i marked in
      let mark : mark_on o i ≡ 0 = ap (λ (c : ℕ). cond (has c i) (cond (has (links_of o.wanted) i) 1 2) 0) by_route.carried ∙ ap (λ (b : Bool). cond b (cond (has (links_of o.wanted) i) 1 2) 0) (has_none i) in
      let stamped = outcome_stamped p s tables t h from in
      record {
        multicast = ap (λ (k : ℕ). eqb k 0) (set.kind ∙ stamped.kind) ∙ fits.multicast;
        unmarked = set.new ∙ mark;
        matching = ap (λ (k : ℕ). matches k key mask) (set.word ∙ stamped.word) ∙ fits.matching;
      }
