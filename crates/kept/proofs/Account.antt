-- The account of one pass: weight in and extra branches are delivered, ended in error, dropped, swallowed or sent. What carries it: link by
-- link the weights are computed for every wanted and ready set, and a wanted set's bits are its processors' and its links'.
use Rattle.std.proofs.Common.{◌≡◌, ℕ, zero, suc, ◌+◌, ◌-◌, ◌/◌, ◌%◌, ◌^◌, ◌<◌, ◌≤◌, Bool, true, false, cond, ◌&&◌, eqb, ltb, sym, refl, ap, ◌∙◌, mod-lt, div-add-mod', arith, lit<, ltb-true, lt-ltb, eqb-true}
use mathlib.Core.Bool.{and-true, and-false, and-eq-true_iff, true≢false}
use lib.Count.{ones, ones_in, ones_cat, ones_step}
use lib.Arith.{bin_ind}
use borrow.Author.Tests.{eqb-false}
use Rattle.packet.proofs.Small.{every, at, every₂, at₂}
use Rattle.packet.specs.declared.Packet.{Packet}
use Rattle.packet.specs.Control.{mark_of}
use Rattle.packet.specs.Types.{is_marked, is_mc}
use Rattle.packet.proofs.Types.{mc_marked}
use Rattle.packet.proofs.Folded.{ones_zero}
use Rattle.steps.specs.declared.Outcome.{Outcome}
use Rattle.steps.specs.declared.Wanted.{Wanted}
use Rattle.steps.specs.Links.{has, links_of, processors_of, link}
use Rattle.steps.specs.Detour.{carry_set, send_set, drop_set, plain_send_set, plain_drop_set}
use Rattle.steps.specs.Deciding.{has_leg, decided}
use Rattle.kept.specs.Counting.{delivered, swallowed}
use Rattle.kept.specs.Units.{weight_in, extra, ended, sum_list, settled, over_links, weight_sent}

-- ---- link by link, computed

-- what the links that send weigh, from the sets of wanted, sending and carrying links
link_weight : ℕ → ℕ → ℕ → ℕ
link_weight wanted sent carried = over_links (λ i. cond (has sent i) (cond (eqb (cond (has carried i) (cond (has wanted i) 1 2) 0) 1) 2 1) 0)

detour_test : ℕ → ℕ → Bool
detour_test w r = eqb (link_weight w (send_set w r) (carry_set w r) + ones (drop_set w r)) (ones w)

plain_test : ℕ → ℕ → Bool
plain_test w r = eqb (link_weight w (plain_send_set w r) 0 + ones (plain_drop_set w r)) (ones w)

leg_test : ℕ → ℕ → Bool
leg_test g r = eqb (ones (plain_send_set g r) + ones (plain_drop_set g r)) (ones g)

detour_weight : (w r : ℕ) → w < 64 → r < 64 → link_weight w (send_set w r) (carry_set w r) + ones (drop_set w r) ≡ ones w
unfolding every every₂ detour_test link_weight ones ones_in
detour_weight w r hw hr = eqb-true _ _ (at₂ 64 64 detour_test refl w r hw hr)

plain_weight : (w r : ℕ) → w < 64 → r < 64 → link_weight w (plain_send_set w r) 0 + ones (plain_drop_set w r) ≡ ones w
unfolding every every₂ plain_test link_weight ones ones_in
plain_weight w r hw hr = eqb-true _ _ (at₂ 64 64 plain_test refl w r hw hr)

leg_weight : (g r : ℕ) → g < 64 → r < 64 → ones (plain_send_set g r) + ones (plain_drop_set g r) ≡ ones g
unfolding every every₂ leg_test ones ones_in
leg_weight g r hg hr = eqb-true _ _ (at₂ 64 64 leg_test refl g r hg hr)

-- ---- a wanted set's bits

ones_route : (route : ℕ) → ones route ≡ ones (processors_of route) + ones (links_of route)
ones_route route = ap ones (sym (div-add-mod' route 64)) ∙ ones_cat 6 (route / 64) (route % 64) (mod-lt route (lit< tt))

-- a set that is not empty has a bit
some_bit : (n : ℕ) → (n ≡ 0 → ⊥) → 1 ≤ ones n
some_bit = bin_ind (λ (n : ℕ). (n ≡ 0 → ⊥) → 1 ≤ ones n) (λ h. absurd (h refl)) step
  where
    step : (n : ℕ) → ((n / 2 ≡ 0 → ⊥) → 1 ≤ ones (n / 2)) → (n ≡ 0 → ⊥) → 1 ≤ ones n
    step n ih h = go (n % 2) refl
      where
        go : (b : ℕ) → n % 2 ≡ b → 1 ≤ ones n
        go zero e =
            let more : 1 ≤ ones (n / 2) = ih (λ z. h (omega arith)) in
            omega (arith, ones_step n)
        go (suc b) e = omega (arith, ones_step n)

leg_bit_test : ℕ → Bool
leg_bit_test j = eqb (ones (2 ^ j)) 1 && ltb (2 ^ j) 64

leg_bit : (i : ℕ) → leg_bit_test (link i) ≡ true
unfolding every leg_bit_test ones ones_in
leg_bit i = at 6 leg_bit_test refl (link i) (mod-lt i (lit< tt))

-- ---- the account

pick : (g : Bool) → ◌≡◌ {A = ℕ} (cond g 1 1) 1
pick true = refl
pick false = refl

-- what the wanted set of a packet has to do with its errors, mark and source
pub record Consistent (e : ℕ) (q : Packet) (s : ℕ) (w : Wanted) : Type 0 where
  pub quiet : (e ≡ 0 → ⊥) → links_of w.set ≡ 0
  pub emergency : e ≡ 0 → is_marked q.control ≡ true → mark_of q.control ≡ 2 → w.set ≡ 0
  pub arrived : e ≡ 0 → is_marked q.control ≡ true → mark_of q.control ≡ 1 → s < 6

-- a packet that has no mark is no MC packet
no_mc : (c : ℕ) → is_marked c ≡ false → is_mc c ≡ false
no_mc c f = go (is_mc c) refl
  where
    go : (b : Bool) → is_mc c ≡ b → is_mc c ≡ false
    go true e = absurd (true≢false (sym (mc_marked c e) ∙ f))
    go false e = e

module _ (e : ℕ) (q : Packet) (s phase : ℕ) (w : Wanted) (ready : ℕ) (hr : ready < 64) where
  -- every branch to a link is sent, carried or dropped
  links_close : link_weight (links_of w.set) (decided e q s phase w ready).sent (decided e q s phase w ready).carried + ones (decided e q s phase w ready).dropped ≡ ones (links_of w.set)
  unfolding decided
  links_close = go (is_marked q.control) refl
    where
      l : ℕ
      l = links_of w.set

      hl : links_of w.set < 64
      hl = mod-lt w.set (lit< tt)

      go : (b : Bool) → is_marked q.control ≡ b
          → link_weight (links_of w.set) (cond b (send_set (links_of w.set) ready) (plain_send_set (links_of w.set) ready)) (cond b (carry_set (links_of w.set) ready) 0)
          + ones (cond b (drop_set (links_of w.set) ready) (plain_drop_set (links_of w.set) ready))
          ≡ ones (links_of w.set)
      go true f = detour_weight (links_of w.set) ready hl hr
      go false f = plain_weight (links_of w.set) ready hl hr

  -- the second leg is sent or dropped
  leg_close : ones (decided e q s phase w ready).leg_sent + ones (decided e q s phase w ready).leg_dropped ≡ cond (has_leg e q) 1 0
  unfolding decided leg_bit_test
  leg_close = go (has_leg e q)
    where
      go : (b : Bool) → ones (plain_send_set (cond b (2 ^ link (s + 5)) 0) ready) + ones (plain_drop_set (cond b (2 ^ link (s + 5)) 0) ready) ≡ cond b 1 0
      go true =
          let t : _ = (and-eq-true_iff (eqb (ones (2 ^ link (s + 5))) 1) (ltb (2 ^ link (s + 5)) 64)).0 (leg_bit (s + 5)) in
          leg_weight (2 ^ link (s + 5)) ready (ltb-true _ _ t.1) hr ∙ eqb-true _ _ t.0
      go false = leg_weight 0 ready (lit< tt) hr ∙ ones_zero

  -- a wanted set with no bit is swallowed
  spare : (ones w.set - 1) + 1 ≡ ones w.set + cond (eqb w.set 0) 1 0
  spare = go (eqb w.set 0) refl
    where
      go : (a : Bool) → eqb w.set 0 ≡ a → (ones w.set - 1) + 1 ≡ ones w.set + cond a 1 0
      go true f = let none : ones w.set ≡ 0 = ap ones (eqb-true _ _ f) ∙ ones_zero in omega arith
      go false f = let some : 1 ≤ ones w.set = some_bit w.set (eqb-false _ _ f) in omega arith

  -- the branches of a packet without error: its weight and what it adds are its wanted bits, its leg, and one if it is swallowed
  parts : Consistent e q s w → e ≡ 0 → weight_in q s + (ones w.set - 1) ≡ ones w.set + cond (has_leg e q) 1 0 + swallowed (decided e q s phase w ready)
  unfolding decided
  parts h z = go (is_marked q.control) refl (eqb (mark_of q.control) 1) refl (eqb (mark_of q.control) 2) refl (ltb s 6) refl
    where
      Parts : Type 0
      Parts = weight_in q s + (ones w.set - 1) ≡ ones w.set + cond (has_leg e q) 1 0 + swallowed (decided e q s phase w ready)

      close : (n l x : ℕ) → weight_in q s ≡ n → cond (has_leg e q) 1 0 ≡ l → swallowed (decided e q s phase w ready) ≡ x → n + (ones w.set - 1) ≡ ones w.set + l + x → Parts
      close n l x en el ex f = simp (en, el, ex) f

      go : (b : Bool) → is_marked q.control ≡ b → (c : Bool) → eqb (mark_of q.control) 1 ≡ c → (d : Bool) → eqb (mark_of q.control) 2 ≡ d → (g : Bool) → ltb s 6 ≡ g → Parts
      go true fb true fc d fd g fg =
          let m : mark_of q.control ≡ 1 = eqb-true _ _ fc in
          let near : ltb s 6 ≡ true = lt-ltb _ _ (h.arrived z fb m) in
          close 2 1 (cond (eqb w.set 0) 1 0) (simp (near, fb, fc)) (simp (z, fb, fc)) (simp (z, fb, m, and-true)) (omega (arith, spare))
      go true fb false fc true fd g fg =
          let m : mark_of q.control ≡ 2 = eqb-true _ _ fd in
          let none : ones w.set ≡ 0 = ap ones (h.emergency z fb m) ∙ ones_zero in
          close 1 1 0 (simp (fg, fb, fc, and-false) (pick g)) (simp (z, fb, fc, fd)) (simp (z, fb, fd, and-false)) (omega arith)
      go true fb false fc false fd g fg = close 1 0 (cond (eqb w.set 0) 1 0) (simp (fg, fb, fc, and-false) (pick g)) (simp (z, fb, fc, fd)) (simp (z, fb, fd, and-true)) (omega (arith, spare))
      go false fb c fc d fd g fg = close 1 0 (cond (eqb w.set 0) 1 0) (simp (fg, fb, no_mc q.control fb) (pick g)) (simp (z, fb)) (simp (z, fb, and-true)) (omega (arith, spare))

  pub account_decided : Consistent e q s w
      → weight_in q s + extra (decided e q s phase w ready)
      ≡ settled (decided e q s phase w ready) s + weight_sent (decided e q s phase w ready)
  unfolding decided link_weight sum_list
  account_decided h = go (eqb e 0) refl
    where
      o : Outcome
      o = decided e q s phase w ready

      go : (b : Bool) → eqb e 0 ≡ b
          → weight_in q s + extra (decided e q s phase w ready) ≡ settled (decided e q s phase w ready) s + weight_sent (decided e q s phase w ready)
      go true f =
          let branches : extra o ≡ ones w.set - 1 = simp f in
          let reached : delivered o ≡ ones (processors_of w.set) = simp f in
          let right : ended o s ≡ 0 = simp f in
          omega (arith, parts h (eqb-true _ _ f), ones_route w.set, links_close, leg_close)
      go false f =
          let links : ones (links_of w.set) ≡ 0 = ap ones (h.quiet (eqb-false _ _ f)) ∙ ones_zero in
          let leg : ◌≡◌ {A = ℕ} (cond (has_leg e q) 1 0) 0 = simp f in
          let branches : extra o ≡ 0 = simp f in
          let reached : delivered o ≡ 0 = simp f in
          let wrong : ended o s ≡ weight_in q s = simp f in
          let food : swallowed o ≡ 0 = simp f in
          omega (arith, links_close, leg_close)
