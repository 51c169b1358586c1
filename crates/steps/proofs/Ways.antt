-- Every wanted link is sent to, carried by a detour, or dropped, exactly one of the three; and a ready link is sent to. Computed for every
-- wanted and ready set.
use mathlib.Core.Path.{◌≡◌, refl}
use mathlib.Core.Bool.{Bool, true, false, cond, ◌&&◌, ◌||◌, not, and-eq-true_iff}
use Prim.Native.Nat.{ℕ, ◌+◌, ◌<◌}
use native.Mathlib.Nat.{mod-lt}
use lib.Dec.{eqb, lit<}
use borrow.Author.Tests.{eqb-true}
use Rattle.packet.specs.declared.Packet.{Packet}
use Rattle.packet.specs.Types.{is_marked}
use Rattle.packet.proofs.Small.{every, at, every₂, at₂}
use Rattle.steps.specs.declared.Setting.{Setting}
use Rattle.steps.specs.declared.Wanted.{Wanted}
use Rattle.steps.specs.Links.{has, links_of, link}
use Rattle.steps.specs.Detour.{carry_set, send_set, drop_set, plain_send_set, plain_drop_set}
use Rattle.steps.specs.Errors.{errors_of, stamped_of, flag}
use Rattle.steps.specs.Wants.{wanted_of}
use Rattle.steps.specs.Deciding.{decided, outcome_of}
use Rattle.tables.specs.Tables.{ChipTables}

-- the three ways of link i, counted: link i sends, the link before it carries its detour, it is dropped for
abbrev pub ways_of : ℕ → ℕ → ℕ → ℕ → ℕ
ways_of sent carried dropped i = flag (has sent i) 1 + flag (has carried (link (i + 5))) 1 + flag (has dropped i) 1

-- one way for a wanted link, and for a ready one the first
way_test : ℕ → ℕ → ℕ → ℕ → ℕ → ℕ → Bool
way_test w r sent carried dropped i = not (has w i) || (eqb (ways_of sent carried dropped i) 1 && (not (has r i) || has sent i))

detour_test : ℕ → ℕ → Bool
detour_test w r = let s = send_set w r in let c = carry_set w r in let d = drop_set w r in every 6 (way_test w r s c d)

plain_test : ℕ → ℕ → Bool
plain_test w r = let s = plain_send_set w r in let d = plain_drop_set w r in every 6 (way_test w r s 0 d)

detour_test_lem : (w r : ℕ) → w < 64 → r < 64 → detour_test w r ≡ true
unfolding every every₂ detour_test way_test
detour_test_lem = at₂ 64 64 detour_test refl

plain_test_lem : (w r : ℕ) → w < 64 → r < 64 → plain_test w r ≡ true
unfolding every every₂ plain_test way_test
plain_test_lem = at₂ 64 64 plain_test refl

pub record OneWay (sent carried dropped ready i : ℕ) : Type 0 where
  pub one : ways_of sent carried dropped i ≡ 1
  pub straight : has ready i ≡ true → has sent i ≡ true

one_way : (w r sent carried dropped i : ℕ) → way_test w r sent carried dropped i ≡ true → has w i ≡ true → OneWay sent carried dropped r i
unfolding way_test
one_way w r sent carried dropped i test wanted =
    let t : _ = (and-eq-true_iff (eqb (ways_of sent carried dropped i) 1) (not (has r i) || has sent i)).0 (simp wanted at test) in
    record { one = eqb-true _ _ t.0; straight = λ ready. simp ready at t.1 }

module _ (e : ℕ) (p : Packet) (s phase : ℕ) (w : Wanted) (ready i : ℕ) (hr : ready < 64) (hi : i < 6) (wanted : has (links_of w.set) i ≡ true) where
  decided_way : OneWay (decided e p s phase w ready).sent (decided e p s phase w ready).carried (decided e p s phase w ready).dropped ready i
  unfolding decided detour_test plain_test
  decided_way = go (is_marked p.control)
    where
      l : ℕ
      l = links_of w.set

      hl : links_of w.set < 64
      hl = mod-lt w.set (lit< tt)

      go : (b : Bool)
          → OneWay (cond b (send_set (links_of w.set) ready) (plain_send_set (links_of w.set) ready)) (cond b (carry_set (links_of w.set) ready) 0)
          (cond b (drop_set (links_of w.set) ready) (plain_drop_set (links_of w.set) ready))
          ready
          i
      go true = one_way (links_of w.set) ready _ _ _ i (at 6 (way_test (links_of w.set) ready _ _ _) (detour_test_lem (links_of w.set) ready hl hr) i hi) wanted
      go false = one_way (links_of w.set) ready _ _ _ i (at 6 (way_test (links_of w.set) ready _ _ _) (plain_test_lem (links_of w.set) ready hl hr) i hi) wanted

-- "Every wanted link is sent to, carried by a detour, or dropped": one of the three, and no two
pub pass_way : (p : Packet) (s : ℕ) (tables : ChipTables) (t : Setting) (i : ℕ) → t.ready < 64 → i < 6 → has (links_of (outcome_of p s tables t).wanted) i ≡ true
    → OneWay (outcome_of p s tables t).sent (outcome_of p s tables t).carried (outcome_of p s tables t).dropped t.ready i
unfolding outcome_of decided
pass_way p s tables t i hr hi wanted =
    let e = errors_of p s t.phase in
    decided_way e (stamped_of p s e t.phase) s t.phase (wanted_of e p s tables t) t.ready i hr hi wanted
