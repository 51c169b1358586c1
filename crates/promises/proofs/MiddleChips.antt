-- What the middle chip does besides: a packet marked 10 does nothing there but go on, and one marked 01 is routed as the one marked 00.
use mathlib.Core.Path.{◌≡◌, sym, ap, ◌∙◌}
use mathlib.Core.Bool.{true, cond}
use Prim.Native.Nat.{ℕ, ◌+◌}
use lib.Dec.{eqb, lit<}
use Rattle.packet.specs.declared.Packet.{Packet}
use Rattle.packet.specs.Control.{mark_of, stamp_of}
use Rattle.packet.specs.Types.{is_marked}
use Rattle.packet.specs.Parity.{with_mark}
use Rattle.packet.proofs.Rewrite.{FieldSet, mark_set}
use Rattle.steps.specs.Links.{links_of, link}
use Rattle.steps.specs.Detour.{send_set, drop_set}
use Rattle.steps.specs.Deciding.{decided, outcome_of}
use Rattle.steps.proofs.Emergency.{emergency_wants_nothing}
use Rattle.promises.specs.Detoured.{At, pass_at, Lost, Middle, Besides, AtTheMiddleChip}
use Rattle.promises.proofs.DetourLinks.{none_wanted}
use Rattle.promises.proofs.Detours.{WithDetours, with_detours, as_it_came, near, way, marked_middle, no_error_middle, marked_on_its_way}
use Rattle.promises.proofs.Twins.{Twins, SameWay, same_wanted, same_sent, same_dropped}

module _ (first middle : At) (b : ℕ) (lost : Lost first b) (mid : Middle first b middle) where
  marked_there : is_marked (pass_at middle).packet.control ≡ true
  marked_there = ap (λ (x : Packet). is_marked x.control) (as_it_came middle (near first middle b lost mid)) ∙ marked_middle first middle b lost mid

  nothing_wanted : mark_of middle.packet.control ≡ 2 → (pass_at middle).wanted ≡ 0
  unfolding outcome_of decided
  nothing_wanted two =
      emergency_wants_nothing _ middle.packet middle.source middle.tables middle.setting (no_error_middle first middle b lost mid) (marked_middle first middle b lost mid) two

  emergency_only : mark_of middle.packet.control ≡ 2 → ((pass_at middle).wanted ≡ 0) × ((pass_at middle).sent ≡ 0) × ((pass_at middle).dropped ≡ 0)
  emergency_only two =
      let w = nothing_wanted two in
      let s : WithDetours (pass_at middle) middle.setting.ready = with_detours middle marked_there in
      let n = none_wanted middle.setting.ready mid.given.checked.ready in (
        w,
        s.sent ∙ ap (λ (x : ℕ). send_set (links_of x) middle.setting.ready) w ∙ n.0,
        s.dropped ∙ ap (λ (x : ℕ). drop_set (links_of x) middle.setting.ready) w ∙ n.1,
      )

  none_there : FieldSet mark_of stamp_of middle.packet (with_mark middle.packet 0) 0
  none_there = mark_set middle.packet 0 (way first middle b lost mid).byte (lit< tt)

  twins_there : Twins middle.packet (with_mark middle.packet 0) middle.source middle.source
  twins_there =
      record {
        like =
            record {
              kind = sym none_there.kind;
              stamp = sym none_there.beside;
              carries = sym none_there.carries;
              nine = sym none_there.nine;
              word = sym none_there.word;
              payload = sym none_there.payload;
            };
        odd = (way first middle b lost mid).odd ∙ sym none_there.odd;
        one = near first middle b lost mid;
        other = near first middle b lost mid;
        marked = marked_middle first middle b lost mid;
      }

  both : mark_of middle.packet.control ≡ 1 → SameWay middle.packet (with_mark middle.packet 0) middle.source middle.source
  both one =
      record {
        one = ap (λ (m : ℕ). eqb m 2) one;
        other = ap (λ (m : ℕ). eqb m 2) none_there.new;
        default = (λ i. link (cond (eqb (one i) 3) (middle.source + 2) (middle.source + 3)))
            ∙ sym (λ i. link (cond (eqb (none_there.new i) 3) (middle.source + 2) (middle.source + 3)));
      }

  besides : Besides middle
  besides =
      record {
        emergency_only = emergency_only;
        both = λ one. (
          (same_wanted _ _ _ _ middle.tables middle.setting twins_there (both one)).0,
          same_sent _ _ _ _ middle.tables middle.setting twins_there (both one),
          same_dropped _ _ _ _ middle.tables middle.setting twins_there (both one),
        );
      }

pub at_the_middle_chip : AtTheMiddleChip
at_the_middle_chip first middle b lost mid = (besides first middle b lost mid, marked_on_its_way first middle b lost mid)
