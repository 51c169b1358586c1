use Rattle.std.proofs.Common.{rules, ◌/◌, ◌*◌, ◌≡◌, ◌∙◌, ℕ, refl, sym, ap, subst, arith, length, take, drop}
use mathlib.Core.Bool.{Bool, ◌||◌}
use mathlib.Core.List.{List}
use lib.Seq.{length-take-le}
use Rattle.std.specs.List.{list_any}
use Rattle.std.specs.Borrow.{Bor}
use Rattle.std.proofs.lemmas.Iterator.{YieldsList, YieldsList-from_slice}
use Rattle.std.proofs.lemmas.Iterator.Search.{any_from_yields_List}
use Rattle.std.specs.Slice.Iter.{chunks_exact_rest, chunks_exact_steps}
use Rattle.fewer.specs.declared.Held.{Held}
use Rattle.fewer.specs.Process.{covers}
use Rattle.fewer.specs.Hand.{numbered_of, held_of, Covered, some_covers}
use Rattle.fewer.proofs.Fours.{gives, pieces, covered_of}
use Rattle.fewer.proofs.taking_out.any_covers.Goals as goal

pub returns-then-any : goal.returns-then-any
returns-then-any c =
    let held = c.args.held.now in
    let upto = c.args.upto in
    let s = c.chunks_exact-fours.result in
    let row = (numbered_of c.args.row).entry in
    let cut : chunks_exact_rest s ≡ take upto held = c.chunks_exact-fours.ensures.rest in
    let many : length (take upto held) ≡ upto = length-take-le upto held c.requires in
    let long : upto / 4 ≡ length (chunks_exact_rest s) / 4 = sym (ap (λ (l : List Held). length l / 4) cut ∙ ap (λ (n : ℕ). n / 4) many) in
    let yields : YieldsList chunks_exact_steps (λ (y : Bor (List Held)). y.now) s (pieces (upto / 4) (chunks_exact_rest s)) = record { runs = gives (upto / 4) s c.chunks_exact-fours.ensures.size long } in
    let found : c.any.result ≡ list_any (some_covers row) (pieces (upto / 4) (chunks_exact_rest s)) =
    any_from_yields_List {steps = chunks_exact_steps} {v = λ (y : Bor (List Held)). y.now} (some_covers row) _ _ _ c.any.ensures.ran yields (λ x b f' k. search rules) in
    let first : c.any.result ≡ list_any (some_covers row) (pieces (upto / 4) (take upto held)) = found ∙ ap (λ (l : List Held). list_any (some_covers row) (pieces (upto / 4) l)) cut in
    let later : Bool = some_covers row (drop (upto / 4 * 4) (take upto held)) in
    let yes : (c.any.result || later) ≡ c.any.result = ap (λ (b : Bool). b || later) c.if-any.true ∙ sym c.if-any.true in
    subst (Covered (held_of held) row 0 upto) yes (covered_of row held upto (upto / 4) c.any.result later c.requires first refl)

pub returns-else-any : goal.returns-else-any
returns-else-any c =
    let held = c.args.held.now in
    let upto = c.args.upto in
    let s = c.chunks_exact-fours.result in
    let row = (numbered_of c.args.row).entry in
    let cut : chunks_exact_rest s ≡ take upto held = c.chunks_exact-fours.ensures.rest in
    let many : length (take upto held) ≡ upto = length-take-le upto held c.requires in
    let long : upto / 4 ≡ length (chunks_exact_rest s) / 4 = sym (ap (λ (l : List Held). length l / 4) cut ∙ ap (λ (n : ℕ). n / 4) many) in
    let yields : YieldsList chunks_exact_steps (λ (y : Bor (List Held)). y.now) s (pieces (upto / 4) (chunks_exact_rest s)) = record { runs = gives (upto / 4) s c.chunks_exact-fours.ensures.size long } in
    let found : c.any.result ≡ list_any (some_covers row) (pieces (upto / 4) (chunks_exact_rest s)) =
    any_from_yields_List {steps = chunks_exact_steps} {v = λ (y : Bor (List Held)). y.now} (some_covers row) _ _ _ c.any.ensures.ran yields (λ x b f' k. search rules) in
    let first : c.any.result ≡ list_any (some_covers row) (pieces (upto / 4) (take upto held)) = found ∙ ap (λ (l : List Held). list_any (some_covers row) (pieces (upto / 4) l)) cut in
    let left : c.remainder-rest.result.now ≡ drop (upto / 4 * 4) (take upto held) =
    c.remainder-rest.ensures ∙ c.chunks_exact-fours.ensures.remainder ∙ ap (λ (n : ℕ). drop n (take upto held)) (omega (arith, many)) in
    let rest : c.any-else-any.result ≡ some_covers row c.remainder-rest.result.now =
    any_from_yields_List (λ (h : Held). covers (numbered_of h).entry row) _ _ _ c.any-else-any.ensures.ran (YieldsList-from_slice _ c.iter.ensures.rest) (λ x b f' k. search rules) in
    subst (Covered (held_of held) row 0 upto) (ap (λ (b : Bool). b || c.any-else-any.result) c.if-any.false)
    (covered_of row held upto (upto / 4) c.any.result c.any-else-any.result c.requires first (rest ∙ ap (some_covers row) left))
