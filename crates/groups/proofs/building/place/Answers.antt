use Prim.Native.Nat.{ℕ, ◌+◌, ◌*◌, ◌<◌, ◌≤◌, ◌/◌}
use mathlib.Core.Path.{◌≡◌, sym, ap, ◌∙◌, subst}
use native.Mathlib.Omega.{arith}
use lib.ListN.{length, get_or}
use Rattle.tables.specs.Rows.{Entry, rows_of}
use Rattle.tables.proofs.RowsByNumber.{rows_many, row_at}
use Rattle.groups.specs.Groups.{top_of, room_for}
use Rattle.groups.specs.Building.{PutFits, after_put}
use Rattle.groups.proofs.Placing.{kept_less, kept_none, kept_both}
use Rattle.groups.proofs.RowByRow.{partly, partly_none, partly_all, kept_all, partly_more, fixed_fits, fixed_put, free_fits, free_put}
use Rattle.groups.proofs.building.place.Goals as goal

pub put-requires : goal.put-requires
put-requires c =
    let words = c.args.rows.now in
    let few : length (rows_of words) ≤ 1024 = omega (arith, c.requires, rows_many words) in
    let here : c.args.i < length (rows_of words) = omega (arith, c.requires, rows_many words) in
    let fits : room_for (length (rows_of words)) ≤ length c.args.room.now = omega (arith, c.requires, rows_many words) in
    subst (λ (n : ℕ). PutFits c.args.room.now n c.top_of.result) (rows_many words)
    (fixed_fits c.args.tops.now (rows_of words) few c.args.i here c.args.room.now fits c.requires.i_in_bounds.1.1 c.top_of.result c.top_of.ensures.1)

pub returns-then-fixes_top : goal.returns-then-fixes_top
returns-then-fixes_top c =
    let words = c.args.rows.now in
    let room = c.args.room.now in
    let few : length (rows_of words) ≤ 1024 = omega (arith, c.requires, rows_many words) in
    let here : c.args.i < length (rows_of words) = omega (arith, c.requires, rows_many words) in
    let fits : room_for (length (rows_of words)) ≤ length room = omega (arith, c.requires, rows_many words) in
    let top = ap (λ (e : Entry). top_of e.key) (row_at words c.args.i (omega (arith, c.requires))) ∙ sym c.top_of.ensures.0 in
    let last = c.put.ensures ∙ ap (λ (n : ℕ). after_put room n c.top_of.result c.args.i) (sym (rows_many words)) in
    let found =
    fixed_put c.args.tops.now (rows_of words) few c.args.i here room fits c.requires.i_in_bounds.1.1 c.top_of.result c.top_of.ensures.1
    (sym c.fixes_top.ensures ∙ c.if-fixes_top.true) top in
    record { placed = rw last found.0; kept = rw last found.1 }

pub loop-top-init : goal.loop-top-init
loop-top-init c =
    let words = c.args.rows.now in
    let rows = rows_of words in
    let tops = c.args.tops.now in
    let room = c.args.room.now in
    record {
      placed = partly_none tops rows (omega (arith, c.requires, rows_many words)) c.args.i (omega (arith, c.requires, rows_many words)) room c.requires.i_in_bounds.1.1;
      kept = kept_none tops (length rows) (partly tops rows c.args.i 0) room;
    }

pub put-requires-in-loop-top : goal.put-requires-in-loop-top
put-requires-in-loop-top c =
    let words = c.args.rows.now in
    let tops = c.args.tops.now in
    let room = c.loop-top.room in
    subst (λ (g : ℕ). PutFits room (length words / 3) g) (sym c.from.ensures)
    (subst (λ (n : ℕ). PutFits room n (get_or tops c.loop-top.top-index 0)) (rows_many words)
    (free_fits tops (rows_of words) (omega (arith, c.requires, rows_many words)) c.args.i (omega (arith, c.requires, rows_many words)) room
    (omega (arith, c.requires, c.loop-top.auto.room, rows_many words))
    c.requires.i_in_bounds.1.0 c.loop-top.top-index (omega arith) c.loop-top.invariant.placed))

pub loop-top-preserved : goal.loop-top-preserved
loop-top-preserved c =
    let words = c.args.rows.now in
    let rows = rows_of words in
    let tops = c.args.tops.now in
    let room = c.loop-top.room in
    let i = c.args.i in
    let k = c.loop-top.top-index in
    let few : length rows ≤ 1024 = omega (arith, c.requires, rows_many words) in
    let here : i < length rows = omega (arith, c.requires, rows_many words) in
    let fits : 257 + 256 * length rows ≤ length room = omega (arith, c.requires, c.loop-top.auto.room, rows_many words) in
    let within : k < length tops = omega arith in
    let free = sym c.fixes_top.ensures ∙ c.if-fixes_top.false in
    let put = free_put tops rows few i here room fits c.requires.i_in_bounds.1.0 k within c.loop-top.invariant.placed free in
    let last = c.put-in-loop-top.ensures ∙ (λ j. after_put room (sym (rows_many words) j) (c.from.ensures j) i) in
    let kept = kept_less tops (length rows) (partly tops rows i k) (partly tops rows i (k + 1)) c.args.room.now room
    (λ g h e. partly_more tops rows few i here room fits c.requires.i_in_bounds.1.0 k within c.loop-top.invariant.placed g)
    c.loop-top.invariant.kept in
    record {
      placed = rw last put.0;
      kept = rw last (kept_both tops (length rows) (partly tops rows i (k + 1)) c.args.room.now room (after_put room (length rows) (get_or tops k 0) i) kept put.1);
    }

pub returns : goal.returns
returns c =
    let words = c.args.rows.now in
    let rows = rows_of words in
    let tops = c.args.tops.now in
    let i = c.args.i in
    let few : length rows ≤ 1024 = omega (arith, c.requires, rows_many words) in
    let here : i < length rows = omega (arith, c.requires, rows_many words) in
    let all : c.loop-top.top-index ≡ length tops = omega arith in
    let free = sym c.fixes_top.ensures ∙ c.if-fixes_top.false in
    record {
      placed = partly_all tops rows few i here c.loop-top.room free (rw all at c.loop-top.invariant.placed);
      kept = kept_all tops rows few i here c.loop-top.room free c.args.room.now (rw all at c.loop-top.invariant.kept);
    }
