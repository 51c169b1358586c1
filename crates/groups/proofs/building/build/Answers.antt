use Prim.Native.Nat.{ℕ, ◌+◌, ◌<◌}
use mathlib.Core.Path.{◌≡◌, sym, ◌∙◌}
use native.Mathlib.Omega.{arith}
use lib.ListN.{length}
use Rattle.tables.specs.Rows.{rows_of}
use Rattle.tables.proofs.RowsByNumber.{rows_many}
use Rattle.groups.specs.Groups.{group_of, is_in}
use Rattle.groups.specs.Building.{sofar}
use Rattle.groups.proofs.InOrder.{sofar_all, sofar_more}
use Rattle.groups.proofs.Listing.{bit_asked}
use Rattle.groups.proofs.Placing.{said_so, kept_less, kept_none, kept_both}
use Rattle.groups.proofs.Filling.{none_placed, none_written, room_holds}
use Rattle.groups.proofs.building.build.Goals as goal

pub loop-i-init : goal.loop-i-init
loop-i-init c = let rows = rows_of c.args.rows.now in
    let tops = c.args.tops.now in
    record {
      placed = none_placed c.args.marks.now tops rows c.args.room.now c.begin.new.room c.requires.1.0 c.begin.ensures c.requires.1.1;
      kept = kept_none tops (length rows) (sofar rows 0) c.begin.new.room;
    }

pub loop-i-preserved : goal.loop-i-preserved
loop-i-preserved c = let words = c.args.rows.now in
    let rows = rows_of words in
    let tops = c.args.tops.now in
    let i = c.loop-i.i in
    let begun = c.begin.new.room in
    let here : i < length rows = omega (arith, rows_many words) in
    let kept = kept_less tops (length rows) (sofar rows i) (sofar rows (i + 1)) begun c.loop-i.room (λ g h e. sofar_more rows g i here) c.loop-i.invariant.kept in
    record {
      placed = c.place.ensures.placed;
      kept = kept_both tops (length rows) (sofar rows (i + 1)) begun c.loop-i.room c.place.new.room kept c.place.ensures.kept;
    }

pub returns : goal.returns
returns c = let words = c.args.rows.now in
    let rows = rows_of words in
    let tops = c.args.tops.now in
    let marks = c.args.marks.now in
    let room₀ = c.args.room.now in
    let begun = c.begin.new.room in
    let room = c.loop-i.room in
    let all : c.loop-i.i ≡ length rows = omega (arith, rows_many words) in
    let many : ℕ → ℕ = λ g. length (group_of rows g) in
    let kept = kept_less tops (length rows) (sofar rows (length rows)) many begun room (λ g h e. omega (arith, sofar_all rows g)) (rw all at c.loop-i.invariant.kept) in
    room_holds marks tops rows room₀ room
    (λ g h. bit_asked marks g (is_in g tops) (c.requires.1.1.bits g h))
    (said_so tops rows (sofar rows (length rows)) many room (λ g h e. sym (sofar_all rows g)) (rw all at c.loop-i.invariant.placed))
    (kept_both tops (length rows) many room₀ begun room (none_written marks tops rows room₀ begun c.requires.1.0 c.begin.ensures many) kept)
    (c.loop-i.auto.room ∙ c.begin.auto.room)
    (omega (arith, c.requires.0.1, rows_many words))
