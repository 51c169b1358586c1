use Rattle.std.proofs.Common.{◌≡◌, length, ap}
use Rattle.links.specs.Offsets.{registers_long, counters_long}
use Rattle.buffer.proofs.LinksChanged.{takes_on, finish}
use Rattle.buffer.proofs.chip.after.Goals as goal

pub send_all-requires : goal.send_all-requires
send_all-requires c = let a = c.args in
    let ws = c.keep.new.words in
    let cs = c.count.new.words in
    let lw : length ws ≡ registers_long = ap length c.keep.ensures in
    let lc : length cs ≡ counters_long = ap length c.count.ensures in
    takes_on a.chip.now ws cs a.o c.requires.long lw lc c.requires

pub returns : goal.returns
returns c = let a = c.args in
    let ws = c.keep.new.words in
    let cs = c.count.new.words in
    let lw : length ws ≡ registers_long = ap length c.keep.ensures in
    let lc : length cs ≡ counters_long = ap length c.count.ensures in
    finish a.chip.now ws cs a.o c.requires.long lw lc c.keep.ensures c.count.ensures c.requires c.send_all.new.chip c.send_all.ensures
