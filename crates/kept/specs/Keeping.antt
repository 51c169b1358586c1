-- "Each chip's error registers keep the first dropped unit since they were last read: control byte and word as they stood after stamping,
-- payload or 0, the link, whether it was a second leg, and a flag that more followed. Within a pass drops go by link 0 to 5, the second leg last."
-- "Add the arrival source, the phase code and the number of units dropped since the last read, stopping at 65,535, to what each chip keeps."
use Rattle.std.specs.Prelude.{ℕ, ◌+◌, Bool, cond, ◌==◌, count_ones, nat_lt}
use Rattle.steps.specs.declared.Outcome.{Outcome}
use Rattle.kept.specs.declared.Registers.{Registers}
use Rattle.steps.specs.Links.{has}

-- "Empty ones are all zeros."
abbrev pub empty : Registers
empty = record { control = 0; word = 0; payload = 0; link = 0; leg = 0; more = 0; source = 0; phase = 0; units = 0 }

-- Nothing was dropped since they were read.
abbrev pub is_empty : Registers → Bool
is_empty r = r.units == 0

-- Units dropped in a pass.
abbrev pub drop_count : Outcome → ℕ
drop_count o = count_ones o.dropped + count_ones o.leg_dropped

-- "Stopping at 65,535".
abbrev pub most_units : ℕ
most_units = 65535

abbrev pub capped : ℕ → ℕ
capped n = cond (nat_lt most_units n) most_units n

-- "The 'more followed' flag means that this number is above 1."
abbrev pub more_of : ℕ → ℕ
more_of units = cond (nat_lt 1 units) 1 0

-- The registers with another number of units, and the flag that goes with it.
abbrev pub with_units : Registers → ℕ → Registers
with_units r n =
    record {
      control = r.control;
      word = r.word;
      payload = r.payload;
      link = r.link;
      leg = r.leg;
      more = more_of n;
      source = r.source;
      phase = r.phase;
      units = n;
    }

-- The lowest link of a set.
abbrev pub lowest : ℕ → ℕ
lowest set = cond (has set 0) 0 (cond (has set 1) 1 (cond (has set 2) 2 (cond (has set 3) 3 (cond (has set 4) 4 5))))

-- The first dropped unit of a pass that drops some, and how many it drops.
abbrev pub first_drop : Outcome → Registers
first_drop o =
    record {
      control = o.packet.control;
      word = o.packet.word;
      payload = o.packet.payload;
      link = cond (o.dropped == 0) (lowest o.leg_dropped) (lowest o.dropped);
      leg = cond (o.dropped == 0) 1 0;
      more = more_of (capped (drop_count o));
      source = o.source;
      phase = o.phase;
      units = capped (drop_count o);
    }

abbrev pub kept_of : Registers → Outcome → Registers
kept_of r o = cond (drop_count o == 0) r (cond (is_empty r) (first_drop o) (with_units r (capped (r.units + drop_count o))))
