-- What a history tells: sums over its passes, the drops since a chip's registers were last read, the records of its log.
use Rattle.std.specs.Prelude.{ℕ, ◌+◌, ◌-◌, ◌≡◌, Bool, true, cond, ◌&&◌, not, eqb, length, get_or}
use mathlib.Core.List.{List, [], ◌∷◌, ◌++◌, foldl, map}
use Rattle.packet.specs.declared.Packet.{Packet}
use Rattle.packet.specs.Types.{is_mc, is_stamped}
use Rattle.packet.specs.Parity.{is_odd}
use Rattle.tables.specs.Shown.{found_shown}
use Rattle.tables.specs.Rows.{rows_of, first_match}
use Rattle.kept.specs.declared.Registers.{Registers}
use Rattle.steps.specs.Links.{has}
use Rattle.kept.specs.Keeping.{empty, drop_count, capped, with_units}
use Rattle.steps.specs.Errors.{flag, too_old, wrong_length, bad_local}
use Rattle.kept.specs.Counting.{delivered, swallowed}
use Rattle.links.specs.Link.{Flight, Link}
use Rattle.mesh.specs.Mesh.{Chip, Mesh}
use Rattle.mesh.specs.Steps.{log_of}
use Rattle.mesh.specs.Calls.{Left}
use Rattle.lists.specs.Lists.{All}
use Rattle.mesh.specs.Weights.{on_chip}
use Rattle.promises.specs.History.{Passage, Event, packet_passed, registers_emptied}

-- ---- copies

-- Packets that have a stamp grow old.
abbrev pub Stamped : Packet → Type 0
Stamped p = is_stamped p.control ≡ true

-- What holds of every packet in flight.
abbrev pub EachFlight : {A : Type 0} → (Flight A → Type 0) → Mesh A → Type 0
EachFlight P m = All (λ (c : Chip _). All (λ (l : Link _). All P l.held) c.links) m.chips

-- What holds of every pass.
unfoldable pub EachPass : (Passage → Type 0) → List Event → Type 0
EachPass P [] = Unit {0}
EachPass P (packet_passed p ∷ es) = P p × EachPass P es
EachPass P (registers_emptied c ∷ es) = EachPass P es

-- ---- sums

unfoldable pub sum_of : (Passage → ℕ) → List Event → ℕ
sum_of f [] = 0
sum_of f (packet_passed p ∷ es) = f p + sum_of f es
sum_of f (registers_emptied c ∷ es) = sum_of f es

-- "A local miss is a local MC packet without error and without a matching row."
abbrev pub is_miss : Passage → Bool
is_miss p =
    eqb p.arrival.source 7 && is_mc p.arrival.flight.packet.control && eqb p.outcome.errors 0
    && eqb (found_shown (first_match p.arrival.flight.packet.word (rows_of p.tables.rows))).number 0

-- What one pass adds to the history's own counts: passes, parity, age, length, bad local ("an error counter counts the passes that showed its
-- error"), packets sent (so many more are on the chip's links than before), processor deliveries without error, units dropped, units swallowed, local misses.
abbrev pub own_counts : Passage → List ℕ
own_counts p =
    let q = p.arrival.flight.packet in
    1 ∷ flag (not (is_odd q)) 1 ∷ flag (too_old q.control p.arrival.source p.setting.phase) 1 ∷ flag (wrong_length q) 1
    ∷ flag (bad_local q.control p.arrival.source) 1
    ∷ (on_chip (λ x. 1) p.left - on_chip (λ x. 1) p.here)
    ∷ delivered p.outcome
    ∷ drop_count p.outcome
    ∷ swallowed p.outcome
    ∷ flag (is_miss p) 1
    ∷ []

abbrev pub count_at : ℕ → ℕ → Passage → ℕ
count_at chip k p = cond (eqb p.arrival.chip chip) (get_or (own_counts p) k 0) 0

-- ---- dropped units

-- A unit that a pass drops, by itself: the packet as it stood after stamping, the link, whether it was a second leg, and the source and the phase of that pass.
abbrev pub unit : Passage → ℕ → ℕ → Registers
unit p link leg =
    record {
      control = p.outcome.packet.control;
      word = p.outcome.packet.word;
      payload = p.outcome.packet.payload;
      link = link;
      leg = leg;
      more = 0;
      source = p.arrival.source;
      phase = p.setting.phase;
      units = 1;
    }

abbrev pub unit_if : Bool → Registers → List Registers
unit_if b r = cond b (r ∷ []) []

abbrev pub units_of : Passage → ℕ → ℕ → List Registers
units_of p links leg =
    unit_if (has links 0) (unit p 0 leg) ++ unit_if (has links 1) (unit p 1 leg) ++ unit_if (has links 2) (unit p 2 leg)
    ++ unit_if (has links 3) (unit p 3 leg)
    ++ unit_if (has links 4) (unit p 4 leg)
    ++ unit_if (has links 5) (unit p 5 leg)

-- "Within a pass drops go by link 0 to 5, the second leg last."
abbrev pub dropped_units : Passage → List Registers
dropped_units p = units_of p p.outcome.dropped 0 ++ units_of p p.outcome.leg_dropped 1

abbrev pub noted : ℕ → List Registers → Event → List Registers
noted chip units (packet_passed p) = cond (eqb p.arrival.chip chip) (units ++ dropped_units p) units
noted chip units (registers_emptied c) = cond (eqb c chip) [] units

-- The units dropped at a chip since its registers were last read.
unfoldable pub drops_since : ℕ → List Event → List Registers
drops_since chip es = foldl (noted chip) [] es

-- "The first dropped unit since they were last read", with its source and phase, and "the number of units dropped since the last read, stopping at 65,535"; "the
-- 'more followed' flag means that this number is above 1". Empty registers where there is none.
abbrev pub first_of_units : List Registers → Registers
first_of_units [] = empty
first_of_units (u ∷ us) = with_units u (capped (length (u ∷ us)))

-- ---- records

unfoldable pub records_of : List Event → List ℕ
records_of [] = []
records_of (packet_passed p ∷ es) = log_of p.arrival.chip p.outcome ++ records_of es
records_of (registers_emptied c ∷ es) = records_of es

-- ---- tags forgotten

module _ {A : Type 0} where
  abbrev pub plain_flight : Flight A → Flight (Unit {0})
  plain_flight f = record { packet = f.packet; tag = tt }

  abbrev pub plain_link : Link A → Link (Unit {0})
  plain_link l = record { up = l.up; held = map plain_flight l.held }

  abbrev pub plain_chip : Chip A → Chip (Unit {0})
  plain_chip c = record { registers = c.registers; counters = c.counters; links = map plain_link c.links }

  abbrev pub plain : Mesh A → Mesh (Unit {0})
  plain m =
      record {
        width = m.width;
        height = m.height;
        rounds = m.rounds;
        monitor = m.monitor;
        phase = m.phase;
        elapsed = m.elapsed;
        chips = map plain_chip m.chips;
      }

  abbrev pub plain_left : Left A → Left (Unit {0})
  plain_left r = record { refusal = r.refusal; place = r.place; mesh = plain r.mesh; log = r.log }
