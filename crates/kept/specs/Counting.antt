-- "Ten counters a chip: passes, parity, age, length, bad local, packets sent, processor deliveries without error, units dropped, units
-- swallowed, local misses. Each counter counts modulo 4,294,967,296."
use Rattle.std.specs.Prelude.{ℕ, ◌+◌, ◌/◌, ◌%◌, ◌^◌, Bool, cond, not, ◌&&◌, List, [], ◌∷◌, ◌==◌, count_ones, slice_index}
use Rattle.packet.specs.Control.{mark_of}
use Rattle.packet.specs.Types.{is_marked}
use Rattle.steps.specs.declared.Outcome.{Outcome}
use Rattle.kept.specs.declared.Counters.{Counters}
use Rattle.kept.specs.Keeping.{drop_count}
use Rattle.steps.specs.Links.{processors_of}

-- Units delivered: "processors reached without error".
abbrev pub delivered : Outcome → ℕ
delivered o = cond (o.errors == 0) (count_ones (processors_of o.wanted)) 0

-- "On a pass without error a packet marked 01 has two parts, its wanted set and its second leg; one marked 10 has only the leg; every other packet has only
-- its wanted set. A part with b branches ...; with b = 0 it is swallowed." The leg is one branch.
abbrev pub swallows : Outcome → Bool
swallows o = o.errors == 0 && o.wanted == 0 && not (is_marked o.packet.control && mark_of o.packet.control == 2)

abbrev pub swallowed : Outcome → ℕ
swallowed o = cond (swallows o) 1 0

abbrev pub sent_count : Outcome → ℕ
sent_count o = count_ones o.sent + count_ones o.leg_sent

-- What a pass adds to each counter. "An error counter counts the passes that showed its error."
abbrev pub counts_of : Outcome → List ℕ
counts_of o =
    1 ∷ o.errors % 2 ∷ o.errors / 2 % 2 ∷ o.errors / 4 % 2 ∷ o.errors / 8 % 2 ∷ sent_count o ∷ delivered o ∷ drop_count o ∷ swallowed o
    ∷ o.missed
    ∷ []

-- What a pass adds that shows no error, and delivers, drops and swallows nothing.
abbrev pub only_sent : Outcome → List ℕ
only_sent o = 1 ∷ 0 ∷ 0 ∷ 0 ∷ 0 ∷ sent_count o ∷ 0 ∷ 0 ∷ 0 ∷ o.missed ∷ []

abbrev pub plus : ℕ → ℕ → ℕ
plus a b = (a + b) % 2 ^ 32

-- Ten sums, each modulo 2 ^ 32.
abbrev pub added : List ℕ → List ℕ → List ℕ
added l k =
    plus (slice_index l 0) (slice_index k 0) ∷ plus (slice_index l 1) (slice_index k 1) ∷ plus (slice_index l 2) (slice_index k 2) ∷ plus (slice_index l 3) (slice_index k 3)
    ∷ plus (slice_index l 4) (slice_index k 4)
    ∷ plus (slice_index l 5) (slice_index k 5)
    ∷ plus (slice_index l 6) (slice_index k 6)
    ∷ plus (slice_index l 7) (slice_index k 7)
    ∷ plus (slice_index l 8) (slice_index k 8)
    ∷ plus (slice_index l 9) (slice_index k 9)
    ∷ []

abbrev pub counted_of : Counters → Outcome → Counters
counted_of c o = record { count = added c.count (counts_of o) }

abbrev pub zeros : Counters
zeros = record { count = 0 ∷ 0 ∷ 0 ∷ 0 ∷ 0 ∷ 0 ∷ 0 ∷ 0 ∷ 0 ∷ 0 ∷ [] }
