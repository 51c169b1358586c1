-- What the functions on a chip's words do to them, part by part.
use Rattle.std.specs.Prelude.{◌≡◌, ℕ, ◌<◌, ◌≤◌, true, List, length, slice_index}
use Rattle.packet.specs.declared.Packet.{Packet}
use Rattle.steps.specs.declared.Outcome.{Outcome}
use Rattle.steps.specs.Links.{has}
use Rattle.steps.specs.Deciding.{packet_on, leg_packet}
use Rattle.lists.specs.Lists.{part, put_back}
use Rattle.links.specs.Offsets.{held_at, link_long, registers_long, counters_long, counters_at, chip_long, link_place}
use Rattle.links.specs.LinkWords.{pushed_if, sent_words, Room, still}
use Rattle.links.specs.Link.{Right}
use Rattle.buffer.specs.Layout.{chip_in}
use Rattle.mesh.specs.Steps.{chip_after}

-- The words of link i changed by f.
abbrev pub changed_on : (ℕ → List ℕ → List ℕ) → List ℕ → ℕ → List ℕ
changed_on f l i = put_back (link_place i) link_long (f i (part (link_place i) link_long l)) l

-- the words of link j
abbrev pub link_words : ℕ → List ℕ → List ℕ
link_words j l = part (link_place j) link_long l

-- What a pass may ask of a chip: it sends only where there is room, and only packets whose length is right.
pub record Takes (l : List ℕ) (o : Outcome) : Type 0 where
  pub long : length l ≡ chip_long
  pub sent : o.sent < 64
  pub dropped : o.dropped < 64
  pub leg_sent : o.leg_sent < 64
  pub leg_dropped : o.leg_dropped < 64
  pub room : (i : ℕ) → i < 6 → Room (link_words i l) o i
  pub right : (i : ℕ) → i < 6 → has o.sent i ≡ true → Right (packet_on o i)
  pub leg : (i : ℕ) → i < 6 → has o.leg_sent i ≡ true → Right (leg_packet o)

-- A chip's words before and after a pass: the chip is as the pass leaves it; the links' states and what is set aside are as they were.
pub record ChipStep (before after : List ℕ) (o : Outcome) : Type 0 where
  pub long : length after ≡ chip_long
  pub chip : chip_in after ≡ chip_after o tt (chip_in before)
  pub still : (j : ℕ) → j < 6 → still (link_words j after) ≡ still (link_words j before)

-- A chip's words before and after the words of its links, all but the rest, were changed by f: all else is as it was.
pub record ChangedBut (f : ℕ → List ℕ → List ℕ) (rest : ℕ → Type 0) (before after : List ℕ) : Type 0 where
  pub long : length after ≡ chip_long
  pub registers : part 0 registers_long after ≡ part 0 registers_long before
  pub counters : part counters_at counters_long after ≡ part counters_at counters_long before
  pub done : (j : ℕ) → j < 6 → (rest j → ⊥) → link_words j after ≡ f j (link_words j before)
  pub todo : (j : ℕ) → j < 6 → rest j → link_words j after ≡ link_words j before

-- The rest where links are gone through by number and k is next; and by a set of those that are left.
abbrev pub from : ℕ → ℕ → Type 0
from k j = k ≤ j

abbrev pub among : ℕ → ℕ → Type 0
among set j = has set j ≡ true

-- Packets pushed on the links of a set.
abbrev pub pushing : ℕ → (ℕ → Packet) → ℕ → List ℕ → List ℕ
pushing set p i w = pushed_if (has set i) w (p i)

-- Each link of the set has room for one.
pub record PushFits (set : ℕ) (l : List ℕ) : Type 0 where
  pub long : length l ≡ chip_long
  pub small : set < 64
  pub room : (i : ℕ) → i < 6 → has set i ≡ true → slice_index (link_words i l) held_at ≤ 7

-- What a pass makes of a link's words.
abbrev pub sending : Outcome → ℕ → List ℕ → List ℕ
sending o i w = sent_words w o i
