-- What the functions on a directed link's words do to them, word by word.
use Rattle.std.specs.Prelude.{ℕ, ◌+◌, ◌*◌, ◌≤◌, ◌≡◌, Bool, true, cond, List, ◌∷◌, get_or, drop, set}
use Rattle.packet.specs.declared.Packet.{Packet}
use Rattle.steps.specs.declared.Outcome.{Outcome}
use Rattle.steps.specs.Links.{has}
use Rattle.steps.specs.Deciding.{packet_on, leg_packet}
use Rattle.links.specs.Offsets.{state_at, held_at, places_at, place_long, aside_at}

-- The next place of a link that holds n packets.
abbrev pub place_at : ℕ → ℕ
place_at n = places_at + n * place_long

-- A packet's three words from place i on.
abbrev pub put_at : List ℕ → ℕ → Packet → List ℕ
put_at l i p = set (set (set l i p.control) (i + 1) p.word) (i + 2) p.payload

abbrev pub pushed : List ℕ → Packet → List ℕ
pushed l p = set (put_at l (place_at (get_or l held_at 0)) p) held_at (get_or l held_at 0 + 1)

-- A packet pushed where a test says so.
abbrev pub pushed_if : Bool → List ℕ → Packet → List ℕ
pushed_if b l p = cond b (pushed l p) l

-- "So one link may carry two packets of one pass: the one from step 5 goes first."
abbrev pub sent_words : List ℕ → Outcome → ℕ → List ℕ
sent_words l o i = pushed_if (has o.leg_sent i) (pushed_if (has o.sent i) l (packet_on o i)) (leg_packet o)

-- Where a pass sends by link i, the link has room for two.
abbrev pub Room : List ℕ → Outcome → ℕ → Type 0
Room l o i = (has o.sent i ≡ true → get_or l held_at 0 ≤ 6) × (has o.leg_sent i ≡ true → get_or l held_at 0 ≤ 6)

-- What a pass leaves alone on a link: its state, and what is set aside.
abbrev pub still : List ℕ → List ℕ
still w = get_or w state_at 0 ∷ drop aside_at w

-- A link's state word.
abbrev pub state_of : Bool → ℕ
state_of up = cond up 0 1
