-- A directed link and the packets in flight on it. Each packet in flight has a tag, of any type: the code knows none (its tags have one value),
-- a history gives each its injection and the links that it has crossed.
use Rattle.std.specs.Prelude.{ℕ, Bool, true, cond, ◌&&◌, List, [], ◌∷◌, ◌++◌, ◌≡◌, leb, length, get_or}
use Rattle.packet.specs.declared.Packet.{Packet}
use Rattle.packet.specs.Control.{carries_of}
use Rattle.steps.specs.declared.Outcome.{Outcome}
use Rattle.steps.specs.Links.{has, set_of}
use Rattle.steps.specs.Deciding.{packet_on, leg_packet}

-- A packet whose length is right, as those in flight are.
abbrev pub Right : Packet → Type 0
Right p = p.nine ≡ carries_of p.control

pub record Flight (A : Type 0) : Type 0 where
  pub packet : Packet
  pub tag : A

-- "Every directed link holds at most 8 packets", oldest first.
pub record Link (A : Type 0) : Type 0 where
  pub up : Bool
  pub held : List (Flight A)

module _ {A : Type 0} where
  abbrev pub idle : Link A
  idle = record { up = true; held = [] }

  -- "A link is ready when it is up and holds at most 6 outgoing, not counting those that the running round has set aside".
  abbrev pub is_ready : Link A → Bool
  is_ready l = l.up && leb (length l.held) 6

  -- The ready ones of a chip's six links, as a set.
  abbrev pub ready_links : List (Link A) → ℕ
  ready_links ls = set_of (λ i. is_ready (get_or ls i idle))

  -- What a link holds after a pass: "the one from step 5 goes first", then the second leg. A sending turns the tag.
  abbrev pub sent : Bool → Packet → A → List (Flight A)
  sent b p tag = cond b (record { packet = p; tag = tag } ∷ []) []

  abbrev pub link_after : Outcome → A → ℕ → Link A → Link A
  link_after o tag i l = record { up = l.up; held = l.held ++ sent (has o.sent i) (packet_on o i) tag ++ sent (has o.leg_sent i) (leg_packet o) tag }
