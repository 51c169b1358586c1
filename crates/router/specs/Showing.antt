-- What the one-router call answers of a pass, and of a refusal.
use Rattle.std.specs.Prelude.{ℕ, cond, List, [], ◌∷◌, eqb, ltb}
use Rattle.packet.specs.declared.Packet.{Packet}
use Rattle.packet.specs.Bytes.{nothing}
use Rattle.steps.specs.declared.Outcome.{Outcome}
use Rattle.router.specs.declared.Pass.{Pass}
use Rattle.steps.specs.Links.{has, processors_of}
use Rattle.steps.specs.Deciding.{packet_on, leg_packet}
use Rattle.kept.specs.Keeping.{empty, kept_of}
use Rattle.kept.specs.Counting.{zeros, counted_of}

-- Zeros where a link sends nothing, where no second leg is sent, where there are no processors.
abbrev pub on_link : Outcome → ℕ → Packet
on_link o i = cond (has o.sent i) (packet_on o i) nothing

abbrev pub packets_of : Outcome → List Packet
packets_of o = on_link o 0 ∷ on_link o 1 ∷ on_link o 2 ∷ on_link o 3 ∷ on_link o 4 ∷ on_link o 5 ∷ []

abbrev pub on_leg : Outcome → Packet
on_leg o = cond (eqb o.leg_sent 0) nothing (leg_packet o)

-- "Processors get the packet as it now stands, its mark as it came." No processor is wanted below route bit 6.
abbrev pub to_processors : Outcome → Packet
to_processors o = cond (ltb o.wanted 64) nothing o.packet

-- What is shown of a pass under a refusal's number and place, where 0 is none.
abbrev pub pass_shown : ℕ → ℕ → Outcome → Pass
pass_shown n place o =
    record {
      refusal = n;
      errors = o.errors;
      wanted = o.wanted;
      sent = o.sent;
      dropped = o.dropped;
      leg_sent = o.leg_sent;
      leg_dropped = o.leg_dropped;
      processors = processors_of o.wanted;
      delivered = to_processors o;
      packets = packets_of o;
      leg = on_leg o;
      registers = kept_of empty o;
      counters = cond (eqb n 0) (counted_of zeros o) zeros;
      place = place;
    }

-- "The one-router call returns registers and counters, begun from zeros."
abbrev pub pass_from : Outcome → Pass
pass_from o = pass_shown 0 0 o

abbrev pub no_pass : ℕ → ℕ → Pass
no_pass n place =
    record {
      refusal = n;
      errors = 0;
      wanted = 0;
      sent = 0;
      dropped = 0;
      leg_sent = 0;
      leg_dropped = 0;
      processors = 0;
      delivered = nothing;
      packets = nothing ∷ nothing ∷ nothing ∷ nothing ∷ nothing ∷ nothing ∷ [];
      leg = nothing;
      registers = empty;
      counters = zeros;
      place = place;
    }
