-- The units of a pass. "A unit is one branch."
use Rattle.std.specs.Prelude.{ℕ, ◌+◌, ◌-◌, cond, ◌&&◌, List, [], ◌∷◌, ◌==◌, count_ones, nat_lt}
use Rattle.packet.specs.declared.Packet.{Packet}
use Rattle.packet.specs.Control.{mark_of}
use Rattle.packet.specs.Types.{is_marked}
use Rattle.steps.specs.declared.Outcome.{Outcome}
use Rattle.steps.specs.Links.{has}
use Rattle.steps.specs.Deciding.{mark_on}
use Rattle.kept.specs.Keeping.{drop_count}
use Rattle.kept.specs.Counting.{delivered, swallowed}

-- "An in-flight MC packet marked 01 weighs two, every other packet one", and a fixed-route packet as MC's does.
abbrev pub weight : Packet → ℕ
weight p = cond (is_marked p.control && mark_of p.control == 1) 2 1

-- "... an injected packet weighs one."
abbrev pub weight_in : Packet → ℕ → ℕ
weight_in p source = cond (nat_lt source 6) (weight p) 1

-- "A part with b branches (bits of its wanted set, or the leg) adds b-1 extra if b is at least 1". The leg is one branch and adds none.
abbrev pub extra : Outcome → ℕ
extra o = cond (o.errors == 0) (count_ones o.wanted - 1) 0

-- "A packet in error ends with the weight it had".
abbrev pub ended : Outcome → ℕ → ℕ
ended o source = cond (o.errors == 0) 0 (weight_in o.packet source)

-- The account: units injected plus extra branches equal units delivered, ended in error, dropped, swallowed and in flight. Its headings, a line each, are
-- where units end in a pass; counters keep a list of their own.
abbrev pub headings : Outcome → ℕ → List ℕ
headings o source =
    delivered o
    ∷ ended o source
    ∷ drop_count o
    ∷ swallowed o
    ∷ []

unfoldable pub sum_list : List ℕ → ℕ
sum_list [] = 0
sum_list (n ∷ later) = n + sum_list later

abbrev pub settled : Outcome → ℕ → ℕ
settled o source = sum_list (headings o source)

-- The sum of a number for each link.
abbrev pub over_links : (ℕ → ℕ) → ℕ
over_links f = f 0 + f 1 + f 2 + f 3 + f 4 + f 5

-- What is sent weighs as it will in flight: a link marked 01 two, any other one, and the second leg, marked 11, one.
abbrev pub weight_sent : Outcome → ℕ
weight_sent o = over_links (λ i. cond (has o.sent i) (cond (mark_on o i == 1) 2 1) 0) + count_ones o.leg_sent
