-- What FloodedWay assumes can be met: on a mesh of 2 by 1 with F = 1, a P2P packet from chip 0 to chip 1, and one round. All of it is computed.
use mathlib.Core.Path.{◌≡◌, refl}
use mathlib.Core.List.{List, [], ◌∷◌}
use Prim.Native.Nat.{ℕ}
use lib.Count.{ones, ones_in}
use lib.Dec.{lit<, lit≤}
use Rattle.packet.specs.Bytes.{packet_at}
use Rattle.packet.specs.Types.{is_marked, is_stamped}
use Rattle.tables.specs.Accept.{all_routes, all_fixed, all_codes, never_falling, rows_few}
use Rattle.tables.specs.Rows.{rows_of}
use Rattle.steps.specs.Wants.{wanted_of}
use Rattle.steps.specs.Deciding.{decided, outcome_of}
use Rattle.lists.specs.Lists.{All, up_to, total}
use Rattle.lists.specs.Firsts.{first_from}
use Rattle.mesh.specs.Lending.{Tables, tables_of}
use Rattle.mesh.specs.Steps.{links_after, arriving_from}
use Rattle.mesh.specs.Asked.{Call, round, change}
use Rattle.flood.specs.Ways.{Way, here, onward, within}
use Rattle.flood.specs.Codes.{codes_of}
use Rattle.flood.specs.OnItsWay.{Follows}
use Rattle.promises.specs.History.{State, begun, passages, after}
use Rattle.promises.specs.Sequence.{sequence}
use Rattle.promises.specs.Told.{EachPass}
use Rattle.promises.specs.FloodedWay.{HasRoom, Reaches, afterwards}
use Rattle.promises.proofs.FloodedWay.{flooded_way}

abbrev s : State
s = begun 2 1 1 0

abbrev t : Tables
t = tables_of [] (0 ∷ 0 ∷ 0 ∷ []) (7 ∷ 0 ∷ 0 ∷ 7 ∷ []) (0 ∷ 0 ∷ []) 0

-- 41 00 00 01 00
abbrev bytes : List ℕ
bytes = 65 ∷ 0 ∷ 0 ∷ 1 ∷ 0 ∷ []

abbrev calls : List Call
calls = change (round t 6) ∷ []

codes : t.codes ≡ codes_of s.mesh
unfolding codes_of up_to first_from within
codes = refl

follows : Follows s.mesh t (packet_at bytes) 7 0 1
unfolding is_marked is_stamped ones ones_in
follows = record { codes = codes; control = lit< tt; kind = refl; errors = refl; destination = refl; at = lit< tt; there = lit< tt }

way : Way s.mesh 0 1 (0 ∷ [])
way = onward 0 1 0 [] (lit< tt) refl (here 1)

room : HasRoom s.mesh 0 1 (afterwards s 1 0 1 bytes t 6 calls).events
unfolding after is_marked is_stamped all_routes all_fixed all_codes never_falling rows_few rows_of wanted_of decided outcome_of total links_after arriving_from ones ones_in passages EachPass first_from within
room = (λ own other. refl, (λ own other. absurd (other refl), tt))

reached : Reaches s.mesh 0 0 1 (afterwards s 1 0 1 bytes t 6 calls)
unfolding sequence All first_from within after is_marked is_stamped all_routes all_fixed all_codes never_falling rows_few rows_of wanted_of decided outcome_of total links_after arriving_from ones ones_in
reached = flooded_way 2 1 1 0 (record { size = refl; phases = refl; monitored = lit≤ tt }) [] 0 1 bytes t 6 (0 ∷ []) calls refl follows way (lit≤ tt) (codes, tt) room (lit≤ tt)
