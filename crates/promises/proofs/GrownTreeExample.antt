-- What GrownTree assumes can be met: on a mesh of 2 by 1 with F = 1, a tree from chip 0 to processor 3 of chip 1, a packet with its key, and one round. All of it is computed.
use mathlib.Core.Path.{◌≡◌, refl}
use mathlib.Core.Bool.{true, false≢true}
use mathlib.Core.List.{List, [], ◌∷◌}
use Prim.Native.Nat.{ℕ, zero, suc, ◌<◌}
use native.Mathlib.Omega.{arith}
use lib.Count.{ones, ones_in}
use lib.Dec.{lit≤}
use lib.ListN.{replicate}
use Rattle.packet.specs.Bytes.{packet_at}
use Rattle.packet.specs.Types.{is_marked, is_stamped}
use Rattle.tables.specs.Accept.{all_routes, all_fixed, all_codes, never_falling, rows_few}
use Rattle.tables.specs.Rows.{rows_of, first_match}
use Rattle.steps.specs.Wants.{wanted_of}
use Rattle.steps.specs.Deciding.{decided, outcome_of}
use Rattle.lists.specs.Lists.{All, up_to, total}
use Rattle.lists.proofs.Alls.{all_or, all_replicate}
use Rattle.links.specs.Link.{idle}
use Rattle.mesh.specs.Mesh.{link_of}
use Rattle.mesh.specs.Lending.{Tables, tables_of}
use Rattle.mesh.specs.Steps.{links_after, arriving_from}
use Rattle.mesh.specs.Asked.{Call, round, change}
use Rattle.tree.specs.Way.{links_of, way_to}
use Rattle.tree.specs.Growing.{targets_of, last_shared, added, grown_by}
use Rattle.tree.specs.Rows.{start_of}
use Rattle.tree.specs.Call.{all_there, is_in, named_again, sets_fine}
use Rattle.promises.specs.History.{State, begun, after}
use Rattle.promises.specs.Sequence.{sequence}
use Rattle.promises.specs.GrownTree.{Asked, refusal, Only, along, AtMostDeep, Matching, Delivers, afterwards}
use Rattle.promises.proofs.GrownTree.{grown_tree_lem}

abbrev a : Asked
a = record { width = 2; height = 1; source = 0; key = 5; mask = 5; words = 1 ∷ 8 ∷ []; rows = 0 ∷ 0 ∷ 0 ∷ 0 ∷ 0 ∷ 0 ∷ []; starts = 0 ∷ 0 ∷ 0 ∷ [] }

abbrev s : State
s = begun 2 1 1 0

-- link 1 of chip 0, processor 3 of chip 1
abbrev t : Tables
t = tables_of (5 ∷ 5 ∷ 2 ∷ 5 ∷ 5 ∷ 512 ∷ []) (0 ∷ 1 ∷ 2 ∷ []) (7 ∷ 0 ∷ 0 ∷ 7 ∷ []) (0 ∷ 0 ∷ []) 0

-- 01 00 00 00 05
abbrev bytes : List ℕ
bytes = 1 ∷ 0 ∷ 0 ∷ 0 ∷ 5 ∷ []

abbrev calls : List Call
calls = change (round t 6) ∷ []

accepted : refusal a ≡ 0
unfolding all_there is_in named_again sets_fine targets_of
accepted = refl

only : Only a t
unfolding all_there is_in named_again sets_fine targets_of grown_by added last_shared links_of way_to start_of up_to
only = record { rows = refl; starts = refl }

matching : Matching a 0 (packet_at bytes)
unfolding is_marked is_stamped ones ones_in
matching = record { multicast = refl; unmarked = refl; errors = refl; matching = refl }

-- chip 0 has link 1 alone, and chip 1 has none
deep : AtMostDeep a 1
unfolding All along targets_of grown_by added last_shared links_of way_to
deep [] low e = lit≤ tt
deep (i ∷ []) low e = lit≤ tt
deep (zero ∷ k ∷ is) low e = absurd (false≢true e)
deep (suc zero ∷ zero ∷ is) low e = absurd (false≢true e)
deep (suc zero ∷ suc zero ∷ is) low e = absurd (false≢true e)
deep (suc zero ∷ suc (suc zero) ∷ is) low e = absurd (false≢true e)
deep (suc zero ∷ suc (suc (suc zero)) ∷ is) low e = absurd (false≢true e)
deep (suc zero ∷ suc (suc (suc (suc zero))) ∷ is) low e = absurd (false≢true e)
deep (suc zero ∷ suc (suc (suc (suc (suc zero)))) ∷ is) low e = absurd (false≢true e)
deep (suc zero ∷ suc (suc (suc (suc (suc (suc k))))) ∷ is) low e = absurd (omega (arith, low.1.0))
deep (suc (suc zero) ∷ k ∷ is) low e = absurd (false≢true e)
deep (suc (suc (suc zero)) ∷ k ∷ is) low e = absurd (false≢true e)
deep (suc (suc (suc (suc zero))) ∷ k ∷ is) low e = absurd (false≢true e)
deep (suc (suc (suc (suc (suc zero)))) ∷ k ∷ is) low e = absurd (false≢true e)
deep (suc (suc (suc (suc (suc (suc i))))) ∷ k ∷ is) low e = absurd (omega (arith, low.0))

all_up : (chip i : ℕ) → chip < 2 → i < 6 → (link_of s.mesh chip i).up ≡ true
all_up zero i there near = all_or (λ l. l.up ≡ true) (replicate 6 idle) i idle (all_replicate (λ l. l.up ≡ true) 6 idle refl) refl
all_up (suc zero) i there near = all_or (λ l. l.up ≡ true) (replicate 6 idle) i idle (all_replicate (λ l. l.up ≡ true) 6 idle refl) refl
all_up (suc (suc chip)) i there near = absurd (omega arith)

delivered : Delivers a 0 (afterwards a s 1 1 bytes t 6 calls)
unfolding sequence All after is_marked is_stamped all_routes all_fixed all_codes never_falling rows_few rows_of first_match wanted_of decided outcome_of total links_after arriving_from ones ones_in
delivered =
    grown_tree_lem 2 1 1 0 (record { size = refl; phases = refl; monitored = lit≤ tt }) [] a 1 bytes t 6 calls accepted refl refl refl all_up refl only matching deep (lit≤ tt) (only, tt) (lit≤ tt)
