-- Case 14, and of case 15 the half about a link, by the definitions: whether it is as the case says.
use Rattle.std.specs.Prelude.{ℕ, zero, suc, ◌/◌, Bool, true, ◌&&◌, List, [], ◌∷◌, eqb, length, get_or, replicate}
use Rattle.mesh.specs.Mesh.{Mesh, opened}
use Rattle.mesh.specs.Lending.{Tables, tables_of}
use Rattle.mesh.specs.Steps.{same}
use Rattle.mesh.specs.Calls.{Left, injecting, rounding, logged_on}
use Rattle.mesh.specs.Looks.{mesh_read, count_read, link_read}
use Rattle.buffer.specs.Layout.{mesh_of}
use Rattle.buffer.specs.Holding.{holds_mesh}

-- A buffer, as its calls see it.
pub record Held : Type 0 where
  pub holds : Bool
  pub mesh : Mesh (Unit {0})

abbrev pub held_in : List ℕ → Held
held_in l = record { holds = holds_mesh l; mesh = mesh_of l }

-- "W 2, H 1, F 2; every chip has a row for key 1 to link 0".
unfoldable pub begun : Held
begun = record { holds = true; mesh = opened 2 1 2 0 }

abbrev pub lent : Tables
lent = tables_of (1 ∷ 4294967295 ∷ 1 ∷ 1 ∷ 4294967295 ∷ 1 ∷ []) (0 ∷ 1 ∷ 2 ∷ []) (6 ∷ 6 ∷ 6 ∷ 6 ∷ []) (0 ∷ 0 ∷ []) 0

-- "P is 00 00 00 00 01".
abbrev pub packet : List ℕ
packet = 0 ∷ 0 ∷ 0 ∷ 0 ∷ 1 ∷ []

-- Whether a call was taken and added so many records.
unfoldable pub added : Left (Unit {0}) → ℕ → Bool
added r n = eqb r.refusal 0 && eqb (length r.log / 6) n

module _ (h : Held) where
  unfoldable pub round : Left (Unit {0})
  round = rounding h.holds lent same h.mesh 6

  unfoldable pub inject : ℕ → Left (Unit {0})
  inject chip = injecting h.holds lent same h.mesh 6 chip packet tt

  abbrev pub after : Left (Unit {0}) → Held
  after r = record { holds = h.holds; mesh = r.mesh }

  unfoldable pub flight : ℕ
  flight = (mesh_read h.holds h.mesh).in_flight

  unfoldable pub counts : ℕ → ℕ → ℕ → Bool
  counts chip counter n = eqb (count_read h.holds h.mesh chip counter).refusal 0 && eqb (count_read h.holds h.mesh chip counter).count n

  -- ---- rounds

  unfoldable pub next : Held
  next = after round

-- Whether a round adds no record and leaves so much in flight; three of them.
unfoldable pub passes_on : Held → ℕ → Bool
passes_on h n = added (round h) 0 && eqb (flight (next h)) n

unfoldable pub three_pass_on : Held → ℕ → Bool
three_pass_on h n = passes_on h n && passes_on (next h) n && passes_on (next (next h)) n

unfoldable pub third : Held → Held
third h = next (next (next h))

-- Whether the log's record is P, stamped 01, delivered to processor 0 of a chip, the monitor, with the flag of age.
unfoldable pub too_old : List ℕ → ℕ → Bool
too_old log chip =
    eqb (get_or log 0 0) chip && eqb (get_or log 1 0) 1 && eqb (get_or log 2 0) 2 && eqb (get_or log 3 0) 5 && eqb (get_or log 4 0) 1 && eqb (get_or log 5 0) 0

-- Whether a round leaves nothing in flight, and its one record says that P was too old.
unfoldable pub ends : Held → ℕ → Bool
ends h chip = added (round h) 1 && eqb (flight (next h)) 0 && too_old (logged_on (round h).log (replicate 6 0)) chip

-- ---- case 14

-- Whether both chips sent twice, and the chip where the packet ended, that alone, found it too old, once.
unfoldable pub counted : Held → ℕ → ℕ → Bool
counted h chip other = counts h 0 5 2 && counts h 1 5 2 && counts h chip 2 1 && counts h other 2 0

-- "P injected after 3 rounds crosses 4 links, and ends at the fourth further round."
unfoldable pub crosses_four : ℕ → ℕ → Bool
crosses_four chip other =
    let h = after (third begun) (inject (third begun) chip) in
    three_pass_on begun 0 && (added (inject (third begun) chip) 0 && eqb (flight h) 1 && three_pass_on h 1) && ends (third h) chip
    && counted (next (third h)) chip other

unfoldable pub case14 : Bool
case14 = crosses_four 0 1 && crosses_four 1 0

-- ---- case 15

-- Whether link 0 of chip 0 is up, holds so many and is so ready.
unfoldable pub link_is : Held → ℕ → ℕ → Bool
link_is h held ready =
    let l = link_read h.holds h.mesh 0 0 in
    eqb l.refusal 0 && eqb l.up 1 && eqb l.held held && eqb l.ready ready

-- P injected at chip 0 so many times, and whether each was taken at a ready link.
unfoldable pub sent : ℕ → Held
sent zero = begun
sent (suc n) = after (sent n) (inject (sent n) 0)

unfoldable pub sent_ready : ℕ → Bool
sent_ready zero = true
sent_ready (suc n) = sent_ready n && link_is (sent n) n 1 && added (inject (sent n) 0) 0

-- "A chip sends 7 packets on one link: ready before the seventh, not after it."
unfoldable pub link_fills : Bool
link_fills = sent_ready 7 && link_is (sent 7) 7 0
