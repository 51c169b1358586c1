-- Where everything stands in the mesh buffer, in 32-bit words: the only place where an offset or a length is written as a number. The order inside a packet's words, the registers'
-- and the counters' stands where these are read. docs/LAYOUT.md has the whole in a table.
use Rattle.std.specs.Prelude.{ℕ, ◌+◌, ◌*◌}

-- ---- the header

abbrev pub width_at : ℕ
width_at = 0

abbrev pub height_at : ℕ
height_at = 1

-- F, the rounds in a phase.
abbrev pub rounds_at : ℕ
rounds_at = 2

abbrev pub monitor_at : ℕ
monitor_at = 3

abbrev pub phase_at : ℕ
phase_at = 4

-- How many rounds of the running phase are over.
abbrev pub elapsed_at : ℕ
elapsed_at = 5

abbrev pub header_long : ℕ
header_long = 6

-- ---- a directed link: its state, how many packets it holds, eight places of three words; how many are set aside, eight places for those

abbrev pub state_at : ℕ
state_at = 0

abbrev pub held_at : ℕ
held_at = 1

abbrev pub places_at : ℕ
places_at = 2

abbrev pub place_long : ℕ
place_long = 3

abbrev pub depth : ℕ
depth = 8

abbrev pub aside_at : ℕ
aside_at = places_at + depth * place_long

abbrev pub aside_places_at : ℕ
aside_places_at = aside_at + 1

abbrev pub link_long : ℕ
link_long = aside_places_at + depth * place_long

-- ---- a chip's block: registers, counters, six links

abbrev pub registers_long : ℕ
registers_long = 9

abbrev pub counters_long : ℕ
counters_long = 10

abbrev pub counters_at : ℕ
counters_at = registers_long

abbrev pub links_at : ℕ
links_at = counters_at + counters_long

abbrev pub chip_long : ℕ
chip_long = links_at + 6 * link_long

abbrev pub chip_place : ℕ → ℕ
chip_place c = header_long + c * chip_long

abbrev pub link_place : ℕ → ℕ
link_place i = links_at + i * link_long
