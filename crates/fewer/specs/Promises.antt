-- What a lab is promised of a table with fewer rows.
use Rattle.std.specs.Prelude.{ℕ, ◌^◌, ◌<◌, ◌+◌, ◌-◌, ◌≡◌, true, cond, List, eqb, length}
use Rattle.lists.specs.Lists.{total}
use Rattle.tables.specs.Rows.{Entry, matches, route_for}
use Rattle.fewer.specs.Process.{Numbered, Process, covers, matches_some, entries, ended, step, top_going, top_pair}

-- "For every 32-bit key the old and new table give the same route or both no match": for every number, in fact.
abbrev pub SameRoutes : Type 0
SameRoutes = (rows : List Entry) (key : ℕ) → route_for key (entries (ended rows).left) ≡ route_for key rows

-- "... and the new table has no row to take out and no pair to join": it ends, for every table, and nothing is left to do.
abbrev pub AtRest : Type 0
AtRest = (rows : List Entry)
    → (step (ended rows) ≡ ended rows) × (top_going (ended rows).left ≡ length (ended rows).left) × (top_pair (ended rows).left ≡ length (ended rows).left - 1)

-- How often a number is that of a row left, and how often it is listed.
abbrev pub one_if : ℕ → ℕ → ℕ
one_if n m = cond (eqb m n) 1 0

abbrev pub times_left : ℕ → Process → ℕ
times_left n p = total (λ (r : Numbered). one_if n r.number) p.left

abbrev pub times_gone : ℕ → Process → ℕ
times_gone n p = total (one_if n) p.gone

-- "It lists .. each row taken out and the lower of each pair": each number that a row first had is that of a row left, once, or is listed, once, and not both; nothing else is left or listed.
abbrev pub AllAccounted : Type 0
AllAccounted = (rows : List Entry)
    → ((n : ℕ) → n < length rows → times_left n (ended rows) + times_gone n (ended rows) ≡ 1)
    × (length (ended rows).left + length (ended rows).gone ≡ length rows)

-- "... whose keys one earlier row matches all": the test by masks is exact, over the 32-bit keys.
abbrev pub CoversExactly : Type 0
CoversExactly = (e r : Entry) → r.mask < 2 ^ 32 → e.mask < 2 ^ 32 → matches_some r ≡ true
    → ((covers e r ≡ true → (key : ℕ) → matches key r.key r.mask ≡ true → matches key e.key e.mask ≡ true)
    × (((key : ℕ) → key < 2 ^ 32 → matches key r.key r.mask ≡ true → matches key e.key e.mask ≡ true) → covers e r ≡ true))
