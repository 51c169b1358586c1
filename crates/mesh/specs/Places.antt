-- What is promised of the place that is told with a refusal of the tables: it is the first where they are wrong in that way.
use Rattle.std.specs.Prelude.{ℕ, ◌/◌, ◌≤◌, ◌<◌, ◌≡◌, Bool, true, false, cond, eqb, length}
use Rattle.packet.specs.Refusal.{first_of}
use Rattle.tables.specs.Places.{start_wrong, crowded, row_wrong, fixed_wrong}
use Rattle.mesh.specs.Lending.{Tables}
use Rattle.mesh.specs.Refusals.{tables_refusals, place_in}

-- Whether the tables are wrong at a place: 15 a position of the starts, 16 a chip's rows, 17 a row of all that are lent, 18 a chip's fixed route.
abbrev pub wrong_at : Tables → ℕ → ℕ → ℕ → Bool
wrong_at t chips number p =
    cond (eqb number 15) (start_wrong t.starts chips (length t.rows / 3) p)
    (cond (eqb number 16) (crowded t.starts p) (cond (eqb number 17) (row_wrong t.rows p) (fixed_wrong t.fixed chips p)))

-- "Each with the first place where it holds": it holds there, and nowhere before.
pub record FirstWrong (t : Tables) (chips number : ℕ) : Type 0 where
  pub there : wrong_at t chips number (place_in t chips number) ≡ true
  pub before : (j : ℕ) → j < place_in t chips number → wrong_at t chips number j ≡ false

abbrev pub PlacesTold : Type 0
PlacesTold = (t : Tables) (chips number : ℕ) → 1 ≤ chips → number ≡ first_of (tables_refusals t chips) → 15 ≤ number → number ≤ 18 → FirstWrong t chips number
