-- "Whenever an answer is an enum, a definition gives this paper's number and values for each of the enum's cases. The promises use that
-- definition." Here the number is 1 where a row matches and 0 where none does; the value is the row's number, or its route, and 0 where none matches.
use Rattle.std.specs.Prelude.{ℕ, Option, Some, None}

pub record Shown : Type 0 where
  pub number : ℕ
  pub value : ℕ

-- What a search finds: the number of the first matching row.
abbrev pub found_shown : Option ℕ → Shown
found_shown (Some n) = record { number = 1; value = n }
found_shown None = record { number = 0; value = 0 }

-- What a table says to a key: the route of that row.
abbrev pub matched_shown : Option ℕ → Shown
matched_shown (Some route) = record { number = 1; value = route }
matched_shown None = record { number = 0; value = 0 }
