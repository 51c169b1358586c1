-- The log: records of six numbers, one behind the other.
use Rattle.std.specs.Prelude.{◌≡◌, ℕ, ◌+◌, ◌*◌, ◌≤◌, List, ◌++◌, length, take, drop}

-- A log with n records before, and some more behind them after; "log beyond the records written is untouched".
pub record Logged (records before : List ℕ) (n : ℕ) (after : List ℕ) (n' : ℕ) : Type 0 where
  pub long : length after ≡ length before
  pub front : take (n' * 6) after ≡ take (n * 6) before ++ records
  pub behind : drop (n' * 6) after ≡ drop (n' * 6) before
  pub more : n ≤ n'
  pub few : n' ≤ n + 1
