-- The numbers that a caller hands in one by one, as the struct that the router takes.
use Rattle.std.specs.Prelude.{ℕ}
use Rattle.steps.specs.declared.Setting.{Setting}

abbrev pub setting_of : ℕ → ℕ → ℕ → ℕ → ℕ → Setting
setting_of width height monitor phase ready = record { width = width; height = height; monitor = monitor; phase = phase; ready = ready }
