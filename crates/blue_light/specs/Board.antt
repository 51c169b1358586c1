-- The mesh of the story by the definitions: its words once it is opened, the tables that are lent, the packet that is sent, and the sums that are told.
use Rattle.std.specs.Prelude.{ℕ, zero, suc, ◌+◌, ◌%◌, ◌^◌, List, [], ◌∷◌, replicate}
use Rattle.mesh.specs.Lending.{Tables, tables_of}
use Rattle.mesh.specs.Looks.{count_read}
use Rattle.buffer.specs.Layout.{mesh_of}
use Rattle.buffer.specs.Holding.{holds_mesh}
use Rattle.buffer.specs.Opening.{opened_words}
use Rattle.blue_light.specs.declared.board.Totals.{Totals}

-- 3 by 3 chips, 100 rounds in a phase, monitor 0.
unfoldable pub opened : List ℕ
opened = opened_words (replicate 37888 0) 3 3 100 0

-- Key 1 and every bit of it: at chip 0 to link 0, at chip 2 to processor 1; no point-to-point or fixed-route packet is sent.
abbrev pub lent : Tables
lent =
    tables_of (1 ∷ 4294967295 ∷ 1 ∷ 1 ∷ 4294967295 ∷ 128 ∷ []) (0 ∷ 1 ∷ 1 ∷ 2 ∷ 2 ∷ 2 ∷ 2 ∷ 2 ∷ 2 ∷ 2 ∷ []) (replicate 81 6) (replicate 9 0) 0

abbrev pub packet : List ℕ
packet = 0 ∷ 0 ∷ 0 ∷ 0 ∷ 1 ∷ []

-- What the first n chips counted together, modulo 2^32 as the counters are.
unfoldable pub sum_of : List ℕ → ℕ → ℕ → ℕ
sum_of l counter zero = 0
sum_of l counter (suc n) = (sum_of l counter n + (count_read (holds_mesh l) (mesh_of l) n counter).count) % 2 ^ 32

abbrev pub totals : List ℕ → Totals
totals l = record { sent = sum_of l 5 9; delivered = sum_of l 6 9; dropped = sum_of l 7 9 }
