-- Case 13, and of case 15 the half about rows, by the definitions: whether it is as the case says.
use Rattle.std.specs.Prelude.{ℕ, Bool, ◌&&◌, List, [], ◌∷◌, eqb, take, replicate}
use Rattle.packet.specs.Fields.{read_of}
use Rattle.steps.specs.declared.Setting.{Setting}
use Rattle.tables.specs.Tables.{chip_tables}
use Rattle.router.specs.declared.Pass.{Pass}
use Rattle.router.specs.Call.{pass_of}

-- "All links ready, phase 00, no rows, monitor 0 unless said"; one chip.
abbrev pub setting : Setting
setting = record { width = 1; height = 1; monitor = 0; phase = 0; ready = 63 }

-- The pass of a packet from link 0; and what it is refused with.
abbrev pub pass_with : List ℕ → List ℕ → Pass
pass_with bytes rows = pass_of bytes 0 (chip_tables rows (6 ∷ []) 0) setting 0

abbrev pub refusal_with : List ℕ → List ℕ → ℕ
refusal_with bytes rows = (pass_with bytes rows).refusal

-- Whether reading and the pass both refuse the bytes with this number.
abbrev pub is_refused : List ℕ → ℕ → Bool
is_refused bytes number = eqb (read_of bytes).refusal number && eqb (refusal_with bytes []) number

-- Whether reading and the pass take the bytes, and parity is the pass's one error.
abbrev pub parity_wrong : List ℕ → Bool
parity_wrong bytes = eqb (read_of bytes).refusal 0 && eqb (pass_with bytes []).refusal 0 && eqb (pass_with bytes []).errors 1

abbrev pub ten : List ℕ
ten = 0 ∷ 0 ∷ 0 ∷ 0 ∷ 1 ∷ 0 ∷ 0 ∷ 0 ∷ 0 ∷ 0 ∷ []

-- "13. Lengths 0, 4, 6, 10: refusal 2." "Case 13's second packet", C0 00 00 00 00, "is now a parity error".
unfoldable pub case13 : Bool
case13 =
    is_refused (take 0 ten) 2 && is_refused (take 4 ten) 2 && is_refused (take 6 ten) 2 && is_refused ten 2 && parity_wrong (192 ∷ 0 ∷ 0 ∷ 0 ∷ 0 ∷ [])

-- "15. ... 1,024 rows pass; 1,025 are refused."
unfoldable pub rows_fit : Bool
rows_fit = eqb (refusal_with (take 5 ten) (replicate 3072 0)) 0 && eqb (refusal_with (take 5 ten) (replicate 3075 0)) 16
