-- Refusals in order: the number of the first condition that holds, 0 where none does and the call is accepted.
use Rattle.std.specs.Prelude.{ℕ, Bool, cond, not, List, [], ◌∷◌, ◌++◌}
use Rattle.packet.specs.declared.Fields.{Fields}
use Rattle.packet.specs.Control.{is_direct}
use Rattle.packet.specs.Bytes.{control_at, right_length}
use Rattle.packet.specs.Packing.{in_range}

pub record Refusal : Type 0 where
  pub when : Bool
  pub number : ℕ

abbrev pub refuse : Bool → ℕ → Refusal
refuse b n = record { when = b; number = n }

abbrev pub first_of : List Refusal → ℕ
first_of [] = 0
first_of (r ∷ rs) = cond r.when r.number (first_of rs)

-- Taking and reading: 2, "packet length not 5 or 9".
abbrev pub read_refusals : List ℕ → List Refusal
read_refusals s = refuse (not (right_length s)) 2 ∷ []

-- A packet that is to pass: this, and then 4, "NN with T = 1".
abbrev pub packet_refusals : List ℕ → List Refusal
packet_refusals s = read_refusals s ++ refuse (is_direct (control_at s)) 4 ∷ []

-- Packing: 6, "a field out of range in packing".
abbrev pub pack_refusals : Fields → List Refusal
pack_refusals f = refuse (not (in_range f)) 6 ∷ []
