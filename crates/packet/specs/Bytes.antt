-- A packet as bytes: "Five bytes, or nine with a payload: a control byte, a 32-bit word, a 32-bit payload, both big-endian."
use Rattle.std.specs.Prelude.{ℕ, ◌+◌, ◌*◌, ◌/◌, ◌%◌, ◌<◌, List, [], ◌∷◌, ◌++◌, Bool, cond, ◌||◌, length, get_or, take, eqb, Result, Ok, Err}
use Rattle.packet.specs.declared.Packet.{Packet}
use Rattle.packet.specs.declared.Packed.{Packed}
use Rattle.packet.specs.declared.refused.Refused.{Refused}
use Rattle.packet.specs.Refused.{number_of}

-- ---- from bytes

-- The control byte is the first; a number that is no byte counts by its lowest eight bits, so that this is of any list.
abbrev pub control_at : List ℕ → ℕ
control_at s = get_or s 0 0 % 256

-- The four bytes from place i on, highest first.
abbrev pub word_at : List ℕ → ℕ → ℕ
word_at s i = get_or s i 0 * 16777216 + get_or s (i + 1) 0 * 65536 + get_or s (i + 2) 0 * 256 + get_or s (i + 3) 0

-- The packet in five or nine bytes. "Wherever a payload is reported, it is the last four bytes of a nine-byte packet, and 0 for five bytes."
abbrev pub packet_at : List ℕ → Packet
packet_at s =
    record {
      control = control_at s;
      nine = cond (eqb (length s) 9) 1 0;
      word = word_at s 1;
      payload = cond (eqb (length s) 9) (word_at s 5) 0;
    }

-- "A refusal returns its number and zeros elsewhere ..."
abbrev pub nothing : Packet
nothing = record { control = 0; nine = 0; word = 0; payload = 0 }

-- What taking tells, in numbers: 0 and the packet, or the refusal's number and nothing.
pub record Taken : Type 0 where
  pub refusal : ℕ
  pub packet : Packet

abbrev pub not_taken : ℕ → Taken
not_taken n = record { refusal = n; packet = nothing }

-- Refusal 2, "packet length not 5 or 9".
abbrev pub right_length : List ℕ → Bool
right_length s = eqb (length s) 5 || eqb (length s) 9

abbrev pub taken_of : List ℕ → Taken
taken_of s = cond (right_length s) (record { refusal = 0; packet = packet_at s }) (not_taken 2)

-- A packet that was taken, or why none was, as it is told in numbers.
abbrev pub as_taken : Result Packet Refused → Taken
as_taken (Ok p) = record { refusal = 0; packet = p }
as_taken (Err r) = not_taken (number_of r)

-- ---- to bytes

abbrev pub big_endian : ℕ → List ℕ
big_endian w = w / 16777216 ∷ w / 65536 % 256 ∷ w / 256 % 256 ∷ w % 256 ∷ []

-- Nine places, of which the first `length` count.
abbrev pub packed_as : Packet → ℕ → ℕ → Packed
packed_as p n payload = record { refusal = 0; length = n; bytes = p.control % 256 ∷ big_endian p.word ++ big_endian payload }

-- The places past a five-byte packet's length are 0.
abbrev pub packed_bytes : Packet → Packed
packed_bytes p = cond (eqb p.nine 0) (packed_as p 5 0) (packed_as p 9 p.payload)

-- The bytes that an answer of packing holds.
abbrev pub bytes_in : Packed → List ℕ
bytes_in r = take r.length r.bytes

-- Every number of the list is a byte (past its end `get_or` gives 0).
pub record AllBytes (s : List ℕ) : Type 0 where
  pub byte : (i : ℕ) → get_or s i 0 < 256
