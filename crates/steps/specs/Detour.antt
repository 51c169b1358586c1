-- Step 5, link by link: which links carry a detour, which send, which are dropped for. It knows no type of packet.
use Rattle.std.specs.Prelude.{ℕ, ◌+◌, Bool, ◌&&◌, ◌||◌, not}
use Rattle.steps.specs.Links.{has, set_of, link}

-- "Link i+1 (mod 6) detours over link i when it is wanted, not ready, and i is ready."
abbrev pub carries : ℕ → ℕ → ℕ → Bool
carries wanted ready i = has wanted (link (i + 1)) && not (has ready (link (i + 1))) && has ready i

-- "A ready link i sends mark 00 if wanted and not carrying a detour, 01 if wanted and carrying one, 10 if only carrying."
abbrev pub sends : ℕ → ℕ → ℕ → Bool
sends wanted ready i = has ready i && (has wanted i || carries wanted ready i)

-- "A wanted link i+1 that is not ready, with i not ready too, is dropped." Link i+5 is link i-1.
abbrev pub drops : ℕ → ℕ → ℕ → Bool
drops wanted ready i = has wanted i && not (has ready i) && not (has ready (link (i + 5)))

abbrev pub carry_set : ℕ → ℕ → ℕ
carry_set wanted ready = set_of (carries wanted ready)

abbrev pub send_set : ℕ → ℕ → ℕ
send_set wanted ready = set_of (sends wanted ready)

abbrev pub drop_set : ℕ → ℕ → ℕ
drop_set wanted ready = set_of (drops wanted ready)

-- Step 7: "P2P and NN leave with no change of mark, and are dropped at a link that is not ready."
abbrev pub plain_send_set : ℕ → ℕ → ℕ
plain_send_set wanted ready = set_of (λ i. has wanted i && has ready i)

abbrev pub plain_drop_set : ℕ → ℕ → ℕ
plain_drop_set wanted ready = set_of (λ i. has wanted i && not (has ready i))
