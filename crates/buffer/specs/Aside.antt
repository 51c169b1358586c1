-- What a round sets aside: "all of it set aside first". A link's packets move to the places behind its own.
use Rattle.std.specs.Prelude.{◌≡◌, ℕ, ◌*◌, ◌<◌, ◌≤◌, List, length, take, drop, slice_index, slice_set}
use Rattle.std.proofs.Math.Seq.{paste}
use Rattle.links.specs.Offsets.{header_long, state_at, held_at, places_at, place_long, aside_at, aside_places_at, chip_long, chip_place}
use Rattle.links.specs.Words.{link_in, aside_in}
use Rattle.mesh.specs.Steps.{emptied_chip}
use Rattle.buffer.specs.Layout.{chip_in}
use Rattle.buffer.specs.ChipWords.{link_words}
use Rattle.buffer.specs.OnePass.{chip_words}

-- A link's words after what it holds was set aside: the packets' words behind their number, and none held.
abbrev pub aside_words : List ℕ → List ℕ
aside_words w = slice_set (slice_set (paste w aside_places_at (drop places_at w) (slice_index w held_at * place_long)) aside_at (slice_index w held_at)) held_at 0

-- The same for every link of a chip.
abbrev pub aside_on : ℕ → List ℕ → List ℕ
aside_on j w = aside_words w

-- A chip's words before and after all six links were set aside.
pub record ChipAside (before after : List ℕ) : Type 0 where
  pub long : length after ≡ chip_long
  pub chip : chip_in after ≡ emptied_chip (chip_in before)
  pub aside : (j : ℕ) → j < 6 → aside_in (link_words j after) ≡ (link_in (link_words j before)).held
  pub states : (j : ℕ) → j < 6 → slice_index (link_words j after) state_at ≡ slice_index (link_words j before) state_at

-- A mesh's words while the chips below k of n are set aside.
pub record AsideUpto (n k : ℕ) (before after : List ℕ) : Type 0 where
  pub long : length after ≡ length before
  pub head : take header_long after ≡ take header_long before
  pub done : (c : ℕ) → c < k → ChipAside (chip_words c before) (chip_words c after)
  pub todo : (c : ℕ) → k ≤ c → chip_words c after ≡ chip_words c before
  pub past : drop (chip_place n) after ≡ drop (chip_place n) before
