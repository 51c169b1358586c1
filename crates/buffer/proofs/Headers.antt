-- What a header in range says, and headers that are the same.
use Rattle.std.proofs.Common.{◌≡◌, ℕ, ◌*◌, ◌<◌, ◌≤◌, true, ◌&&◌, ltb, leb, List, get_or, take, sym, ap, ◌∙◌, le_of_eq, arith, lit<, get_or-take, leb-true}
use mathlib.Core.Bool.{and-eq-true_iff}
use Rattle.tables.specs.Sizes.{size_fine}
use Rattle.tables.proofs.Sizes as sizes
use Rattle.buffer.specs.Holding.{head_fine}
use Rattle.mesh.specs.Mesh.{rounds_fine}
use Rattle.buffer.proofs.FineSteps.{head_size}
use Rattle.buffer.specs.Layout.{chips_of}
use Rattle.links.specs.Offsets.{width_at, height_at, rounds_at, monitor_at, phase_at, elapsed_at, header_long}

pub record Head (l : List ℕ) : Type 0 where
  pub wide : 1 ≤ get_or l width_at 0
  pub width : get_or l width_at 0 ≤ 12
  pub tall : 1 ≤ get_or l height_at 0
  pub height : get_or l height_at 0 ≤ 12
  pub monitor : get_or l monitor_at 0 ≤ 19
  pub phase : get_or l phase_at 0 ≤ 3
  pub few : chips_of l ≤ 144

pub head_range : (l : List ℕ) → head_fine l ≡ true → Head l
head_range l e =
    let s = sizes.size (get_or l width_at 0) (get_or l height_at 0) (head_size l e) in
    record {
      wide = s.width_low;
      width = s.width_high;
      tall = s.height_low;
      height = s.height_high;
      monitor = omega (arith, leb-true, simp and-eq-true_iff at e);
      phase = omega (arith, leb-true, simp and-eq-true_iff at e);
      few = sizes.chips_small (get_or l width_at 0) (get_or l height_at 0) (head_size l e);
    }

-- each number of the header is the same
abbrev pub SameHeader : List ℕ → List ℕ → Type 0
SameHeader l l' = (i : ℕ) → i < header_long → get_or l' i 0 ≡ get_or l i 0

pub head_same : (l l' : List ℕ) → take header_long l' ≡ take header_long l → SameHeader l l'
head_same l l' e i h = sym (get_or-take header_long l' i 0 h) ∙ ap (λ (w : List ℕ). get_or w i 0) e ∙ get_or-take header_long l i 0 h

pub chips_kept : (l l' : List ℕ) → take header_long l' ≡ take header_long l → chips_of l ≤ chips_of l'
chips_kept l l' e = le_of_eq (λ i. sym (head_same l l' e height_at (lit< tt)) i * sym (head_same l l' e width_at (lit< tt)) i)

pub head_fine_same : (l l' : List ℕ) → take header_long l' ≡ take header_long l → head_fine l' ≡ head_fine l
head_fine_same l l' e =
    let f = head_same l l' e in
    λ i. size_fine (f width_at (lit< tt) i) (f height_at (lit< tt) i) && rounds_fine (f rounds_at (lit< tt) i) && leb (f monitor_at (lit< tt) i) 19 && leb (f phase_at (lit< tt) i) 3 && ltb (f elapsed_at (lit< tt) i) (f rounds_at (lit< tt) i)
