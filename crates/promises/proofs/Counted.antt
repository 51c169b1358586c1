-- Each counter of each chip is the history's own count, modulo 2 ^ 32.
use mathlib.Core.Path.{◌≡◌, refl, sym, ap, ◌∙◌, subst}
use mathlib.Core.Bool.{Bool, true, false, cond}
use mathlib.Core.List.{List, [], ◌∷◌, ◌++◌}
use Prim.Native.Nat.{ℕ, zero, suc, ◌+◌, ◌*◌, ◌%◌, ◌^◌, ◌<◌}
use native.Mathlib.Nat.{add-zero, mod-add-mod}
use native.Mathlib.Omega.{arith}
use lib.Dec.{eqb}
use lib.ListN.{get_or, get_or-replicate, get_or-map}
use lib.Seq.{get_or-set_same, get_or-set_other}
use borrow.Author.Tests.{eqb-true, eqb-false, eq-eqb}
use Rattle.kept.specs.Counting.{counts_of, plus, added, zeros}
use Rattle.mesh.specs.Mesh.{Chip, Mesh, fresh}
use Rattle.mesh.specs.Lending.{Tables}
use Rattle.mesh.specs.Steps.{Arrival, set_out, emptied_chip, pass_at}
use Rattle.mesh.specs.Sound.{SoundMesh}
use Rattle.lists.proofs.Changed.{set_keeps}
use Rattle.promises.specs.History.{Tag, Passage, Event, packet_passed, registers_emptied, turned}
use Rattle.promises.specs.Told.{sum_of}
use Rattle.promises.specs.Demand3.{Always}
use Rattle.promises.proofs.Told.{sum_append}
use Rattle.promises.proofs.Runs.{passage, always_steady}

-- ten sums, one by one
added_at : (l c : List ℕ) (k : ℕ) → k < 10 → get_or (added l c) k 0 ≡ plus (get_or l k 0) (get_or c k 0)
added_at l c zero h = refl
added_at l c (suc zero) h = refl
added_at l c (suc (suc zero)) h = refl
added_at l c (suc (suc (suc zero))) h = refl
added_at l c (suc (suc (suc (suc zero)))) h = refl
added_at l c (suc (suc (suc (suc (suc zero))))) h = refl
added_at l c (suc (suc (suc (suc (suc (suc zero)))))) h = refl
added_at l c (suc (suc (suc (suc (suc (suc (suc zero))))))) h = refl
added_at l c (suc (suc (suc (suc (suc (suc (suc (suc zero)))))))) h = refl
added_at l c (suc (suc (suc (suc (suc (suc (suc (suc (suc zero))))))))) h = refl
added_at l c (suc (suc (suc (suc (suc (suc (suc (suc (suc (suc k)))))))))) h = absurd (omega arith)

-- counters begin at 0
zeros_at : (k : ℕ) → k < 10 → get_or zeros.count k 0 ≡ 0
zeros_at k h = get_or-replicate 10 k 0 0 h

abbrev count : List (Chip Tag) → ℕ → ℕ → ℕ
count chips chip k = get_or (get_or chips chip fresh).counters.count k 0

-- what a pass adds to counter k of a chip
abbrev pub counted_at : ℕ → ℕ → Passage → ℕ
counted_at chip k p = cond (eqb p.arrival.chip chip) (get_or (counts_of p.outcome) k 0) 0

-- every counter of every chip, as the events count it
abbrev pub Counted : Mesh Tag → List Event → Type 0
Counted m es = (chip k : ℕ) → chip < m.height * m.width → k < 10 → count m.chips chip k ≡ sum_of (counted_at chip k) es % 2 ^ 32

module _ (t : Tables) (n : ℕ) (m : Mesh Tag) (a : Arrival Tag) (es : List Event) (sound : SoundMesh m) (there : a.chip < m.height * m.width) (before : Counted m es) where
  abbrev later : List Event
  later = es ++ packet_passed (passage t n m a) ∷ []

  abbrev left : List (Chip Tag)
  left = (pass_at t turned (set_out m) a).mesh.chips

  sum_later : (chip k : ℕ) → sum_of (counted_at chip k) later ≡ sum_of (counted_at chip k) es + counted_at chip k (passage t n m a)
  unfolding sum_of
  sum_later chip k =
      sum_append (counted_at chip k) es (packet_passed (passage t n m a) ∷ [])
      ∙ ap (λ (x : ℕ). sum_of (counted_at chip k) es + x) (add-zero (counted_at chip k (passage t n m a)))

  counted_here : (k : ℕ) → k < 10 → count left a.chip k ≡ sum_of (counted_at a.chip k) later % 2 ^ 32
  counted_here k h =
      let o = (passage t n m a).outcome in
      let s = sum_of (counted_at a.chip k) es in
      ap (λ (c : Chip Tag). get_or c.counters.count k 0) (get_or-set_same m.chips a.chip _ fresh (omega (arith, sound.many)))
      ∙ added_at (get_or m.chips a.chip fresh).counters.count (counts_of o) k h
      ∙ ap (λ (x : ℕ). plus x (get_or (counts_of o) k 0)) (before a.chip k there h)
      ∙ mod-add-mod s (2 ^ 32) (get_or (counts_of o) k 0)
      ∙ ap (λ (b : Bool). (s + cond b (get_or (counts_of o) k 0) 0) % 2 ^ 32) (sym (eq-eqb a.chip a.chip refl))
      ∙ ap (λ (x : ℕ). x % 2 ^ 32) (sym (sum_later a.chip k))

  counted_there : (chip k : ℕ) → chip < m.height * m.width → k < 10 → eqb a.chip chip ≡ false → count left chip k ≡ sum_of (counted_at chip k) later % 2 ^ 32
  counted_there chip k c h e =
      let o = (passage t n m a).outcome in
      let s = sum_of (counted_at chip k) es in
      ap (λ (x : Chip Tag). get_or x.counters.count k 0) (get_or-set_other m.chips a.chip chip _ fresh (λ z. eqb-false _ _ e (sym z)))
      ∙ before chip k c h
      ∙ ap (λ (x : ℕ). x % 2 ^ 32) (sym (add-zero s))
      ∙ ap (λ (b : Bool). (s + cond b (get_or (counts_of o) k 0) 0) % 2 ^ 32) (sym e)
      ∙ ap (λ (x : ℕ). x % 2 ^ 32) (sym (sum_later chip k))

  counted_pass : Counted (pass_at t turned (set_out m) a).mesh later
  counted_pass chip k c h = go (eqb a.chip chip) refl
    where
      go : (b : Bool) → eqb a.chip chip ≡ b → count left chip k ≡ sum_of (counted_at chip k) later % 2 ^ 32
      go true e = subst (λ (x : ℕ). count left x k ≡ sum_of (counted_at x k) later % 2 ^ 32) (eqb-true _ _ e) (counted_here k h)
      go false e = counted_there chip k c h e

-- registers read count nothing
sum_emptied : (f : Passage → ℕ) (es : List Event) (chip : ℕ) → sum_of f (es ++ registers_emptied chip ∷ []) ≡ sum_of f es
unfolding sum_of
sum_emptied f es chip = sum_append f es (registers_emptied chip ∷ []) ∙ add-zero (sum_of f es)

pub counts_kept : Always (λ f s. Counted s.mesh s.events)
unfolding sum_of
counts_kept =
    always_steady (λ m es log. Counted m es)
    (record {
      opens = λ w h f monitor chip k c i. ap (λ (x : Chip Tag). get_or x.counters.count k 0) (get_or-replicate (h * w) chip fresh fresh c) ∙ zeros_at k i;
      aside = λ m es log p chip k c i. ap (λ (x : Chip Tag). get_or x.counters.count k 0) (get_or-map emptied_chip m.chips chip fresh) ∙ p chip k c i;
      passes = λ t n m a es log sound codes h p. counted_pass t n m a es sound h.there p;
      over = λ m es log p. p;
      links = λ m chip link up es log p x k c i. set_keeps (λ (y : Chip Tag). get_or y.counters.count k 0) m.chips chip x _ fresh refl ∙ p x k c i;
      reads = λ m chip es log sound h p x k c i.
          set_keeps (λ (y : Chip Tag). get_or y.counters.count k 0) m.chips chip x _ fresh refl ∙ p x k c i
          ∙ ap (λ (y : ℕ). y % 2 ^ 32) (sym (sum_emptied (counted_at x k) es chip));
    })
