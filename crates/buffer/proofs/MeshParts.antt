-- A mesh's words with one chip's block changed: the mesh with that chip changed.
use Rattle.std.proofs.Common.{◌≡◌, ℕ, zero, suc, ◌+◌, ◌-◌, ◌*◌, ◌<◌, ◌≤◌, ◌⊎◌, List, ◌∷◌, length, get_or, set, sym, refl, ap, ◌∙◌, inl, inr, arith, lit<}
use native.Mathlib.Nat.{sub-zero}
use Rattle.mesh.specs.Mesh.{fresh}
use Rattle.mesh.specs.Steps.{with_chip}
use Rattle.buffer.specs.Layout.{chip_in, chips_in, mesh_of, chips_of}
use Rattle.lists.specs.Lists.{put_back}
use Rattle.buffer.specs.OnePass.{chip_words}
use Rattle.lists.proofs.Parts.{part_same, part_before, part_behind, get_d_before}
use Rattle.buffer.proofs.ChipParts.{order}
use Rattle.links.specs.Offsets.{chip_long, chip_place}

-- chip k of those from c on
chip_at_lem : (n c k : ℕ) (l : List ℕ) → c ≤ k → k < c + n → get_or (chips_in c n l) (k - c) fresh ≡ chip_in (chip_words k l)
unfolding chips_in
chip_at_lem zero c k l low high = absurd (omega arith)
chip_at_lem (suc n) c k l low high = go (order c k) (λ h. chip_at_lem n (suc c) k l (omega arith) (omega arith))
  where
    go : (c < k) ⊎ ((c ≡ k) ⊎ (k < c)) → (c < k → get_or (chips_in (suc c) n l) (k - suc c) fresh ≡ chip_in (chip_words k l))
        → get_or (chip_in (chip_words c l) ∷ chips_in (suc c) n l) (k - c) fresh ≡ chip_in (chip_words k l)
    go (inl h) ih =
        let e : k - c ≡ suc (k - suc c) = omega arith in
        ap (λ (i : ℕ). get_or (chip_in (chip_words c l) ∷ chips_in (suc c) n l) i fresh) e ∙ ih h
    go (inr (inl h)) ih =
        let e : k - c ≡ 0 = omega arith in
        ap (λ (i : ℕ). get_or (chip_in (chip_words c l) ∷ chips_in (suc c) n l) i fresh) e ∙ ap (λ (i : ℕ). chip_in (chip_words i l)) h
    go (inr (inr h)) ih = absurd (omega arith)

pub mesh_chip : (l : List ℕ) (k : ℕ) → k < chips_of l → get_or (mesh_of l).chips k fresh ≡ chip_in (chip_words k l)
unfolding mesh_of
mesh_chip l k h =
    ap (λ (i : ℕ). get_or (mesh_of l).chips i fresh) (sym (sub-zero k)) ∙ chip_at_lem (chips_of l) 0 k l (omega arith) (omega arith)

module _ (k : ℕ) (ys l : List ℕ) (fits : chip_place k + chip_long ≤ length l) (sized : length ys ≡ chip_long) where
  -- the chips behind it are as they were
  behind : (n c : ℕ) → k < c → chips_in c n (put_back (chip_place k) chip_long ys l) ≡ chips_in c n l
  unfolding chips_in
  behind zero c h = refl
  behind (suc n) c h =
      λ i. chip_in (part_behind (chip_place k) chip_long ys l fits sized (chip_place c) chip_long (omega arith) i) ∷ behind n (suc c) (omega arith) i

  pub chips_put : (n c : ℕ) → c ≤ k → k < c + n → chips_in c n (put_back (chip_place k) chip_long ys l) ≡ set (chips_in c n l) (k - c) (chip_in ys)
  unfolding chips_in
  chips_put zero c low high = absurd (omega arith)
  chips_put (suc n) c low high = go (order c k) (λ h. chips_put n (suc c) (omega arith) (omega arith))
    where
      go : (c < k) ⊎ ((c ≡ k) ⊎ (k < c)) → (c < k → chips_in (suc c) n (put_back (chip_place k) chip_long ys l) ≡ set (chips_in (suc c) n l) (k - suc c) (chip_in ys))
          → chip_in (chip_words c (put_back (chip_place k) chip_long ys l)) ∷ chips_in (suc c) n (put_back (chip_place k) chip_long ys l)
          ≡ set (chip_in (chip_words c l) ∷ chips_in (suc c) n l) (k - c) (chip_in ys)
      go (inl h) ih =
          let e : suc (k - suc c) ≡ k - c = omega arith in
          (λ i. chip_in (part_before (chip_place k) chip_long ys l fits sized (chip_place c) chip_long (omega arith) i) ∷ ih h i)
          ∙ ap (λ (j : ℕ). set (chip_in (chip_words c l) ∷ chips_in (suc c) n l) j (chip_in ys)) e
      go (inr (inl h)) ih =
          let e : 0 ≡ k - c = omega arith in
          let here : chip_words c (put_back (chip_place k) chip_long ys l) ≡ ys =
          ap (λ (j : ℕ). chip_words j (put_back (chip_place k) chip_long ys l)) h ∙ part_same (chip_place k) chip_long ys l fits sized in
          (λ i. chip_in (here i) ∷ behind n (suc c) (omega arith) i)
          ∙ ap (λ (j : ℕ). set (chip_in (chip_words c l) ∷ chips_in (suc c) n l) j (chip_in ys)) e
      go (inr (inr h)) ih = absurd (omega arith)

  -- the mesh with chip k changed
  pub mesh_put : k < chips_of l → mesh_of (put_back (chip_place k) chip_long ys l) ≡ with_chip (mesh_of l) k (chip_in ys)
  unfolding mesh_of
  mesh_put hk =
      let same : (i : ℕ) → i < 6 → get_or (put_back (chip_place k) chip_long ys l) i 0 ≡ get_or l i 0 = λ i hi. get_d_before (chip_place k) chip_long ys l fits sized i (omega arith) in
      let w = same 0 (lit< tt) in
      let h = same 1 (lit< tt) in
      let chips : chips_in 0 (chips_of (put_back (chip_place k) chip_long ys l)) (put_back (chip_place k) chip_long ys l)
      ≡ set (chips_in 0 (chips_of l) l) k (chip_in ys) =
      (λ i. chips_in 0 (h i * w i) (put_back (chip_place k) chip_long ys l))
      ∙ chips_put (chips_of l) 0 (omega arith) (omega arith)
      ∙ ap (λ (j : ℕ). set (chips_in 0 (chips_of l) l) j (chip_in ys)) (sub-zero k) in
      λ i. record {
        width = w i;
        height = h i;
        rounds = same 2 (lit< tt) i;
        monitor = same 3 (lit< tt) i;
        phase = same 4 (lit< tt) i;
        elapsed = same 5 (lit< tt) i;
        chips = chips i;
      }
