-- Fields in range, as facts about numbers: those of each type, and those that every type has.
use mathlib.Core.Path.{◌≡◌}
use mathlib.Core.Bool.{true, false, cond, and-eq-true_iff}
use mathlib.Core.Logic.{◌⊎◌, ⊎_elim}
use Prim.Native.Nat.{ℕ, ◌<◌}
use native.Mathlib.Omega.{arith}
use lib.Dec.{eqb, ltb}
use borrow.Author.Tests.{ltb-true, eqb-true, lt-ltb, ne_eqb}
use Rattle.packet.specs.declared.Fields.{Fields}
use Rattle.packet.specs.Packing.{marked_in_range, p2p_in_range, nn_in_range, end_in_range, in_range}

pub record EndRanges (f : Fields) : Type 0 where
  pub carries : f.carries < 2
  pub parity : f.parity < 2
  pub nine : f.nine < 2
  pub absent : f.nine ≡ 0 → f.payload ≡ 0

pub record MarkedRanges (f : Fields) : Type 0 where
  pub mark : f.mark < 4
  pub stamp : f.stamp < 4
  pub sequence : f.sequence ≡ 0
  pub direct : f.direct ≡ 0
  pub route : f.route ≡ 0
  pub source : f.source ≡ 0
  pub destination : f.destination ≡ 0

pub record P2pRanges (f : Fields) : Type 0 where
  pub sequence : f.sequence < 4
  pub stamp : f.stamp < 4
  pub source : f.source < 65536
  pub destination : f.destination < 65536
  pub mark : f.mark ≡ 0
  pub direct : f.direct ≡ 0
  pub route : f.route ≡ 0
  pub word : f.word ≡ 0

pub record NnRanges (f : Fields) : Type 0 where
  pub direct : f.direct < 2
  pub route : f.route < 8
  pub mark : f.mark ≡ 0
  pub sequence : f.sequence ≡ 0
  pub stamp : f.stamp ≡ 0
  pub source : f.source ≡ 0
  pub destination : f.destination ≡ 0

-- a type with a mark is neither P2P nor NN
pub record MarkedKind (k : ℕ) : Type 0 where
  pub other : eqb k 1 ≡ false
  pub another : eqb k 2 ≡ false
  pub used : ltb k 4 ≡ true

pub marked_kind : (k : ℕ) → (k ≡ 0) ⊎ (k ≡ 3) → MarkedKind k
marked_kind k h =
    let apart : (n : ℕ) → n < 3 → 0 < n → k ≡ n → ⊥ = λ n below above e. ⊎_elim (λ z. omega arith) (λ z. omega arith) h in
    record {
      other = ne_eqb k 1 (apart 1 (omega arith) (omega arith));
      another = ne_eqb k 2 (apart 2 (omega arith) (omega arith));
      used = lt-ltb k 4 (⊎_elim (λ z. omega arith) (λ z. omega arith) h);
    }

module _ (f : Fields) where
  pub end_ranges : end_in_range f ≡ true → EndRanges f
  end_ranges h =
      let t : _ = simp and-eq-true_iff at h in
      record {
        carries = omega (arith, ltb-true, t);
        parity = omega (arith, ltb-true, t);
        nine = omega (arith, ltb-true, t);
        absent = λ e. omega (arith, eqb-true, simp (e, and-eq-true_iff) at h);
      }

  pub marked_ranges : marked_in_range f ≡ true → MarkedRanges f
  marked_ranges h = omega (arith, ltb-true, eqb-true, simp and-eq-true_iff at h)

  pub p2p_ranges : p2p_in_range f ≡ true → P2pRanges f
  p2p_ranges h = omega (arith, ltb-true, eqb-true, simp and-eq-true_iff at h)

  pub nn_ranges : nn_in_range f ≡ true → NnRanges f
  nn_ranges h = omega (arith, ltb-true, eqb-true, simp and-eq-true_iff at h)

  -- fields in range: those that every type has, and those of their own type
  module _ (h : in_range f ≡ true) where
    pub ends : end_in_range f ≡ true
    ends = let t : _ = simp and-eq-true_iff at h in simp and-eq-true_iff t.0.1

    pub kind_small : f.kind < 4
    kind_small = let t : _ = simp and-eq-true_iff at h in ltb-true _ _ t.0.0

    pub own : cond (eqb f.kind 1) (p2p_in_range f) (cond (eqb f.kind 2) (nn_in_range f) (marked_in_range f)) ≡ true
    own = let t : _ = simp and-eq-true_iff at h in t.1
