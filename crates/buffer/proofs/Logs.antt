-- A record put behind those that a log has.
use Rattle.std.proofs.Common.{◌≡◌, ℕ, suc, ◌+◌, ◌*◌, ◌≤◌, List, [], ◌∷◌, ◌++◌, length, take, drop, set, sym, refl, ap, ◌∙◌, append-nil, arith, length-append, length-set, length-take-le, take_at, drop_at}
use lib.Seq.{sets-eq}
use Rattle.buffer.specs.Logs.{Logged}

-- no record
pub logged_none : (l : List ℕ) (n : ℕ) → Logged [] l n l n
logged_none l n = record { long = refl; front = sym (append-nil (take (n * 6) l)); behind = refl; more = omega arith; few = omega arith }

module _ (l : List ℕ) (n a b c d e f : ℕ) (fits : n * 6 + 6 ≤ length l) where
  abbrev stored : List ℕ
  stored = set (set (set (set (set (set l (n * 6) a) (n * 6 + 1) b) (n * 6 + 2) c) (n * 6 + 3) d) (n * 6 + 4) e) (n * 6 + 5) f

  abbrev six : List ℕ
  six = a ∷ b ∷ c ∷ d ∷ e ∷ f ∷ []

  put : stored ≡ take (n * 6) l ++ six ++ drop (n * 6 + 6) l
  put =
      let at = n * 6 in
      let e₁ : at + 1 ≡ suc at = omega arith in
      let e₂ : at + 2 ≡ suc (suc at) = omega arith in
      let e₃ : at + 3 ≡ suc (suc (suc at)) = omega arith in
      let e₄ : at + 4 ≡ suc (suc (suc (suc at))) = omega arith in
      let e₅ : at + 5 ≡ suc (suc (suc (suc (suc at)))) = omega arith in
      (λ i. set (set (set (set (set (set l at a) (e₁ i) b) (e₂ i) c) (e₃ i) d) (e₄ i) e) (e₅ i) f) ∙ sets-eq six l at fits

  whole : length (take (n * 6) l ++ six) ≡ (n + 1) * 6
  whole = length-append (take (n * 6) l) six ∙ ap (λ (k : ℕ). k + 6) (length-take-le (n * 6) l (omega arith)) ∙ omega arith

  -- one record of six numbers
  pub logged_one : Logged (a ∷ b ∷ c ∷ d ∷ e ∷ f ∷ []) l n stored (n + 1)
  logged_one =
      let past : n * 6 + 6 ≡ (n + 1) * 6 = omega arith in
      record {
        long = simp length-set;
        front = ap (take ((n + 1) * 6)) put ∙ take_at (take (n * 6) l ++ six) (drop (n * 6 + 6) l) ((n + 1) * 6) whole;
        behind = ap (drop ((n + 1) * 6)) put ∙ drop_at (take (n * 6) l ++ six) (drop (n * 6 + 6) l) ((n + 1) * 6) whole ∙ ap (λ (k : ℕ). drop k l) past;
        more = omega arith;
        few = omega arith;
      }
