-- The joined row: it matches a key exactly where one of the two did. It covers both, and its one bit less is the bit in which a key that it matches can still differ from theirs.
use Prim.Native.Nat.{ℕ}
use mathlib.Core.Path.{◌≡◌, refl, sym, ap, ◌∙◌, subst}
use mathlib.Core.Bool.{Bool, true, false, ◌&&◌, ◌||◌, false≢true, true≢false}
use mathlib.Core.Logic.{◌⊎◌, inl, inr, ⊎_elim}
use lib.Bits.{bit_and, bit_xor}
use lib.Count.{ones}
use lib.Dec.{eqb}
use borrow.Author.Tests.{eqb-true, eqb-false, eq-eqb}
use Rattle.lists.proofs.Bools.{both}
use Rattle.tables.specs.Rows.{Entry, matches}
use Rattle.fewer.specs.Process.{covers, matches_some, pair, joined}
use Rattle.fewer.proofs.BitByBit.{bit, differs, and_bit, xor_bit, same_bits, OneBit, single_bit}
use Rattle.fewer.proofs.Covers.{covers_by, covered_matches}

-- ---- at a bit: of the two keys a and b, their mask m, and a key x

fewer_bits : (a b m : Bool) → (differs a b && m) ≡ differs a b → (differs m (differs a b) && m) ≡ differs m (differs a b)
fewer_bits true true true h = refl
fewer_bits true true false h = refl
fewer_bits true false true h = refl
fewer_bits true false false h = absurd (false≢true h)
fewer_bits false true true h = refl
fewer_bits false true false h = absurd (false≢true h)
fewer_bits false false true h = refl
fewer_bits false false false h = refl

upper_bit : (a b m : Bool) → (a && m) ≡ a → (a && differs m (differs a b)) ≡ (a && b)
upper_bit false b m h = refl
upper_bit true true true h = refl
upper_bit true false true h = refl
upper_bit true b false h = absurd (false≢true h)

lower_bit : (a b m : Bool) → (b && m) ≡ b → (b && differs m (differs a b)) ≡ (a && b)
lower_bit true false m h = refl
lower_bit false false m h = refl
lower_bit true true true h = refl
lower_bit false true true h = refl
lower_bit a true false h = absurd (false≢true h)

own_bit : (a b m : Bool) → (a && m) ≡ a → ((a && b) && differs m (differs a b)) ≡ (a && b)
own_bit false b m h = refl
own_bit true true true h = refl
own_bit true false m h = refl
own_bit true true false h = absurd (false≢true h)

-- where the keys agree, the key has their bit under the mask
agreed_bit : (a b m x : Bool) → differs a b ≡ false → (x && differs m (differs a b)) ≡ (a && b) → ((x && m) ≡ a) × ((x && m) ≡ b)
agreed_bit true true true x d h = (h, h)
agreed_bit true true false x d h = (h, h)
agreed_bit true false m x d h = absurd (true≢false d)
agreed_bit false true m x d h = absurd (true≢false d)
agreed_bit false false true x d h = (h, h)
agreed_bit false false false x d h = (h, h)

-- where they differ it has the one's bit or the other's
either_bit : (a b u : Bool) → (u ≡ a) ⊎ ((u ≡ b) ⊎ (differs a b ≡ false))
either_bit true true u = inr (inr refl)
either_bit false false u = inr (inr refl)
either_bit true false true = inl refl
either_bit true false false = inr (inl refl)
either_bit false true true = inr (inl refl)
either_bit false true false = inl refl

module _ (a b : Entry) (p : pair a b ≡ true) where
  abbrev apart : ℕ
  apart = bit_xor a.key b.key

  parts : (a.mask ≡ b.mask) × ((a.route ≡ b.route) × ((ones apart ≡ 1) × (bit_and apart a.mask ≡ apart)))
  parts =
      let masks : Bool = eqb a.mask b.mask in
      let routes : Bool = eqb a.route b.route in
      let one : Bool = eqb (ones apart) 1 in
      let third = both (masks && routes && one) (eqb (bit_and apart a.mask) apart) p in
      let second = both (masks && routes) one third.0 in
      let first = both masks routes second.0 in
      (eqb-true _ _ first.0, (eqb-true _ _ first.1, (eqb-true _ _ second.1, eqb-true _ _ third.1)))

  pub same_route : a.route ≡ b.route
  same_route = parts.1.0

  mask_bit : (i : ℕ) → bit (joined a b).mask i ≡ differs (bit a.mask i) (differs (bit a.key i) (bit b.key i))
  mask_bit i = xor_bit i a.mask apart ∙ ap (differs (bit a.mask i)) (xor_bit i a.key b.key)

  under_bit : (i key : ℕ) → bit (bit_and key (joined a b).mask) i ≡ (bit key i && differs (bit a.mask i) (differs (bit a.key i) (bit b.key i)))
  under_bit i key = and_bit i key _ ∙ ap (λ (x : Bool). bit key i && x) (mask_bit i)

  key_bit : (i : ℕ) → bit (joined a b).key i ≡ (bit a.key i && bit b.key i)
  key_bit i = and_bit i a.key b.key

  -- its mask has no bit that theirs has not
  masked : bit_and (joined a b).mask a.mask ≡ (joined a b).mask
  masked =
      same_bits _ _
      (λ i. and_bit i _ a.mask
      ∙ ap (λ (x : Bool). x && bit a.mask i) (mask_bit i)
      ∙ fewer_bits (bit a.key i) (bit b.key i) (bit a.mask i)
      (ap (λ (x : Bool). x && bit a.mask i) (sym (xor_bit i a.key b.key)) ∙ sym (and_bit i apart a.mask) ∙ ap (λ (x : ℕ). bit x i) parts.1.1.1 ∙ xor_bit i a.key b.key)
      ∙ sym (mask_bit i))

  module _ (some : matches_some a ≡ true) (other : matches_some b ≡ true) where
    upper_own : (i : ℕ) → (bit a.key i && bit a.mask i) ≡ bit a.key i
    upper_own i = sym (and_bit i a.key a.mask) ∙ ap (λ (x : ℕ). bit x i) (eqb-true _ _ some)

    lower_own : (i : ℕ) → (bit b.key i && bit a.mask i) ≡ bit b.key i
    lower_own i = sym (and_bit i b.key a.mask) ∙ ap (λ (x : ℕ). bit x i) (ap (bit_and b.key) parts.0 ∙ eqb-true _ _ other)

    pub joined_some : matches_some (joined a b) ≡ true
    joined_some =
        eq-eqb _ _
        (same_bits _ _
        (λ i. under_bit i _
        ∙ ap (λ (x : Bool). x && differs (bit a.mask i) (differs (bit a.key i) (bit b.key i))) (key_bit i)
        ∙ own_bit (bit a.key i) (bit b.key i) (bit a.mask i) (upper_own i)
        ∙ sym (key_bit i)))

    pub covers_upper : covers (joined a b) a ≡ true
    covers_upper =
        covers_by (joined a b) a masked
        (same_bits _ _ (λ i. under_bit i a.key ∙ upper_bit (bit a.key i) (bit b.key i) (bit a.mask i) (upper_own i) ∙ sym (key_bit i)))

    covers_lower : covers (joined a b) b ≡ true
    covers_lower =
        covers_by (joined a b) b (ap (bit_and (joined a b).mask) (sym parts.0) ∙ masked)
        (same_bits _ _ (λ i. under_bit i b.key ∙ lower_bit (bit a.key i) (bit b.key i) (bit a.mask i) (lower_own i) ∙ sym (key_bit i)))

    module _ (key : ℕ) where
      -- a key that it matches is one of theirs under the mask
      module _ (m : matches key (joined a b).key (joined a b).mask ≡ true) where
        abbrev under : ℕ → Bool
        under i = bit key i && bit a.mask i

        agreed : (i : ℕ) → differs (bit a.key i) (bit b.key i) ≡ false → (under i ≡ bit a.key i) × (under i ≡ bit b.key i)
        agreed i d =
            agreed_bit (bit a.key i) (bit b.key i) (bit a.mask i) (bit key i) d
            (sym (under_bit i key) ∙ ap (λ (x : ℕ). bit x i) (eqb-true _ _ m) ∙ key_bit i)

        one : OneBit apart
        one = single_bit apart parts.1.1.0

        -- a key with its bit at that place is it
        whole : (k : ℕ) → ((i : ℕ) → differs (bit a.key i) (bit b.key i) ≡ false → under i ≡ bit k i) → under one.0 ≡ bit k one.0 → bit_and key a.mask ≡ k
        whole k elsewhere here = same_bits _ _ (λ i. and_bit i key a.mask ∙ go i (eqb i one.0) refl)
          where
            go : (i : ℕ) (e : Bool) → eqb i one.0 ≡ e → under i ≡ bit k i
            go i true e = subst (λ (j : ℕ). under j ≡ bit k j) (sym (eqb-true i one.0 e)) here
            go i false e = elsewhere i (sym (xor_bit i a.key b.key) ∙ one.1 i (eqb-false i one.0 e))

        upper : under one.0 ≡ bit a.key one.0 → matches key a.key a.mask ≡ true
        upper h = eq-eqb _ _ (whole a.key (λ i d. (agreed i d).0) h)

        lower : under one.0 ≡ bit b.key one.0 → matches key b.key b.mask ≡ true
        lower h = eq-eqb _ _ (ap (bit_and key) (sym parts.0) ∙ whole b.key (λ i d. (agreed i d).1) h)

        one_of : (matches key a.key a.mask ≡ true) ⊎ (matches key b.key b.mask ≡ true)
        one_of =
            ⊎_elim (λ h. inl (upper h)) (λ k. ⊎_elim (λ h. inr (lower h)) (λ d. inl (upper (agreed one.0 d).0)) k)
            (either_bit (bit a.key one.0) (bit b.key one.0) (under one.0))

      pub joined_matches : matches key (joined a b).key (joined a b).mask ≡ (matches key a.key a.mask || matches key b.key b.mask)
      joined_matches = go (matches key a.key a.mask) (matches key b.key b.mask) (matches key (joined a b).key (joined a b).mask) refl refl refl
        where
          go : (x y z : Bool) → matches key a.key a.mask ≡ x → matches key b.key b.mask ≡ y → matches key (joined a b).key (joined a b).mask ≡ z → z ≡ (x || y)
          go true y z ex ey ez = sym ez ∙ covered_matches (joined a b) a covers_upper key ex
          go false true z ex ey ez = sym ez ∙ covered_matches (joined a b) b covers_lower key ey
          go false false false ex ey ez = refl
          go false false true ex ey ez =
              ⊎_elim (λ h. absurd (true≢false (sym h ∙ ex))) (λ h. absurd (true≢false (sym h ∙ ey))) (one_of ez)
