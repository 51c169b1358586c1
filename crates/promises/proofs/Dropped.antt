-- The units that a pass drops, one by one, and what registers keep of them: the first unit, and how many there are.
use mathlib.Core.Path.{◌≡◌, refl, sym, ap, ◌∙◌}
use mathlib.Core.Bool.{Bool, true, false, cond, ◌&&◌, ◌||◌, and-eq-true_iff}
use mathlib.Core.List.{List, [], ◌∷◌, ◌++◌, map, map-append, append-nil}
use Prim.Native.Nat.{ℕ, suc, ◌+◌, ◌<◌}
use native.Mathlib.Omega.{arith}
use lib.Count.{ones}
use lib.Dec.{eqb, ltb}
use lib.ListN.{length, get_or, length-append, length-map}
use borrow.Author.Tests.{eqb-true, eqb-false, eq-eqb, ne_eqb, ltb-true}
use Rattle.packet.proofs.Small.{every, at}
use Rattle.steps.specs.declared.Outcome.{Outcome}
use Rattle.kept.specs.declared.Registers.{Registers}
use Rattle.steps.specs.Links.{has}
use Rattle.kept.specs.Keeping.{empty, is_empty, drop_count, capped, more_of, with_units, lowest, first_drop, kept_of}
use Rattle.kept.proofs.Capped.{capped_some, capped_sum}
use Rattle.steps.proofs.Bounds.{Sets}
use Rattle.promises.specs.History.{Passage}
use Rattle.promises.specs.Told.{unit, unit_if, units_of, dropped_units, first_of_units}

-- ---- the links of a set, lowest first

abbrev link_if : Bool → ℕ → List ℕ
link_if b i = cond b (i ∷ []) []

abbrev links_in : ℕ → List ℕ
links_in set = link_if (has set 0) 0 ++ link_if (has set 1) 1 ++ link_if (has set 2) 2 ++ link_if (has set 3) 3 ++ link_if (has set 4) 4 ++ link_if (has set 5) 5

links_test : ℕ → Bool
links_test n = eqb (length (links_in n)) (ones n) && (eqb n 0 || (ltb 0 (ones n) && eqb (get_or (links_in n) 0 0) (lowest n)))

links_test_lem : (n : ℕ) → n < 64 → links_test n ≡ true
unfolding every links_test ones
links_test_lem = at 64 links_test refl

-- as many as the set has digits, the lowest first
record Listed (n : ℕ) : Type 0 where
  many : length (links_in n) ≡ ones n
  some : (n ≡ 0 → ⊥) → 0 < ones n
  first : (n ≡ 0 → ⊥) → get_or (links_in n) 0 0 ≡ lowest n

listed : (n : ℕ) → n < 64 → Listed n
unfolding links_test
listed n h =
    let t = (and-eq-true_iff (eqb (length (links_in n)) (ones n)) (eqb n 0 || (ltb 0 (ones n) && eqb (get_or (links_in n) 0 0) (lowest n)))).0 (links_test_lem n h) in
    let both : (n ≡ 0 → ⊥) → (ltb 0 (ones n) ≡ true) × (eqb (get_or (links_in n) 0 0) (lowest n) ≡ true) = λ some. simp (ne_eqb n 0 some, and-eq-true_iff) at t.1 in
    record { many = eqb-true _ _ t.0; some = λ some. ltb-true _ _ (both some).0; first = λ some. eqb-true _ _ (both some).1 }

-- ---- units

module _ (p : Passage) where
  abbrev o : Outcome
  o = p.outcome

  unit_if_lem : (b : Bool) (i leg : ℕ) → unit_if b (unit p i leg) ≡ map (λ (j : ℕ). unit p j leg) (link_if b i)
  unit_if_lem true i leg = refl
  unit_if_lem false i leg = refl

  units_of_lem : (links leg : ℕ) → units_of p links leg ≡ map (λ (j : ℕ). unit p j leg) (links_in links)
  units_of_lem links leg =
      simp map-append
      (λ k.
      unit_if_lem (has links 0) 0 leg k ++ unit_if_lem (has links 1) 1 leg k ++ unit_if_lem (has links 2) 2 leg k ++ unit_if_lem (has links 3) 3 leg k
      ++ unit_if_lem (has links 4) 4 leg k
      ++ unit_if_lem (has links 5) 5 leg k)

  length_units : (links leg : ℕ) → links < 64 → length (units_of p links leg) ≡ ones links
  length_units links leg h = ap length (units_of_lem links leg) ∙ length-map (links_in links) (λ j. unit p j leg) ∙ (listed links h).many

  pub length_dropped : Sets p.outcome → length (dropped_units p) ≡ drop_count p.outcome
  length_dropped s =
      length-append (units_of p o.dropped 0) (units_of p o.leg_dropped 1)
      ∙ (λ k. length_units o.dropped 0 s.dropped k + length_units o.leg_dropped 1 s.leg_dropped k)

  -- a unit's packet with a source, a phase, a link, and so many units
  abbrev shown : ℕ → ℕ → ℕ → ℕ → ℕ → Registers
  shown source phase link leg count =
      record {
        control = o.packet.control;
        word = o.packet.word;
        payload = o.packet.payload;
        link = link;
        leg = leg;
        more = more_of (capped count);
        source = source;
        phase = phase;
        units = capped count;
      }

  -- the first unit of a pass that drops some, where what it did tells the source and the phase that it had
  pub first_dropped : Sets p.outcome → p.outcome.source ≡ p.arrival.source → p.outcome.phase ≡ p.setting.phase → (drop_count p.outcome ≡ 0 → ⊥)
      → first_of_units (dropped_units p) ≡ first_drop p.outcome
  unfolding ones
  first_dropped s from when some = (λ k. first_of_units (units_of_lem o.dropped 0 k ++ units_of_lem o.leg_dropped 1 k)) ∙ go (links_in o.dropped) refl (links_in o.leg_dropped) refl
    where
      by : ℕ → List ℕ → List Registers
      by leg links = map (λ (j : ℕ). unit p j leg) links

      count : (ds ls : List ℕ) → links_in o.dropped ≡ ds → links_in o.leg_dropped ≡ ls → length (by 0 ds ++ by 1 ls) ≡ drop_count o
      count ds ls e f =
          length-append (by 0 ds) (by 1 ls)
          ∙ (λ k. (length-map ds (λ j. unit p j 0) ∙ ap length (sym e)) k + (length-map ls (λ j. unit p j 1) ∙ ap length (sym f)) k)
          ∙ (λ k. (listed o.dropped s.dropped).many k + (listed o.leg_dropped s.leg_dropped).many k)

      -- a set whose first link is i
      there : (set i : ℕ) (is : List ℕ) → set < 64 → links_in set ≡ i ∷ is → (set ≡ 0 → ⊥) × (i ≡ lowest set)
      there set i is h e =
          let some : set ≡ 0 → ⊥ = λ z. let no : ◌≡◌ {A = ℕ} (suc (length is)) 0 = ap length (sym e) ∙ ap (λ (n : ℕ). length (links_in n)) z in omega arith in
          (some, ap (λ (l : List ℕ). get_or l 0 0) (sym e) ∙ (listed set h).first some)

      nothing : (set : ℕ) → set < 64 → links_in set ≡ [] → (b : Bool) → eqb set 0 ≡ b → eqb set 0 ≡ true
      nothing set h e true z = z
      nothing set h e false z = absurd (omega (arith, (listed set h).some (eqb-false _ _ z), (listed set h).many, ap length e))

      -- whether no link but the leg's was dropped for, told by the test
      told : (b : Bool) → b ≡ eqb o.dropped 0
          → shown p.arrival.source p.setting.phase (cond b (lowest o.leg_dropped) (lowest o.dropped)) (cond b 1 0) (drop_count o) ≡ first_drop p.outcome
      told b e = λ k. shown (sym from k) (sym when k) (cond (e k) (lowest o.leg_dropped) (lowest o.dropped)) (cond (e k) 1 0) (drop_count o)

      go : (ds : List ℕ) → links_in o.dropped ≡ ds → (ls : List ℕ) → links_in o.leg_dropped ≡ ls → first_of_units (by 0 ds ++ by 1 ls) ≡ first_drop p.outcome
      go (d ∷ ds) e ls f =
          let h = there o.dropped d ds s.dropped e in
          (λ k. shown p.arrival.source p.setting.phase (h.1 k) 0 (count (d ∷ ds) ls e f k)) ∙ told false (sym (ne_eqb o.dropped 0 h.0))
      go [] e (l ∷ ls) f =
          let h = there o.leg_dropped l ls s.leg_dropped f in
          (λ k. shown p.arrival.source p.setting.phase (h.1 k) 1 (count [] (l ∷ ls) e f k))
          ∙ told true (sym (nothing o.dropped s.dropped e (eqb o.dropped 0) refl))
      go [] e [] f = absurd (some (sym (count [] [] e f)))

-- ---- what registers keep

-- registers that kept the first of some units and their number keep it of these and those that a pass drops
pub keeps_first : (o : Outcome) (us new : List Registers) → length new ≡ drop_count o → ((drop_count o ≡ 0 → ⊥) → first_of_units new ≡ first_drop o)
    → kept_of (first_of_units us) o ≡ first_of_units (us ++ new)
keeps_first o us [] n first =
    let r = first_of_units us in
    ap (λ (b : Bool). cond b r (cond (is_empty r) (first_drop o) (with_units r (capped (r.units + drop_count o))))) (eq-eqb (drop_count o) 0 (sym n))
    ∙ ap first_of_units (sym (append-nil us))
keeps_first o [] (w ∷ ws) n first =
    let some : drop_count o ≡ 0 → ⊥ = λ z. omega arith in
    ap (λ (b : Bool). cond b empty (first_drop o)) (ne_eqb (drop_count o) 0 some) ∙ sym (first some)
keeps_first o (u ∷ us) (w ∷ ws) n first =
    let before = length (u ∷ us) in
    let r = with_units u (capped before) in
    let some : drop_count o ≡ 0 → ⊥ = λ z. omega arith in
    let many : before + drop_count o ≡ length (u ∷ us ++ w ∷ ws) = (λ k. before + sym n k) ∙ sym (length-append (u ∷ us) (w ∷ ws)) in
    ap (λ (b : Bool). cond b r (cond (is_empty r) (first_drop o) (with_units u (capped (capped before + drop_count o))))) (ne_eqb (drop_count o) 0 some)
    ∙ ap (λ (b : Bool). cond b (first_drop o) (with_units u (capped (capped before + drop_count o)))) (ne_eqb (capped before) 0 (capped_some before (λ z. omega arith)))
    ∙ ap (with_units u) (capped_sum before (drop_count o) ∙ ap capped many)
