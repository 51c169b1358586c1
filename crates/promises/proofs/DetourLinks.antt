-- The links of a detour: where they lead, and what the sets of step 5 and of the second leg have at them. The steps round the mesh are added modulo its sizes, and the sets are computed.
use mathlib.Core.Path.{◌≡◌, refl, ap, ◌∙◌}
use mathlib.Core.Bool.{Bool, true, false, ◌&&◌, ◌||◌, not, or-true, and-eq-true_iff}
use mathlib.Core.Logic.{◌⊎◌, inl, inr}
use Prim.Native.Nat.{ℕ, zero, suc, ◌+◌, ◌*◌, ◌/◌, ◌%◌, ◌^◌, ◌≤◌, ◌<◌}
use native.Mathlib.Nat.{mod-lt, mod-eq_of_lt, mod-add-mod, add-mod_right, div-eq_of_lt, mul-add-div_right, mul-add-mod_self_right}
use native.Mathlib.Omega.{arith}
use lib.Dec.{eqb, lit<}
use borrow.Author.Tests.{eqb-true}
use Rattle.packet.proofs.Small.{every, at, every₂, at₂}
use Rattle.steps.specs.Links.{has, link}
use Rattle.steps.specs.Detour.{carries, sends, drops, carry_set, send_set, drop_set, plain_send_set, plain_drop_set}
use Rattle.steps.proofs.Sets.{has_set}
use Rattle.links.specs.Across.{step_east, step_north, across}
use Rattle.promises.specs.Detoured.{detour_link, second_leg, far_source, straight_source, Geometry}

-- ---- where they lead

-- steps a and b round a ring of n are the step c, or that and once round
abbrev Together : ℕ → ℕ → ℕ → ℕ → Type 0
Together n a b c = (a + b ≡ c) ⊎ (a + b ≡ c + n)

together : (n k a b c : ℕ) → Together n a b c → ((k + a) % n + b) % n ≡ (k + c) % n
together n k a b c (inl e) = let s : k + a + b ≡ k + c = omega arith in mod-add-mod (k + a) n b ∙ ap (λ (x : ℕ). x % n) s
together n k a b c (inr e) = let s : k + a + b ≡ k + c + n = omega arith in mod-add-mod (k + a) n b ∙ ap (λ (x : ℕ). x % n) s ∙ add-mod_right (k + c) n

east : (n b : ℕ) → 1 ≤ n → b < 6 → Together n (step_east n (detour_link b)) (step_east n (second_leg b)) (step_east n b)
east n zero wide h = inl refl
east n (suc zero) wide h = inl refl
east n (suc (suc zero)) wide h = inr (omega arith)
east n (suc (suc (suc zero))) wide h = inl (omega arith)
east n (suc (suc (suc (suc zero)))) wide h = inl (omega arith)
east n (suc (suc (suc (suc (suc zero))))) wide h = inr (omega arith)
east n (suc (suc (suc (suc (suc (suc b)))))) wide h = absurd (omega arith)

north : (n b : ℕ) → 1 ≤ n → b < 6 → Together n (step_north n (detour_link b)) (step_north n (second_leg b)) (step_north n b)
north n zero high h = inr (omega arith)
north n (suc zero) high h = inl refl
north n (suc (suc zero)) high h = inl refl
north n (suc (suc (suc zero))) high h = inr (omega arith)
north n (suc (suc (suc (suc zero)))) high h = inl (omega arith)
north n (suc (suc (suc (suc (suc zero))))) high h = inl (omega arith)
north n (suc (suc (suc (suc (suc (suc b)))))) high h = absurd (omega arith)

-- where two links lead, one after the other
across_twice : (width height chip i j : ℕ) → 1 ≤ width
    → across width height (across width height chip i) j
    ≡ ((chip / width + step_north height i) % height + step_north height j) % height * width + ((chip % width + step_east width i) % width + step_east width j) % width
across_twice width height chip i j wide =
    let y : ℕ = (chip / width + step_north height i) % height in
    let x : ℕ = (chip % width + step_east width i) % width in
    let hx : x < width = mod-lt (chip % width + step_east width i) wide in
    let row : (y * width + x) / width ≡ y = omega (arith, mul-add-div_right wide y x, div-eq_of_lt hx) in
    let column : (y * width + x) % width ≡ x = mul-add-mod_self_right y width x ∙ mod-eq_of_lt hx in
    λ k. (row k + step_north height j) % height * width + (column k + step_east width j) % width

-- the default route of mark 11 from the far source is that of mark 00 from the lost link's end
pub same_default : (b : ℕ) → b < 6 → link (far_source b + 2) ≡ link (straight_source b + 3)
unfolding every
same_default b h = eqb-true _ _ (at 6 (λ (i : ℕ). eqb (link (far_source i + 2)) (link (straight_source i + 3))) refl b h)

pub geometry : Geometry
geometry width height chip b wide high there h =
    record {
      far_chip = across_twice width height chip (detour_link b) (second_leg b) wide
          ∙ (λ k. together height (chip / width) _ _ _ (north height b high h) k * width + together width (chip % width) _ _ _ (east width b wide h) k);
      default = same_default b h;
    }

-- ---- the sets

-- the link after the detour link is the lost one
next : (b : ℕ) → b < 6 → link (detour_link b + 1) ≡ b
next b h = omega arith

detour_near : (b : ℕ) → detour_link b < 6
detour_near b = mod-lt (b + 5) (lit< tt)

-- a wanted link b that is not ready, and its detour link that is
module _ (wanted ready b : ℕ) (h : b < 6) (want : has wanted b ≡ true) (lost : has ready b ≡ false) (way : has ready (detour_link b) ≡ true) where
  carries_detour : carries wanted ready (detour_link b) ≡ true
  carries_detour = (λ i. has wanted (next b h i) && not (has ready (next b h i)) && has ready (detour_link b)) ∙ (λ i. want i && not (lost i) && way i)

  pub detour_carried : has (carry_set wanted ready) (detour_link b) ≡ true
  detour_carried = has_set (carries wanted ready) (detour_link b) (detour_near b) ∙ carries_detour

  pub detour_sent : has (send_set wanted ready) (detour_link b) ≡ true
  detour_sent =
      has_set (sends wanted ready) (detour_link b) (detour_near b) ∙ (λ i. way i && (has wanted (detour_link b) || carries_detour i)) ∙ or-true (has wanted (detour_link b))

  pub not_dropped : has (drop_set wanted ready) b ≡ false
  not_dropped = has_set (drops wanted ready) b h ∙ (λ i. want i && not (lost i) && not (way i))

-- one link, ready, is sent to and not dropped
leg_test : ℕ → ℕ → Bool
leg_test i ready = not (has ready i) || (eqb (plain_send_set (2 ^ i) ready) (2 ^ i) && eqb (plain_drop_set (2 ^ i) ready) 0)

leg_test_lem : (i ready : ℕ) → i < 6 → ready < 64 → leg_test i ready ≡ true
unfolding every every₂ leg_test
leg_test_lem = at₂ 6 64 leg_test refl

pub ready_leg : (i ready : ℕ) → i < 6 → ready < 64 → has ready i ≡ true → (plain_send_set (2 ^ i) ready ≡ 2 ^ i) × (plain_drop_set (2 ^ i) ready ≡ 0)
unfolding leg_test
ready_leg i ready hi hr r =
    let t = (and-eq-true_iff (eqb (plain_send_set (2 ^ i) ready) (2 ^ i)) (eqb (plain_drop_set (2 ^ i) ready) 0)).0 (simp r at (leg_test_lem i ready hi hr)) in
    (eqb-true _ _ t.0, eqb-true _ _ t.1)

-- where nothing is wanted nothing is sent or dropped
none_test : ℕ → Bool
none_test ready = eqb (send_set 0 ready) 0 && eqb (drop_set 0 ready) 0

none_test_lem : (ready : ℕ) → ready < 64 → none_test ready ≡ true
unfolding every none_test
none_test_lem = at 64 none_test refl

pub none_wanted : (ready : ℕ) → ready < 64 → (send_set 0 ready ≡ 0) × (drop_set 0 ready ≡ 0)
unfolding none_test
none_wanted ready h =
    let t = (and-eq-true_iff (eqb (send_set 0 ready) 0) (eqb (drop_set 0 ready) 0)).0 (none_test_lem ready h) in
    (eqb-true _ _ t.0, eqb-true _ _ t.1)
