-- A sound mesh stays sound: over a pass, an injection, a round and each step of a round; and an open mesh is sound.
use mathlib.Core.Path.{◌≡◌, refl, sym, ◌∙◌}
use mathlib.Core.Logic.{inr}
use mathlib.Core.Bool.{Bool, true, false, cond, and-eq-true_iff}
use mathlib.Core.List.{List, [], ◌∷◌, foldl}
use Prim.Native.Nat.{ℕ, ◌+◌, ◌*◌, ◌≤◌, ◌<◌}
use native.Mathlib.Nat.{mul-le-mul_right, le_of_eq}
use native.Mathlib.Omega.{arith}
use lib.Dec.{eqb, ltb, leb, lit≤}
use lib.ListN.{length, get_or, take, drop, length-set, length-drop, length-replicate, length-map}
use lib.Seq.{length-take-le}
use borrow.Author.Tests.{ltb-true, leb-true}
use Rattle.tables.specs.Sizes.{size_fine}
use Rattle.steps.specs.Deciding.{Checked}
use Rattle.steps.proofs.Bounds.{set_small}
use Rattle.links.specs.Link.{Flight, Link, idle, is_ready}
use Rattle.links.specs.Phase.{next_phase}
use Rattle.mesh.specs.Mesh.{Chip, Mesh, fresh, opened, rounds_fine}
use Rattle.mesh.specs.Lending.{Tables, tables_at}
use Rattle.mesh.specs.Steps.{Arrival, Going, setting_at, emptied, emptied_chip, set_aside, arrivals, round_over, pass_at, injected, passed, rounded, set_out}
use Rattle.lists.specs.Lists.{All}
use Rattle.mesh.specs.Sound.{Passable, Arrives, SoundLink, SoundChip, SoundMesh}
use Rattle.lists.proofs.Alls.{all_nil, all_map, all_weaken, all_replicate}
use Rattle.steps.proofs.Sources.{source_near}
use Rattle.mesh.proofs.SoundChanges.{sound_chips, sound_chip, chip_sound}
use Rattle.mesh.proofs.SoundAfter.{sound_after}
use Rattle.tables.proofs.Sizes as sizes
use Rattle.mesh.proofs.SoundArrivals.{sound_arrivals}

-- a chip's codes are all there
codes_enough : (codes : List ℕ) (n chip : ℕ) → chip < n → length codes ≡ n * n → n ≤ length (take n (drop (chip * n) codes))
codes_enough codes n chip h e =
    le_of_eq (sym (length-take-le n (drop (chip * n) codes) (simp length-drop (omega (arith, mul-le-mul_right n h)))))

-- P2P codes for every chip of a mesh
abbrev pub CodesFor : {A : Type 0} → Tables → Mesh A → Type 0
CodesFor t m = length t.codes ≡ (m.height * m.width) * (m.height * m.width)

-- Two meshes with one header, and as many chips.
pub record SameHead {A : Type 0} (m k : Mesh A) : Type 0 where
  pub width : k.width ≡ m.width
  pub height : k.height ≡ m.height
  pub rounds : k.rounds ≡ m.rounds
  pub monitor : k.monitor ≡ m.monitor
  pub phase : k.phase ≡ m.phase
  pub elapsed : k.elapsed ≡ m.elapsed
  pub many : length k.chips ≡ length m.chips

-- "The phase code runs 00, 01, 11, 10 and round again."
phase_kept : (b : Bool) (phase : ℕ) → phase ≤ 3 → cond b phase (next_phase phase) ≤ 3
phase_kept true phase h = h
phase_kept false phase h = go (eqb phase 0) (eqb phase 1) (eqb phase 3)
  where
    go : (a b c : Bool) → cond a 1 (cond b 3 (cond c 2 0)) ≤ 3
    go true b c = lit≤ tt
    go false true c = lit≤ tt
    go false false true = lit≤ tt
    go false false false = lit≤ tt

elapsed_below : (elapsed rounds : ℕ) → rounds_fine rounds ≡ true → cond (ltb (elapsed + 1) rounds) (elapsed + 1) 0 < rounds
elapsed_below elapsed rounds fine = go (ltb (elapsed + 1) rounds) refl
  where
    go : (b : Bool) → ltb (elapsed + 1) rounds ≡ b → cond b (elapsed + 1) 0 < rounds
    go true e = ltb-true _ _ e
    go false e = leb-true _ _ ((and-eq-true_iff (leb 1 rounds) (leb rounds 65535)).0 fine).0

module _ {A : Type 0} where
  -- ---- what a round begins and ends with

  emptied_sound : (l : Link A) → SoundLink (emptied l)
  emptied_sound l = record { few = lit≤ tt; fine = all_nil _ }

  emptied_chip_sound : (c : Chip A) → SoundChip c → SoundChip (emptied_chip c)
  emptied_chip_sound c sound =
      record {
        six = length-map c.links emptied ∙ sound.six;
        registers = sound.registers;
        links = all_map SoundLink emptied c.links (all_weaken SoundLink _ (λ l h. emptied_sound l) c.links sound.links);
      }

  pub sound_aside : {m : Mesh A} → SoundMesh m → SoundMesh (set_aside m)
  sound_aside {m} sound =
      sound_chips sound _ (length-map m.chips emptied_chip) (all_map SoundChip emptied_chip m.chips (all_weaken SoundChip _ emptied_chip_sound m.chips sound.chips))

  pub sound_over : {m : Mesh A} → SoundMesh m → SoundMesh (round_over m)
  sound_over {m} sound =
      record {
        size = sound.size;
        rounds = sound.rounds;
        monitor = sound.monitor;
        phase = phase_kept (ltb (m.elapsed + 1) m.rounds) m.phase sound.phase;
        elapsed = elapsed_below m.elapsed m.rounds sound.rounds;
        many = sound.many;
        chips = sound.chips;
      }

  -- ---- an open mesh

  fresh_sound : SoundChip {A = A} fresh
  fresh_sound = record { six = refl; registers = refl; links = all_replicate SoundLink 6 idle (record { few = lit≤ tt; fine = all_nil _ }) }

  pub sound_opened : (w h f mon : ℕ) → size_fine w h ≡ true → rounds_fine f ≡ true → mon ≤ 19 → SoundMesh {A = A} (opened w h f mon)
  sound_opened w h f mon size rounds monitor =
      record {
        size = size;
        rounds = rounds;
        monitor = monitor;
        phase = lit≤ tt;
        elapsed = leb-true _ _ ((and-eq-true_iff (leb 1 f) (leb f 65535)).0 rounds).0;
        many = length-replicate (h * w) fresh;
        chips = all_replicate SoundChip (h * w) fresh fresh_sound;
      }

  -- ---- passes

  pub checked : (t : Tables) (m : Mesh A) (a : Arrival A) → SoundMesh m → CodesFor t m → Arrives (m.height * m.width) a
      → Checked a.flight.packet a.source (tables_at t (m.height * m.width) a.chip) (setting_at m a.chip)
  checked t m a sound codes h =
      let size = sizes.size m.width m.height sound.size in
      record {
        control = h.passable.control;
        from = source_near a.source h.from;
        monitor = omega (arith, sound.monitor);
        phase = sound.phase;
        ready = set_small (λ i. is_ready (get_or (get_or m.chips a.chip fresh).links i idle));
        width = size.width_high;
        height = size.height_high;
        enough = codes_enough t.codes (m.height * m.width) a.chip h.there codes;
      }

  module _ (t : Tables) (turn : A → A) where
    pub sound_pass : (g : Going A) (a : Arrival A) → SoundMesh g.mesh → CodesFor t g.mesh → Arrives (g.mesh.height * g.mesh.width) a → SoundMesh (pass_at t turn g a).mesh
    sound_pass g a sound codes h =
        let m = g.mesh in
        sound_chip sound a.chip _
        (sound_after (get_or m.chips a.chip fresh) (turn a.flight.tag) (chip_sound sound a.chip h.there) a.flight.packet a.source (tables_at t (m.height * m.width) a.chip)
        (setting_at m a.chip) refl (checked t m a sound codes h) h.from h.passable)

    pub pass_head : (g : Going A) (a : Arrival A) → SameHead g.mesh (pass_at t turn g a).mesh
    pass_head g a =
        record { width = refl; height = refl; rounds = refl; monitor = refl; phase = refl; elapsed = refl; many = length-set g.mesh.chips a.chip _ }

    pub passed_head : (g : Going A) (later : List (Arrival A)) → SameHead g.mesh (foldl (pass_at t turn) g later).mesh
    passed_head g [] = record { width = refl; height = refl; rounds = refl; monitor = refl; phase = refl; elapsed = refl; many = refl }
    passed_head g (a ∷ later) =
        let h = passed_head (pass_at t turn g a) later in
        record {
          width = h.width;
          height = h.height;
          rounds = h.rounds;
          monitor = h.monitor;
          phase = h.phase;
          elapsed = h.elapsed;
          many = h.many ∙ length-set g.mesh.chips a.chip _;
        }

    pub sound_passes : (g : Going A) (later : List (Arrival A)) → SoundMesh g.mesh → CodesFor t g.mesh → All (Arrives (g.mesh.height * g.mesh.width)) later → SoundMesh (foldl (pass_at t turn) g later).mesh
    unfolding All
    sound_passes g [] sound codes h = sound
    sound_passes g (a ∷ later) sound codes h = sound_passes (pass_at t turn g a) later (sound_pass g a sound codes h.0) codes h.1

    pub sound_injected : (m : Mesh A) (chip : ℕ) (f : Flight A) → SoundMesh m → chip < m.height * m.width → Passable f.packet → CodesFor t m
        → SoundMesh (injected t turn m chip f).mesh
    sound_injected m chip f sound there passable codes = sound_pass (set_out m) (record { chip = chip; source = 7; flight = f }) sound codes (record { there = there; from = inr refl; passable = passable })

    pub sound_passed : {m : Mesh A} → SoundMesh m → CodesFor t m → SoundMesh (passed t turn m).mesh
    sound_passed {m} sound codes = sound_passes (set_out (set_aside m)) (arrivals m) (sound_aside sound) codes (sound_arrivals sound)

    pub sound_rounded : {m : Mesh A} → SoundMesh m → CodesFor t m → SoundMesh (rounded t turn m).mesh
    sound_rounded sound codes = sound_over (sound_passed sound codes)
