-- A mesh whose links are up as another's, of the same size and monitor, stays so: over a pass, a round's beginning and end, a link change that changes no state, a reading of registers.
use mathlib.Core.Path.{◌≡◌, refl, ap, ◌∙◌, sym}
use mathlib.Core.Bool.{Bool}
use mathlib.Core.List.{List, [], ◌∷◌, foldl}
use Prim.Native.Nat.{ℕ, zero, suc}
use lib.ListN.{get_or, set, get_or-map}
use Rattle.steps.specs.declared.Outcome.{Outcome}
use Rattle.lists.proofs.Changed.{set_keeps}
use Rattle.links.specs.Link.{Link, idle}
use Rattle.mesh.specs.Mesh.{Chip, Mesh, fresh, chip_of, link_of}
use Rattle.mesh.specs.Lending.{Tables}
use Rattle.mesh.specs.Steps.{Arrival, Going, links_after, emptied, emptied_chip, set_aside, round_over, pass_at}
use Rattle.mesh.specs.Calls.{with_up, with_link, with_empty}
use Rattle.mesh.specs.Sound.{SoundMesh}
use Rattle.flood.specs.Ways.{is_up}
use Rattle.flood.proofs.SameLinks.{SameLinks}

module _ {A : Type 0} where
  links_up : (o : Outcome) (tag : A) (i n : ℕ) (ls : List (Link A)) → (get_or (links_after o tag i ls) n idle).up ≡ (get_or ls n idle).up
  unfolding links_after
  links_up o tag i n [] = refl
  links_up o tag i zero (l ∷ ls) = refl
  links_up o tag i (suc n) (l ∷ ls) = links_up o tag (suc i) n ls

  -- a chip changed, its links up as before
  chip_up : (m : Mesh A) (chip c i : ℕ) (x : Chip A) → (get_or x.links i idle).up ≡ is_up m chip i → (get_or (get_or (set m.chips chip x) c fresh).links i idle).up ≡ is_up m c i
  chip_up m chip c i x e = set_keeps (λ (y : Chip A). (get_or y.links i idle).up) m.chips chip c x fresh e

  aside_up : (m : Mesh A) (c i : ℕ) → is_up (set_aside m) c i ≡ is_up m c i
  aside_up m c i =
      ap (λ (x : Chip A). (get_or x.links i idle).up) (get_or-map emptied_chip m.chips c fresh)
      ∙ ap (λ (l : Link A). l.up) (get_or-map emptied (chip_of m c).links i idle)

-- the same size, monitor and links' states
pub record Alike {A : Type 0} (m k : Mesh A) : Type 0 where
  pub same : SameLinks m k
  pub monitor : k.monitor ≡ m.monitor

module _ {A : Type 0} (m : Mesh A) where
  pub alike_itself : SoundMesh m → Alike m m
  alike_itself sound = record { same = record { fine = sound.size; width = refl; height = refl; links = λ chip i hc hi. refl }; monitor = refl }

module _ {A : Type 0} {m k : Mesh A} (alike : Alike m k) where
  -- another mesh of that size, its links up as before
  still : (n : Mesh A) → n.width ≡ k.width → n.height ≡ k.height → n.monitor ≡ k.monitor → ((c i : ℕ) → is_up n c i ≡ is_up k c i) → Alike m n
  still n w h monitor up =
      record {
        same = record {
          fine = alike.same.fine;
          width = w ∙ alike.same.width;
          height = h ∙ alike.same.height;
          links = λ c i hc hi. up c i ∙ alike.same.links c i hc hi;
        };
        monitor = monitor ∙ alike.monitor;
      }

  pub alike_aside : Alike m (set_aside k)
  alike_aside = still (set_aside k) refl refl refl (aside_up k)

  pub alike_over : Alike m (round_over k)
  alike_over = still (round_over k) refl refl refl (λ c i. refl)

  pub alike_linked : (chip link : ℕ) (up : Bool) → is_up k chip link ≡ up → Alike m (with_link k chip link up)
  alike_linked chip link up e =
      still (with_link k chip link up) refl refl refl
      (λ c i. chip_up k chip c i _ (set_keeps (λ (l : Link A). l.up) (chip_of k chip).links link i (with_up up (link_of k chip link)) idle (sym e)))

  pub alike_emptied : (chip : ℕ) → Alike m (with_empty k chip)
  alike_emptied chip = still (with_empty k chip) refl refl refl (λ c i. chip_up k chip c i _ refl)

pub alike_pass : {A : Type 0} {m : Mesh A} (t : Tables) (turn : A → A) (g : Going A) (a : Arrival A) → Alike m g.mesh → Alike m (pass_at t turn g a).mesh
alike_pass t turn g a alike =
    still alike (pass_at t turn g a).mesh refl refl refl (λ c i. chip_up g.mesh a.chip c i _ (links_up _ _ 0 i (chip_of g.mesh a.chip).links))

pub alike_passes : {A : Type 0} {m : Mesh A} (t : Tables) (turn : A → A) (g : Going A) (later : List (Arrival A)) → Alike m g.mesh → Alike m (foldl (pass_at t turn) g later).mesh
alike_passes t turn g [] alike = alike
alike_passes t turn g (a ∷ later) alike = alike_passes t turn (pass_at t turn g a) later (alike_pass t turn g a alike)
