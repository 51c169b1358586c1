-- One pass by a grown tree in a mesh: of a copy of the injection, at a chip whose links are free. Each link of the chip's route then holds one copy and no other link of the chip does; all other links hold what they held; and the
-- processors of the route have it.
use Prim.Native.Nat.{ℕ, ◌*◌, ◌/◌, ◌<◌}
use mathlib.Core.Path.{◌≡◌, refl, sym, ap, ◌∙◌, subst}
use mathlib.Core.Bool.{Bool, true, false, cond, ◌&&◌}
use mathlib.Core.List.{List, [], ◌∷◌, ◌++◌}
use native.Mathlib.Omega.{arith}
use lib.Dec.{leb}
use lib.ListN.{length, get_or}
use lib.Seq.{get_or-set_same, get_or-set_other}
use borrow.Author.Tests.{eq-eqb, ne_eqb}
use Rattle.steps.specs.declared.Outcome.{Outcome}
use Rattle.steps.specs.Links.{has, processors_of}
use Rattle.steps.specs.Errors.{errors_of}
use Rattle.steps.specs.Deciding.{packet_on, leg_packet}
use Rattle.steps.proofs.Sets.{has_none}
use Rattle.links.specs.Link.{Flight, Link, idle, is_ready, sent, link_after}
use Rattle.mesh.specs.Mesh.{Chip, Mesh, fresh, ready_of, chip_of, link_of}
use Rattle.mesh.specs.Lending.{Tables, tables_at}
use Rattle.mesh.specs.Steps.{Arrival, Going, outcome_at, setting_at, pass_at}
use Rattle.mesh.specs.Sound.{Arrives, SoundMesh}
use Rattle.mesh.proofs.SoundChanges.{chip_sound}
use Rattle.mesh.proofs.SoundSteps.{CodesFor, checked}
use Rattle.promises.specs.History.{Tag, Passage, turned}
use Rattle.promises.specs.GrownTree.{Asked, refusal, Only, handed}
use Rattle.promises.proofs.Apart.{link_at}
use Rattle.promises.proofs.Runs.{passage}
use Rattle.promises.proofs.TreeRows.{chip_rows}
use Rattle.promises.proofs.TreePass.{ByRoute, ComesBy, Fits, set_all, by_route, sent_fits}
use Rattle.promises.proofs.TreeShape.{entered, route, leads}

-- an injection into a grown tree: what was grown, the mesh that it found, all links up, the number of the injection, and the rounds before it
pub record Trip : Type 0 where
  pub asked : Asked
  pub none : refusal asked ≡ 0
  pub mesh : Mesh Tag
  pub wide : mesh.width ≡ asked.width
  pub high : mesh.height ≡ asked.height
  pub up : (c i : ℕ) → c < mesh.height * mesh.width → i < 6 → (link_of mesh c i).up ≡ true
  pub number : ℕ
  pub before : ℕ

module _ (w : Trip) where
  -- a copy of it, as it is in flight and where it arrives
  pub record Copy (x : Flight Tag) : Type 0 where
    pub own : x.tag.injection ≡ w.number
    pub begun : x.tag.before ≡ w.before
    pub fits : Fits w.asked.key w.asked.mask x.packet

  pub record One (held : List (Flight Tag)) : Type 0 where
    pub copy : Flight Tag
    pub is : held ≡ copy ∷ []
    pub good : Copy copy

  -- one copy, or nothing
  abbrev pub Holds : Bool → List (Flight Tag) → Type 0
  Holds true held = One held
  Holds false held = held ≡ []

  abbrev pub handed_at : ℕ → ℕ → ℕ
  handed_at c k = cond (has (route w.asked w.none c / 64) k) 1 0

  abbrev pub Faultless : Passage → Type 0
  Faultless p = (p.outcome.errors ≡ 0) × ((p.outcome.dropped ≡ 0) × (p.outcome.leg_dropped ≡ 0))

  -- what a pass at a chip makes of a mesh, and what it shows
  pub record Passes (chip : ℕ) (m next : Mesh Tag) (p : Passage) : Type 0 where
    pub here : (i : ℕ) → i < 6 → Holds (leads w.asked w.none chip i) (link_of next chip i).held
    pub elsewhere : (c i : ℕ) → (c ≡ chip → ⊥) → (link_of next c i).held ≡ (link_of m c i).held
    pub hands : (k : ℕ) → handed w.number chip k p ≡ handed_at chip k
    pub none_else : (c k : ℕ) → (c ≡ chip → ⊥) → handed w.number c k p ≡ 0
    pub faultless : Faultless p

  module _ (t : Tables) (only : Only w.asked t) (r : ℕ) (g : Going Tag) (a : Arrival Tag) (sound : SoundMesh g.mesh) (codes : CodesFor t g.mesh) (h : Arrives (g.mesh.height * g.mesh.width) a)
      (there : a.chip < w.asked.height * w.asked.width) (comes : ComesBy (entered w.asked w.none a.chip) a.source) (copy : Copy a.flight)
      (errors : errors_of a.flight.packet a.source g.mesh.phase ≡ 0)
      (up : (i : ℕ) → i < 6 → (link_of g.mesh a.chip i).up ≡ true) (free : (i : ℕ) → i < 6 → (link_of g.mesh a.chip i).held ≡ []) where
    abbrev m : Mesh Tag
    m = g.mesh

    abbrev o : Outcome
    o = outcome_at t m a.chip a.source a.flight.packet

    abbrev way : ℕ
    way = route w.asked w.none a.chip

    abbrev p : Passage
    p = passage t r m a

    ready : ready_of m a.chip ≡ 63
    ready = set_all (λ i. is_ready (link_of m a.chip i)) (λ i near j. up i near j && leb (length (free i near j)) 6)

    by : ByRoute o way
    by =
        by_route w.asked.key w.asked.mask (entered w.asked w.none a.chip) way a.flight.packet a.source (tables_at t (m.height * m.width) a.chip) (setting_at m a.chip) (checked t m a sound codes h) h.from copy.fits
        comes (chip_rows w.asked w.none t only a.chip there) ready errors

    sent_copy : (i : ℕ) → Copy (record { packet = packet_on o i; tag = turned a.flight.tag })
    sent_copy i =
        record {
          own = copy.own;
          begun = copy.begun;
          fits = sent_fits w.asked.key w.asked.mask (entered w.asked w.none a.chip) way a.flight.packet a.source (tables_at t (m.height * m.width) a.chip) (setting_at m a.chip) (checked t m a sound codes h) h.from copy.fits
              comes (chip_rows w.asked w.none t only a.chip there) ready errors i;
        }

    -- what a link of the chip holds then
    held_here : (i : ℕ) → i < 6 → (link_of (pass_at t turned g a).mesh a.chip i).held ≡ sent (leads w.asked w.none a.chip i) (packet_on o i) (turned a.flight.tag) ++ []
    held_here i near =
        let link : link_of (pass_at t turned g a).mesh a.chip i ≡ link_after o (turned a.flight.tag) i (link_of m a.chip i) =
        ap (λ (x : Chip Tag). get_or x.links i idle) (get_or-set_same m.chips a.chip _ fresh (omega (arith, sound.many, h.there)))
        ∙ link_at o (turned a.flight.tag) i (chip_of m a.chip).links (omega (arith, (chip_sound sound a.chip h.there).six)) in
        ap (λ (l : Link Tag). l.held) link
        ∙ (λ j. free i near j ++ sent (by.sent i near j) (packet_on o i) (turned a.flight.tag) ++ sent (has (by.leg_sent j) i) (leg_packet o) (turned a.flight.tag))
        ∙ (λ j. [] ++ sent (leads w.asked w.none a.chip i) (packet_on o i) (turned a.flight.tag) ++ sent (has_none i j) (leg_packet o) (turned a.flight.tag))

    holds : (b : Bool) (x : Flight Tag) → Copy x → Holds b (sent b x.packet x.tag ++ [])
    holds true x good = record { copy = x; is = refl; good = good }
    holds false x good = refl

    pub passes_by_tree : Passes a.chip m (pass_at t turned g a).mesh p
    passes_by_tree =
        record {
          here = λ i near. subst (Holds (leads w.asked w.none a.chip i)) (sym (held_here i near)) (holds (leads w.asked w.none a.chip i) (record { packet = packet_on o i; tag = turned a.flight.tag }) (sent_copy i));
          elsewhere = λ c i other. ap (λ (x : Chip Tag). (get_or x.links i idle).held) (get_or-set_other m.chips a.chip c _ fresh other);
          hands = λ k j. cond (eq-eqb _ _ copy.own j && eq-eqb a.chip a.chip refl j && has (processors_of (by.wanted j)) k) 1 0;
          none_else = λ c k other.
              (λ j. cond (eq-eqb _ _ copy.own j && ne_eqb a.chip c (λ e. other (sym e)) j && has (processors_of o.wanted) k) 1 0);
          faultless = (by.errors, (by.dropped, by.leg_dropped));
        }
