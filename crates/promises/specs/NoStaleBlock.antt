-- A block never outlives its cause. A pass is told which links are ready, and nothing else about them: it keeps no mark of a link that was
-- blocked before. So a link that is ready now is used now.
use Rattle.std.specs.Prelude.{ℕ, ◌+◌, ◌*◌, ◌≤◌, ◌<◌, ◌≡◌, refl, length, get_or, set}
use Rattle.std.proofs.Common.{ap, ◌∙◌, arith, lit<, get_or-set_same, le-leb}
use mathlib.Core.Bool.{Bool, true, false, cond}
use Rattle.packet.specs.declared.Packet.{Packet}
use Rattle.steps.specs.declared.Outcome.{Outcome}
use Rattle.steps.specs.declared.Setting.{Setting}
use Rattle.steps.specs.Links.{has, links_of, link}
use Rattle.steps.specs.Errors.{flag}
use Rattle.steps.specs.Deciding.{outcome_of}
use Rattle.links.specs.Link.{idle, is_ready, ready_links}
use Rattle.mesh.specs.Mesh.{Chip, Mesh, fresh, ready_of, many, chip_of, link_of}
use Rattle.mesh.specs.Lending.{Tables, tables_at}
use Rattle.mesh.specs.Steps.{outcome_at}
use Rattle.mesh.specs.Calls.{with_up, with_link}
use Rattle.mesh.specs.Sound.{SoundMesh}
use Rattle.mesh.proofs.SoundChanges.{chip_sound}
use Rattle.steps.proofs.Sets.{has_set}
use Rattle.steps.proofs.Ways.{OneWay, pass_way}
use Rattle.tables.specs.Tables.{ChipTables}

-- of three ways that count to one, the first being taken, the others are not
only_first : (a b c : Bool) → a ≡ true → flag a 1 + flag b 1 + flag c 1 ≡ 1 → (b ≡ false) × (c ≡ false)
only_first true false false e h = (refl, refl)
only_first true true c e h = absurd (omega arith)
only_first true false true e h = absurd (omega arith)
only_first false b c e h = absurd (mathlib.Core.Bool.false≢true e)

-- A wanted link that is ready is sent to; it is not gone round by a detour, and nothing is dropped for it.
pub record Used (o : Outcome) (i : ℕ) : Type 0 where
  pub sent : has o.sent i ≡ true
  pub no_detour : has o.carried (link (i + 5)) ≡ false
  pub not_dropped : has o.dropped i ≡ false

pub ready_link_is_used : (p : Packet) (source : ℕ) (tables : ChipTables) (t : Setting) (i : ℕ) → t.ready < 64 → i < 6
    → has (links_of (outcome_of p source tables t).wanted) i ≡ true → has t.ready i ≡ true → Used (outcome_of p source tables t) i
ready_link_is_used p source tables t i hr hi wanted ready =
    let o : Outcome = outcome_of p source tables t in
    let w : OneWay o.sent o.carried o.dropped t.ready i = pass_way p source tables t i hr hi wanted in
    let straight : has o.sent i ≡ true = w.straight ready in
    let rest = only_first (has o.sent i) (has o.carried (link (i + 5))) (has o.dropped i) straight w.one in
    record { sent = straight; no_detour = rest.0; not_dropped = rest.1 }

-- Two meshes, whatever has come to pass in either, of one size, monitor and phase, with the same links of a chip ready now.
pub record Alike {A B : Type 0} (m : Mesh A) (n : Mesh B) (chip : ℕ) : Type 0 where
  pub width : m.width ≡ n.width
  pub height : m.height ≡ n.height
  pub monitor : m.monitor ≡ n.monitor
  pub phase : m.phase ≡ n.phase
  pub ready : (i : ℕ) → i < 6 → is_ready (link_of m chip i) ≡ is_ready (link_of n chip i)

-- The past does not count: a packet passes there alike. Which links were blocked before, what else is in flight, what registers and counters hold, and the
-- other chips make no difference.
pub past_does_not_count : {A B : Type 0} (t : Tables) (m : Mesh A) (n : Mesh B) (chip source : ℕ) (p : Packet) → Alike m n chip
    → outcome_at t m chip source p ≡ outcome_at t n chip source p
past_does_not_count t m n chip source p a =
    λ i. outcome_of p source (tables_at t (a.height i * a.width i) chip) (record {
      width = a.width i;
      height = a.height i;
      monitor = a.monitor i;
      phase = a.phase i;
      ready = cond (a.ready 0 (lit< tt) i) 1 0 + cond (a.ready 1 (lit< tt) i) 2 0 + cond (a.ready 2 (lit< tt) i) 4 0 + cond (a.ready 3 (lit< tt) i) 8 0
          + cond (a.ready 4 (lit< tt) i) 16 0
          + cond (a.ready 5 (lit< tt) i) 32 0;
    })

-- A link that is taken up and holds at most 6 packets is ready at the very next pass, whatever happened before.
pub up_is_ready : {A : Type 0} (m : Mesh A) → SoundMesh m → (chip link : ℕ) → chip < many m → link < 6 → length (link_of m chip link).held ≤ 6
    → has (ready_of (with_link m chip link true) chip) link ≡ true
up_is_ready m sound chip link hc hl few =
    let c = chip_sound sound chip hc in
    let now : Chip _ =
    record { registers = (chip_of m chip).registers; counters = (chip_of m chip).counters; links = set (chip_of m chip).links link (with_up true (link_of m chip link)) } in
    let here : chip_of (with_link m chip link true) chip ≡ now = get_or-set_same m.chips chip now fresh (omega (arith, sound.many)) in
    ap (λ (x : Chip _). has (ready_links x.links) link) here
    ∙ has_set (λ i. is_ready (get_or now.links i idle)) link hl
    ∙ ap is_ready (get_or-set_same (chip_of m chip).links link (with_up true (link_of m chip link)) idle (omega (arith, c.six)))
    ∙ le-leb _ _ few
