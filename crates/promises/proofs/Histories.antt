-- What holds of every history: it holds of a mesh just opened, and of the state after a call that is accepted where it held before. A call that
-- is refused changes nothing, and the mesh of every history is sound.
use mathlib.Core.Path.{◌≡◌, refl, sym, subst}
use mathlib.Core.Bool.{Bool, true, false, cond}
use mathlib.Core.List.{List, [], ◌∷◌, foldl}
use Prim.Native.Nat.{ℕ, ◌*◌, ◌<◌}
use lib.Dec.{eqb}
use borrow.Author.Tests.{eqb-true}
use Rattle.packet.specs.Bytes.{packet_at}
use Rattle.packet.specs.Refusal.{first_of}
use Rattle.lists.specs.Lists.{All}
use Rattle.links.specs.Link.{Flight}
use Rattle.mesh.specs.Mesh.{Mesh, many}
use Rattle.mesh.specs.Lending.{Tables}
use Rattle.mesh.specs.Steps.{Going, set_out, injected, rounded}
use Rattle.mesh.specs.Refusals.{place_in, inject_refusals, round_refusals, chip_refusals, link_refusals}
use Rattle.mesh.specs.Calls.{Left, unless, with_link, with_empty}
use Rattle.mesh.specs.Weights.{in_flight}
use Rattle.mesh.specs.Sound.{SoundMesh}
use Rattle.mesh.proofs.SoundChanges.{sound_linked, sound_emptied}
use Rattle.mesh.proofs.SoundSteps.{CodesFor, sound_opened, sound_injected, sound_rounded}
use Rattle.mesh.specs.Asked.{Call, inject, round, set_link, read_registers, change, look, left_by}
use Rattle.promises.specs.History.{Tag, State, Opens, turned, tag_now, accepted, after, begun, history}
use Rattle.promises.specs.Sequence.{made_in}
use Rattle.promises.specs.Demand3.{Always}
use Rattle.promises.proofs.Sequences.{sequence_is_calls}
use Rattle.promises.proofs.Accepts as accepts

-- What a call answers in a state.
abbrev pub answered : State → Call → Left Tag
answered s c = left_by turned (tag_now s c) s.mesh c

module _ (P : ℕ → State → Type 0) where
  after_keeps : (f : ℕ) (s : State) (c : Call) → P f s → ((answered s c).refusal ≡ 0 → P f (accepted s (answered s c) c)) → P f (after s c)
  unfolding after
  after_keeps f s c p step = go (eqb (answered s c).refusal 0) refl
    where
      go : (b : Bool) → eqb (answered s c).refusal 0 ≡ b → P f (cond b (accepted s (answered s c) c) s)
      go true e = step (eqb-true _ _ e)
      go false e = p

  pub always : ((w h f monitor : ℕ) → Opens w h f monitor → P f (begun w h f monitor))
      → ((f : ℕ) (s : State) (c : Call) → (answered s c).refusal ≡ 0 → P f s → P f (accepted s (answered s c) c))
      → Always P
  unfolding history
  always opens step w h f monitor o xs =
      let start = begun w h f monitor in
      subst (P f) (sym (sequence_is_calls w h f monitor xs)) (go (made_in start xs) start (opens w h f monitor o))
    where
      go : (cs : List Call) (s : State) → P f s → P f (foldl after s cs)
      go [] s p = p
      go (c ∷ cs) s p = go cs (after s c) (after_keeps f s c p (λ e. step f s c e p))

-- ---- every mesh is sound

module _ {A : Type 0} {m : Mesh A} (sound : SoundMesh m) where
  -- a call that is accepted leaves what it makes
  left : (n p : ℕ) (g : Going A) → (unless n p m g).refusal ≡ 0 → (n ≡ 0 → SoundMesh g.mesh) → SoundMesh (unless n p m g).mesh
  left n p g e h = subst (λ (r : Left A). SoundMesh r.mesh) (sym (accepts.unless_leaves n p m g e)) (h (accepts.unless_accepts n p m g e))

  pub sound_left : (turn : A → A) (tag : A) (c : Call) → (left_by turn tag m c).refusal ≡ 0 → SoundMesh (left_by turn tag m c).mesh
  sound_left turn tag (change (inject chip bytes t room)) e =
      let f : Flight A = record { packet = packet_at bytes; tag = tag } in
      let n = first_of (inject_refusals true (many m) chip t room bytes) in
      left n (place_in t (many m) n) (injected t turn m chip f) e
      (λ z. let h = accepts.inject_accepts m chip bytes t room z in sound_injected t turn m chip f sound h.there h.passable h.codes)
  sound_left turn tag (change (round t room)) e =
      let n = first_of (round_refusals true (many m) (in_flight m) t room) in
      left n (place_in t (many m) n) (rounded t turn m) e
      (λ z. sound_rounded t turn sound (accepts.round_accepts m (in_flight m) t room z))
  sound_left turn tag (change (set_link chip link up)) e =
      left (first_of (link_refusals true (many m) chip link)) 0 (set_out (with_link m chip link up)) e
      (λ z. let h = accepts.link_accepts m chip link z in sound_linked sound chip link up h.0 h.1)
  sound_left turn tag (change (read_registers chip)) e =
      left (first_of (chip_refusals true (many m) chip)) 0 (set_out (with_empty m chip)) e (λ z. sound_emptied sound chip (accepts.chip_accepts m chip z))
  sound_left turn tag (look l) e = sound

pub sound_always : Always (λ f s. SoundMesh s.mesh)
sound_always =
    always (λ f s. SoundMesh s.mesh) (λ w h f monitor o. sound_opened w h f monitor o.size o.phases o.monitored)
    (λ f s c e sound. sound_left sound turned (tag_now s c) c e)

module _ (P : ℕ → State → Type 0) where
  pub always_sound : ((w h f monitor : ℕ) → Opens w h f monitor → P f (begun w h f monitor))
      → ((f : ℕ) (s : State) (c : Call) → SoundMesh s.mesh → (answered s c).refusal ≡ 0 → P f s → P f (accepted s (answered s c) c))
      → Always P
  always_sound opens step w h f monitor o xs =
      (always (λ f s. SoundMesh s.mesh × P f s)
      (λ w h f monitor o. (sound_opened w h f monitor o.size o.phases o.monitored, opens w h f monitor o))
      (λ f s c e p. (sound_left p.0 turned (tag_now s c) c e, step f s c p.0 e p.1))
      w
      h
      f
      monitor
      o
      xs
      ).1

-- ---- by the kind of the call

-- What is to be shown of each kind of call that changes something, of the calls that C allows; each is accepted.
pub record Steps (C : Call → Type 0) (P : ℕ → State → Type 0) : Type 0 where
  pub injects : (f : ℕ) (s : State) (chip : ℕ) (bytes : List ℕ) (t : Tables) (room : ℕ) → C (change (inject chip bytes t room)) → SoundMesh s.mesh → accepts.Injects s.mesh chip bytes t → P f s
      → P f (accepts.after_injection s chip bytes t)
  pub rounds : (f : ℕ) (s : State) (t : Tables) (room : ℕ) → C (change (round t room)) → SoundMesh s.mesh → CodesFor t s.mesh → P f s → P f (accepts.after_round s t)
  pub links : (f : ℕ) (s : State) (chip link : ℕ) (up : Bool) → C (change (set_link chip link up)) → SoundMesh s.mesh → chip < s.mesh.height * s.mesh.width → link < 6 → P f s
      → P f (accepts.after_link s chip link up)
  pub reads : (f : ℕ) (s : State) (chip : ℕ) → C (change (read_registers chip)) → SoundMesh s.mesh → chip < s.mesh.height * s.mesh.width → P f s → P f (accepts.after_read s chip)

module _ (C : Call → Type 0) (P : ℕ → State → Type 0) (steps : Steps C P) where
  step_kept : (f : ℕ) (s : State) (c : Call) → C c → SoundMesh s.mesh → (answered s c).refusal ≡ 0 → P f s → P f (accepted s (answered s c) c)
  step_kept f s (change (inject chip bytes t room)) allowed sound e p =
      let n = first_of (inject_refusals true (many s.mesh) chip t room bytes) in
      let z : n ≡ 0 = accepts.unless_accepts n (place_in t (many s.mesh) n) s.mesh (injected t turned s.mesh chip (accepts.arrival_now s chip bytes).flight) e in
      subst (P f) (sym (accepts.inject_leaves s chip bytes t room e)) (steps.injects f s chip bytes t room allowed sound (accepts.inject_accepts s.mesh chip bytes t room z) p)
  step_kept f s (change (round t room)) allowed sound e p =
      let n = first_of (round_refusals true (many s.mesh) (in_flight s.mesh) t room) in
      let z : n ≡ 0 = accepts.unless_accepts n (place_in t (many s.mesh) n) s.mesh (rounded t turned s.mesh) e in
      subst (P f) (sym (accepts.round_leaves s t room e)) (steps.rounds f s t room allowed sound (accepts.round_accepts s.mesh (in_flight s.mesh) t room z) p)
  step_kept f s (change (set_link chip link up)) allowed sound e p =
      let n = first_of (link_refusals true (many s.mesh) chip link) in
      let z : n ≡ 0 = accepts.unless_accepts n 0 s.mesh (set_out (with_link s.mesh chip link up)) e in
      let h = accepts.link_accepts s.mesh chip link z in
      subst (P f) (sym (accepts.link_leaves s chip link up e)) (steps.links f s chip link up allowed sound h.0 h.1 p)
  step_kept f s (change (read_registers chip)) allowed sound e p =
      let n = first_of (chip_refusals true (many s.mesh) chip) in
      let z : n ≡ 0 = accepts.unless_accepts n 0 s.mesh (set_out (with_empty s.mesh chip)) e in
      subst (P f) (sym (accepts.read_leaves s chip e)) (steps.reads f s chip allowed sound (accepts.chip_accepts s.mesh chip z) p)
  step_kept f s (look l) allowed sound e p = subst (P f) (sym (accepts.look_leaves s l)) p

  -- over calls that C allows, from any state with a sound mesh
  pub calls_keep : (f : ℕ) (cs : List Call) (s : State) → All C cs → SoundMesh s.mesh → P f s → P f (foldl after s cs)
  unfolding All
  calls_keep f [] s allowed sound p = p
  calls_keep f (c ∷ cs) s allowed sound p =
      let next =
      after_keeps (λ f s. SoundMesh s.mesh × P f s) f s c (sound, p) (λ e. (sound_left sound turned (tag_now s c) c e, step_kept f s c allowed.0 sound e p)) in
      calls_keep f cs (after s c) allowed.1 next.0 next.1

-- The same of every call, and of a mesh just opened.
pub record Kept (P : ℕ → State → Type 0) : Type 0 where
  pub opens : (w h f monitor : ℕ) → Opens w h f monitor → P f (begun w h f monitor)
  pub injects : (f : ℕ) (s : State) (chip : ℕ) (bytes : List ℕ) (t : Tables) → SoundMesh s.mesh → accepts.Injects s.mesh chip bytes t → P f s
      → P f (accepts.after_injection s chip bytes t)
  pub rounds : (f : ℕ) (s : State) (t : Tables) → SoundMesh s.mesh → CodesFor t s.mesh → P f s → P f (accepts.after_round s t)
  pub links : (f : ℕ) (s : State) (chip link : ℕ) (up : Bool) → SoundMesh s.mesh → chip < s.mesh.height * s.mesh.width → link < 6 → P f s
      → P f (accepts.after_link s chip link up)
  pub reads : (f : ℕ) (s : State) (chip : ℕ) → SoundMesh s.mesh → chip < s.mesh.height * s.mesh.width → P f s → P f (accepts.after_read s chip)

pub always_kept : (P : ℕ → State → Type 0) → Kept P → Always P
always_kept P kept = always_sound P kept.opens (λ f s c. step_kept (λ c. Unit {0}) P steps f s c tt)
  where
    steps : Steps (λ c. Unit {0}) P
    steps =
        record {
          injects = λ f s chip bytes t room allowed. kept.injects f s chip bytes t;
          rounds = λ f s t room allowed. kept.rounds f s t;
          links = λ f s chip link up allowed. kept.links f s chip link up;
          reads = λ f s chip allowed. kept.reads f s chip;
        }
