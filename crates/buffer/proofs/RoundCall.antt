-- A round that is accepted: what is due, and what the three steps of the code leave together.
use Rattle.std.proofs.Common.{◌≡◌, ℕ, ◌*◌, ◌<◌, ◌≤◌, Bool, true, cond, List, length, get_or, take, drop, sym, ap, ◌∙◌, subst, arith, lit<, eq-eqb, ne_eqb, leb-true}
use mathlib.Core.Bool.{and-eq-true_iff}
use mathlib.Core.List.{foldl}
use Rattle.packet.specs.Refusal.{first_of}
use Rattle.tables.proofs.Sizes as sizes
use Rattle.mesh.specs.Mesh.{Chip, Mesh, fresh}
use Rattle.buffer.specs.Layout.{mesh_of, words_for, chips_of, words_of}
use Rattle.mesh.specs.Lending.{Tables}
use Rattle.mesh.specs.Steps.{Going, set_aside, arrivals, pass_at, round_over, rounded, same, set_out}
use Rattle.buffer.specs.Holding.{holds_mesh, StatesFine}
use Rattle.buffer.specs.ChipWords.{link_words}
use Rattle.buffer.specs.OnePass.{chip_words}
use Rattle.lists.specs.Lists.{All, up_to}
use Rattle.mesh.specs.Sound.{Arrives, SoundLink, SoundChip, SoundMesh}
use Rattle.mesh.specs.Weights.{weight_on, on_chip, in_flight}
use Rattle.buffer.specs.Aside.{AsideUpto}
use Rattle.buffer.specs.PassesInTurn.{aside_from, going_in, DueAside, Passed}
use Rattle.mesh.specs.Refusals.{Lent, round_refusals, place_in}
use Rattle.mesh.specs.declared.Added.{Added}
use Rattle.buffer.specs.Leaving.{Moves, round_left, round_room, over_words}
use Rattle.groups.specs.Room.{longest}
use Rattle.groups.proofs.Longest.{room_enough}
use Rattle.mesh.specs.Room.{keys_of, room_upto, room_after_round}
use Rattle.buffer.specs.Grouping.{RoomFits}
use Rattle.lists.proofs.Alls.{all_get_d, all_weaken}
use Rattle.lists.proofs.Totals.{total_ones, total_most}
use Rattle.buffer.proofs.HoldsMesh.{holds_head, held_few, words_enough}
use Rattle.mesh.proofs.Torus.{arrivals_count}
use Rattle.mesh.proofs.SoundArrivals.{sound_arrivals}
use Rattle.mesh.proofs.SoundSteps.{sound_rounded}
use Rattle.buffer.proofs.SoundWords.{holds_sound, holds_states, still_holds}
use Rattle.buffer.proofs.Headers.{Head, head_range, head_same, head_fine_same, SameHeader}
use Rattle.buffer.proofs.RoundWords.{mesh_aside, at_aside, aside_arrivals, few_aside, mesh_over, length_over, over_behind}
use Rattle.buffer.proofs.Leaving.{refused_leaves, accepted_leaves, accepted_log}
use Rattle.mesh.proofs.Accepts.{RoundGoes, round_goes}
use Rattle.links.specs.Offsets.{width_at, height_at, elapsed_at, header_long, state_at, chip_long, chip_place}

-- ---- a mesh that a buffer holds

module _ (l : List ℕ) (holds : holds_mesh l ≡ true) where
  pub held_sound : SoundMesh (mesh_of l)
  held_sound = holds_sound l holds

  pub held_head : Head l
  held_head = head_range l (holds_head l holds)

  -- as many packets arrive as are in flight
  pub held_count : length (arrivals (mesh_of l)) ≡ in_flight (mesh_of l)
  unfolding mesh_of
  held_count =
      arrivals_count (mesh_of l) held_head.wide held_head.tall held_sound.many
      (λ k h. (all_get_d SoundChip (mesh_of l).chips k fresh held_sound.chips (subst (λ (n : ℕ). k < n) (sym held_sound.many) h)).six)

  -- at most eight a link
  pub held_most : in_flight (mesh_of l) ≤ 6912
  held_most =
      let chip : (c : Chip (Unit {0})) → SoundChip c → on_chip (λ f. 1) c ≤ 48 =
      λ c s. subst (λ (n : ℕ). on_chip (λ f. 1) c ≤ n * 8) s.six
      (total_most (weight_on (λ f. 1)) 8 c.links (all_weaken SoundLink (λ x. weight_on (λ f. 1) x ≤ 8) (λ x h. subst (λ (n : ℕ). n ≤ 8) (sym (total_ones x.held)) h.few) c.links s.links)) in
      let all = total_most (on_chip (λ f. 1)) 48 (mesh_of l).chips (all_weaken SoundChip (λ c. on_chip (λ f. 1) c ≤ 48) chip (mesh_of l).chips held_sound.chips) in
      let few : length (mesh_of l).chips ≤ 144 = subst (λ (n : ℕ). n ≤ 144) (sym held_sound.many) (sizes.chips_small (mesh_of l).width (mesh_of l).height held_sound.size) in
      omega (arith, all, few)

  pub held_elapsed : get_or l elapsed_at 0 ≤ 65535
  unfolding mesh_of
  held_elapsed =
      let rounds : (mesh_of l).rounds ≤ 65535 = omega (arith, leb-true, simp and-eq-true_iff at held_sound.rounds) in
      omega (arith, held_sound.elapsed, rounds)

module _ (t : Tables) (l log : List ℕ) where
  pub round_holds : first_of (round_refusals (holds_mesh l) (chips_of l) (in_flight (mesh_of l)) t (length log)) ≡ 0 → holds_mesh l ≡ true
  round_holds none = (round_goes (holds_mesh l) (chips_of l) (in_flight (mesh_of l)) t (length log) none).holds

  pub round_refused : (r : ℕ) → r ≡ first_of (round_refusals (holds_mesh l) (chips_of l) (in_flight (mesh_of l)) t (length log)) → (r ≡ 0 → ⊥)
      → (p : ℕ) → p ≡ place_in t (chips_of l) r → Moves l log (round_left l t (length log)) (record { refusal = r; added = 0; place = p }) l log
  unfolding mesh_of
  round_refused r e some p told =
      let n = first_of (round_refusals (holds_mesh l) (chips_of l) (in_flight (mesh_of l)) t (length log)) in
      subst (λ (a : Added). Moves l log (round_left l t (length log)) a l log) (λ i. record { refusal = sym e i; added = 0; place = sym (told ∙ ap (place_in t (chips_of l)) e) i })
      (refused_leaves n (place_in t (chips_of l) n) (mesh_of l) (rounded t same (mesh_of l)) (λ z. some (e ∙ z)) l log)

  pub round_room_refused : (r : ℕ) → r ≡ first_of (round_refusals (holds_mesh l) (chips_of l) (in_flight (mesh_of l)) t (length log)) → (r ≡ 0 → ⊥) → (room : List ℕ) → room ≡ round_room l t (length log) room
  round_room_refused r e some room = ap (λ (b : Bool). cond b (room_after_round t (mesh_of l) room) room) (sym (ne_eqb _ 0 (λ z. some (e ∙ z))))

module _ (t : Tables) (l log : List ℕ) (none : first_of (round_refusals (holds_mesh l) (chips_of l) (in_flight (mesh_of l)) t (length log)) ≡ 0) (l₁ : List ℕ) (u : AsideUpto (chips_of l) (chips_of l) l l₁) where
  go : RoundGoes (holds_mesh l) (chips_of l) (in_flight (mesh_of l)) t (length log)
  go = round_goes (holds_mesh l) (chips_of l) (in_flight (mesh_of l)) t (length log) none

  number : SameHeader l l₁
  number = head_same l l₁ u.head

  chips_same : chips_of l₁ ≡ chips_of l
  chips_same = λ i. number height_at (lit< tt) i * number width_at (lit< tt) i

  all_aside : up_to (aside_from l₁) (chips_of l) ≡ arrivals (mesh_of l)
  all_aside = aside_arrivals l l₁ u (held_head l go.holds)

  -- ---- what is due once all is set aside

  pub round_due : DueAside (up_to (aside_from l₁) (chips_of l)) l₁ log 0
  unfolding mesh_of
  round_due =
      record {
        due = record {
          head = head_fine_same l l₁ u.head ∙ holds_head l go.holds;
          long = subst (λ (k : ℕ). words_of l₁ ≤ k) (sym u.long) (subst (λ (k : ℕ). k ≤ length l) (λ i. words_for (sym (number width_at (lit< tt)) i) (sym (number height_at (lit< tt)) i)) (words_enough l go.holds));
          room = omega (arith, go.room, ap length all_aside ∙ held_count l go.holds);
          each = subst (λ (k : ℕ). All (Arrives k) (up_to (aside_from l₁) (chips_of l))) (sym chips_same)
              (subst (All (Arrives (chips_of l))) (sym all_aside) (sound_arrivals (held_sound l go.holds)));
        };
        few = few_aside l l₁ u (held_head l go.holds) (held_few l go.holds);
      }

  pub round_lent : Lent t (chips_of l₁)
  round_lent = subst (Lent t) (sym chips_same) go.lent

  -- ---- the room for groups: enough for each table, and left as the definition says

  pub round_fits : RoomFits t.room (longest t.starts (chips_of l))
  round_fits = room_enough t.room (longest t.starts (chips_of l)) go.enough

  pub round_room_lem : (room room' : List ℕ) → room' ≡ room_upto t (λ chip. keys_of (aside_from l₁ chip)) (chips_of l) room → room' ≡ round_room l t (length log) room
  unfolding mesh_of
  round_room_lem room room' e =
      e ∙ (λ i. room_upto t (λ chip. keys_of (at_aside l l₁ u (held_head l go.holds) chip i)) (chips_of l) room)
      ∙ ap (λ (b : Bool). cond b (room_after_round t (mesh_of l) room) room) (sym (eq-eqb _ 0 none))

  -- ---- what is left

  module _ (l₂ log₂ : List ℕ) (n : ℕ) (p : Passed (pass_at t same) (up_to (aside_from l₁) (chips_of l)) l₁ log 0 l₂ log₂ n) where
    going : going_in l₂ log₂ n ≡ foldl (pass_at t same) (set_out (set_aside (mesh_of l))) (arrivals (mesh_of l))
    going = p.going ∙ (λ i. foldl (pass_at t same) (set_out (mesh_aside l l₁ u i)) (all_aside i))

    long_enough : header_long ≤ length l₂
    long_enough = omega (arith, p.long, u.long, words_enough l go.holds)

    pub over_requires : (header_long ≤ length l₂) × (get_or l₂ elapsed_at 0 ≤ 65535)
    over_requires =
        let e : get_or l₂ elapsed_at 0 ≡ get_or l elapsed_at 0 = head_same l₁ l₂ p.head elapsed_at (lit< tt) ∙ number elapsed_at (lit< tt) in
        (long_enough, subst (λ (k : ℕ). k ≤ 65535) (sym e) (held_elapsed l go.holds))

    mesh_left : mesh_of (over_words l₂) ≡ (rounded t same (mesh_of l)).mesh
    mesh_left = mesh_over l₂ long_enough ∙ ap (λ (g : Going (Unit {0})). round_over g.mesh) going

    arrived : length (up_to (aside_from l₁) (chips_of l)) ≡ in_flight (mesh_of l)
    arrived = ap length all_aside ∙ held_count l go.holds

    pub count_small : n ≤ 6912
    count_small = omega (arith, p.few, arrived, held_most l go.holds)

    -- the links' states are as they were
    states_left : StatesFine (over_words l₂)
    unfolding mesh_of
    states_left c j hc hj =
        let over : chip_words c (over_words l₂) ≡ chip_words c l₂ = ap (take chip_long) (over_behind l₂ (chip_place c) (omega arith)) in
        let same_size : chips_of (over_words l₂) ≡ chips_of l =
        ap (λ (m : Mesh (Unit {0})). m.height * m.width) (mesh_over l₂ long_enough) ∙ (λ i. head_same l₁ l₂ p.head height_at (lit< tt) i * head_same l₁ l₂ p.head width_at (lit< tt) i) ∙ chips_same in
        let there : c < chips_of l = subst (λ (k : ℕ). c < k) same_size hc in
        let e : get_or (link_words j (chip_words c (over_words l₂))) state_at 0 ≡ get_or (link_words j (chip_words c l)) state_at 0 =
        ap (λ (w : List ℕ). get_or (link_words j w) state_at 0) over ∙ ap (λ (w : List ℕ). get_or w state_at 0) (p.still c j hj) ∙ (u.done c there).states j hj in
        subst (λ (k : ℕ). k ≤ 1) (sym e) (holds_states l go.holds c j there hj)

    long_left : length (over_words l₂) ≡ length l
    long_left = length_over l₂ ∙ p.long ∙ u.long

    words_left : words_of (over_words l₂) ≡ words_of l
    unfolding mesh_of
    words_left =
        ap (λ (m : Mesh (Unit {0})). words_for m.width m.height) (mesh_over l₂ long_enough)
        ∙ (λ i. words_for (head_same l₁ l₂ p.head width_at (lit< tt) i) (head_same l₁ l₂ p.head height_at (lit< tt) i))
        ∙ (λ i. words_for (number width_at (lit< tt) i) (number height_at (lit< tt) i))

    holds_left : holds_mesh (over_words l₂) ≡ true
    unfolding mesh_of
    holds_left =
        still_holds l (over_words l₂) go.holds long_left words_left (subst SoundMesh (sym mesh_left) (sound_rounded t same (held_sound l go.holds) go.lent.codes)) states_left

    past_left : drop (words_of l) (over_words l₂) ≡ drop (words_of l) l
    past_left =
        over_behind l₂ (words_of l) (omega arith)
        ∙ subst (λ (k : ℕ). drop k l₂ ≡ drop k l₁) (λ i. words_for (number width_at (lit< tt) i) (number height_at (lit< tt) i)) p.past
        ∙ u.past

    pub round_leaves : Moves l log (round_left l t (length log)) (record { refusal = 0; added = n; place = 0 }) (over_words l₂) log₂
    unfolding mesh_of
    round_leaves =
        let r = first_of (round_refusals (holds_mesh l) (chips_of l) (in_flight (mesh_of l)) t (length log)) in
        let g = rounded t same (mesh_of l) in
        let told = accepted_log r (place_in t (chips_of l) r) (mesh_of l) g none log log₂ n (ap (λ (x : Going (Unit {0})). x.log) going) p.behind p.room (omega (arith, p.few, arrived, go.room)) in
        record { answered = told.0; buffer = accepted_leaves r (place_in t (chips_of l) r) (mesh_of l) g none l (over_words l₂) mesh_left holds_left long_left past_left; logged = told.1 }
