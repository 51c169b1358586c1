-- Passes one after the other: one is as the mesh's definition says, and some followed by others are all of them.
use Rattle.std.proofs.Common.{◌≡◌, ℕ, zero, suc, ◌+◌, ◌-◌, ◌*◌, ◌<◌, ◌≤◌, Bool, true, false, cond, List, [], ◌∷◌, ◌++◌, length, get_or, take, drop, sym, refl, ap, ◌∙◌, subst, arith, lit<, length-append, drop-cons, drop-drop}
use mathlib.Core.List.{foldl, foldl-append}
use Rattle.steps.specs.declared.Outcome.{Outcome}
use Rattle.steps.specs.Deciding.{decided, outcome_of}
use Rattle.tables.specs.Tables.{ChipTables, chip_tables}
use Rattle.std.specs.Prelude.{Option, Some, None}
use Rattle.tables.specs.Rows.{Entry, matches, rows_of, first_match, next, matched_of, blank_entry, route_for}
use Rattle.tables.proofs.RowsByNumber.{row_at, rows_many}
use Rattle.steps.specs.declared.Setting.{Setting}
use Rattle.steps.specs.Wants.{wanted_of, wanted_given}
use Rattle.steps.specs.Errors.{errors_of, stamped_of}
use Rattle.packet.specs.declared.Packet.{Packet}
use Rattle.mesh.specs.Mesh.{Chip, fresh}
use Rattle.links.specs.Offsets.{width_at, height_at, monitor_at, phase_at, chip_long, chip_place}
use Rattle.links.specs.Link.{ready_links}
use Rattle.buffer.specs.Layout.{chip_in, mesh_of, words_for, chips_of, words_of}
use Rattle.mesh.specs.Lending.{Tables, with_room, tables_at}
use Rattle.mesh.specs.Steps.{Arrival, Going, log_of, setting_at, chip_after, with_chip, pass_at, same}
use Rattle.buffer.specs.OnePass.{chip_words, setting_in, CheckedAt, MeshStep}
use Rattle.buffer.specs.Holding.{head_fine}
use Rattle.buffer.specs.Logs.{Logged}
use Rattle.buffer.specs.PassesInTurn.{going_in, pass_by, Due, Passed}
use Rattle.mesh.specs.Refusals.{Lent}
use Rattle.lists.proofs.Alls.{all_right}
use Rattle.buffer.proofs.Headers.{Head, head_range, head_same, head_fine_same, SameHeader}
use Rattle.buffer.proofs.MeshParts.{mesh_chip}
use Rattle.lists.specs.Lists.{All}
use Rattle.mesh.specs.Sound.{Arrives}

-- no pass looks at the room's length
pub lent_room : (t : Tables) (room chips : ℕ) → Lent (with_room t room) chips → Lent t chips
lent_room t room chips l = record { starts = l.starts; codes = l.codes; fixed = l.fixed }

-- ---- one pass

module _ (a : Arrival (Unit {0})) (l log : List ℕ) (n : ℕ) (d : Due (a ∷ []) l log n) where
  pub arrives : Arrives (chips_of l) a
  unfolding All
  arrives = d.each.0

  pub head : Head l
  head = head_range l d.head

  -- what the code computes with stays small
  pub record_fits : (a.chip < 144) × (n * 6 + 6 ≤ length log)
  record_fits = (omega (arith, arrives.there, head.few), omega (arith, d.room))

  within : chip_place a.chip + chip_long ≤ length l
  within = omega (arith, arrives.there, d.long)

  pub checked_one : (codes : List ℕ) → chips_of l ≤ length codes → CheckedAt l a.chip a.source a.flight.packet codes
  checked_one codes enough =
      record {
        fits = within;
        there = arrives.there;
        from = arrives.from;
        control = arrives.passable.control;
        width = head.width;
        height = head.height;
        monitor = omega (arith, head.monitor);
        phase = head.phase;
        enough = enough;
      }

  chip_here_lem : get_or (mesh_of l).chips a.chip fresh ≡ chip_in (chip_words a.chip l)
  chip_here_lem = mesh_chip l a.chip arrives.there

  -- the chip's setting is the one of the mesh's definition
  setting_here : setting_in l a.chip ≡ setting_at (mesh_of l) a.chip
  unfolding mesh_of
  setting_here =
      ap (λ (c : Chip (Unit {0})). record {
        width = get_or l width_at 0;
        height = get_or l height_at 0;
        monitor = get_or l monitor_at 0;
        phase = get_or l phase_at 0;
        ready = ready_links c.links;
      }) (sym chip_here_lem)

  pub passed_one : (own : ChipTables) (l' log' : List ℕ) (n' : ℕ) (o : Outcome) → o ≡ outcome_of a.flight.packet a.source own (setting_in l a.chip)
      → MeshStep l l' a.chip o → Logged (log_of a.chip o) log n log' n' → Passed (pass_by own) (a ∷ []) l log n l' log' n'
  passed_one own l' log' n' o e s g =
      record {
        long = s.long;
        head = s.head;
        going =
            (λ i. record { mesh = (s.mesh ∙ ap (λ (c : Chip (Unit {0})). with_chip (mesh_of l) a.chip (chip_after o tt c)) (sym chip_here_lem)) i; log = g.front i })
            ∙ ap (λ (x : Outcome). record { mesh = with_chip (mesh_of l) a.chip (chip_after x tt (get_or (mesh_of l).chips a.chip fresh)); log = take (n * 6) log ++ log_of a.chip x })
            (e ∙ ap (outcome_of a.flight.packet a.source own) setting_here);
        still = s.still;
        past = s.past;
        room = g.long;
        behind = g.behind;
        more = g.more;
        few = g.few;
      }

three_words : (s : List ℕ) (k : ℕ) → k + 2 < length s → drop k s ≡ get_or s k 0 ∷ get_or s (k + 1) 0 ∷ get_or s (k + 2) 0 ∷ drop (k + 3) s
three_words s k h =
    let one : suc k ≡ k + 1 = omega arith in
    let two : suc (k + 1) ≡ k + 2 = omega arith in
    let three : suc (k + 2) ≡ k + 3 = omega arith in
    drop-cons s k 0 (omega arith)
    ∙ ap (λ (l : List ℕ). get_or s k 0 ∷ l)
    (ap (λ (j : ℕ). drop j s) one ∙ drop-cons s (k + 1) 0 (omega arith)
    ∙ ap (λ (l : List ℕ). get_or s (k + 1) 0 ∷ l) (ap (λ (j : ℕ). drop j s) two ∙ drop-cons s (k + 2) 0 h ∙ ap (λ (j : ℕ). get_or s (k + 2) 0 ∷ drop j s) three))

-- ---- passes at one chip by its own tables are passes by all that are lent

at_one_chip : (t : Tables) (own : ChipTables) (chip : ℕ) (xs : List (Arrival (Unit {0}))) (g : Going (Unit {0})) → All (λ a. a.chip ≡ chip) xs
    → own ≡ tables_at t (g.mesh.height * g.mesh.width) chip → foldl (pass_by own) g xs ≡ foldl (pass_at t same) g xs
unfolding All
at_one_chip t own chip [] g all e = refl
at_one_chip t own chip (a ∷ xs) g all e =
    let here : own ≡ tables_at t (g.mesh.height * g.mesh.width) a.chip = e ∙ ap (tables_at t (g.mesh.height * g.mesh.width)) (sym all.0) in
    at_one_chip t own chip xs (pass_by own g a) all.1 e
    ∙ ap (λ (c : ChipTables). foldl (pass_at t same) (pass_by c g a) xs) here

module _ (step step' : Going (Unit {0}) → Arrival (Unit {0}) → Going (Unit {0})) (xs : List (Arrival (Unit {0}))) (l log : List ℕ) (n : ℕ) (l' log' : List ℕ) (n' : ℕ) where
  pub passed_alike : foldl step (going_in l log n) xs ≡ foldl step' (going_in l log n) xs → Passed step xs l log n l' log' n' → Passed step' xs l log n l' log' n'
  passed_alike e p =
      record {
        long = p.long;
        head = p.head;
        going = p.going ∙ e;
        still = p.still;
        past = p.past;
        room = p.room;
        behind = p.behind;
        more = p.more;
        few = p.few;
      }

pub passed_chip : (t : Tables) (own : ChipTables) (chip : ℕ) (xs : List (Arrival (Unit {0}))) (l log : List ℕ) (n : ℕ) (l' log' : List ℕ) (n' : ℕ) → All (λ a. a.chip ≡ chip) xs
    → own ≡ tables_at t (chips_of l) chip → Passed (pass_by own) xs l log n l' log' n' → Passed (pass_at t same) xs l log n l' log' n'
unfolding mesh_of
passed_chip t own chip xs l log n l' log' n' all e = passed_alike (pass_by own) (pass_at t same) xs l log n l' log' n' (at_one_chip t own chip xs (going_in l log n) all e)

-- a row that is found by its number is all that a search needs
abbrev Found : ℕ → List Entry → ℕ → Type 0
Found key rows r = (r < length rows) × (matches key (get_or rows r blank_entry).key (get_or rows r blank_entry).mask ≡ true)

found_first : (key : ℕ) (rows : List Entry) (r : ℕ) → first_match key rows ≡ Some r → Found key rows r
unfolding first_match
found_first key [] r e = let z : ◌≡◌ {A = ℕ} 0 1 = cc in absurd (omega arith)
found_first key (row ∷ rows) r e = go (matches key row.key row.mask) refl r (λ m h. found_first key rows m h) e
  where
    on : (f : Option ℕ) (r : ℕ) → ((m : ℕ) → first_match key rows ≡ Some m → Found key rows m) → first_match key rows ≡ f → next f ≡ Some r → Found key (row ∷ rows) r
    on (Some m) zero ih g z = let o : ◌≡◌ {A = ℕ} 0 1 = cc in absurd (omega arith)
    on (Some m) (suc r) ih g z = let o : m ≡ r = cc in let h = ih r (g ∙ ap Some o) in (omega (arith, h.0), h.1)
    on None r ih g z = let o : ◌≡◌ {A = ℕ} 0 1 = cc in absurd (omega arith)

    go : (b : Bool) → matches key row.key row.mask ≡ b → (r : ℕ) → ((m : ℕ) → first_match key rows ≡ Some m → Found key rows m) → cond b (Some 0) (next (first_match key rows)) ≡ Some r
        → Found key (row ∷ rows) r
    go true m zero ih z = (omega arith, m)
    go true m (suc r) ih z = let o : ◌≡◌ {A = ℕ} 0 1 = cc in absurd (omega arith)
    go false m r ih z = on (first_match key rows) r ih refl z

module _ (s : List ℕ) (key : ℕ) where
  pub found_within : (r : ℕ) → first_match key (rows_of s) ≡ Some r → r * 3 + 3 ≤ length s
  found_within r e = omega (arith, (found_first key (rows_of s) r e).0, rows_many s)

  pub row_found_lem : (r : ℕ) → first_match key (rows_of s) ≡ Some r → (n : ℕ) → n ≡ 3 → route_for key (rows_of (take n (drop (r * 3) s))) ≡ route_for key (rows_of s)
  unfolding rows_of first_match
  row_found_lem r e n three =
      let h = found_within r e in
      let row = get_or (rows_of s) r blank_entry in
      let there : row ≡ record { key = get_or s (r * 3) 0; mask = get_or s (r * 3 + 1) 0; route = get_or s (r * 3 + 2) 0 } = row_at s r (omega arith) in
      let cut : drop (r * 3) s ≡ get_or s (r * 3) 0 ∷ get_or s (r * 3 + 1) 0 ∷ get_or s (r * 3 + 2) 0 ∷ drop (r * 3 + 3) s = three_words s (r * 3) (omega arith) in
      ap (λ (k : ℕ). route_for key (rows_of (take k (drop (r * 3) s)))) three
      ∙ ap (λ (l : List ℕ). route_for key (rows_of (take 3 l))) cut
      ∙ ap (λ (x : Entry). route_for key (x ∷ [])) (sym there)
      ∙ ap (λ (b : Bool). matched_of (row ∷ []) (cond b (Some 0) None)) (found_first key (rows_of s) r e).1
      ∙ sym (ap (matched_of (rows_of s)) e)

  pub none_found : first_match key (rows_of s) ≡ None → route_for key (rows_of []) ≡ route_for key (rows_of s)
  unfolding rows_of first_match
  none_found e = sym (ap (matched_of (rows_of s)) e)

-- a pass looks at the rows for the route of its packet alone
outcome_by_route : (t : ChipTables) (rows : List ℕ) (p : Packet) (source : ℕ) (s : Setting) → route_for p.word (rows_of rows) ≡ route_for p.word (rows_of t.rows)
    → outcome_of p source (chip_tables rows t.codes t.fixed) s ≡ outcome_of p source t s
unfolding outcome_of wanted_of
outcome_by_route t rows p source s e =
    ap (λ (m : Option ℕ). decided (errors_of p source s.phase) (stamped_of p source (errors_of p source s.phase) s.phase) source s.phase (wanted_given (errors_of p source s.phase) p source m t.codes t.fixed s) s.ready) e

pub passed_route : (t : ChipTables) (rows : List ℕ) (a : Arrival (Unit {0})) (l log : List ℕ) (n : ℕ) (l' log' : List ℕ) (n' : ℕ) → route_for a.flight.packet.word (rows_of rows) ≡ route_for a.flight.packet.word (rows_of t.rows)
    → Passed (pass_by (chip_tables rows t.codes t.fixed)) (a ∷ []) l log n l' log' n' → Passed (pass_by t) (a ∷ []) l log n l' log' n'
passed_route t rows a l log n l' log' n' e =
    passed_alike (pass_by (chip_tables rows t.codes t.fixed)) (pass_by t) (a ∷ []) l log n l' log' n'
    (ap (λ (o : Outcome). record { mesh = with_chip (mesh_of l) a.chip (chip_after o tt (get_or (mesh_of l).chips a.chip fresh)); log = take (n * 6) log ++ log_of a.chip o })
    (outcome_by_route t rows a.flight.packet a.source (setting_at (mesh_of l) a.chip) e))

-- ---- some, and then others

pub passed_none : (step : Going (Unit {0}) → Arrival (Unit {0}) → Going (Unit {0})) (l log : List ℕ) (n : ℕ) → Passed step [] l log n l log n
passed_none step l log n =
    record { long = refl; head = refl; going = refl; still = λ c j h. refl; past = refl; room = refl; behind = refl; more = omega arith; few = omega arith }

module _ (step : Going (Unit {0}) → Arrival (Unit {0}) → Going (Unit {0})) (xs ys : List (Arrival (Unit {0}))) (l log : List ℕ) (n : ℕ) (l₁ log₁ : List ℕ) (n₁ : ℕ) (p : Passed step xs l log n l₁ log₁ n₁) where
  number : SameHeader l l₁
  number = head_same l l₁ p.head

  words : words_of l₁ ≡ words_of l
  words = λ i. words_for (number width_at (lit< tt) i) (number height_at (lit< tt) i)

  pub passed_append : (l₂ log₂ : List ℕ) (n₂ : ℕ) → Passed step ys l₁ log₁ n₁ l₂ log₂ n₂ → Passed step (xs ++ ys) l log n l₂ log₂ n₂
  passed_append l₂ log₂ n₂ q =
      record {
        long = q.long ∙ p.long;
        head = q.head ∙ p.head;
        going = q.going ∙ ap (λ (g : Going (Unit {0})). foldl step g ys) p.going ∙ sym (foldl-append step (going_in l log n) xs ys);
        still = λ c j h. q.still c j h ∙ p.still c j h;
        past = subst (λ (k : ℕ). drop k l₂ ≡ drop k l₁) words q.past ∙ p.past;
        room = q.room ∙ p.room;
        behind = q.behind ∙ further;
        more = omega (arith, p.more, q.more);
        few = simp length-append (omega (arith, p.few, q.few));
      }
    where
      further : drop (n₂ * 6) log₁ ≡ drop (n₂ * 6) log
      further =
          let e : n₁ * 6 + (n₂ * 6 - n₁ * 6) ≡ n₂ * 6 = omega (arith, q.more) in
          ap (λ (k : ℕ). drop k log₁) (sym e) ∙ sym (drop-drop (n₂ * 6 - n₁ * 6) (n₁ * 6) log₁) ∙ ap (drop (n₂ * 6 - n₁ * 6)) p.behind
          ∙ drop-drop (n₂ * 6 - n₁ * 6) (n₁ * 6) log ∙ ap (λ (k : ℕ). drop k log) e

  chips_same : chips_of l₁ ≡ chips_of l
  chips_same = λ i. number height_at (lit< tt) i * number width_at (lit< tt) i

  head_fine_is : head_fine l₁ ≡ head_fine l
  head_fine_is = head_fine_same l l₁ p.head

  pub due_next : Due (xs ++ ys) l log n → Due ys l₁ log₁ n₁
  due_next d =
      record {
        head = head_fine_is ∙ d.head;
        long = subst (λ (k : ℕ). words_of l₁ ≤ k) (sym p.long) (subst (λ (k : ℕ). k ≤ length l) (sym words) d.long);
        room = omega (arith, p.room, p.few, simp length-append at d.room);
        each = all_right (Arrives (chips_of l₁)) xs ys (subst (λ (k : ℕ). All (Arrives k) (xs ++ ys)) (sym chips_same) d.each);
      }
