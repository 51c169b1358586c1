-- A chip's registers read, on a mesh's words: handed over and emptied.
use Rattle.std.proofs.Common.{◌≡◌, ℕ, ◌+◌, ◌≤◌, Bool, cond, List, [], ◌∷◌, length, get_or, drop, sym, refl, ap, ◌∙◌, subst, arith, take-take, eq-eqb, ne_eqb}
use Rattle.packet.specs.Refusal.{first_of}
use Rattle.kept.specs.declared.Registers.{Registers}
use Rattle.kept.specs.Keeping.{empty}
use Rattle.mesh.specs.Mesh.{Chip, chip_of}
use Rattle.lists.specs.Lists.{part, put_back}
use Rattle.links.specs.Offsets.{state_at, link_long, registers_long, counters_long, counters_at, chip_long, chip_place, link_place}
use Rattle.links.specs.Words.{link_in}
use Rattle.buffer.specs.Layout.{registers_in, register_words, chip_in, mesh_of, chips_of}
use Rattle.mesh.specs.Steps.{with_chip, set_out}
use Rattle.buffer.specs.Holding.{holds_mesh}
use Rattle.buffer.specs.ChipWords.{link_words}
use Rattle.buffer.specs.OnePass.{chip_words}
use Rattle.mesh.specs.Refusals.{chip_refusals}
use Rattle.mesh.specs.Calls.{with_empty, registers_read}
use Rattle.buffer.specs.Leaving.{Leaves, registers_left}
use Rattle.lists.proofs.Parts.{length_back, part_same, part_behind}
use Rattle.buffer.proofs.ChipParts.{registers_back}
use Rattle.buffer.proofs.MeshParts.{mesh_chip, mesh_put}
use Rattle.buffer.proofs.StepAt.{chip_long_lem}
use Rattle.mesh.proofs.SoundChanges.{sound_emptied}
use Rattle.buffer.proofs.SoundWords.{holds_sound}
use Rattle.buffer.proofs.Leaving.{refused_leaves}
use Rattle.buffer.proofs.Looks.{chip_there}
use Rattle.buffer.proofs.OneChipChanged.{chip_leaves}

module _ (w : List ℕ) (long : length w ≡ chip_long) where
  fits : 0 + registers_long ≤ length w
  fits = omega arith

  behind : (b k : ℕ) → registers_long ≤ b → part b k (put_back 0 registers_long (register_words empty) w) ≡ part b k w
  behind b k h = part_behind 0 registers_long (register_words empty) w fits refl b k (omega arith)

  emptied_long : length (put_back 0 registers_long (register_words empty) w) ≡ chip_long
  emptied_long = length_back 0 registers_long (register_words empty) w fits refl ∙ long

  link_kept : (j : ℕ) → link_words j (put_back 0 registers_long (register_words empty) w) ≡ link_words j w
  link_kept j = behind (link_place j) link_long (omega arith)

  chip_emptied : chip_in (put_back 0 registers_long (register_words empty) w) ≡ record { registers = empty; counters = (chip_in w).counters; links = (chip_in w).links }
  chip_emptied =
      λ i. record {
        registers = (ap registers_in (part_same 0 registers_long (register_words empty) w fits refl) ∙ registers_back empty) i;
        counters = record { count = behind counters_at counters_long (omega arith) i };
        links = link_in (link_kept 0 i) ∷ link_in (link_kept 1 i) ∷ link_in (link_kept 2 i) ∷ link_in (link_kept 3 i) ∷ link_in (link_kept 4 i) ∷ link_in (link_kept 5 i) ∷ [];
      }

module _ (l : List ℕ) (chip r : ℕ) (e : r ≡ first_of (chip_refusals (holds_mesh l) (chips_of l) chip)) where
  pub registers_refused : (r ≡ 0 → ⊥) → (none : Registers) → none ≡ empty → (record { refusal = r; registers = none } ≡ registers_read (holds_mesh l) (mesh_of l) chip) × Leaves l l (registers_left l chip)
  unfolding mesh_of
  registers_refused some none z =
      let f = refused_leaves (first_of (chip_refusals (holds_mesh l) (chips_of l) chip)) 0 (mesh_of l) (set_out (with_empty (mesh_of l) chip)) (λ k. some (e ∙ k)) l [] in (
        (λ i. record { refusal = e i; registers = (z ∙ sym (ap (λ (b : Bool). cond b (chip_of (mesh_of l) chip).registers empty) (ne_eqb _ 0 (λ k. some (e ∙ k))))) i }),
        f.buffer,
      )

  pub registers_leave : r ≡ 0 → (found : Registers) → found ≡ registers_in (part (chip_place chip) registers_long l)
      → (record { refusal = 0; registers = found } ≡ registers_read (holds_mesh l) (mesh_of l) chip)
      × Leaves l (put_back (chip_place chip) chip_long (put_back 0 registers_long (register_words empty) (chip_words chip l)) l) (registers_left l chip)
  unfolding mesh_of
  registers_leave none found f =
      let off : first_of (chip_refusals (holds_mesh l) (chips_of l) chip) ≡ 0 = sym e ∙ none in
      let h = chip_there l chip off in
      let w = chip_words chip l in
      let whole : length w ≡ chip_long = chip_long_lem l chip h.fits in
      let ys = put_back 0 registers_long (register_words empty) w in
      let mesh : mesh_of (put_back (chip_place chip) chip_long ys l) ≡ with_empty (mesh_of l) chip =
      mesh_put chip ys l h.fits (emptied_long w whole) h.near ∙ ap (with_chip (mesh_of l) chip) (chip_emptied w whole)
      ∙ ap (λ (c : Chip (Unit {0})). with_chip (mesh_of l) chip (record { registers = empty; counters = c.counters; links = c.links })) (sym (mesh_chip l chip h.near)) in
      let registers : found ≡ (chip_of (mesh_of l) chip).registers =
      f ∙ ap registers_in (sym (take-take registers_long chip_long (drop (chip_place chip) l) (omega arith))) ∙ ap (λ (c : Chip (Unit {0})). c.registers) (sym (mesh_chip l chip h.near)) in (
        (λ i. record { refusal = sym off i; registers = (registers ∙ sym (ap (λ (b : Bool). cond b (chip_of (mesh_of l) chip).registers empty) (eq-eqb _ 0 off))) i }),
        chip_leaves l chip h ys (emptied_long w whole) (λ j hj old. subst (λ (v : List ℕ). get_or v state_at 0 ≤ 1) (sym (link_kept w whole j)) old) (first_of (chip_refusals (holds_mesh l) (chips_of l) chip)) off
            (set_out (with_empty (mesh_of l) chip)) mesh (sound_emptied (holds_sound l h.holds) chip h.near),
      )
