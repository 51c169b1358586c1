use Rattle.std.proofs.Common.{◌≡◌, ℕ, ◌+◌, ◌*◌, ◌≤◌, List, get_or, drop, set, sym, ap, ◌∙◌, arith, length-drop, length-set, get_or-drop}
use Rattle.std.proofs.lemmas.List.Edits.{paste_more}
use lib.Seq.{paste-zero}
use Rattle.buffer.proofs.Asides.{copied_before}
use Rattle.links.specs.Offsets.{places_at, place_long, depth, aside_places_at}
use Rattle.buffer.proofs.aside.copy_aside.Goals as goal

pub loop-i-init : goal.loop-i-init
loop-i-init c = (c.requires.0, paste-zero c.args.words.now aside_places_at (drop places_at c.args.words.now))

pub loop-i-preserved : goal.loop-i-preserved
loop-i-preserved c = let at = c.loop-i in
    let l = c.args.words.now in
    let long = c.requires.0 in
    let few : at.i ≤ depth * place_long = omega (arith, c.requires.1) in
    let read : get_or at.words (places_at + at.i) 0 ≡ get_or (drop places_at l) at.i 0 =
    ap (λ (w : List ℕ). get_or w (places_at + at.i) 0) at.invariant.1 ∙ copied_before l at.i long few (places_at + at.i) (omega (arith, c.requires.1)) ∙ sym (get_or-drop places_at l at.i 0) in (
      simp length-set at.invariant.0,
      (λ k. set (at.invariant.1 k) (aside_places_at + at.i) (read k))
          ∙ paste_more l aside_places_at (drop places_at l) at.i 0 (omega (arith, c.requires.1)) (simp length-drop (omega (arith, c.requires.1))),
    )

pub returns : goal.returns
returns c = let e : c.loop-i.i ≡ c.args.count = omega arith in rw e at c.loop-i.invariant.1
