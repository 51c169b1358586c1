use Rattle.std.proofs.Common.{ℕ, List, true, ◌≡◌, ◌≤◌, ◌<◌, ◌/◌, ◌%◌, arith, length, length-set}
use Rattle.tables.proofs.Sizes.{chips_small}
use Rattle.buffer.specs.Layout.{mesh_of, chips_of}
use Rattle.buffer.specs.Holding.{holds_mesh}
use Rattle.buffer.proofs.HoldsMesh.{holds_size}
use Rattle.flood.specs.Marks.{lead_of}
use Rattle.flood.proofs.Leads.{set_next, around_whole}
use Rattle.flood.proofs.around.around_all.Goals as goal

-- at most 144 chips
few : (mesh : List ℕ) → holds_mesh mesh ≡ true → {count : ℕ} → count ≡ chips_of mesh → count ≤ 144
few mesh holds e = rw e (chips_small _ _ (holds_size mesh holds))

pub bounds-around-k : goal.bounds-around-k
bounds-around-k c = omega (arith, few c.args.mesh.now c.requires c.chips-k-end.ensures)

pub loop-k-preserved : goal.loop-k-preserved
loop-k-preserved c = let at = c.loop-k in
    let mesh = c.args.mesh.now in
    let here : at.k < length at.around = omega (arith, at.invariant.long, few mesh c.requires c.chips-k-end.ensures) in
    record {
      long = simp length-set at.invariant.long;
      each = set_next (λ (j : ℕ). lead_of (mesh_of mesh) (j / 6) (j % 6)) at.around at.k _ here c.lead_of.ensures at.invariant.each;
    }

pub returns : goal.returns
returns c = around_whole c.args.mesh.now c.loop-k.around c.requires (λ j h. c.loop-k.invariant.each j (omega (arith, c.chips-k-end.ensures)))
