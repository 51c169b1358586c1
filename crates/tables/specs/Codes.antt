-- "A P2P table has one code for each chip of the mesh, at y*W + x: 0 to 5 a link, 6 nowhere, 7 the monitor. A destination off the mesh counts
-- as code 6." "An ID is x in its high byte, y in its low byte."
use Rattle.std.specs.Prelude.{ℕ, ◌+◌, ◌*◌, ◌/◌, ◌%◌, cond, ◌&&◌, List, ltb, get_or}

abbrev pub code_for : List ℕ → ℕ → ℕ → ℕ → ℕ
code_for codes width height destination =
    cond (ltb (destination / 256) width && ltb (destination % 256) height)
    (get_or codes (destination % 256 * width + destination / 256) 0)
    6
