-- "The way from source to destination uses signed steps east and north, least over all ways round the mesh": a way's links, which ways lead there, and the one that is taken.
use Rattle.std.specs.Prelude.{ℕ, suc, ◌+◌, ◌-◌, ◌/◌, ◌%◌, min, Bool, false, cond, ◌&&◌, ◌||◌, List, [], ◌∷◌, ◌++◌, eqb, ltb, ℤ, pos, negsuc, nat_abs, replicate}
use Rattle.std.specs.Int.Signed.{non_neg, lt_z}
use Rattle.tree.specs.declared.Way.{Way}

-- "Steps of one sign in both are shared by diagonal links": how many are.
abbrev pub shared_by : ℤ → ℤ → ℕ
shared_by (pos a) (pos b) = min a b
shared_by (negsuc a) (negsuc b) = min (suc a) (suc b)
shared_by (pos a) (negsuc b) = 0
shared_by (negsuc a) (pos b) = 0

abbrev pub shared : Way → ℕ
shared w = shared_by w.east w.north

-- How many links a way has: of one sign in both, the larger of the two magnitudes; else their sum.
abbrev pub links_in : Way → ℕ
links_in w = nat_abs w.east + nat_abs w.north - shared w

-- "Links 0 to 5 lead east (+1,0), north-east (+1,+1), north (0,+1), west, south-west, south."
abbrev pub diagonal_link : Way → ℕ
diagonal_link w = cond (non_neg w.east) 1 4

abbrev pub sideways_link : Way → ℕ
sideways_link w = cond (non_neg w.east) 0 3

abbrev pub upright_link : Way → ℕ
upright_link w = cond (non_neg w.north) 2 5

-- "Diagonal links first, then east or west, then north or south".
unfoldable pub links_of : Way → List ℕ
links_of w =
    replicate (shared w) (diagonal_link w)
    ++ replicate (nat_abs w.east - shared w) (sideways_link w)
    ++ replicate (nat_abs w.north - shared w) (upright_link w)

-- Whether two signed numbers are the same.
abbrev pub eq_z : ℤ → ℤ → Bool
eq_z (pos a) (pos b) = eqb a b
eq_z (negsuc a) (negsuc b) = eqb a b
eq_z (pos a) (negsuc b) = false
eq_z (negsuc a) (pos b) = false

-- "Least over all ways round the mesh .. of equal ways the one with the larger signed count east, then north, is taken."
abbrev pub better : Way → Way → Bool
better v w = ltb (links_in v) (links_in w) || eqb (links_in v) (links_in w) && (lt_z w.east v.east || eq_z w.east v.east && lt_z w.north v.north)

-- What is left of a signed number of steps on a ring of so many chips, whole turns taken away.
abbrev pub turned : ℕ → ℤ → ℕ
turned size (pos a) = a % size
turned size (negsuc a) = size - 1 - a % size

-- The steps forwards on a ring from a place to another.
abbrev pub offset : ℕ → ℕ → ℕ → ℕ
offset size from to = (to + (size - from)) % size

-- Whether a way leads so far east and north, "round the mesh" as often as it likes.
abbrev pub leads : ℕ → ℕ → ℕ → ℕ → Way → Bool
leads width height east north w = eqb (turned width w.east) east && eqb (turned height w.north) north

-- The counts to choose from, each way. No others can be best: the way with no step back has at most 11 links, and a way has at least as many links as it has steps either way.
abbrev pub counts : List ℤ
counts =
    pos 11 ∷ pos 10 ∷ pos 9 ∷ pos 8 ∷ pos 7 ∷ pos 6 ∷ pos 5 ∷ pos 4 ∷ pos 3 ∷ pos 2 ∷ pos 1 ∷ pos 0
    ∷ negsuc 0 ∷ negsuc 1 ∷ negsuc 2 ∷ negsuc 3 ∷ negsuc 4 ∷ negsuc 5 ∷ negsuc 6 ∷ negsuc 7 ∷ negsuc 8 ∷ negsuc 9 ∷ negsuc 10
    ∷ []

-- Of these, the counts that lead so far round a ring.
abbrev pub counts_to : ℕ → ℕ → List ℤ → List ℤ
counts_to size far [] = []
counts_to size far (z ∷ zs) = cond (eqb (turned size z) far) (z ∷ counts_to size far zs) (counts_to size far zs)

-- The best of a way and those with one of the counts east and one of the counts north.
abbrev pub best_north : ℤ → List ℤ → Way → Way
best_north e [] best = best
best_north e (n ∷ ns) best = best_north e ns (cond (better (record { east = e; north = n }) best) (record { east = e; north = n }) best)

abbrev pub best_of : List ℤ → List ℤ → Way → Way
best_of [] ns best = best
best_of (e ∷ es) ns best = best_of es ns (best_north e ns best)

-- The way that is taken to a chip so far east and north.
unfoldable pub way_to : ℕ → ℕ → ℕ → ℕ → Way
way_to width height east north =
    best_of (counts_to width east counts) (counts_to height north counts) (record { east = pos east; north = pos north })

-- The way that is taken from a chip to another: chips by number y * W + x.
abbrev pub way_between : ℕ → ℕ → ℕ → ℕ → Way
way_between width height from to = way_to width height (offset width (from % width) (to % width)) (offset height (from / width) (to / width))
