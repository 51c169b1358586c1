-- Names of links, in letters of either case or as numbers.
use Rattle.std.specs.Prelude.{ℕ, ◌+◌, cond, ◌&&◌, ◌||◌, Option, Some, None, List, length, ◌==◌, nat_lt, slice_index}

-- A capital letter as a small one.
abbrev pub lower_of : ℕ → ℕ
lower_of b = cond (nat_lt b 65) b (cond (nat_lt b 91) (b + 32) b)

-- 0 or e, 1, 2 or n, 3 or w, 4, 5 or s: no link for any other byte.
abbrev pub link_of_letter : ℕ → Option ℕ
link_of_letter c =
    cond (c == 48 || c == 101) (Some 0)
    (cond (c == 49) (Some 1)
    (cond (c == 50 || c == 110) (Some 2)
    (cond (c == 51 || c == 119) (Some 3)
    (cond (c == 52) (Some 4)
    (cond (c == 53 || c == 115) (Some 5) None)))))

-- ne, sw: no link for any other two bytes.
abbrev pub link_of_letters : ℕ → ℕ → Option ℕ
link_of_letters a b = cond (a == 110 && b == 101) (Some 1) (cond (a == 115 && b == 119) (Some 4) None)

abbrev pub link_named : List ℕ → Option ℕ
link_named w =
    cond (length w == 1) (link_of_letter (lower_of (slice_index w 0)))
    (cond (length w == 2) (link_of_letters (lower_of (slice_index w 0)) (lower_of (slice_index w 1))) None)
