-- Ways over a mesh's links: which there are, how short one can be, and where it begins.
use Rattle.std.specs.Prelude.{ℕ, zero, suc, ◌-◌, ◌<◌, ◌≡◌, Bool, true, ◌&&◌, ◌||◌, List, [], ◌∷◌, eqb, ltb}
use Rattle.lists.specs.Firsts.{first_below}
use Rattle.links.specs.Across.{across}
use Rattle.mesh.specs.Mesh.{Mesh, many, link_of}

module _ {A : Type 0} (m : Mesh A) where
  -- "Links count as up or down, whatever they hold."
  abbrev pub is_up : ℕ → ℕ → Bool
  is_up chip i = (link_of m chip i).up

  -- The chip at the other end of a link.
  abbrev pub beyond : ℕ → ℕ → ℕ
  beyond chip i = across m.width m.height chip i

  -- A way is a list of links, each up, each leading on from where the one before ended.
  pub data Way : ℕ → ℕ → List ℕ → Type 0 where
    here : (chip : ℕ) → Way chip chip []
    onward : (from to i : ℕ) (links : List ℕ) → i < 6 → is_up from i ≡ true → Way (beyond from i) to links → Way from to (i ∷ links)

  -- Whether a link of a chip is up and leads to where a test holds.
  abbrev pub leads_to : (ℕ → Bool) → ℕ → ℕ → Bool
  leads_to good chip i = is_up chip i && good (beyond chip i)

  -- Whether a way of at most k links leads from a chip to another: it is that chip, or an up link leads on to one from which a way of at most k - 1 does.
  unfoldable pub within : ℕ → ℕ → ℕ → Bool
  within to zero from = eqb from to
  within to (suc k) from = within to k from || ltb (first_below (leads_to (within to k) from) 6) 6

  -- The fewest links of any way from a chip to another; as many as there are chips where there is no way.
  abbrev pub fewest : ℕ → ℕ → ℕ
  fewest from to = first_below (λ k. within to k from) (many m)

  -- "The lowest link that begins a way of fewest links".
  abbrev pub first_link : ℕ → ℕ → ℕ
  first_link from to = first_below (leads_to (within to (fewest from to - 1)) from) 6
