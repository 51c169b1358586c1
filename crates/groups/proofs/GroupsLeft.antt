-- What is left in the room where some keys are to be looked up: the group of each key where the groups are built.
use Prim.Native.Nat.{ℕ, zero, suc, ◌^◌, ◌≤◌, ◌<◌}
use mathlib.Core.Path.{◌≡◌, refl, sym, ap, ◌∙◌}
use mathlib.Core.Bool.{Bool, true, false, ◌&&◌, ◌||◌, cond}
use mathlib.Core.List.{List, [], ◌∷◌, map}
use native.Mathlib.Omega.{arith}
use borrow.Author.Tests.{eq-eqb}
use lib.Dec.{eqb}
use lib.ListN.{length, get_or}
use Rattle.tables.specs.Rows.{Entry}
use Rattle.groups.specs.Groups.{top_of, is_in, marks_of, room_after, room_for, GroupedFor}
use Rattle.groups.specs.Pays.{worth, pays}
use Rattle.groups.specs.Grouping.{groups_left}
use Rattle.groups.proofs.Asks.{after_grouped}

top_there : (keys : List ℕ) (k : ℕ) → k < length keys → is_in (top_of (get_or keys k 0)) (map top_of keys) ≡ true
unfolding is_in
top_there [] k h = absurd (omega arith)
top_there (key ∷ keys) zero h = simp (eq-eqb (top_of key) (top_of key) refl)
top_there (key ∷ keys) (suc k) h = go (eqb (top_of key) (top_of (get_or keys k 0))) (top_there keys k (omega arith))
  where
    go : (b : Bool) → is_in (top_of (get_or keys k 0)) (map top_of keys) ≡ true → b || is_in (top_of (get_or keys k 0)) (map top_of keys) ≡ true
    go true e = refl
    go false e = e

pub group_there : (keys : List ℕ) (rows : List Entry) (room : List ℕ) (k : ℕ) → k < length keys → get_or keys k 0 < 2 ^ 32 → room_for (length rows) ≤ length room
    → (worth (length keys) (length rows) && pays (length keys) (marks_of keys) rows) ≡ true
    → GroupedFor rows (groups_left keys rows room) (get_or keys k 0)
group_there keys rows room k h small fits e = rw e (after_grouped keys rows room (get_or keys k 0) fits small (top_there keys k h))

-- ---- by whether asking is worth it, and whether the groups that are marked pay

module _ (keys : List ℕ) (rows : List Entry) (room : List ℕ) where
  pub left_by : (paid : Bool) (marks room' : List ℕ) → marks ≡ marks_of keys → pays (length keys) marks rows ≡ paid → room' ≡ cond paid (room_after marks rows room) room
      → (paid ≡ pays (length keys) (marks_of keys) rows) × (room' ≡ cond (pays (length keys) (marks_of keys) rows) (room_after (marks_of keys) rows room) room)
  left_by paid marks room' e p left =
      let so : paid ≡ pays (length keys) (marks_of keys) rows = sym p ∙ ap (λ (m : List ℕ). pays (length keys) m rows) e in
      (so, left ∙ (λ i. cond (so i) (room_after (e i) rows room) room))

  pub not_worth : worth (length keys) (length rows) ≡ false
      → (false ≡ (worth (length keys) (length rows) && pays (length keys) (marks_of keys) rows)) × (room ≡ groups_left keys rows room)
  not_worth e = (simp e, simp e)

  pub worth_it : worth (length keys) (length rows) ≡ true
      → (pays (length keys) (marks_of keys) rows ≡ (worth (length keys) (length rows) && pays (length keys) (marks_of keys) rows))
      × (cond (pays (length keys) (marks_of keys) rows) (room_after (marks_of keys) rows room) room ≡ groups_left keys rows room)
  worth_it e = (simp e, simp e)
