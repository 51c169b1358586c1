-- Laws of what a history tells: events one after the other.
use mathlib.Core.Path.{◌≡◌, refl, sym, ap, ◌∙◌}
use mathlib.Core.List.{List, [], ◌∷◌, ◌++◌, append_assoc}
use Prim.Native.Nat.{ℕ, ◌+◌}
use native.Mathlib.Nat.{zero-add, add_assoc}
use Rattle.mesh.specs.Steps.{log_of}
use Rattle.promises.specs.History.{Passage, Event, packet_passed, registers_emptied}
use Rattle.promises.specs.Told.{EachPass, sum_of, records_of}

pub sum_append : (f : Passage → ℕ) (es later : List Event) → sum_of f (es ++ later) ≡ sum_of f es + sum_of f later
unfolding sum_of
sum_append f [] later = sym (zero-add (sum_of f later))
sum_append f (packet_passed p ∷ es) later = ap (λ (n : ℕ). f p + n) (sum_append f es later) ∙ sym (add_assoc (f p) (sum_of f es) (sum_of f later))
sum_append f (registers_emptied c ∷ es) later = sum_append f es later

pub each_append : (P : Passage → Type 0) (es later : List Event) → EachPass P es → EachPass P later → EachPass P (es ++ later)
unfolding EachPass
each_append P [] later a b = b
each_append P (packet_passed p ∷ es) later a b = (a.0, each_append P es later a.1 b)
each_append P (registers_emptied c ∷ es) later a b = each_append P es later a b

pub each_parts : (P : Passage → Type 0) (es later : List Event) → EachPass P (es ++ later) → EachPass P es × EachPass P later
unfolding EachPass
each_parts P [] later h = (tt, h)
each_parts P (packet_passed p ∷ es) later h = let parts = each_parts P es later h.1 in ((h.0, parts.0), parts.1)
each_parts P (registers_emptied c ∷ es) later h = each_parts P es later h

pub each_pass_weaken : (P Q : Passage → Type 0) → ((p : Passage) → P p → Q p) → (es : List Event) → EachPass P es → EachPass Q es
unfolding EachPass
each_pass_weaken P Q f [] h = tt
each_pass_weaken P Q f (packet_passed p ∷ es) h = (f p h.0, each_pass_weaken P Q f es h.1)
each_pass_weaken P Q f (registers_emptied c ∷ es) h = each_pass_weaken P Q f es h

pub records_append : (es later : List Event) → records_of (es ++ later) ≡ records_of es ++ records_of later
unfolding records_of
records_append [] later = refl
records_append (packet_passed p ∷ es) later = ap (λ (l : List ℕ). log_of p.arrival.chip p.outcome ++ l) (records_append es later) ∙ sym (append_assoc (log_of p.arrival.chip p.outcome) (records_of es) (records_of later))
records_append (registers_emptied c ∷ es) later = records_append es later
