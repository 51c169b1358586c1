-- Copies of different injections stay apart: what a pass adds to a link stands behind what was there, with the passing packet's own tag, turned.
use mathlib.Core.Path.{◌≡◌, refl, sym, ap, ◌∙◌, subst}
use mathlib.Core.Bool.{Bool, true, false}
use mathlib.Core.List.{List, [], ◌∷◌, ◌++◌, append_assoc}
use Prim.Native.Nat.{ℕ, zero, suc, ◌+◌, ◌<◌}
use native.Mathlib.Nat.{zero-add, add-zero}
use native.Mathlib.Omega.{arith}
use lib.ListN.{length, get_or}
use Rattle.packet.specs.declared.Packet.{Packet}
use Rattle.steps.specs.declared.Outcome.{Outcome}
use Rattle.steps.specs.Links.{has}
use Rattle.steps.specs.Deciding.{packet_on, leg_packet}
use Rattle.links.specs.Link.{Flight, Link, idle, sent, link_after}
use Rattle.mesh.specs.Mesh.{Chip}
use Rattle.mesh.specs.Steps.{links_after}
use Rattle.lists.specs.Lists.{All}
use Rattle.lists.proofs.Alls.{all_append}
use Rattle.mesh.proofs.SoundChanges.{chip_sound}
use Rattle.promises.specs.History.{Tag, Passage, turned}
use Rattle.promises.specs.Demand3.{Behind, CopiesApart}
use Rattle.promises.proofs.Runs.{passage, left_after, always_each}

tagged_sent : (b : Bool) (p : Packet) (tag : Tag) → All (λ (x : Flight Tag). x.tag ≡ tag) (sent b p tag)
unfolding All
tagged_sent true p tag = (refl, tt)
tagged_sent false p tag = tt

behind_link : (o : Outcome) (tag : Tag) (i : ℕ) (l : Link Tag) → Behind l.held (link_after o tag i l).held tag
behind_link o tag i l =
    let packet = sent (has o.sent i) (packet_on o i) tag in
    let leg = sent (has o.leg_sent i) (leg_packet o) tag in
    record {
      added = packet ++ leg;
      joined = append_assoc l.held packet leg;
      tagged = all_append _ packet leg (tagged_sent (has o.sent i) (packet_on o i) tag) (tagged_sent (has o.leg_sent i) (leg_packet o) tag);
    }

-- one link of a chip after a pass
link_from : {A : Type 0} (o : Outcome) (tag : A) (i n : ℕ) (ls : List (Link A)) → n < length ls → get_or (links_after o tag i ls) n idle ≡ link_after o tag (n + i) (get_or ls n idle)
unfolding links_after
link_from o tag i n [] h = absurd (omega arith)
link_from o tag i zero (l ∷ ls) h = ap (λ (k : ℕ). link_after o tag k l) (sym (zero-add i))
link_from o tag i (suc n) (l ∷ ls) h = link_from o tag (suc i) n ls (omega arith) ∙ ap (λ (k : ℕ). link_after o tag k (get_or ls n idle)) (omega arith)

pub link_at : {A : Type 0} (o : Outcome) (tag : A) (n : ℕ) (ls : List (Link A)) → n < length ls → get_or (links_after o tag 0 ls) n idle ≡ link_after o tag n (get_or ls n idle)
link_at o tag n ls h = link_from o tag 0 n ls h ∙ ap (λ (k : ℕ). link_after o tag k (get_or ls n idle)) (add-zero n)

abbrev Aparts : Passage → Type 0
Aparts p = (i : ℕ) → i < 6 → Behind (get_or p.here.links i idle).held (get_or p.left.links i idle).held (turned p.arrival.flight.tag)

pub copies_apart : CopiesApart
copies_apart =
    always_each Aparts (λ t n m a sound codes h i near.
    let p = passage t n m a in
    let here = p.here in
    let tag = turned a.flight.tag in
    let e : get_or p.left.links i idle ≡ link_after p.outcome tag i (get_or here.links i idle) =
    ap (λ (c : Chip Tag). get_or c.links i idle) (left_after t n m a sound h)
    ∙ link_at p.outcome tag i here.links (omega (arith, (chip_sound sound a.chip h.there).six)) in
    subst (λ (l : Link Tag). Behind (get_or here.links i idle).held l.held tag) (sym e) (behind_link p.outcome tag i (get_or here.links i idle)))
