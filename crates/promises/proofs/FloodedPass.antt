-- One pass of a P2P packet by flooded codes, in a mesh that has no other copy of it: it is sent on, one link nearer, or handed to the monitor.
use mathlib.Core.Path.{◌≡◌, refl, sym, ap, ◌∙◌, subst}
use mathlib.Core.Bool.{true, true≢false}
use mathlib.Core.List.{List, [], ◌∷◌, ◌++◌}
use mathlib.Core.Logic.{inl, inr}
use Prim.Native.Nat.{ℕ, zero, suc, ◌+◌, ◌*◌, ◌/◌, ◌%◌, ◌^◌, ◌<◌}
use native.Mathlib.Decide.{ℕ_discrete}
use native.Mathlib.Omega.{arith}
use lib.Dec.{eqb}
use lib.ListN.{length-append}
use borrow.Author.Tests.{eqb-true}
use Rattle.steps.specs.Links.{has, set_of}
use Rattle.steps.specs.Deciding.{packet_on, decided, outcome_of}
use Rattle.steps.proofs.Sets.{has_none, has_set}
use Rattle.lists.specs.Lists.{All}
use Rattle.lists.proofs.Alls.{all_append}
use Rattle.lists.proofs.Firsts.{first_holds}
use Rattle.mesh.specs.Mesh.{Mesh, ready_of, many}
use Rattle.mesh.specs.Lending.{Tables}
use Rattle.mesh.specs.Steps.{Arrival, Going, outcome_at, pass_at}
use Rattle.mesh.specs.Sound.{Arrives, SoundMesh}
use Rattle.flood.specs.Ways.{beyond, within, fewest}
use Rattle.flood.specs.Codes.{code_of, codes_of}
use Rattle.flood.specs.OnItsWay.{Follows, SentOn, Nearer, HandedOver}
use Rattle.flood.proofs.WaysWithin.{within_way}
use Rattle.flood.proofs.OnItsWay.{one_link_nearer, handed_to_the_monitor}
use Rattle.flood.proofs.SameLinks.{many_same, fewest_same, code_same, codes_same}
use Rattle.flood.proofs.WholeWay.{fewest_oneself}
use Rattle.promises.specs.History.{Tag, Passage, Event, packet_passed, turned}
use Rattle.promises.specs.FloodedWay.{passes_of}
use Rattle.promises.proofs.Runs.{passage}
use Rattle.promises.proofs.Copies.{copies, OfOthers, none_in_flight, own_pass, last_pass, passes_own}
use Rattle.promises.proofs.LinkStates.{Alike}
use Rattle.promises.proofs.Towards.{EachTo, SendsTo, to_any, to_weaken, to_after_pass}
use Rattle.promises.proofs.FloodedStage.{Trip, far, Comes, Ours, Due, Onward, Sent, OnWay, Delivered, Stage}

-- a set of one link has no other
one_link : (c : ℕ) → c < 6 → 2 ^ c ≡ set_of (λ i. eqb i c)
one_link zero h = refl
one_link (suc zero) h = refl
one_link (suc (suc zero)) h = refl
one_link (suc (suc (suc zero))) h = refl
one_link (suc (suc (suc (suc zero)))) h = refl
one_link (suc (suc (suc (suc (suc zero))))) h = refl
one_link (suc (suc (suc (suc (suc (suc c)))))) h = absurd (omega arith)

has_only : (c i : ℕ) → c < 6 → i < 6 → has (2 ^ c) i ≡ true → i ≡ c
has_only c i hc hi e = eqb-true i c (sym (has_set (λ k. eqb k c) i hi) ∙ ap (λ (s : ℕ). has s i) (sym (one_link c hc)) ∙ e)

module _ (w : Trip) (t : Tables) (lent : t.codes ≡ codes_of w.mesh) (r : ℕ) (g : Going Tag) (alike : Alike w.mesh g.mesh) (sound : SoundMesh g.mesh) (a : Arrival Tag)
    (h : Arrives (g.mesh.height * g.mesh.width) a) (own : a.flight.tag.injection ≡ w.number) (j : ℕ) (due : Due w j g.mesh.phase a) (alone : copies w.number g.mesh ≡ 0) where
  abbrev m : Mesh Tag
  m = w.mesh

  abbrev k : Mesh Tag
  k = g.mesh

  abbrev chip : ℕ
  chip = a.chip

  abbrev to : ℕ
  to = w.to

  abbrev p : Passage
  p = passage t r g.mesh a

  abbrev next : Mesh Tag
  next = (pass_at t turned g a).mesh

  chips : many k ≡ many m
  chips = many_same m k alike.same

  at : chip < many m
  at = omega (arith, h.there, chips)

  -- the fewest links and the code are as they were
  count : fewest k chip to ≡ fewest m chip to
  count = fewest_same m k alike.same to chip at

  code : code_of k chip to ≡ code_of m chip to
  code = code_same m k alike.same to chip at

  follows : Follows k t a.flight.packet a.source chip to
  follows =
      record {
        codes = lent ∙ sym (codes_same m k alike.same);
        control = h.passable.control;
        kind = due.comes.kind;
        errors = due.errors;
        destination = due.comes.destination ∙ (λ i. to % sym alike.same.width i * 256 + to / sym alike.same.width i);
        at = h.there;
        there = omega (arith, w.reached, chips);
      }

  -- before its destination, with room on its code's link
  nearer : (chip ≡ to → ⊥) → has (ready_of k chip) (code_of m chip to) ≡ true → Nearer k chip to p.outcome a.flight.packet
  nearer other ready =
      let short : fewest k chip to < many k = omega (arith, count, chips, due.comes.left, w.few) in
      let x = within_way k to (fewest k chip to) chip (first_holds (λ i. within k to i chip) (many k) short) in
      one_link_nearer Tag k sound t a.flight.packet a.source chip to follows other x.links x.way (ap (has (ready_of k chip)) code ∙ ready)

  module _ (near : Nearer k chip to p.outcome a.flight.packet) where
    abbrev c : ℕ
    c = code_of k chip to

    -- what is sent
    comes : Comes w (suc j) (beyond k chip c) (record { packet = packet_on p.outcome c; tag = turned a.flight.tag })
    comes =
        record {
          left = omega (arith, near.nearer, count, fewest_same m k alike.same to (beyond k chip c) (omega (arith, near.at, chips)), due.comes.left);
          kind = near.sent.kind ∙ due.comes.kind;
          destination = ap (λ (x : ℕ). x % 65536) near.sent.word ∙ due.comes.destination;
          crossed = omega (arith, due.comes.crossed);
        }

    sends : SendsTo (Ours w (suc j)) k chip p.outcome (turned a.flight.tag)
    sends =
        record {
          links = λ i low sent own'.
              subst (λ (i : ℕ). Comes w (suc j) (beyond k chip i) (record { packet = packet_on p.outcome i; tag = turned a.flight.tag }))
              (sym (has_only c i near.link low (ap (λ (s : ℕ). has s i) (sym near.sent.sent) ∙ sent))) comes;
          leg = λ i low sent own'. absurd (true≢false (sym sent ∙ ap (λ (s : ℕ). has s i) near.sent.leg_sent ∙ has_none i));
        }

    none : EachTo (Ours w (suc j)) k
    none = to_weaken (λ chip. OfOthers w.number) (Ours w (suc j)) (λ chip x other own'. absurd (other own')) k (to_any (OfOthers w.number) k (none_in_flight w.number k alone))

    on_way_lem : OnWay w (suc j) next
    on_way_lem =
        record {
          most = omega (arith, comes.left);
          each = to_after_pass (Ours w (suc j)) t turned g a sound h sends none;
          one = own_pass w.number t g a sound h own c near.link near.sent.sent near.sent.leg_sent ∙ omega (arith, alone);
        }

    one_more : (ps : List Passage) → Sent w j ps → Sent w (suc j) (ps ++ p ∷ [])
    unfolding outcome_of decided All
    one_more ps before =
        record {
          many = simp length-append (omega (arith, before.many));
          onward = all_append (Onward w) ps (p ∷ []) before.onward ((due.errors, subst (SentOn p.outcome a.flight.packet) code near.sent), tt);
        }

  -- at its destination
  module _ (e : chip ≡ to) where
    over : HandedOver p.outcome k.monitor
    over =
        subst (λ (c : ℕ). HandedOver (outcome_at t k c a.source a.flight.packet) k.monitor) (sym e)
        (handed_to_the_monitor Tag k sound t a.flight.packet a.source to (subst (λ (c : ℕ). Follows k t a.flight.packet a.source c to) e follows))

    delivered : (ps : List Passage) → Sent w j ps → Delivered w (ps ++ p ∷ [])
    unfolding outcome_of decided
    delivered ps before =
        let last : j ≡ far w = omega (arith, due.comes.left, ap (λ (c : ℕ). fewest m c to) e, fewest_oneself m to w.reached) in
        record {
          on_way = ps;
          last = p;
          passes = refl;
          sent = subst (λ (i : ℕ). Sent w i ps) last before;
          there = e;
          right = due.errors;
          handed = subst (HandedOver p.outcome) alike.monitor over;
          crossed = due.comes.crossed ∙ last;
        }

    none_left : copies w.number next ≡ 0
    none_left = last_pass w.number t g a sound h own over.sent over.leg_sent ∙ alone

  pub passes_by_code : (es : List Event) → Sent w j (passes_of w.number es) → ((chip ≡ to → ⊥) → has (ready_of k chip) (code_of m chip to) ≡ true) → Stage w (suc j) next (es ++ packet_passed p ∷ [])
  passes_by_code es before room = go (ℕ_discrete chip to)
    where
      passes : passes_of w.number (es ++ packet_passed p ∷ []) ≡ passes_of w.number es ++ p ∷ []
      passes = passes_own w.number es p own

      go : Dec (chip ≡ to) → Stage w (suc j) next (es ++ packet_passed p ∷ [])
      go (yes e) = inr (subst (Delivered w) (sym passes) (delivered e _ before), none_left e)
      go (no other) = let near = nearer other (room other) in inl (subst (Sent w (suc j)) (sym passes) (one_more near _ before), on_way_lem near)
