-- A P2P packet that follows the codes: the tables lend its chip the code for its destination, a plain packet is sent by that link alone, and the chip
-- there is one link nearer.
use Prim.Native.Nat.{ℕ, zero, suc, ◌+◌, ◌*◌, ◌/◌, ◌%◌, ◌^◌, ◌≤◌, ◌<◌}
use mathlib.Core.Path.{◌≡◌, refl, sym, ap, ◌∙◌, subst}
use mathlib.Core.Bool.{Bool, true, false, cond, ◌&&◌, ◌||◌}
use mathlib.Core.List.{List, ◌∷◌}
use native.Mathlib.Omega.{arith}
use native.Mathlib.Nat.{mod-lt, div-lt_iff_lt-mul, div-add-mod'}
use lib.Dec.{eqb, ltb}
use lib.Pow.{pow-add}
use lib.ListN.{length, get_or, drop}
use lib.Seq.{get_or-take, get_or-drop}
use borrow.Author.Tests.{lt-ltb, eq-eqb, ne_eqb}
use Rattle.packet.specs.declared.Packet.{Packet}
use Rattle.packet.specs.Control.{kind_of, mark_of}
use Rattle.packet.specs.Types.{is_marked}
use Rattle.packet.specs.Parity.{with_mark}
use Rattle.tables.specs.Codes.{code_for}
use Rattle.tables.specs.Tables.{ChipTables}
use Rattle.tables.proofs.Sizes.{Size, size}
use Rattle.steps.specs.declared.Outcome.{Outcome}
use Rattle.steps.specs.declared.Setting.{Setting}
use Rattle.steps.specs.declared.Wanted.{Wanted}
use Rattle.steps.specs.Links.{has, links_of, processors_of, monitor_bit, link}
use Rattle.steps.specs.Detour.{carry_set, send_set, drop_set, plain_send_set, plain_drop_set}
use Rattle.steps.specs.Errors.{errors_of, stamped_of}
use Rattle.steps.specs.Wants.{number_wanted, p2p_wanted, wanted_of}
use Rattle.steps.specs.Deciding.{leg_set, mark_on, packet_on, decided, outcome_of}
use Rattle.steps.proofs.Stamping.{StampedFrom, stamped}
use Rattle.lists.proofs.Firsts.{first_holds}
use Rattle.mesh.specs.Mesh.{Mesh, ready_of, many}
use Rattle.mesh.specs.Lending.{Tables, codes_at, tables_at}
use Rattle.mesh.specs.Steps.{setting_at, outcome_at}
use Rattle.mesh.specs.Sound.{SoundMesh}
use Rattle.flood.specs.Ways.{beyond, onward, within, fewest, first_link}
use Rattle.flood.specs.Codes.{code_of, codes_of}
use Rattle.flood.specs.Shortest.{Begins}
use Rattle.flood.specs.OnItsWay.{id_of, Follows, SentOn, OneLinkNearer, HandedToTheMonitor}
use Rattle.flood.proofs.Levels.{beyond_there}
use Rattle.flood.proofs.Columns.{row_of, column_of, place_below}
use Rattle.flood.proofs.ChipAfterChip.{at_each, code_at, codes_each}
use Rattle.flood.proofs.WaysWithin.{first_step, within_way}
use Rattle.flood.proofs.FirstLinks.{Reached, code_oneself, code_reached, link_below}
use Rattle.flood.proofs.FewestLinks.{fewest_least, begins}
use Rattle.flood.proofs.SixWhereNoWay.{few_links}

-- ---- the code that a chip's table has

module _ {A : Type 0} (m : Mesh A) (sound : SoundMesh m) where
  code_at_lem : (t : Tables) (from to : ℕ) → t.codes ≡ codes_of m → from < many m → to < many m → get_or (codes_at t (many m) from) to 0 ≡ code_of m from to
  code_at_lem t from to e hf ht =
      get_or-take (many m) (drop (from * many m) t.codes) to 0 ht
      ∙ get_or-drop (from * many m) t.codes to 0
      ∙ ap (λ (l : List ℕ). get_or l (from * many m + to) 0) (e ∙ codes_each m)
      ∙ at_each (code_at m) (many m * many m) (from * many m + to) (place_below (many m) from to ht hf)
      ∙ (λ i. code_of m (row_of (many m) from to ht i) (column_of (many m) from to ht i))

  -- a destination on the mesh
  code_for_lem : (codes : List ℕ) (to : ℕ) → to < many m → code_for codes m.width m.height (id_of m to) ≡ get_or codes to 0
  code_for_lem codes to h =
      let s : Size m.width m.height = size m.width m.height sound.size in
      let east : to % m.width < m.width = mod-lt to s.width_low in
      let north : to / m.width < m.height = (div-lt_iff_lt-mul s.width_low).1 h in
      let x : id_of m to / 256 ≡ to % m.width = omega (arith, s.height_high) in
      let y : id_of m to % 256 ≡ to / m.width = omega (arith, s.height_high) in
      (λ i. cond (ltb (x i) m.width && ltb (y i) m.height) (get_or codes (y i * m.width + x i) 0) 6)
      ∙ (λ i. cond (lt-ltb _ _ east i && lt-ltb _ _ north i) (get_or codes (div-add-mod' to m.width i) 0) 6)

-- ---- a pass of a packet without a mark

record Plain (o : Outcome) (q : Packet) (set ready : ℕ) : Type 0 where
  packet : o.packet ≡ q
  wanted : o.wanted ≡ set
  sent : o.sent ≡ plain_send_set (links_of set) ready
  carried : o.carried ≡ 0
  dropped : o.dropped ≡ plain_drop_set (links_of set) ready
  leg_sent : o.leg_sent ≡ 0
  leg_dropped : o.leg_dropped ≡ 0

no_leg : (e : ℕ) (q : Packet) (source : ℕ) → is_marked q.control ≡ false → leg_set e q source ≡ 0
no_leg e q source h = ap (λ (b : Bool). cond (eqb e 0 && b && (eqb (mark_of q.control) 1 || eqb (mark_of q.control) 2)) (2 ^ link (source + 5)) 0) h ∙ go (eqb e 0)
  where
    go : (b : Bool) → cond (b && false && (eqb (mark_of q.control) 1 || eqb (mark_of q.control) 2)) (2 ^ link (source + 5)) 0 ≡ 0
    go true = refl
    go false = refl

plain : (e : ℕ) (q : Packet) (source phase : ℕ) (w : Wanted) (ready : ℕ) → is_marked q.control ≡ false → Plain (decided e q source phase w ready) q w.set ready
unfolding decided
plain e q source phase w ready h =
    record {
      packet = refl;
      wanted = refl;
      sent = ap (λ (b : Bool). cond b (send_set (links_of w.set) ready) (plain_send_set (links_of w.set) ready)) h;
      carried = ap (λ (b : Bool). cond b (carry_set (links_of w.set) ready) 0) h;
      dropped = ap (λ (b : Bool). cond b (drop_set (links_of w.set) ready) (plain_drop_set (links_of w.set) ready)) h;
      leg_sent = ap (λ (l : ℕ). plain_send_set l ready) (no_leg e q source h);
      leg_dropped = ap (λ (l : ℕ). plain_drop_set l ready) (no_leg e q source h);
    }

-- a P2P packet without error wants what its code says
wants_code : (e : ℕ) (p : Packet) (source : ℕ) (tables : ChipTables) (t : Setting) → e ≡ 0 → kind_of p.control ≡ 1 → (wanted_of e p source tables t).set ≡ p2p_wanted p tables.codes t
unfolding wanted_of
wants_code e p source tables t none kind = simp (none, kind)

module _ {A : Type 0} (m : Mesh A) (sound : SoundMesh m) (t : Tables) (p : Packet) (source from to : ℕ) (f : Follows m t p source from to) where
  abbrev after : Packet
  after = stamped_of p source (errors_of p source m.phase) m.phase

  pub as_it_was : StampedFrom p (stamped_of p source (errors_of p source m.phase) m.phase)
  as_it_was = stamped p source (errors_of p source m.phase) m.phase f.control sound.phase

  unmarked : is_marked after.control ≡ false
  unfolding is_marked
  unmarked =
      let k = kind_of after.control in
      λ i. ne_eqb k 0 (λ e. omega (arith, as_it_was.kind, f.kind)) i || ne_eqb k 3 (λ e. omega (arith, as_it_was.kind, f.kind)) i

  goes_plainly : Plain (outcome_at t m from source p) after (number_wanted (code_of m from to) 0 m.monitor) (ready_of m from)
  unfolding outcome_of
  goes_plainly =
      let e = errors_of p source m.phase in
      let tables = tables_at t (many m) from in
      let code : code_for tables.codes m.width m.height (p.word % 65536) ≡ code_of m from to =
      ap (code_for tables.codes m.width m.height) f.destination ∙ code_for_lem m sound tables.codes to f.there ∙ code_at_lem m sound t from to f.codes f.at f.there in
      let set : (wanted_of e p source tables (setting_at m from)).set ≡ number_wanted (code_of m from to) 0 m.monitor =
      wants_code e p source tables (setting_at m from) f.errors f.kind ∙ ap (λ (c : ℕ). number_wanted c 0 m.monitor) code in
      subst (λ (s : ℕ). Plain (outcome_at t m from source p) after s (ready_of m from)) set
      (plain e after source m.phase (wanted_of e p source tables (setting_at m from)) (ready_of m from) unmarked)

-- ---- by one link, or to the monitor

record ByOne (i ready : ℕ) : Type 0 where
  sent : plain_send_set (links_of (2 ^ i)) ready ≡ 2 ^ i
  dropped : plain_drop_set (links_of (2 ^ i)) ready ≡ 0
  processors : processors_of (2 ^ i) ≡ 0

by_one : (i ready : ℕ) → i < 6 → has ready i ≡ true → ByOne i ready
by_one zero ready h r = record { sent = rw r; dropped = rw r; processors = refl }
by_one (suc zero) ready h r = record { sent = rw r; dropped = rw r; processors = refl }
by_one (suc (suc zero)) ready h r = record { sent = rw r; dropped = rw r; processors = refl }
by_one (suc (suc (suc zero))) ready h r = record { sent = rw r; dropped = rw r; processors = refl }
by_one (suc (suc (suc (suc zero)))) ready h r = record { sent = rw r; dropped = rw r; processors = refl }
by_one (suc (suc (suc (suc (suc zero))))) ready h r = record { sent = rw r; dropped = rw r; processors = refl }
by_one (suc (suc (suc (suc (suc (suc i)))))) ready h r = absurd (omega arith)

-- a processor's bit stands above the links'
above_links : (monitor : ℕ) → (links_of (monitor_bit monitor) ≡ 0) × (processors_of (monitor_bit monitor) ≡ 2 ^ monitor)
above_links monitor = let e : 2 ^ (6 + monitor) ≡ 64 * 2 ^ monitor = pow-add 2 6 monitor in (omega (arith, e), omega (arith, e))

-- ---- the two passes

-- what a link would send is the packet as it was stamped
pub packet_sent : {A : Type 0} (m : Mesh A) (sound : SoundMesh m) (t : Tables) (p : Packet) (source from to : ℕ) (f : Follows m t p source from to) (i : ℕ)
    → packet_on (outcome_at t m from source p) i ≡ stamped_of p source (errors_of p source m.phase) m.phase
packet_sent m sound t p source from to f i =
    let o = outcome_at t m from source p in
    let q : Packet = after m sound t p source from to f in
    ap (λ (x : Packet). cond (is_marked x.control) (with_mark x (mark_on o i)) x) (goes_plainly m sound t p source from to f).packet
    ∙ ap (λ (b : Bool). cond b (with_mark q (mark_on o i)) q) (unmarked m sound t p source from to f)

-- a code that is a ready link
sent_on : {A : Type 0} (m : Mesh A) (sound : SoundMesh m) (t : Tables) (p : Packet) (source from to : ℕ) (f : Follows m t p source from to) → code_of m from to < 6
    → has (ready_of m from) (code_of m from to) ≡ true → SentOn (outcome_at t m from source p) p (code_of m from to)
sent_on m sound t p source from to f low ready =
    let i : ℕ = code_of m from to in
    let o = goes_plainly m sound t p source from to f in
    let one = by_one i (ready_of m from) low ready in
    let set : number_wanted i 0 m.monitor ≡ 2 ^ i = ap (λ (b : Bool). cond b (2 ^ i) (cond (eqb i 6) 0 (monitor_bit m.monitor))) (lt-ltb i 6 low) in
    let same = packet_sent m sound t p source from to f i in
    record {
      sent = o.sent ∙ ap (λ (s : ℕ). plain_send_set (links_of s) (ready_of m from)) set ∙ one.sent;
      processors = ap processors_of (o.wanted ∙ set) ∙ one.processors;
      carried = o.carried;
      dropped = o.dropped ∙ ap (λ (s : ℕ). plain_drop_set (links_of s) (ready_of m from)) set ∙ one.dropped;
      leg_sent = o.leg_sent;
      leg_dropped = o.leg_dropped;
      kind = ap (λ (x : Packet). kind_of x.control) same ∙ (as_it_was m sound t p source from to f).kind;
      word = ap (λ (x : Packet). x.word) same ∙ (as_it_was m sound t p source from to f).word;
    }

-- beyond the first link of a way of fewest links it is one link less
one_less : {A : Type 0} (m : Mesh A) (from to i : ℕ) → fewest m from to < many m → Begins m from to i → suc (fewest m (beyond m from i) to) ≡ fewest m from to
one_less m from to i few b =
    let next = beyond m from i in
    let on = first_step m b.way in
    let most : fewest m next to ≤ length b.links = fewest_least m next to b.links on.rest in
    let x = within_way m to (fewest m next to) next (first_holds (λ k. within m to k next) (many m) (omega (arith, b.counted))) in
    let least : fewest m from to ≤ suc (length x.links) = fewest_least m from to (i ∷ x.links) (onward from to i x.links on.link on.up x.way) in
    omega (arith, b.counted, x.short)

pub one_link_nearer : OneLinkNearer
one_link_nearer A m sound t p source from to f other links w ready =
    let r : Reached m from to = record { other = ne_eqb from to other; few = few_links m sound from to f.at f.there links w } in
    let i : ℕ = code_of m from to in
    let e : code_of m from to ≡ first_link m from to = code_reached m from to r in
    let low : code_of m from to < 6 = omega (arith, e, link_below m from to r) in
    record {
      link = low;
      sent = sent_on m sound t p source from to f low ready;
      at = beyond_there m sound.size from i;
      nearer = one_less m from to i r.few (subst (Begins m from to) (sym e) (begins m from to r));
    }

pub handed_to_the_monitor : HandedToTheMonitor
handed_to_the_monitor A m sound t p source to f =
    let o = subst (λ (c : ℕ). Plain (outcome_at t m to source p) (after m sound t p source to to f) (number_wanted c 0 m.monitor) (ready_of m to)) (code_oneself m to to (eq-eqb to to refl)) (goes_plainly m sound t p source to to f) in
    let above = above_links m.monitor in
    record {
      processors = ap processors_of o.wanted ∙ above.1;
      sent = o.sent ∙ ap (λ (s : ℕ). plain_send_set s (ready_of m to)) above.0;
      carried = o.carried;
      dropped = o.dropped ∙ ap (λ (s : ℕ). plain_drop_set s (ready_of m to)) above.0;
      leg_sent = o.leg_sent;
      leg_dropped = o.leg_dropped;
    }
