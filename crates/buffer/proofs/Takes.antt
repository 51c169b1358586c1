-- A ready link has room for two, so that a pass with the chip's own ready set fits the chip's words.
use Rattle.std.proofs.Common.{◌≡◌, ℕ, ◌<◌, ◌≤◌, true, leb, List, length, get_or, sym, ap, ◌∙◌, leb-true}
use mathlib.Core.Bool.{and-eq-true_iff}
use Rattle.packet.specs.declared.Packet.{Packet}
use Rattle.steps.specs.declared.Setting.{Setting}
use Rattle.steps.specs.Links.{has}
use Rattle.steps.specs.Deciding.{outcome_of, Source, Checked}
use Rattle.steps.proofs.Bounds.{outcome_sets}
use Rattle.steps.proofs.SentBy.{sends_ready, legs_ready, sent_no_error, leg_no_error}
use Rattle.steps.proofs.SentPackets.{sent_right, leg_right}
use Rattle.steps.proofs.Sets.{has_set}
use Rattle.links.specs.Offsets.{held_at, chip_long}
use Rattle.links.specs.Link.{is_ready, idle, ready_links}
use Rattle.links.specs.Words.{link_in}
use Rattle.links.proofs.Places.{length_places}
use Rattle.buffer.specs.Layout.{chip_in}
use Rattle.buffer.specs.ChipWords.{link_words, Takes}
use Rattle.buffer.proofs.ChipParts.{link_at}
use Rattle.tables.specs.Tables.{ChipTables}

-- a ready link holds at most 6
pub ready_room : (l : List ℕ) (i : ℕ) → i < 6 → has (ready_links (chip_in l).links) i ≡ true → get_or (link_words i l) held_at 0 ≤ 6
ready_room l i hi h =
    let t : is_ready (get_or (chip_in l).links i idle) ≡ true = sym (has_set (λ j. is_ready (get_or (chip_in l).links j idle)) i hi) ∙ h in
    let u : is_ready (link_in (link_words i l)) ≡ true = sym (ap is_ready (link_at i hi l)) ∙ t in
    let k : leb (length (link_in (link_words i l)).held) 6 ≡ true =
    ((and-eq-true_iff (link_in (link_words i l)).up (leb (length (link_in (link_words i l)).held) 6)).0 u).1 in
    leb-true _ _ (rw length_places at k)

module _ (p : Packet) (s : ℕ) (tables : ChipTables) (t : Setting) (h : Checked p s tables t) (from : Source s) where
  -- so the pass fits the chip
  pub takes : (l : List ℕ) → length l ≡ chip_long → t.ready ≡ ready_links (chip_in l).links → Takes l (outcome_of p s tables t)
  takes l long ready =
      let o = outcome_sets p s tables t in
      record {
        long = long;
        sent = o.sent;
        dropped = o.dropped;
        leg_sent = o.leg_sent;
        leg_dropped = o.leg_dropped;
        room = λ i hi. (λ sent. ready_room l i hi (by_ready i (sends_ready p s tables t h from i hi sent)), λ leg. ready_room l i hi (by_ready i (legs_ready p s tables t h from i hi leg)));
        right = λ i hi sent. sent_right p s tables t h from (sent_no_error p s tables t h from i hi sent) i;
        leg = λ i hi leg. leg_right p s tables t h from (leg_no_error p s tables t h from i hi leg);
      }
    where
      by_ready : (i : ℕ) → has t.ready i ≡ true → has (ready_links (chip_in l).links) i ≡ true
      by_ready i f = ap (λ (r : ℕ). has r i) (sym ready) ∙ f
