-- The age of a copy of an MC or P2P packet, and what a pass makes of it: what it sends is a round older, with the stamp of the phase that the packet
-- was injected in, and its span is not over; a pass finds age just at the end of the span.
use mathlib.Core.Path.{◌≡◌, sym, ap, ◌∙◌}
use Prim.Native.Nat.{ℕ, ◌+◌, ◌-◌, ◌/◌, ◌%◌, ◌≤◌, ◌<◌}
use native.Mathlib.Nat.{le_of_eq}
use native.Mathlib.Omega.{arith}
use Rattle.packet.specs.declared.Packet.{Packet}
use Rattle.packet.specs.Control.{kind_of, stamp_of}
use Rattle.packet.proofs.Types.{same_stamped}
use Rattle.steps.specs.declared.Setting.{Setting}
use Rattle.steps.specs.Errors.{errors_of}
use Rattle.steps.specs.Deciding.{decided, outcome_of, Source, Checked}
use Rattle.steps.proofs.Flags.{young_stamp, old_stamp}
use Rattle.steps.proofs.SentBy.{sent_no_error, leg_no_error}
use Rattle.steps.proofs.SentPackets.{SameButMark, sent_same, leg_same}
use Rattle.steps.proofs.Stamping.{outcome_stamped, stamp_from_link, stamp_local}
use Rattle.links.specs.Link.{Flight}
use Rattle.promises.specs.History.{Tag, turned}
use Rattle.promises.specs.Told.{Stamped}
use Rattle.promises.specs.Demand3.{span}
use Rattle.promises.proofs.Flights.{Sends}
use Rattle.promises.proofs.Clock.{code, old_at_end, young_before}
use Rattle.tables.specs.Tables.{ChipTables}

-- a copy in flight after n rounds, with F rounds to a phase
pub record Aged (f n : ℕ) (x : Flight Tag) : Type 0 where
  pub begun : x.tag.before ≤ n
  pub crossed : x.tag.crossed + x.tag.before ≡ n + 1
  pub stamp : stamp_of x.packet.control ≡ code (x.tag.before / f)
  pub due : n ≤ x.tag.before + span f x.tag.before

-- each copy has the type that was injected, and of an MC or P2P packet its age
pub record Ages (f n : ℕ) (x : Flight Tag) : Type 0 where
  pub kind : kind_of x.packet.control ≡ kind_of x.tag.packet.control
  pub aged : Stamped x.packet → Aged f n x

-- so of a copy of such a packet
pub aged_copy : {f n : ℕ} {x : Flight Tag} → Ages f n x → Stamped x.tag.packet → Aged f n x
aged_copy ages low = ages.aged (same_stamped _ _ ages.kind ∙ low)

-- the links that it has crossed
pub aged_crossing : (f n : ℕ) (x : Flight Tag) → Ages f n x → Stamped x.tag.packet → x.tag.crossed ≤ span f x.tag.before + 1
aged_crossing f n x ages low = let h = aged_copy ages low in omega (arith, h.crossed, h.due)

module _ (f n : ℕ) (some : 0 < f) (p : Packet) (s : ℕ) (tables : ChipTables) (t : Setting) (h : Checked p s tables t) (from : Source s) (phase : t.phase ≡ code (n / f)) (tag : Tag) where
  -- what holds of every packet that differs from the stamped one in its mark alone, where there is no error, holds of each that is sent
  sends_same : (Q : Flight Tag → Type 0)
      → ((q : Packet) → errors_of p s t.phase ≡ 0 → SameButMark (outcome_of p s tables t).packet q → Q (record { packet = q; tag = turned tag }))
      → Sends Q (outcome_of p s tables t) (turned tag)
  sends_same Q each =
      record {
        links = λ i hi sent. each _ (sent_no_error p s tables t h from i hi sent) (sent_same p s tables t h from i);
        leg = λ i hi sent. each _ (leg_no_error p s tables t h from i hi sent) (leg_same p s tables t h from);
      }

  -- what is sent has the type of what arrived
  low_before : (q : Packet) → SameButMark (outcome_of p s tables t).packet q → Stamped q → Stamped p
  low_before q same low = same_stamped _ _ (sym (outcome_stamped p s tables t h from).kind ∙ sym same.kind) ∙ low

  -- in a round
  pub aged_sent : s < 6 → Ages f n (record { packet = p; tag = tag }) → Sends (Ages f (n + 1)) (outcome_of p s tables t) (turned tag)
  aged_sent near ages = sends_same (Ages f (n + 1)) each
    where
      older : (q : Packet) → errors_of p s t.phase ≡ 0 → SameButMark (outcome_of p s tables t).packet q → Stamped q → Aged f (n + 1) (record { packet = q; tag = turned tag })
      older q none same low =
          let before : Stamped p = low_before q same low in
          let x = ages.aged before in
          let fresh : ¬ (n ≡ tag.before + span f tag.before) = λ e.
          young_stamp p s t.phase near none before (x.stamp ∙ old_at_end f some tag.before n e ∙ ap (λ (k : ℕ). 3 - k) (sym phase)) in
          record {
            begun = omega (arith, x.begun);
            crossed = omega (arith, x.crossed);
            stamp = same.stamp ∙ ap (λ (q : Packet). stamp_of q.control) (stamp_from_link p s tables t h from near) ∙ x.stamp;
            due = omega (arith, x.due, fresh);
          }

      each : (q : Packet) → errors_of p s t.phase ≡ 0 → SameButMark (outcome_of p s tables t).packet q → Ages f (n + 1) (record { packet = q; tag = turned tag })
      each q none same = record { kind = same.kind ∙ (outcome_stamped p s tables t h from).kind ∙ ages.kind; aged = older q none same }

  -- where it is injected
  pub aged_injected : s ≡ 7 → kind_of p.control ≡ kind_of tag.packet.control → tag.before ≡ n → tag.crossed ≡ 0 → Sends (Ages f n) (outcome_of p s tables t) (turned tag)
  aged_injected local type now none_yet = sends_same (Ages f n) each
    where
      each : (q : Packet) → errors_of p s t.phase ≡ 0 → SameButMark (outcome_of p s tables t).packet q → Ages f n (record { packet = q; tag = turned tag })
      each q none same =
          record {
            kind = same.kind ∙ (outcome_stamped p s tables t h from).kind ∙ type;
            aged = λ low.
                record {
                  begun = le_of_eq now;
                  crossed = omega arith;
                  stamp = same.stamp ∙ stamp_local p s tables t h from local none (low_before q same low) ∙ phase ∙ ap (λ (b : ℕ). code (b / f)) (sym now);
                  due = omega arith;
                };
          }

  -- age is found at the end of the span
  pub old_late : (s < 6 → Ages f n (record { packet = p; tag = tag })) → (outcome_of p s tables t).errors / 2 % 2 ≡ 1 → tag.before + span f tag.before ≤ n
  unfolding outcome_of decided
  old_late ages e =
      let found = old_stamp p s t.phase e in
      let x = (ages found.0).aged found.1 in
      let late : ¬ (n < tag.before + span f tag.before) = λ l.
      young_before f some tag.before n x.begun l (sym x.stamp ∙ found.2 ∙ ap (λ (k : ℕ). 3 - k) phase) in
      omega (arith, late)
