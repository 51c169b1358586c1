-- Every pass, whatever the packet, the tables and the setting: its account closes.
use Rattle.std.proofs.Common.{◌≡◌, ℕ, ◌+◌, true, false, cond, ◌&&◌, eqb, ltb, sym, ap, ◌∙◌, ⊎_elim, true≢false}
use Rattle.packet.specs.declared.Packet.{Packet}
use Rattle.packet.specs.Control.{mark_of}
use Rattle.packet.specs.Types.{is_marked}
use Rattle.packet.proofs.Types.{same_marked}
use Rattle.tables.specs.Tables.{ChipTables}
use Rattle.steps.specs.declared.Setting.{Setting}
use Rattle.steps.specs.Errors.{errors_of, stamped_of, bad_local}
use Rattle.steps.specs.Wants.{wanted_of}
use Rattle.steps.specs.Deciding.{outcome_of, Source, Checked}
use Rattle.steps.proofs.Emergency.{emergency_wants_nothing}
use Rattle.steps.proofs.Flags.{without_error}
use Rattle.steps.proofs.Stamping.{StampedFrom, stamped}
use Rattle.steps.proofs.SentBy.{no_link_wanted}
use Rattle.kept.specs.Units.{weight_in, extra, weight_sent, settled}
use Rattle.kept.proofs.Account.{Consistent, account_decided}

module _ (p : Packet) (s : ℕ) (tables : ChipTables) (t : Setting) (h : Checked p s tables t) (from : Source s) where
  consistent : Consistent (errors_of p s t.phase) (stamped_of p s (errors_of p s t.phase) t.phase) s (wanted_of (errors_of p s t.phase) p s tables t)
  consistent =
      record {
        quiet = no_link_wanted p s tables t h from;
        emergency = λ none marked two. emergency_wants_nothing _ p s tables t none (before marked) (sym q.mark ∙ two);
        arrived = λ none marked one. ⊎_elim (λ near. near) (λ local. absurd (bad local (before marked) (sym q.mark ∙ one) (without_error p s t.phase none).local)) from;
      }
    where
      q : StampedFrom p (stamped_of p s (errors_of p s t.phase) t.phase)
      q = stamped p s (errors_of p s t.phase) t.phase h.control h.phase

      before : is_marked (stamped_of p s (errors_of p s t.phase) t.phase).control ≡ true → is_marked p.control ≡ true
      before marked = same_marked _ _ (sym q.kind) ∙ marked

      bad : s ≡ 7 → is_marked p.control ≡ true → mark_of p.control ≡ 1 → bad_local p.control s ≡ false → ⊥
      bad local marked one f =
          let wrong : true ≡ false = sym (simp (local, marked, one)) ∙ f in
          true≢false wrong

  -- "weight in plus extra branches equals delivered plus ended in error plus dropped plus swallowed plus weight sent"
  pub account : weight_in p s + extra (outcome_of p s tables t)
      ≡ settled (outcome_of p s tables t) s + weight_sent (outcome_of p s tables t)
  unfolding outcome_of
  account =
      let e = errors_of p s t.phase in
      let q = stamped p s e t.phase h.control h.phase in
      let same : weight_in p s ≡ weight_in (stamped_of p s e t.phase) s =
      λ i. cond (ltb s 6) (cond (same_marked _ _ (sym q.kind) i && eqb (sym q.mark i) 1) 2 1) 1 in
      ap (λ (n : ℕ). n + extra (outcome_of p s tables t)) same
      ∙ account_decided e (stamped_of p s e t.phase) s t.phase (wanted_of e p s tables t) t.ready h.ready consistent
