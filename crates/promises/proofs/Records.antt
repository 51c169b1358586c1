-- The joined records of a history's log are those of its passes, in order; and every pass is decided by the link states and counts that it
-- found.
use mathlib.Core.Path.{◌≡◌, refl, sym, ◌∙◌}
use mathlib.Core.List.{List, [], ◌∷◌, ◌++◌, append-nil}
use Prim.Native.Nat.{ℕ, ◌<◌}
use lib.ListN.{get_or}
use Rattle.steps.specs.Links.{has}
use Rattle.steps.specs.Deciding.{outcome_of}
use Rattle.links.specs.Link.{idle, is_ready}
use Rattle.mesh.specs.Steps.{log_of}
use Rattle.steps.proofs.Sets.{has_set}
use Rattle.promises.specs.History.{Passage, Event, packet_passed, registers_emptied}
use Rattle.promises.specs.Told.{records_of}
use Rattle.promises.specs.Demand3.{Log, NoStaleBlock}
use Rattle.promises.proofs.Told.{records_append}
use Rattle.promises.proofs.Runs.{passage, always_steady, always_each}

one_record : (p : Passage) (es : List Event) (log : List ℕ) → log ≡ records_of es → log ++ log_of p.arrival.chip p.outcome ≡ records_of (es ++ packet_passed p ∷ [])
unfolding records_of
one_record p es log e =
    (λ i. e i ++ sym (append-nil (log_of p.arrival.chip p.outcome)) i) ∙ sym (records_append es (packet_passed p ∷ []))

pub log_told : Log
unfolding records_of
log_told =
    always_steady (λ m es log. log ≡ records_of es)
    (record {
      opens = λ w h f monitor. refl;
      aside = λ m es log p. p;
      passes = λ t n m a es log sound codes h p. one_record (passage t n m a) es log p;
      over = λ m es log p. p;
      links = λ m chip link up es log p. p;
      reads = λ m chip es log sound h p. p ∙ sym (append-nil (records_of es)) ∙ sym (records_append es (registers_emptied chip ∷ []));
    })

-- What is said of a pass: what decides it, and that the ready set has just the links that are up and hold at most 6.
abbrev Afresh : Passage → Type 0
Afresh p =
    (p.outcome ≡ outcome_of p.arrival.flight.packet p.arrival.source p.tables p.setting)
    × ((i : ℕ) → i < 6 → has p.setting.ready i ≡ is_ready (get_or p.here.links i idle))

pub no_stale_block : NoStaleBlock
no_stale_block = always_each Afresh (λ t n m a sound codes h. (refl, has_set (λ i. is_ready (get_or (passage t n m a).here.links i idle))))
