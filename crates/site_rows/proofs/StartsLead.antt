-- The rows of a record once a recall was started.
use Rattle.std.proofs.Common.{◌≡◌, ◌==◌, ℕ, Bool, List, [], ◌∷◌, Some, length, map, refl, sym, ap, subst, ◌∙◌}
use Rattle.std.specs.List.{enumerate_from}
use Rattle.std.proofs.lemmas.List.{append-nil, length-map}
use Rattle.std.proofs.lemmas.List.FromFn.{length-enumerate_from}
use Rattle.frame_core.specs.Numbers.{Recall}
use Rattle.frame_core.specs.Outboxes.{row_for}
use Rattle.scholten_core.specs.Changes.{next_own, begun}
use Rattle.scholten_core.specs.Engagement.{Engagement}
use Rattle.scholten_core.specs.declared.own_recalls.Own.{Own}
use Rattle.site_core.specs.declared.outcomes.Effects.TheVariants as effects
use Rattle.site_core.specs.Quarantines.{with_items}
use Rattle.site_core.specs.Records.{Record}
use Rattle.site_core.specs.Spreading.{AreNewlyHeld}
use Rattle.site_core.specs.Steps.{Starts}
use Rattle.site_rows.specs.declared.changes.RowChanges.{RowChanges}
use Rattle.site_rows.specs.declared.rows.OutboxRow.{OutboxRow}
use Rattle.site_rows.specs.RecordRows.{quarantine_row, outbox_row, recall_row, rows_of}
use Rattle.site_rows.specs.StepRows.{LeadsTo, AreChangesOf, no_changes, no_rows, counts_of, numbers_of}
use Rattle.site_rows.proofs.CapturesLead.{nothing_more}
use Rattle.site_rows.proofs.MessageRows.{numbered_messages, put_own}
use Rattle.site_rows.proofs.QuarantineChanges.{newly_held_rows}

-- the rows of messages of a recall, numbered from n on
abbrev pub message_rows : ℕ → Recall → List (ℕ × List ℕ) → List OutboxRow
message_rows n r out = map outbox_row (enumerate_from n (map (row_for r) out))

pub count_messages : (n : ℕ) (r : Recall) (out : List (ℕ × List ℕ)) → length (message_rows n r out) ≡ length out
count_messages n r out = length-map (enumerate_from n (map (row_for r) out)) outbox_row ∙ length-enumerate_from n (map (row_for r) out) ∙ length-map out (row_for r)

abbrev pub own_begun : List ℕ → List (ℕ × List ℕ) → Own
own_begun root out = record { root = root; ended = length out == 0 }

abbrev pub start_changes : Engagement → List ℕ → List (List ℕ) → List (ℕ × List ℕ) → RowChanges
start_changes e root new out = record no_changes {
  quarantine = map (quarantine_row (next_own e)) new;
  outbox = message_rows e.next_message (next_own e) out;
  recall = recall_row (e.next_recall, own_begun root out) ∷ [];
  numbers = Some (numbers_of (begun e root out));
}

abbrev started : Record → List ℕ → Recall → List (List ℕ) → List (ℕ × List ℕ) → Record
started s root r new out = record s { quarantine = with_items s.quarantine r new; engagement = begun s.engagement root out }

start_leads : (s : Record) (root : List ℕ) (new : List (List ℕ)) (out : List (ℕ × List ℕ)) → AreNewlyHeld s.captured s.quarantine (next_own s.engagement) root new
    → LeadsTo (start_changes s.engagement root new out) (rows_of s) (rows_of (started s root (next_own s.engagement) new out))
start_leads s root new out newly =
    let e = s.engagement in
    record {
      version = refl;
      store = refl;
      site = refl;
      address = refl;
      event = sym (append-nil _);
      part = sym (append-nil _);
      pack = sym (append-nil _);
      packed = sym (append-nil _);
      quarantine = newly_held_rows s.quarantine (next_own e) new newly.ascending (λ j there. ((newly.exact j).0 there).1);
      outbox = numbered_messages e.outbox e.next_message (next_own e) out;
      seen = nothing_more _;
      parent = nothing_more _;
      recall = put_own e.own e.next_recall (own_begun root out);
    }

pub starts_lead : (s t : Record) (root : List ℕ) (recall : Recall) (quarantined numbered : ℕ) (ended : Bool) (c : Starts s root recall quarantined numbered ended t)
    → (changes : RowChanges) → changes ≡ start_changes s.engagement root c.new c.out → AreChangesOf changes (effects.Started recall quarantined numbered ended) s t
starts_lead s t root recall quarantined numbered ended c changes is =
    let e = s.engagement in
    let after : started s root (next_own e) c.new c.out ≡ t = sym (c.after ∙ ap (λ (r : Recall). started s root r c.new c.out) c.next) in
    let leads = subst (λ (u : Record). LeadsTo (start_changes e root c.new c.out) (rows_of s) (rows_of u)) after (start_leads s root c.new c.out c.may.newly) in
    let items : length (map (quarantine_row (next_own e)) c.new) ≡ quarantined = length-map c.new (quarantine_row (next_own e)) ∙ sym c.held in
    let messages : length (message_rows e.next_message (next_own e) c.out) ≡ numbered = count_messages e.next_message (next_own e) c.out ∙ sym c.told in
    let told : counts_of (start_changes e root c.new c.out) ≡ record no_rows { quarantine = quarantined; outbox = numbered; recall = 1; numbers = 1 } =
    (λ i. record no_rows { quarantine = items i; outbox = messages i; recall = 1; numbers = 1 }) in (
      subst (λ (ch : RowChanges). LeadsTo ch (rows_of s) (rows_of t)) (sym is) leads,
      ap counts_of is ∙ told,
    )
