-- The rows that each step changes, by its input and its effects.
use Rattle.std.proofs.Common.{◌≡◌, ℕ, ◌+◌, Bool, cond, List, [], ◌∷◌, Option, Some, length, map, drop, ap, ◌∙◌, sym, subst}
use Rattle.std.specs.Cmp.{nat_cmp_total}
use Rattle.std.specs.FinMap.{FinMap, nat_cmp-IsAntisymmetric, get, insert}
use Rattle.std.specs.Ordering.{nat_cmp}
use Rattle.frame_core.specs.declared.frames.Frame.TheVariants as frames
use Rattle.frame_core.specs.declared.rows.Row.{Row}
use Rattle.frame_core.specs.Numbers.{Recall, Message}
use Rattle.frame_core.specs.Outboxes.{numbered}
use Rattle.frame_core.proofs.Lookups.{get_here}
use Rattle.scholten_core.specs.Changes.{next_own, begun}
use Rattle.scholten_core.specs.Engagement.{Engagement}
use Rattle.scholten_core.specs.OwnRecalls.{with_end}
use Rattle.scholten_core.specs.declared.own_recalls.Own.{Own}
use Rattle.site_core.specs.declared.inputs.SiteInput.TheVariants.{Capture, Start, Deliver}
use Rattle.site_core.specs.declared.outcomes.Effects.{Effects}
use Rattle.site_core.specs.declared.outcomes.Effects.TheVariants as effects
use Rattle.site_core.specs.Records.{Record}
use Rattle.site_core.specs.Spreading.{AreNewlyHeld}
use Rattle.site_core.specs.Steps.{Does, Starts, Takes}
use Rattle.site_core.specs.Undoing.{NewlyHeldBy, NewlyHeldOnce}
use Rattle.site_core.proofs.SameLists.{same_newly}
use Rattle.site_rows.specs.declared.changes.RowChanges.{RowChanges}
use Rattle.site_rows.specs.declared.changes.Numbers.{Numbers}
use Rattle.site_rows.specs.declared.changes.RecallKey.{RecallKey}
use Rattle.site_rows.specs.declared.rows.OutboxRow.{OutboxRow}
use Rattle.site_rows.specs.declared.rows.QuarantineRow.{QuarantineRow}
use Rattle.site_rows.specs.declared.rows.RecallRow.{RecallRow}
use Rattle.site_rows.specs.RecordRows.{quarantine_row, seen_row, parent_row, recall_row}
use Rattle.site_rows.specs.StepRows.{AreChangesOf, no_changes, numbers_of, numbers_changed}
use Rattle.site_rows.proofs.CapturesLead.{event_changes, captures_lead}
use Rattle.site_rows.proofs.ClearsLead.{clear_changes, cleared_leads, parent_due_leads, before_end, ended_was, ended_leads}
use Rattle.site_rows.proofs.MessageRows.{key_of}
use Rattle.site_rows.proofs.StartsLead.{message_rows, own_begun, starts_lead}
use Rattle.site_rows.proofs.TakesLead.{messages_numbered, takes_lead}

pub capture_leads : (s t : Record) (bytes : List ℕ) (told : Effects) → Does s (Capture bytes) told t
    → (changes : RowChanges) → changes ≡ event_changes s (drop (length s.captured.events) t.captured.events) → AreChangesOf changes told s t
capture_leads s t bytes (effects.Captured fresh known skipped) h changes is = captures_lead s t bytes fresh known skipped h changes is
capture_leads s t bytes other h changes is = absurd h

-- a capture leaves the sites as they are
pub capture_sites : (s t : Record) (bytes : List ℕ) (told : Effects) → Does s (Capture bytes) told t → t.sites ≡ s.sites
capture_sites s t bytes (effects.Captured fresh known skipped) h = ap (λ (x : Record). x.sites) h.rest
capture_sites s t bytes other h = absurd h

-- Each piece of the changes as it is found at the record after the step, or beside that.

-- the rows of the items that came under a recall are those of any that did
same_held : (s : Record) (r : Recall) (i : List ℕ) (held new : List (List ℕ)) (rows : List QuarantineRow) → AreNewlyHeld s.captured s.quarantine r i held → AreNewlyHeld s.captured s.quarantine r i new
    → rows ≡ map (quarantine_row r) held → rows ≡ map (quarantine_row r) new
same_held s r i held new rows were are is = is ∙ ap (map (quarantine_row r)) (same_newly s.captured s.quarantine r i held new were are)

abbrev pub AreNumberedRows : Record → ℕ → List OutboxRow → Type 0
AreNumberedRows t n rows = (before : FinMap nat_cmp Row) (r : Recall) (out : List (ℕ × List ℕ)) → t.engagement.outbox ≡ numbered before n r out → t.engagement.next_message ≡ n + length out
    → rows ≡ message_rows n r out

abbrev pub AreOwnRows : Record → ℕ → List RecallRow → Type 0
AreOwnRows t n rows = (own : Own) → get t.engagement.own n ≡ Some own → rows ≡ recall_row (n, own) ∷ []

abbrev pub AreEndedRows : Record → ℕ → List RecallRow → Type 0
AreEndedRows s n rows = (own : Own) → get s.engagement.own n ≡ Some own → rows ≡ recall_row (n, with_end own) ∷ []

abbrev pub AreRecallKeys : Record → ℕ → List RecallKey → Type 0
AreRecallKeys s n keys = (row : Row) → get s.engagement.outbox n ≡ Some row → keys ≡ key_of row.recall ∷ []

abbrev pub started_changes : List QuarantineRow → List OutboxRow → List RecallRow → Numbers → RowChanges
started_changes quarantine outbox recall numbers = record no_changes { quarantine = quarantine; outbox = outbox; recall = recall; numbers = Some numbers }

pub start_leads : (s t : Record) (root : List ℕ) (r : Recall) (quarantined count : ℕ) (ended : Bool) → Starts s root r quarantined count ended t
    → (n : ℕ) → n ≡ s.engagement.next_message → (held : List (List ℕ)) → NewlyHeldBy s (Start root) held
    → (quarantine : List QuarantineRow) (outbox : List OutboxRow) (own : List RecallRow) → quarantine ≡ map (quarantine_row r) held → AreNumberedRows t n outbox → AreOwnRows t r.number own
    → (changes : RowChanges) → changes ≡ started_changes quarantine outbox own (numbers_of t.engagement) → AreChangesOf changes (effects.Started r quarantined count ended) s t
start_leads s t root r quarantined count ended c n at held were quarantine outbox own new messages owns changes is =
    let e = s.engagement in
    let same : r ≡ next_own e = c.next in
    let begins = own_begun root c.out in
    let after : t.engagement ≡ begun e root c.out = ap (λ (x : Record). x.engagement) c.after in
    let items : quarantine ≡ map (quarantine_row (next_own e)) c.new =
    same_held s (next_own e) root held c.new quarantine were c.may.newly (new ∙ ap (λ (q : Recall). map (quarantine_row q) held) same) in
    let rows : outbox ≡ message_rows e.next_message (next_own e) c.out =
    messages e.outbox (next_own e) c.out (ap (λ (x : Engagement). x.outbox) after ∙ ap (λ k. numbered e.outbox k (next_own e) c.out) (sym at))
    (ap (λ (x : Engagement). x.next_message) after ∙ ap (λ k. k + length c.out) (sym at))
    ∙ ap (λ k. message_rows k (next_own e) c.out) at in
    let stands : get t.engagement.own r.number ≡ Some begins =
    ap (λ (x : Engagement). get x.own r.number) after ∙ ap (λ (q : Recall). get (insert e.own e.next_recall begins) q.number) same
    ∙ get_here nat_cmp_total nat_cmp-IsAntisymmetric e.own e.next_recall begins in
    let recalls : own ≡ recall_row (e.next_recall, begins) ∷ [] = owns begins stands ∙ ap (λ (q : Recall). recall_row (q.number, begins) ∷ []) same in
    starts_lead s t root r quarantined count ended c changes (is ∙ (λ i. started_changes (items i) (rows i) (recalls i) (numbers_of (after i))))

abbrev pub received_changes : Record → Record → Message → Recall → List QuarantineRow → List OutboxRow → Bool → RowChanges
received_changes s t m r quarantine outbox owed = record no_changes {
  quarantine = quarantine;
  outbox = outbox;
  seen = seen_row (m, r) ∷ [];
  parent = cond owed (parent_row (r, m) ∷ []) [];
  numbers = numbers_changed s.engagement t.engagement;
}

pub receive_leads : (s t : Record) (m : Message) (dest : ℕ) (r : Recall) (i : List ℕ) (quarantined count : ℕ) (owed : Bool) → Takes s m dest r i quarantined count owed t
    → (n : ℕ) → n ≡ s.engagement.next_message → (held : List (List ℕ)) → NewlyHeldBy s (Deliver (frames.Recall m dest r i)) held
    → (quarantine : List QuarantineRow) (outbox : List OutboxRow) → quarantine ≡ map (quarantine_row r) held → AreNumberedRows t n outbox
    → (changes : RowChanges) → changes ≡ received_changes s t m r quarantine outbox owed → AreChangesOf changes (effects.Received quarantined count owed) s t
receive_leads s t m dest r i quarantined count owed c n at held were quarantine outbox new messages changes is =
    let e = s.engagement in
    let found = messages_numbered s t m dest r i quarantined count owed c in
    let newly = subst (λ (o : Option Recall). NewlyHeldOnce s o r i held) c.may.unseen were in
    let items : quarantine ≡ map (quarantine_row r) c.new = same_held s r i held c.new quarantine newly c.may.newly new in
    let rows : outbox ≡ message_rows e.next_message r c.out =
    messages e.outbox r c.out (found.0 ∙ ap (λ k. numbered e.outbox k r c.out) (sym at)) (found.1 ∙ ap (λ k. k + length c.out) (sym at)) ∙ ap (λ k. message_rows k r c.out) at in
    takes_lead s t m dest r i quarantined count owed c changes (is ∙ (λ j. received_changes s t m r (items j) (rows j) owed))

-- A signal, of the message of this number.
module _ (s t : Record) (m : Message) (by : ℕ) (told : Effects) (n : ℕ) (at : m.number ≡ n) (does : Does s (Deliver (frames.Signal m by)) told t) where
  abbrev As : Effects → Type 0
  As e = Does s (Deliver (frames.Signal m by)) e t

  pub signal_clears : told ≡ effects.Cleared → (changes : RowChanges) → changes ≡ clear_changes n [] [] → AreChangesOf changes told s t
  signal_clears is changes same =
      subst (λ (e : Effects). AreChangesOf changes e s t) (sym is)
      (cleared_leads s t m by (subst As is does) changes (same ∙ ap (λ k. clear_changes k [] []) (sym at)))

  pub signal_leaves : (parent : Message) → told ≡ effects.ParentDue parent → (keys : List RecallKey) → AreRecallKeys s n keys
      → (changes : RowChanges) → changes ≡ clear_changes n keys [] → AreChangesOf changes told s t
  signal_leaves parent is keys are changes same =
      let c = subst As is does in
      let left : keys ≡ key_of c.row.recall ∷ [] = are c.row (ap (get s.engagement.outbox) (sym at) ∙ c.has.stands) in
      subst (λ (e : Effects). AreChangesOf changes e s t) (sym is)
      (parent_due_leads s t m by parent c changes (same ∙ (λ i. clear_changes (sym at i) (left i) [])))

  pub signal_ends : (recall : Recall) → told ≡ effects.Ended recall → (rows : List RecallRow) → AreEndedRows s recall.number rows
      → (changes : RowChanges) → changes ≡ clear_changes n [] rows → AreChangesOf changes told s t
  signal_ends recall is rows are changes same =
      let c = subst As is does in
      let own = before_end s t m by recall c in
      let ended : rows ≡ recall_row (recall.number, with_end own) ∷ [] = are own (ended_was s t m by recall c) in
      subst (λ (e : Effects). AreChangesOf changes e s t) (sym is)
      (ended_leads s t m by recall c changes (same ∙ (λ i. clear_changes (sym at i) [] (ended i))))
