-- The rows of a record once a signal cleared a message.
use Rattle.std.proofs.Common.{◌≡◌, ℕ, pos, Bool, true, false, List, [], ◌∷◌, Option, Some, None, map, fold, refl, sym, ap, subst, ◌∙◌, IsPermutation}
use Rattle.std.specs.Ordering.{nat_cmp}
use Rattle.std.specs.FinMap.{FinMap, get, insert, remove, entries}
use Rattle.std.proofs.lemmas.List.{append-nil}
use Rattle.std.proofs.lemmas.List.Sorted.{IsPermutation-refl}
use Rattle.frame_core.specs.Identifiers.{recall_cmp}
use Rattle.frame_core.specs.Numbers.{Recall, Message}
use Rattle.frame_core.specs.Outboxes.{has_rows}
use Rattle.scholten_core.proofs.Live.{live_known}
use Rattle.scholten_core.specs.Changes.{settled, at_row}
use Rattle.scholten_core.specs.Engagement.{Engagement, live_own}
use Rattle.scholten_core.specs.OwnRecalls.{with_end}
use Rattle.scholten_core.specs.declared.own_recalls.Own.{Own}
use Rattle.scholten_core.specs.declared.outcomes.Signalled.{Signalled}
use Rattle.scholten_core.specs.declared.outcomes.Signalled.TheVariants.{Stale, Cleared, ParentDue, Ended}
use Rattle.site_core.specs.declared.outcomes.Effects.TheVariants as effects
use Rattle.site_core.specs.Records.{Record}
use Rattle.site_core.specs.Steps.{Clears}
use Rattle.site_rows.specs.declared.changes.RecallKey.{RecallKey}
use Rattle.site_rows.specs.declared.changes.RowChanges.{RowChanges}
use Rattle.site_rows.specs.declared.rows.RecallRow.{RecallRow}
use Rattle.site_rows.specs.RecordRows.{parent_row, recall_row, rows_of}
use Rattle.site_rows.specs.StepRows.{LeadsTo, AreChangesOf, no_changes, counts_of, without_parent, put_recall}
use Rattle.site_rows.proofs.CapturesLead.{nothing_more}
use Rattle.site_rows.proofs.MessageRows.{signalled_message, left_parent, put_own, key_of}

-- The engagement: the message goes, and with the last one of its recall the parent goes, or the site's own recall ends.

abbrev cleared : Engagement → ℕ → Engagement
cleared e n = record e { outbox = remove e.outbox n }

abbrev IsSettled : Engagement → ℕ → Recall → Engagement → Signalled → Type 0
IsSettled e n r t Stale = ⊥
IsSettled e n r t Cleared = t ≡ cleared e n
IsSettled e n r t (ParentDue parent) = t ≡ record (cleared e n) { parents = remove e.parents r }
IsSettled e n r t (Ended q) = (q ≡ r) × (own : Own) × (get e.own r.number ≡ Some own) × (t ≡ record (cleared e n) { own = insert e.own r.number (with_end own) })

is_settled : (e : Engagement) (n : ℕ) (r : Recall) (left : Bool) (parent : Option Message) (live : Option Own) → live_own (cleared e n) r ≡ live
    → IsSettled e n r (settled (cleared e n) r left parent live).0 (settled (cleared e n) r left parent live).1
is_settled e n r true parent live is = refl
is_settled e n r false (Some parent) live is = refl
is_settled e n r false None (Some own) is = (refl, own, live_known (cleared e n) r own is, refl)
is_settled e n r false None None is = refl

pub clears_settled : (s t : Record) (m : Message) (by : ℕ) (answer : Signalled) (c : Clears s m by answer t) → IsSettled s.engagement m.number c.row.recall t.engagement answer
clears_settled s t m by answer c =
    let e = s.engagement in
    let left = cleared e m.number in
    let r = c.row.recall in
    let is : settled left r (has_rows left.outbox r) (get left.parents r) (live_own left r) ≡ (t.engagement, answer) =
    sym (ap (at_row e m.number) c.has.stands) ∙ c.engaged in
    subst (λ (p : Engagement × Signalled). IsSettled e m.number r p.0 p.1) is (is_settled e m.number r (has_rows left.outbox r) (get left.parents r) (live_own left r) refl)

abbrev pub clear_changes : ℕ → List RecallKey → List RecallRow → RowChanges
clear_changes n left recall = record no_changes { signalled = pos n ∷ []; left = left; recall = recall }

abbrev after_clearing : Record → ℕ → FinMap recall_cmp Message → FinMap nat_cmp Own → Record
after_clearing s n parents own = record s { engagement = record (cleared s.engagement n) { parents = parents; own = own } }

module _ (s t : Record) (n : ℕ) (parents : FinMap recall_cmp Message) (own : FinMap nat_cmp Own) (left : List RecallKey) (recall : List RecallRow)
    (after : t ≡ after_clearing s n parents own)
    (parents_left : IsPermutation (fold without_parent (map parent_row (entries s.engagement.parents)) left) (map parent_row (entries parents)))
    (own_put : IsPermutation (fold put_recall (map recall_row (entries s.engagement.own)) recall) (map recall_row (entries own))) where
  leads : LeadsTo (clear_changes n left recall) (rows_of s) (rows_of (after_clearing s n parents own))
  leads = record {
    version = refl;
    store = refl;
    site = refl;
    address = refl;
    event = sym (append-nil _);
    part = sym (append-nil _);
    pack = sym (append-nil _);
    packed = sym (append-nil _);
    quarantine = nothing_more _;
    outbox = signalled_message s.engagement.outbox n;
    seen = nothing_more _;
    parent = subst (λ rows. IsPermutation (fold without_parent rows left) (map parent_row (entries parents))) (sym (append-nil (map parent_row (entries s.engagement.parents)))) parents_left;
    recall = own_put;
  }

  clearing_leads : (changes : RowChanges) → changes ≡ clear_changes n left recall → LeadsTo changes (rows_of s) (rows_of t)
  clearing_leads changes is =
      subst (λ (ch : RowChanges). LeadsTo ch (rows_of s) (rows_of t)) (sym is) (subst (λ (u : Record). LeadsTo (clear_changes n left recall) (rows_of s) (rows_of u)) (sym after) leads)

module _ (s t : Record) (m : Message) (by : ℕ) where
  pub cleared_leads : Clears s m by Cleared t → (changes : RowChanges) → changes ≡ clear_changes m.number [] [] → AreChangesOf changes effects.Cleared s t
  cleared_leads c changes is =
      let e = s.engagement in
      let after : t ≡ after_clearing s m.number e.parents e.own = c.after ∙ ap (λ (x : Engagement). record s { engagement = x }) (clears_settled s t m by Cleared c) in
      (clearing_leads s t m.number e.parents e.own [] [] after (IsPermutation-refl _) (IsPermutation-refl _) changes is, ap counts_of is)

  pub parent_due_leads : (parent : Message) (c : Clears s m by (ParentDue parent) t) → (changes : RowChanges) → changes ≡ clear_changes m.number (key_of c.row.recall ∷ []) []
      → AreChangesOf changes (effects.ParentDue parent) s t
  parent_due_leads parent c changes is =
      let e = s.engagement in
      let r = c.row.recall in
      let after : t ≡ after_clearing s m.number (remove e.parents r) e.own = c.after ∙ ap (λ (x : Engagement). record s { engagement = x }) (clears_settled s t m by (ParentDue parent) c) in
      (clearing_leads s t m.number (remove e.parents r) e.own (key_of r ∷ []) [] after (left_parent e.parents r) (IsPermutation-refl _) changes is, ap counts_of is)

  -- the own recall of an end, as it stood before
  abbrev pub before_end : (recall : Recall) → Clears s m by (Ended recall) t → Own
  before_end recall c = (clears_settled s t m by (Ended recall) c).1

  pub ended_was : (recall : Recall) (c : Clears s m by (Ended recall) t) → get s.engagement.own recall.number ≡ Some (before_end recall c)
  ended_was recall c =
      let is = clears_settled s t m by (Ended recall) c in
      ap (λ (q : Recall). get s.engagement.own q.number) is.0 ∙ is.2

  pub ended_leads : (recall : Recall) (c : Clears s m by (Ended recall) t) → (changes : RowChanges)
      → changes ≡ clear_changes m.number [] (recall_row (recall.number, with_end (before_end recall c)) ∷ []) → AreChangesOf changes (effects.Ended recall) s t
  ended_leads recall c changes is =
      let e = s.engagement in
      let r = c.row.recall in
      let settled = clears_settled s t m by (Ended recall) c in
      let own = with_end settled.1 in
      let after : t ≡ after_clearing s m.number e.parents (insert e.own r.number own) = c.after ∙ ap (λ (x : Engagement). record s { engagement = x }) settled.3 in
      let as_settled : changes ≡ clear_changes m.number [] (recall_row (r.number, own) ∷ []) = is ∙ ap (λ (q : Recall). clear_changes m.number [] (recall_row (q.number, own) ∷ [])) settled.0 in
      (clearing_leads s t m.number e.parents (insert e.own r.number own) [] (recall_row (r.number, own) ∷ []) after (IsPermutation-refl _) (put_own e.own r.number own) changes as_settled, ap counts_of is)
