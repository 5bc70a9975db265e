-- The rows of a record once a message of a recall was taken.
use Rattle.std.proofs.Common.{◌≡◌, ℕ, pos, zero, suc, ◌+◌, nat_lt, Bool, true, false, cond, List, [], ◌∷◌, ◌++◌, Option, Some, None, length, map, refl, sym, ap, subst, ◌∙◌, arith, IsPermutation}
use Rattle.std.specs.Prelude.{if◌then◌else◌, is_some, ⊤}
use Rattle.std.specs.FinMap.{get, insert, entries}
use Rattle.std.proofs.lemmas.Bool.Decides.{nat_tests}
use Rattle.std.proofs.lemmas.List.{append-nil, length-map}
use Rattle.std.proofs.lemmas.List.Sorted.{IsPermutation-refl}
use Rattle.frame_core.specs.Numbers.{Recall, Message}
use Rattle.frame_core.specs.Orders.{recall_total, recall_exact, message_total, message_exact}
use Rattle.frame_core.specs.Outboxes.{has_rows, numbered}
use Rattle.scholten_core.specs.Changes.{noted, engaged, at_first}
use Rattle.scholten_core.specs.Engagement.{Engagement, live_own}
use Rattle.scholten_core.specs.declared.own_recalls.Own.{Own}
use Rattle.scholten_core.specs.declared.outcomes.Received.{Received}
use Rattle.scholten_core.specs.declared.outcomes.Received.TheVariants.{Repeat, Owe, SignalNow}
use Rattle.site_core.specs.declared.outcomes.Effects.TheVariants as effects
use Rattle.site_core.specs.Quarantines.{with_items}
use Rattle.site_core.specs.Records.{Record}
use Rattle.site_core.specs.Spreading.{AreNewlyHeld}
use Rattle.site_core.specs.Steps.{Takes, reply}
use Rattle.site_rows.specs.declared.changes.RowChanges.{RowChanges}
use Rattle.site_rows.specs.declared.rows.ParentRow.{ParentRow}
use Rattle.site_rows.specs.declared.rows.StoreRow.{StoreRow}
use Rattle.site_rows.specs.RecordRows.{quarantine_row, seen_row, parent_row, store_row, rows_of}
use Rattle.site_rows.specs.declared.tables.Version.TheVariants.{Second}
use Rattle.site_rows.specs.StepRows.{LeadsTo, AreChangesOf, no_changes, no_rows, counts_of, counts_told, numbers_of, numbers_changed, renumbered}
use Rattle.site_rows.proofs.CapturesLead.{nothing_more}
use Rattle.site_rows.proofs.ChangedEntries.{new_row}
use Rattle.site_rows.proofs.MessageRows.{numbered_messages}
use Rattle.site_rows.proofs.QuarantineChanges.{newly_held_rows}
use Rattle.site_rows.proofs.StartsLead.{message_rows, count_messages}

-- The engagement: the message is seen, and becomes the parent where its signal is owed.

abbrev taken : Engagement → Message → Recall → List (ℕ × List ℕ) → Bool → Engagement
taken e m r out owed = record (noted e m r out) { parents = cond owed (insert e.parents r m) e.parents }

-- it becomes one only where there was none
abbrev HadNone : Engagement → Recall → Bool → Type 0
HadNone e r owed = owed ≡ true → get e.parents r ≡ None

abbrev IsTaken : Engagement → Message → Recall → List (ℕ × List ℕ) → Engagement → Received → Type 0
IsTaken e m r out t Repeat = ⊤
IsTaken e m r out t (Owe n) = (t ≡ taken e m r out true) × (n ≡ length out) × HadNone e r true
IsTaken e m r out t (SignalNow n) = (t ≡ taken e m r out false) × (n ≡ length out) × HadNone e r false

not_owed : (e : Engagement) (r : Recall) → HadNone e r false
not_owed e r is = cc

is_taken : (e : Engagement) (m : Message) (r : Recall) (out : List (ℕ × List ℕ)) (left : Bool) (parent : Option Message) (live : Option Own) → get e.parents r ≡ parent
    → IsTaken e m r out (engaged (noted e m r out) m r (length out) left parent live).0 (engaged (noted e m r out) m r (length out) left parent live).1
is_taken e m r out false parent live was = (refl, refl, not_owed e r)
is_taken e m r out true (Some first) live was = (refl, refl, not_owed e r)
is_taken e m r out true None (Some own) was = (refl, refl, not_owed e r)
is_taken e m r out true None None was = (refl, refl, λ _. was)

record IsReceived (e : Engagement) (m : Message) (r : Recall) (out : List (ℕ × List ℕ)) (t : Engagement) (numbered : ℕ) (owed : Bool) : Type 0 where
  pub after : t ≡ taken e m r out owed
  pub count : numbered ≡ length out
  pub none : HadNone e r owed

is_received : (e : Engagement) (m : Message) (r : Recall) (out : List (ℕ × List ℕ)) (t : Engagement) (numbered : ℕ) (owed : Bool) → IsTaken e m r out t (reply numbered owed)
    → IsReceived e m r out t numbered owed
is_received e m r out t numbered true h = record { after = h.0; count = h.1; none = h.2 }
is_received e m r out t numbered false h = record { after = h.0; count = h.1; none = h.2 }

-- The next numbers.

raised : (n k : ℕ) → nat_lt n (n + k) ≡ nat_lt 0 k
raised n zero = grind (arith, nat_tests)
raised n (suc k) = grind (arith, nat_tests)

numbers_by : (e t : Engagement) (b : Bool) → nat_lt e.next_message t.next_message ≡ b → ◌≡◌ {A = ℕ} (cond (is_some (numbers_changed e t)) 1 0) (cond b 1 0)
numbers_by e t true is = rw is refl
numbers_by e t false is = rw is refl

unraised : (n k : ℕ) → nat_lt n (n + k) ≡ false → n + k ≡ n
unraised n k is = grind (arith, nat_tests)

abbrev after_taking : Record → Message → Recall → List (List ℕ) → List (ℕ × List ℕ) → Bool → Record
after_taking s m r new out owed = record s { quarantine = with_items s.quarantine r new; engagement = taken s.engagement m r out owed }

store_by : (s : Record) (m : Message) (r : Recall) (new : List (List ℕ)) (out : List (ℕ × List ℕ)) (owed : Bool) (b : Bool)
    → nat_lt s.engagement.next_message (s.engagement.next_message + length out) ≡ b
    → store_row Second (after_taking s m r new out owed) ∷ [] ≡ renumbered (if b then Some (numbers_of (taken s.engagement m r out owed)) else None) (store_row Second s ∷ [])
store_by s m r new out owed true is = refl
store_by s m r new out owed false is =
    let numbered_to : ℕ → StoreRow = λ k. record (store_row Second s) { next_message = pos k } in
    ap (λ k. numbered_to k ∷ []) (unraised s.engagement.next_message (length out) is)

parent_by : (e : Engagement) (m : Message) (r : Recall) (owed : Bool) → HadNone e r owed
    → IsPermutation (map parent_row (entries e.parents) ++ cond owed (parent_row (r, m) ∷ []) []) (map parent_row (entries (cond owed (insert e.parents r m) e.parents)))
parent_by e m r true none = new_row recall_total recall_exact parent_row e.parents r m (none refl)
parent_by e m r false none = nothing_more _

abbrev pub take_changes : Engagement → Engagement → Message → Recall → List (List ℕ) → List (ℕ × List ℕ) → Bool → RowChanges
take_changes e t m r new out owed = record no_changes {
  quarantine = map (quarantine_row r) new;
  outbox = message_rows e.next_message r out;
  seen = seen_row (m, r) ∷ [];
  parent = cond owed (parent_row (r, m) ∷ []) [];
  numbers = numbers_changed e t;
}

take_leads : (s : Record) (m : Message) (r : Recall) (i : List ℕ) (new : List (List ℕ)) (out : List (ℕ × List ℕ)) (owed : Bool)
    → get s.engagement.seen m ≡ None → AreNewlyHeld s.captured s.quarantine r i new → HadNone s.engagement r owed
    → LeadsTo (take_changes s.engagement (taken s.engagement m r out owed) m r new out owed) (rows_of s) (rows_of (after_taking s m r new out owed))
take_leads s m r i new out owed unseen newly none =
    let e = s.engagement in
    record {
      version = refl;
      store = store_by s m r new out owed (nat_lt e.next_message (e.next_message + length out)) refl;
      site = refl;
      address = refl;
      event = sym (append-nil _);
      part = sym (append-nil _);
      pack = sym (append-nil _);
      packed = sym (append-nil _);
      quarantine = newly_held_rows s.quarantine r new newly.ascending (λ j there. ((newly.exact j).0 there).1);
      outbox = numbered_messages e.outbox e.next_message r out;
      seen = new_row message_total message_exact seen_row e.seen m r unseen;
      parent = parent_by e m r owed none;
      recall = IsPermutation-refl _;
    }

parents_counted : (row : ParentRow) (owed : Bool) → ◌≡◌ {A = ℕ} (length (cond owed (row ∷ []) [])) (cond owed 1 0)
parents_counted row true = refl
parents_counted row false = refl

-- what the message made of the engagement
became : (s t : Record) (m : Message) (dest : ℕ) (r : Recall) (i : List ℕ) (quarantined numbered : ℕ) (owed : Bool) (c : Takes s m dest r i quarantined numbered owed t)
    → IsReceived s.engagement m r c.out t.engagement numbered owed
became s t m dest r i quarantined numbered owed c =
    let e = s.engagement in
    let next = noted e m r c.out in
    let path : engaged next m r (length c.out) (has_rows next.outbox r) (get next.parents r) (live_own next r) ≡ (t.engagement, reply numbered owed) =
    sym (ap (at_first e m r c.out) c.may.unseen) ∙ c.engaged in
    is_received e m r c.out t.engagement numbered owed
    (subst (λ (p : Engagement × Received). IsTaken e m r c.out p.0 p.1) path (is_taken e m r c.out (has_rows next.outbox r) (get next.parents r) (live_own next r) refl))

-- its messages got the next numbers
pub messages_numbered : (s t : Record) (m : Message) (dest : ℕ) (r : Recall) (i : List ℕ) (quarantined count : ℕ) (owed : Bool) (c : Takes s m dest r i quarantined count owed t)
    → (t.engagement.outbox ≡ numbered s.engagement.outbox s.engagement.next_message r c.out) × (t.engagement.next_message ≡ s.engagement.next_message + length c.out)
messages_numbered s t m dest r i quarantined count owed c =
    let is = (became s t m dest r i quarantined count owed c).after in
    (ap (λ (x : Engagement). x.outbox) is, ap (λ (x : Engagement). x.next_message) is)

pub takes_lead : (s t : Record) (m : Message) (dest : ℕ) (r : Recall) (i : List ℕ) (quarantined numbered : ℕ) (owed : Bool) (c : Takes s m dest r i quarantined numbered owed t)
    → (changes : RowChanges) → changes ≡ take_changes s.engagement t.engagement m r c.new c.out owed → AreChangesOf changes (effects.Received quarantined numbered owed) s t
takes_lead s t m dest r i quarantined numbered owed c changes is =
    let e = s.engagement in
    let now = became s t m dest r i quarantined numbered owed c in
    let known = take_changes e (taken e m r c.out owed) m r c.new c.out owed in
    let as_taken : changes ≡ known = is ∙ ap (λ (x : Engagement). take_changes e x m r c.new c.out owed) now.after in
    let after : after_taking s m r c.new c.out owed ≡ t = sym (c.after ∙ ap (λ (x : Engagement). record s { quarantine = with_items s.quarantine r c.new; engagement = x }) now.after) in
    let leads = subst (λ (u : Record). LeadsTo known (rows_of s) (rows_of u)) after (take_leads s m r i c.new c.out owed c.may.unseen c.may.newly now.none) in
    let items : length (map (quarantine_row r) c.new) ≡ quarantined = length-map c.new (quarantine_row r) ∙ sym c.held in
    let messages : length (message_rows e.next_message r c.out) ≡ numbered = count_messages e.next_message r c.out ∙ sym now.count in
    let parents = parents_counted (parent_row (r, m)) owed in
    let numbers = numbers_by e (taken e m r c.out owed) (nat_lt 0 numbered) (raised e.next_message (length c.out) ∙ ap (nat_lt 0) (sym now.count)) in
    let told : counts_of known ≡ counts_told (effects.Received quarantined numbered owed) =
    (λ j. record no_rows { quarantine = items j; outbox = messages j; seen = 1; parent = parents j; numbers = numbers j }) in (
      subst (λ (ch : RowChanges). LeadsTo ch (rows_of s) (rows_of t)) (sym as_taken) leads,
      ap counts_of as_taken ∙ told,
    )
