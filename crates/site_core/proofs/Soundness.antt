-- A step keeps a record sound: each of its ways in turn.
use Rattle.std.proofs.Common.{◌≡◌, ◌⊎◌, inl, inr, ℕ, ◌+◌, ◌<◌, ◌≤◌, Bool, List, [], ◌∷◌, length, Option, Some, None, refl, sym, ap, subst, ◌∙◌, ⊎_elim, arith}
use Rattle.std.specs.Prelude.{IsSome, ◌^◌}
use Rattle.std.specs.FinMap.{get}
use Rattle.std.specs.List.{Contains}
use Rattle.event_json.specs.Events.{Content}
use Rattle.frame_core.specs.Laws.{IsNewRow}
use Rattle.frame_core.specs.Numbers.{Recall, Message}
use Rattle.frame_core.specs.Orders.{recall_total, recall_exact}
use Rattle.frame_core.specs.Unsignalled.{IsNextNumber}
use Rattle.frame_core.specs.declared.frames.Frame.TheVariants as frames
use Rattle.frame_core.specs.declared.rows.Row.{Row}
use Rattle.frame_core.proofs.Lookups.{one_key, get_apart}
use Rattle.scholten_core.specs.Changes.{next_own, begun}
use Rattle.scholten_core.specs.Effects as effects_on
use Rattle.scholten_core.specs.Effects.{AddsRows}
use Rattle.scholten_core.specs.Engagement.{Engagement}
use Rattle.scholten_core.specs.declared.outcomes.Received.{Received}
use Rattle.scholten_core.specs.declared.outcomes.Signalled.{Signalled}
use Rattle.scholten_core.proofs.Beginning.{begun_begins}
use Rattle.scholten_core.proofs.Clearing.{standing_is_cleared}
use Rattle.scholten_core.proofs.Taking.{unseen_is_taken}
use Rattle.site_core.specs.declared.inputs.SiteInput.{SiteInput}
use Rattle.site_core.specs.declared.inputs.SiteInput.TheVariants.{Capture, Start, Deliver}
use Rattle.site_core.specs.declared.outcomes.Effects.{Effects}
use Rattle.site_core.specs.declared.outcomes.Effects.TheVariants as effects
use Rattle.site_core.specs.Quarantines.{Quarantine, with_item, with_items}
use Rattle.site_core.specs.Records.{Record, IsNumber, IsRecallAmong, IsMessageAmong, IsRowAmong, IsSound}
use Rattle.site_core.specs.Steps.{Captures, HaveNumbers, Starts, Takes, Clears, Does}
use Rattle.site_core.proofs.HeldLaws.{no_empty_after}
use Rattle.site_core.proofs.Places.{stands_within, member_there}
use Rattle.site_core.proofs.ShipsAmong.{AllShipAmong, shipments_within, captured_among, read_among}

-- Capturing.

-- with other events
with_events : (s : Record) (events : List Content) → IsSound s → AllShipAmong (length s.sites) events → IsSound (record s { captured = record s.captured { events = events } })
with_events s events sound among = record {
  one_site = sound.one_site;
  me = sound.me;
  events = among;
  quarantine = sound.quarantine;
  no_empty_set = sound.no_empty_set;
  rows = sound.rows;
  seen = sound.seen;
  parents = sound.parents;
  own = sound.own;
  next_message = sound.next_message;
  next_recall = sound.next_recall;
}

pub captures_sound : (s : Record) (bytes : List ℕ) (fresh known skipped : ℕ) (t : Record) → IsSound s → Captures s bytes fresh known skipped t → IsSound t
captures_sound s bytes fresh known skipped t sound c =
    subst IsSound (sym c.rest) (with_events s t.captured.events sound
    (captured_among (length s.sites) s.captured s.quarantine c.doc.events _ sound.events (read_among s.sites bytes c.doc c.read) c.captured))

-- Recalls under which items come to be held.

is_there : {A : Type 0} (found : Option A) → IsSome found → (x : A) × (found ≡ Some x)
is_there None some = cc
is_there (Some x) some = (x, refl)

there_is : {A : Type 0} (found : Option A) (x : A) → found ≡ Some x → IsSome found
there_is found x is = subst IsSome (sym is) refl

-- a recall that has items then had some before, or is the one that they come under
recall_with : (q : Quarantine) (r : Recall) (i : List ℕ) (other : Recall) → IsSome (get (with_item q r i) other) → (other ≡ r) ⊎ IsSome (get q other)
recall_with q r i other some = ⊎_elim
    (λ same. inl same)
    (λ ne. inr (subst IsSome (get_apart recall_total recall_exact q r _ other ne) some))
    (one_key recall_total recall_exact other r)

recalls_with : (q : Quarantine) (r : Recall) (items : List (List ℕ)) (other : Recall) → IsSome (get (with_items q r items) other) → (other ≡ r) ⊎ IsSome (get q other)
recalls_with q r [] other some = inr some
recalls_with q r (i ∷ items) other some = ⊎_elim (λ same. inl same) (recall_with q r i other) (recalls_with (with_item q r i) r items other some)

held_among : (s : Record) (r : Recall) (items : List (List ℕ)) → IsSound s → IsRecallAmong (length s.sites) r
    → (other : Recall) → IsSome (get (with_items s.quarantine r items) other) → IsRecallAmong (length s.sites) other
held_among s r items sound among other some = ⊎_elim
    (λ same. subst (IsRecallAmong (length s.sites)) (sym same) among)
    (sound.quarantine other)
    (recalls_with s.quarantine r items other some)

-- Messages that get numbers.

numbered_low : (next place number : ℕ) → 1 ≤ next → number ≡ next + place → 1 ≤ number
numbered_low next place number low is = omega arith

numbered_high : (next place number count most : ℕ) → place < count → next + count ≤ most + 1 → number ≡ next + place → number ≤ most
numbered_high next place number count most below enough is = omega arith

module _ (s : Record) (sound : IsSound s) (new : Engagement) (r : Recall) (out : List (ℕ × List ℕ)) where
  rows_added : AddsRows s.engagement new r out → HaveNumbers s.engagement out → IsRecallAmong (length s.sites) r → ((to : ℕ) (i : List ℕ) → Contains out (to, i) → to < length s.sites)
      → (number : ℕ) (row : Row) → get new.outbox number ≡ Some row → IsRowAmong (length s.sites) number row
  rows_added adds enough among within number row is = ⊎_elim
      (sound.rows number row)
      (λ (fresh : IsNewRow s.engagement.next_message r out number row). record {
        number = record {
          low = numbered_low s.engagement.next_message fresh.place number sound.next_message.low fresh.number;
          high = numbered_high s.engagement.next_message fresh.place number (length out) (2 ^ 62) (stands_within out fresh.place (row.dest, row.item) fresh.message) enough fresh.number;
        };
        dest = within row.dest row.item (member_there out fresh.place (row.dest, row.item) fresh.message);
        recall = subst (IsRecallAmong (length s.sites)) (sym fresh.recall) among;
      })
      (adds.row_origin number row is)

  next_number : AddsRows s.engagement new r out → HaveNumbers s.engagement out → IsNextNumber new.next_message
  next_number adds enough = subst IsNextNumber (sym adds.next_message) (record { low = numbered_low s.engagement.next_message (length out) _ sound.next_message.low refl; high = enough })

-- Starting.

module _ (s : Record) (sound : IsSound s) (root : List ℕ) (new : List (List ℕ)) (out : List (ℕ × List ℕ)) where
  next_among : s.engagement.next_recall ≤ 2 ^ 62 → IsRecallAmong (length s.sites) (next_own s.engagement)
  next_among enough = record { site = sound.me; number = record { low = sound.next_recall.low; high = enough } }

  own_begun : (e : Engagement) → effects_on.Begins s.engagement e root out → s.engagement.next_recall ≤ 2 ^ 62 → (number : ℕ) → IsSome (get e.own number) → IsNumber number
  own_begun e begins enough number some =
      let (o, is) = is_there (get e.own number) some in
      ⊎_elim
      (λ before. sound.own number (there_is (get s.engagement.own number) o before))
      (λ at. subst IsNumber (sym at.0) (next_among enough).number)
      (begins.own_origin number o is)

  begun_sound : (e : Engagement) → effects_on.Begins s.engagement e root out → (s.engagement.next_recall ≤ 2 ^ 62) × HaveNumbers s.engagement out
      → ((to : ℕ) (i : List ℕ) → Contains out (to, i) → to < length s.sites)
      → IsSound (record s { quarantine = with_items s.quarantine (next_own s.engagement) new; engagement = e })
  begun_sound e begins enough within =
      let among = next_among enough.0 in
      record {
        one_site = sound.one_site ∙ sym begins.me;
        me = subst (λ n. n < length s.sites) (sym begins.me) sound.me;
        events = sound.events;
        quarantine = held_among s (next_own s.engagement) new sound among;
        no_empty_set = no_empty_after s.quarantine (next_own s.engagement) new sound.no_empty_set;
        rows = rows_added s sound e (next_own s.engagement) out begins.rows enough.1 among within;
        seen = λ m r is. sound.seen m r (sym (begins.seen m) ∙ is);
        parents = λ r m is. sound.parents r m (sym (begins.parent r) ∙ is);
        own = own_begun e begins enough.0;
        next_message = next_number s sound e (next_own s.engagement) out begins.rows enough.1;
        next_recall = subst IsNextNumber (sym begins.next_recall) (record { low = omega arith; high = omega (arith, enough.0) });
      }

pub starts_sound : (s : Record) (root : List ℕ) (recall : Recall) (quarantined numbered : ℕ) (ended : Bool) (t : Record) → IsSound s → Starts s root recall quarantined numbered ended t → IsSound t
starts_sound s root recall quarantined numbered ended t sound c =
    let all = begun_sound s sound root c.new c.out (begun s.engagement root c.out) (begun_begins s.engagement root c.out) c.enough
    (shipments_within (length s.sites) s.captured c.spread c.out sound.events c.may.shipped) in
    subst IsSound (sym c.after) (subst (λ (r : Recall). IsSound (record s { quarantine = with_items s.quarantine r c.new; engagement = begun s.engagement root c.out })) (sym c.next) all)

-- Taking a message.

module _ (s : Record) (sound : IsSound s) (m : Message) (r : Recall) (new : List (List ℕ)) (out : List (ℕ × List ℕ)) (message : IsMessageAmong (length s.sites) m) (recall : IsRecallAmong (length s.sites) r) where
  seen_taken : (e : Engagement) → effects_on.Takes s.engagement e m r out → (p : Message) (q : Recall) → get e.seen p ≡ Some q → IsMessageAmong (length s.sites) p × IsRecallAmong (length s.sites) q
  seen_taken e takes p q is = ⊎_elim
      (sound.seen p q)
      (λ at. (subst (IsMessageAmong (length s.sites)) (sym at.0) message, subst (IsRecallAmong (length s.sites)) (sym at.1) recall))
      (takes.seen_origin p q is)

  parents_taken : (e : Engagement) → effects_on.Takes s.engagement e m r out → (q : Recall) (p : Message) → get e.parents q ≡ Some p → IsRecallAmong (length s.sites) q × IsMessageAmong (length s.sites) p
  parents_taken e takes q p is = ⊎_elim
      (sound.parents q p)
      (λ at. (subst (IsRecallAmong (length s.sites)) (sym at.0) recall, subst (IsMessageAmong (length s.sites)) (sym at.1) message))
      (takes.parent_origin q p is)

  taken_sound : (e : Engagement) → effects_on.Takes s.engagement e m r out → HaveNumbers s.engagement out → ((to : ℕ) (i : List ℕ) → Contains out (to, i) → to < length s.sites)
      → IsSound (record s { quarantine = with_items s.quarantine r new; engagement = e })
  taken_sound e takes enough within = record {
    one_site = sound.one_site ∙ sym takes.me;
    me = subst (λ n. n < length s.sites) (sym takes.me) sound.me;
    events = sound.events;
    quarantine = held_among s r new sound recall;
    no_empty_set = no_empty_after s.quarantine r new sound.no_empty_set;
    rows = rows_added s sound e r out takes.rows enough recall within;
    seen = seen_taken e takes;
    parents = parents_taken e takes;
    own = λ number some. sound.own number (subst IsSome (takes.own number) some);
    next_message = next_number s sound e r out takes.rows enough;
    next_recall = subst IsNextNumber (sym takes.next_recall) sound.next_recall;
  }

pub takes_sound : (s : Record) (m : Message) (dest : ℕ) (r : Recall) (i : List ℕ) (quarantined numbered : ℕ) (owed : Bool) (t : Record) → IsSound s → Takes s m dest r i quarantined numbered owed t → IsSound t
takes_sound s m dest r i quarantined numbered owed t sound c =
    let taken : effects_on.Takes s.engagement t.engagement m r c.out =
    subst (λ (e : Engagement). effects_on.Takes s.engagement e m r c.out) (ap (λ (p : Engagement × Received). p.0) c.engaged) (unseen_is_taken s.engagement m r c.out c.may.unseen).0 in
    subst IsSound (sym c.after) (taken_sound s sound m r c.new c.out c.may.mine.message c.may.mine.recall t.engagement taken c.enough
    (shipments_within (length s.sites) s.captured c.new c.out sound.events c.may.shipped))

-- Taking a signal.

cleared_sound : (s : Record) (e : Engagement) (n : ℕ) (x : Row) → IsSound s → effects_on.Clears s.engagement e n x → IsSound (record s { engagement = e })
cleared_sound s e n x sound clears = record {
  one_site = sound.one_site ∙ sym clears.me;
  me = subst (λ k. k < length s.sites) (sym clears.me) sound.me;
  events = sound.events;
  quarantine = sound.quarantine;
  no_empty_set = sound.no_empty_set;
  rows = λ number row is. sound.rows number row (clears.row_origin number row is);
  seen = λ m r is. sound.seen m r (sym (clears.seen m) ∙ is);
  parents = λ r m is. sound.parents r m (clears.parent_origin r m is);
  own = λ number some.
      let (o, is) = is_there (get e.own number) some in
      let before = clears.own_origin number o is in
      sound.own number (there_is (get s.engagement.own number) before.0 before.1);
  next_message = subst IsNextNumber (sym clears.next_message) sound.next_message;
  next_recall = subst IsNextNumber (sym clears.next_recall) sound.next_recall;
}

pub clears_sound : (s : Record) (m : Message) (by : ℕ) (answer : Signalled) (t : Record) → IsSound s → Clears s m by answer t → IsSound t
clears_sound s m by answer t sound c =
    let cleared : effects_on.Clears s.engagement t.engagement m.number c.row =
    subst (λ (e : Engagement). effects_on.Clears s.engagement e m.number c.row) (ap (λ (p : Engagement × Signalled). p.0) c.engaged) (standing_is_cleared s.engagement m.number c.row c.has.stands).0 in
    subst IsSound (sym c.after) (cleared_sound s t.engagement m.number c.row sound cleared)

-- The step.

unchanged : (s t : Record) → IsSound s → t ≡ s → IsSound t
unchanged s t sound same = subst IsSound (sym same) sound

pub does_sound : (s : Record) (input : SiteInput) (result : Effects) (t : Record) → IsSound s → Does s input result t → IsSound t
does_sound s (Capture bytes) (effects.Captured fresh known skipped) t sound does = captures_sound s bytes fresh known skipped t sound does
does_sound s (Start root) (effects.Started recall quarantined numbered ended) t sound does = starts_sound s root recall quarantined numbered ended t sound does
does_sound s (Deliver (frames.Recall m dest r i)) (effects.Received quarantined numbered owed) t sound does = takes_sound s m dest r i quarantined numbered owed t sound does
does_sound s (Deliver (frames.Recall m dest r i)) effects.Repeat t sound does = unchanged s t sound does.1
does_sound s (Deliver (frames.Signal m by)) effects.Stale t sound does = unchanged s t sound does.1
does_sound s (Deliver (frames.Signal m by)) effects.Cleared t sound does = clears_sound s m by _ t sound does
does_sound s (Deliver (frames.Signal m by)) (effects.ParentDue parent) t sound does = clears_sound s m by _ t sound does
does_sound s (Deliver (frames.Signal m by)) (effects.Ended recall) t sound does = clears_sound s m by _ t sound does
does_sound s input other t sound does = absurd does
