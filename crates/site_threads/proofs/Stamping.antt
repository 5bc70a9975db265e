-- A step leaves the site's number, and one that leaves every count leaves the record.
use Rattle.std.proofs.Common.{◌≡◌, ◌≢◌, ℕ, zero, suc, ◌+◌, ◌-◌, Bool, true, false, is_some, List, length, Option, Some, None, cond, refl, sym, ap, ◌∙◌, arith}
use Rattle.std.specs.FinMap.{FinMap, get, get-empty, insert, remove, len, len-entries, len-insert, len-remove, empty_of_len}
use Rattle.std.specs.Ordering.{nat_cmp}
use Rattle.std.specs.Cmp.{nat_cmp_total}
use Rattle.std.proofs.lemmas.List.{length_push}
use Rattle.frame_core.specs.Numbers.{Recall, Message}
use Rattle.frame_core.specs.Orders.{message_total}
use Rattle.frame_core.specs.declared.frames.Frame.TheVariants as frames
use Rattle.frame_core.specs.declared.rows.Row.{Row}
use Rattle.keeper_core.specs.Keeping.{IsAfter}
use Rattle.scholten_core.specs.Changes.{engaged, settled, at_first, at_row}
use Rattle.scholten_core.specs.Engagement.{Engagement}
use Rattle.scholten_core.specs.declared.outcomes.Signalled.{Signalled}
use Rattle.scholten_core.specs.declared.outcomes.Signalled.TheVariants as signals
use Rattle.scholten_core.specs.declared.own_recalls.Own.{Own}
use Rattle.site_core.specs.Records.{Record}
use Rattle.site_core.specs.StepLaws.{ClearsFor}
use Rattle.site_core.specs.Steps.{Does, Takes, Clears}
use Rattle.site_core.specs.Ways.{GrowsBy}
use Rattle.site_core.specs.declared.inputs.SiteInput.{SiteInput}
use Rattle.site_core.specs.declared.inputs.SiteInput.TheVariants.{Capture, Start, Deliver}
use Rattle.site_core.specs.declared.outcomes.Effects.{Effects}
use Rattle.site_core.specs.declared.outcomes.Effects.TheVariants as effects
use Rattle.site_core.proofs.Clearings.{signals_clear}
use Rattle.site_core.proofs.Growths.{captures_grow}
use Rattle.site_core.proofs.Openings.{starts_open}
use Rattle.site_core.proofs.Takings.{messages_are_taken}
use Rattle.site_threads.specs.Stamps.{stamp}

-- what a step leaves of the site's number, and of the record where it leaves the stamp
record StampTells (old new : Record) : Type 0 where
  pub me : new.engagement.me ≡ old.engagement.me
  pub same : stamp new ≡ stamp old → new ≡ old

one_more : (n : ℕ) → n + 1 ≢ n
one_more n e = omega arith

-- A capture adds events.

grown_me : (k : ℕ) (old new : Record) → GrowsBy old k new → new.engagement.me ≡ old.engagement.me
grown_me zero old new is = ap (λ z. z.engagement.me) (sym is)
grown_me (suc k) old new (u, first, last) = ap (λ e. e.me) last.engagement ∙ grown_me k old u first

grown_events : (k : ℕ) (old new : Record) → GrowsBy old k new → length new.captured.events ≡ length old.captured.events + k
grown_events zero old new is = omega (arith, ap (λ z. length z.captured.events) is)
grown_events (suc k) old new (u, first, last) =
    let more = ap (λ c. length c.events) last.captured ∙ length_push u.captured.events last.event in
    omega (arith, more, grown_events k old u first)

grown_same : (k : ℕ) (old new : Record) → GrowsBy old k new → length new.captured.events ≡ length old.captured.events → new ≡ old
grown_same zero old new is e = sym is
grown_same (suc k) old new grows e = absurd (omega (arith, grown_events (suc k) old new grows, e))

-- A message adds one that was seen.

module _ (m : Message) (r : Recall) (n : ℕ) (e : Engagement) where
  seen_left : (rows : Bool) (parent : Option Message) (live : Option Own) → (engaged e m r n rows parent live).0.seen ≡ e.seen
  seen_left false parent live = refl
  seen_left true (Some first) live = refl
  seen_left true None (Some own) = refl
  seen_left true None None = refl

first_seen : (e : Engagement) (m : Message) (r : Recall) (out : List (ℕ × List ℕ)) (before : Option Recall) → before ≡ None → (at_first e m r out before).0.seen ≡ insert e.seen m r
first_seen e m r out None is = seen_left m r _ _ _ _ _
first_seen e m r out (Some q) is = cc

taken_seen : (s t : Record) (m : Message) (dest : ℕ) (r : Recall) (i : List ℕ) (quarantined numbered : ℕ) (owed : Bool) → Takes s m dest r i quarantined numbered owed t → len t.engagement.seen ≡ len s.engagement.seen + 1
taken_seen s t m dest r i quarantined numbered owed takes =
    ap (λ p. len p.0.seen) (sym takes.engaged) ∙ ap len (first_seen s.engagement m r takes.out (get s.engagement.seen m) takes.may.unseen)
    ∙ len-insert message_total s.engagement.seen m r ∙ ap (λ o. cond (is_some o) (len s.engagement.seen) (len s.engagement.seen + 1)) takes.may.unseen

-- A signal takes a message away that waited for it.

module _ (e : Engagement) (r : Recall) where
  waiting_left : (rows : Bool) (parent : Option Message) (live : Option Own) → (settled e r rows parent live).0.outbox ≡ e.outbox
  waiting_left true parent live = refl
  waiting_left false (Some parent) live = refl
  waiting_left false None (Some own) = refl
  waiting_left false None None = refl

row_gone : (e : Engagement) (n : ℕ) (before : Option Row) (x : Row) → before ≡ Some x → (at_row e n before).0.outbox ≡ remove e.outbox n
row_gone e n (Some row) x is = waiting_left _ _ _ _ _
row_gone e n None x is = cc

-- what has an entry isn't empty
not_empty : (rows : FinMap nat_cmp Row) (n : ℕ) (x : Row) → get rows n ≡ Some x → len rows ≢ 0
not_empty rows n x is e = some≢none (sym is ∙ ap (λ z. get z n) (empty_of_len rows e) ∙ get-empty nat_cmp n)
  where
    some≢none : Some x ≢ None
    some≢none f = cc

cleared_waiting : (s t : Record) (m : Message) (by : ℕ) (answer : Signalled) → Clears s m by answer t → len s.engagement.outbox ≡ len t.engagement.outbox + 1
cleared_waiting s t m by answer clears =
    let gone = ap (λ p. len p.0.outbox) (sym clears.engaged) ∙ ap len (row_gone s.engagement m.number (get s.engagement.outbox m.number) clears.row clears.has.stands) in
    let before = len-remove nat_cmp_total s.engagement.outbox m.number in
    let there = ap (λ o. cond (is_some o) (len s.engagement.outbox - 1) (len s.engagement.outbox)) clears.has.stands in
    let some' = not_empty s.engagement.outbox m.number clears.row clears.has.stands in
    omega (arith, gone, before, there, some')

same_waiting : (s t : Record) → stamp t ≡ stamp s → len t.engagement.outbox ≡ len s.engagement.outbox
same_waiting s t e = len-entries t.engagement.outbox ∙ ap (λ z. z.waiting) e ∙ sym (len-entries s.engagement.outbox)

same_seen : (s t : Record) → stamp t ≡ stamp s → len t.engagement.seen ≡ len s.engagement.seen
same_seen s t e = len-entries t.engagement.seen ∙ ap (λ z. z.seen) e ∙ sym (len-entries s.engagement.seen)

cleared : (old new : Record) (m : Message) (by : ℕ) (answer : Signalled) → ClearsFor old new m by answer → Clears old m by answer new → StampTells old new
cleared old new m by answer c clears = record {
  me = c.clears.clears.me;
  same = λ e. absurd (one_more (len new.engagement.outbox) (sym (cleared_waiting old new m by answer clears) ∙ sym (same_waiting old new e)));
}

-- Any step.

tells : (old new : Record) (input : SiteInput) (e : Effects) → Does old input e new → StampTells old new
tells old new (Capture bytes) (effects.Captured fresh known skipped) does =
    let grows = captures_grow old new bytes fresh known skipped does in
    record { me = grown_me fresh old new grows; same = λ e. grown_same fresh old new grows (ap (λ z. z.events) e) }
tells old new (Start root) (effects.Started recall quarantined numbered ended) does =
    let w = (starts_open old new root recall quarantined numbered ended does).0 in
    record { me = w.begins.me; same = λ e. absurd (one_more old.engagement.next_recall (sym w.begins.next_recall ∙ ap (λ z. z.next_recall) e)) }
tells old new (Deliver (frames.Recall m dest r i)) (effects.Received quarantined numbered owed) does =
    let w = (messages_are_taken old new m dest r i quarantined numbered owed does).1 in
    record { me = w.takes.me; same = λ e. absurd (one_more (len old.engagement.seen) (sym (taken_seen old new m dest r i quarantined numbered owed does) ∙ same_seen old new e)) }
tells old new (Deliver (frames.Recall m dest r i)) effects.Repeat does = record { me = ap (λ z. z.engagement.me) does.1; same = λ _. does.1 }
tells old new (Deliver (frames.Signal m by)) effects.Stale does = record { me = ap (λ z. z.engagement.me) does.1; same = λ _. does.1 }
tells old new (Deliver (frames.Signal m by)) effects.Cleared does = cleared old new m by signals.Cleared ((signals_clear old new m by).0 does) does
tells old new (Deliver (frames.Signal m by)) (effects.ParentDue parent) does = cleared old new m by (signals.ParentDue parent) ((signals_clear old new m by).1 parent does) does
tells old new (Deliver (frames.Signal m by)) (effects.Ended recall) does = cleared old new m by (signals.Ended recall) ((signals_clear old new m by).2 recall does) does
tells old new input other does = absurd does

pub same_me : (old new : Record) (input : SiteInput) → IsAfter old input new → new.engagement.me ≡ old.engagement.me
same_me old new input after = (tells old new input after.0 after.1).me

pub same_stamp : (old new : Record) (input : SiteInput) → IsAfter old input new → stamp new ≡ stamp old → new ≡ old
same_stamp old new input after = (tells old new input after.0 after.1).same
