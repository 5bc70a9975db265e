-- When a recall has ended, by what steps answer.
use Rattle.std.proofs.Common.{◌≡◌, ◌⊎◌, inl, inr, ⊎_elim, ℕ, ◌==◌, Bool, true, false, Option, Some, None, List, length, refl, sym, ap, subst, ◌∙◌}
use Rattle.std.specs.Cmp.{nat_cmp_total}
use Rattle.std.specs.FinMap.{nat_cmp-IsAntisymmetric, get}
use Rattle.std.specs.Option.{option_map}
use Rattle.std.proofs.lemmas.Option.{same_Some}
use Rattle.frame_core.specs.Numbers.{Recall, Message}
use Rattle.frame_core.specs.declared.frames.Frame.TheVariants as frames
use Rattle.frame_core.proofs.Lookups.{get_here}
use Rattle.scholten_core.specs.Changes.{begun}
use Rattle.scholten_core.specs.Effects as engagement
use Rattle.scholten_core.specs.Engagement.{Engagement}
use Rattle.scholten_core.specs.Replies.{TellsCleared}
use Rattle.scholten_core.specs.declared.own_recalls.Own.{Own}
use Rattle.scholten_core.specs.declared.outcomes.Received.{Received}
use Rattle.scholten_core.specs.declared.outcomes.Signalled.{Signalled}
use Rattle.scholten_core.specs.declared.outcomes.Signalled.TheVariants as signals
use Rattle.scholten_core.proofs.Beginning.{begun_begins}
use Rattle.scholten_core.proofs.Clearing.{standing_is_cleared}
use Rattle.scholten_core.proofs.Taking.{unseen_is_taken}
use Rattle.site_core.specs.Records.{Record}
use Rattle.site_core.specs.Steps.{Clears, Starts, Takes}
use Rattle.site_core.specs.declared.inputs.SiteInput.TheVariants.{Capture, Start, Deliver}
use Rattle.site_core.specs.declared.outcomes.Effects.TheVariants as effects
use Rattle.world_core.specs.PinLaws.{AnsweredEndsStand, StartsTellTheEnd, NothingElseEnds, TellsEnd}
use Rattle.world_core.specs.Recalls.{ended_in}

-- an own recall that is told as ended stands so
pub told : (o : Option Own) → option_map (λ own. own.ended) o ≡ Some true → (own : Own) × (o ≡ Some own) × (own.ended ≡ true)
told None e = let n : None ≡ Some true = e in cc
told (Some own) e = (own, refl, same_Some own.ended true e)

tells : (o : Option Own) (own : Own) (ended : Bool) → o ≡ Some own → own.ended ≡ ended → option_map (λ own. own.ended) o ≡ Some ended
tells o own ended at is = ap (option_map (λ own. own.ended)) at ∙ ap Some is

-- a site's own recall is known by its number
own_recall : (recall : Recall) (me number : ℕ) → recall.site ≡ me → recall.number ≡ number → record { site = me; number = number } ≡ recall
own_recall recall me number site is = ap (λ n. record { site = me; number = n }) (sym is) ∙ ap (λ m. record { site = m; number = recall.number }) (sym site)

-- ---- a signal

module _ (s t : Record) (m : Message) (by : ℕ) (answer : Signalled) (h : Clears s m by answer t) where
  clears : engagement.Clears s.engagement t.engagement m.number h.row
  clears = subst (λ (p : Engagement × Signalled). engagement.Clears s.engagement p.0 m.number h.row) h.engaged (standing_is_cleared s.engagement m.number h.row h.has.stands).0

  answers : TellsCleared s.engagement t.engagement h.row.recall answer
  answers = subst (λ (p : Engagement × Signalled). TellsCleared s.engagement p.0 h.row.recall p.1) h.engaged (standing_is_cleared s.engagement m.number h.row h.has.stands).1

-- the recall's last row is gone, at a site that isn't engaged for it, so where it was live it ends, and the answer says so
ends_told : (e f : Engagement) (r : Recall) (number : ℕ) (answer : Signalled)
    → TellsCleared e f r answer → engagement.IsOver e f r number → engagement.IsLive e r → answer ≡ signals.Ended r
ends_told e f r number signals.Stale told over live = absurd told
ends_told e f r number signals.Cleared told over live = ⊎_elim (λ row. absurd (over.none_left row.number row.row row.stands row.of_recall)) (λ none. absurd (none.1 live)) told
ends_told e f r number (signals.ParentDue parent) told over live = let twice : None ≡ Some parent = sym over.neutral ∙ told.0 in cc
ends_told e f r number (signals.Ended q) told over live = ap signals.Ended told.0

signal_ends : (s t : Record) (m : Message) (by : ℕ) (answer : Signalled) (recall : Recall)
    → recall.site ≡ s.engagement.me → Clears s m by answer t → ended_in recall t ≡ Some true
    → (ended_in recall s ≡ Some true) ⊎ (answer ≡ signals.Ended recall)
signal_ends s t m by answer recall mine h is =
    let e = s.engagement in
    let c = clears s t m by answer h in
    let now = told (get t.engagement.own recall.number) is in
    let was = c.own_origin recall.number now.0 now.1 in
    ⊎_elim
    (λ same. inl (tells (get e.own recall.number) was.0 true was.1 (sym same ∙ now.2)))
    (λ over.
    elim was.0.ended as (λ b. was.0.ended ≡ b → (ended_in recall s ≡ Some true) ⊎ (answer ≡ signals.Ended recall)) [
      | true ↦ λ ended. inl (tells (get e.own recall.number) was.0 true was.1 ended)
      | false ↦ λ unended.
          let r = h.row.recall in
          let number : r.number ≡ recall.number = ap (λ (q : Recall). q.number) over.1.recall in
          let live : engagement.IsLive e r = record {
            mine = sym (ap (λ (q : Recall). q.site) over.1.recall);
            own = was.0;
            known = ap (get e.own) number ∙ was.1;
            unended = unended;
          } in
          let same : r ≡ recall = over.1.recall ∙ own_recall recall e.me recall.number mine refl in
          inr (ends_told e t.engagement r recall.number answer (answers s t m by answer h) over.1 live ∙ ap signals.Ended same)
    ] refl)
    was.3

pub answered_ends_stand : AnsweredEndsStand
answered_ends_stand s t (Capture bytes) recall h = absurd h
answered_ends_stand s t (Start root) recall h = absurd h
answered_ends_stand s t (Deliver (frames.Recall m dest r i)) recall h = absurd h
answered_ends_stand s t (Deliver (frames.Signal m by)) recall h =
    let e = s.engagement in
    let c = clears s t m by (signals.Ended recall) h in
    let a = answers s t m by (signals.Ended recall) h in
    let r = h.row.recall in
    let kept = c.own_kept r.number a.2.own a.2.known in
    let over : engagement.IsOver e t.engagement r r.number = record {
      recall = ap (λ site. record { site = site; number = r.number }) (sym a.2.mine);
      neutral = a.1;
      none_left = a.3;
    } in
    subst (λ q. ended_in q t ≡ Some true) (sym a.0) (tells (get t.engagement.own r.number) kept.0 true kept.1 (c.own_ended r.number kept.0 kept.1 over))

-- ---- a start

pub begun_here : (e : Engagement) (root : List ℕ) (out : List (ℕ × List ℕ)) → get (begun e root out).own e.next_recall ≡ Some (record { root = root; ended = length out == 0 })
begun_here e root out = get_here nat_cmp_total nat_cmp-IsAntisymmetric e.own e.next_recall (record { root = root; ended = length out == 0 })

pub starts_tell_the_end : StartsTellTheEnd
starts_tell_the_end s t (Capture bytes) recall quarantined numbered ended h = absurd h
starts_tell_the_end s t (Start root) recall quarantined numbered ended h =
    let e = s.engagement in
    let own : get t.engagement.own e.next_recall ≡ Some (record { root = root; ended = length h.out == 0 }) =
    subst (λ (x : Record). get x.engagement.own e.next_recall ≡ Some (record { root = root; ended = length h.out == 0 })) (sym h.after) (begun_here e root h.out) in
    subst (λ q. ended_in q t ≡ Some ended) (sym h.next) (tells (get t.engagement.own e.next_recall) _ ended own (sym h.at_once))
starts_tell_the_end s t (Deliver (frames.Recall m dest r i)) recall quarantined numbered ended h = absurd h
starts_tell_the_end s t (Deliver (frames.Signal m by)) recall quarantined numbered ended h = absurd h

start_ends : (s t : Record) (root : List ℕ) (begins : Recall) (quarantined numbered : ℕ) (ended : Bool) (recall : Recall)
    → recall.site ≡ s.engagement.me → Starts s root begins quarantined numbered ended t → ended_in recall t ≡ Some true
    → (ended_in recall s ≡ Some true) ⊎ TellsEnd (effects.Started begins quarantined numbered ended) recall
start_ends s t root begins quarantined numbered ended recall mine h is =
    let e = s.engagement in
    let now = told (get (begun e root h.out).own recall.number) (subst (λ (x : Record). ended_in recall x ≡ Some true) h.after is) in
    ⊎_elim
    (λ was. inl (tells (get e.own recall.number) now.0 true was now.2))
    (λ new. inr (h.next ∙ own_recall recall e.me e.next_recall mine new.0, h.at_once ∙ ap (λ xs. length xs == 0) (new.1.ends_at_once.0 now.2)))
    ((begun_begins e root h.out).own_origin recall.number now.0 now.1)

-- ---- a message

take_ends : (s t : Record) (m : Message) (dest : ℕ) (r : Recall) (i : List ℕ) (quarantined numbered : ℕ) (owed : Bool) (recall : Recall)
    → Takes s m dest r i quarantined numbered owed t → ended_in recall t ≡ Some true → ended_in recall s ≡ Some true
take_ends s t m dest r i quarantined numbered owed recall h is =
    let e = s.engagement in
    let takes : engagement.Takes e t.engagement m r h.out =
    subst (λ (p : Engagement × Received). engagement.Takes e p.0 m r h.out) h.engaged (unseen_is_taken e m r h.out h.may.unseen).0 in
    sym (ap (option_map (λ own. own.ended)) (takes.own recall.number)) ∙ is

-- ---- any step

same_end : (s t : Record) (recall : Recall) → t ≡ s → ended_in recall t ≡ Some true → ended_in recall s ≡ Some true
same_end s t recall same is = subst (λ (x : Record). ended_in recall x ≡ Some true) same is

pub nothing_else_ends : NothingElseEnds
nothing_else_ends s t (Capture bytes) (effects.Captured fresh known skipped) recall mine h is =
    inl (subst (λ (x : Record). ended_in recall x ≡ Some true) h.rest is)
nothing_else_ends s t (Start root) (effects.Started begins quarantined numbered ended) recall mine h is =
    start_ends s t root begins quarantined numbered ended recall mine h is
nothing_else_ends s t (Deliver (frames.Recall m dest r i)) (effects.Received quarantined numbered owed) recall mine h is =
    inl (take_ends s t m dest r i quarantined numbered owed recall h is)
nothing_else_ends s t (Deliver (frames.Recall m dest r i)) effects.Repeat recall mine h is = inl (same_end s t recall h.1 is)
nothing_else_ends s t (Deliver (frames.Signal m by)) effects.Stale recall mine h is = inl (same_end s t recall h.1 is)
nothing_else_ends s t (Deliver (frames.Signal m by)) effects.Cleared recall mine h is =
    ⊎_elim (λ was. inl was) (λ other. let twice : signals.Cleared ≡ signals.Ended recall = other in cc) (signal_ends s t m by signals.Cleared recall mine h is)
nothing_else_ends s t (Deliver (frames.Signal m by)) (effects.ParentDue parent) recall mine h is =
    ⊎_elim (λ was. inl was) (λ other. let twice : signals.ParentDue parent ≡ signals.Ended recall = other in cc) (signal_ends s t m by (signals.ParentDue parent) recall mine h is)
nothing_else_ends s t (Deliver (frames.Signal m by)) (effects.Ended q) recall mine h is =
    ⊎_elim (λ was. inl was) (λ same. let one : signals.Ended q ≡ signals.Ended recall = same in let is_one : q ≡ recall = cc in inr is_one) (signal_ends s t m by (signals.Ended q) recall mine h is)
nothing_else_ends s t input other recall mine h is = absurd h
