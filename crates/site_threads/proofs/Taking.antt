-- A step of an open site, from what the keeper returned to the list of steps.
use Rattle.std.proofs.Common.{◌≡◌, ◌≢◌, ◌⊎◌, inl, inr, ℕ, ◌+◌, ◌^◌, ◌<◌, Bool, true, false, Option, Some, None, is_none, true≢false, Result, Ok, Err, List, [], ◌∷◌, ◌++◌, length, refl, sym, ap, ◌∙◌, subst}
use Rattle.std.specs.Prelude.{IsSome, IfSome, MatchOption}
use Rattle.keeper_core.specs.declared.faults.KeepFault.{KeepFault}
use Rattle.keeper_core.specs.declared.faults.KeepFault.TheVariants as faults
use Rattle.keeper_core.specs.Keeping.{Applies, IsAfter, MayBeOldOrNew}
use Rattle.site_core.specs.Records.{Record}
use Rattle.site_core.specs.Steps.{Does}
use Rattle.site_core.specs.declared.inputs.SiteInput.{SiteInput}
use Rattle.site_core.specs.declared.inputs.SiteInput.TheVariants as inputs
use Rattle.site_core.specs.declared.outcomes.Effects.{Effects}
use Rattle.site_core.specs.declared.outcomes.Effects.TheVariants as effects
use Rattle.world_core.specs.KeptSteps.{StandsAfter}
use Rattle.wire_core.specs.declared.views.Log.{Log}
use Rattle.site_threads.specs.declared.jobs.Entry.{Entry}
use Rattle.site_threads.specs.declared.jobs.Reply.{Reply}
use Rattle.site_threads.specs.declared.jobs.Reply.TheVariants.{Stopped}
use Rattle.site_threads.specs.declared.stamps.Stamp.{Stamp}
use Rattle.site_threads.specs.Inputs.{is_delivery}
use Rattle.site_threads.specs.Jobs.{Keeps, AreNumbered, reply_to, told, EntersMarked, WithMarks, with_marks}
use Rattle.site_threads.specs.Running.{Holding, StandsOpen, IsRunning, MarksChange, MayFollow, MayDeliver, Follows, marks_in}
use Rattle.site_threads.specs.Stamps.{stamp}
use Rattle.site_threads.proofs.Numbers.{numbered_push}
use Rattle.site_threads.proofs.Changing.{entered_more}
use Rattle.site_threads.proofs.Steps.{few_in, log_own, next_me}

abbrev pub Answer : Type 0
Answer = Result Effects KeepFault

pub none≢some : {p : Reply} → None ≢ Some p
none≢some e = true≢false (ap (λ (o : Option Reply). is_none o) e)

abbrev pub the : Reply → Option Reply → Reply
the d (Some p) = p
the d None = d

-- what is entered of a step that is done
told_keeps : (old : Record) (input : SiteInput) (e : Effects) (new : Record) → Does old input e new → Keeps (told e) old input new
told_keeps old input (effects.Captured fresh known skipped) new d = d
told_keeps old input (effects.Started recall quarantined numbered ended) new d = (quarantined, numbered, d)
told_keeps old (inputs.Deliver f) (effects.Received quarantined numbered owed) new d = (refl, inl (effects.Received quarantined numbered owed, d))
told_keeps old (inputs.Deliver f) effects.Repeat new d = (refl, inl (effects.Repeat, d))
told_keeps old (inputs.Deliver f) effects.Stale new d = (refl, inl (effects.Stale, d))
told_keeps old (inputs.Deliver f) effects.Cleared new d = (refl, inl (effects.Cleared, d))
told_keeps old (inputs.Deliver f) (effects.ParentDue parent) new d = (refl, inl (effects.ParentDue parent, d))
told_keeps old (inputs.Deliver f) (effects.Ended recall) new d = (refl, inl (effects.Ended recall, d))
told_keeps old input other new d = absurd d

keeps_of : (a : Answer) (f : Bool) (p : Reply) (old : Record) (input : SiteInput) (new : Record) (may : Record → Type 0) → f ≡ is_delivery input → Some p ≡ reply_to f a → Applies old input a (Some new) may → Keeps p old input new
keeps_of (Ok d) f p old input new may is e s = subst (λ (q : Reply). Keeps q old input new) (sym (ap (the p) e)) (told_keeps old input d new s)
keeps_of (Err faults.NoMemory) f p old input new may is e s = absurd (none≢some (sym e))
keeps_of (Err (faults.Refused why)) true p old input new may is e s = subst (λ (q : Reply). Keeps q old input new) (sym (ap (the p) e)) (sym is, inr ((why, s.0), s.1))
keeps_of (Err (faults.Refused why)) false p old input new may is e s = subst (λ (q : Reply). Keeps q old input new) (sym (ap (the p) e)) (sym is, (why, s.0, refl), s.1)
keeps_of (Err faults.Device) f p old input new may is e s = absurd s
keeps_of (Err faults.Store) f p old input new may is e s = absurd s
keeps_of (Err faults.Closed) f p old input new may is e s = absurd s

stopped_of : (a : Answer) (f : Bool) (p : Reply) (old : Record) (input : SiteInput) (may : Record → Type 0) → Some p ≡ reply_to f a → Applies old input a None may → (p ≡ Stopped) × MayBeOldOrNew old input may
stopped_of (Ok d) f p old input may e s = absurd s
stopped_of (Err faults.NoMemory) f p old input may e s = absurd s
stopped_of (Err (faults.Refused why)) f p old input may e s = absurd s
stopped_of (Err faults.Device) f p old input may e s = (ap (the p) e, s)
stopped_of (Err faults.Store) f p old input may e s = (ap (the p) e, s)
stopped_of (Err faults.Closed) f p old input may e s = absurd s

same_of : (a : Answer) (f : Bool) (old : Record) (input : SiteInput) (now : Option Record) (may : Record → Type 0) → None ≡ reply_to f a → Applies old input a now may → now ≡ Some old
same_of (Ok d) f old input now may e s = absurd (none≢some e)
same_of (Err faults.NoMemory) f old input None may e s = absurd s
same_of (Err faults.NoMemory) f old input (Some new) may e s = ap (λ (r : Record). Some r) s
same_of (Err (faults.Refused why)) true old input now may e s = absurd (none≢some e)
same_of (Err (faults.Refused why)) false old input now may e s = absurd (none≢some e)
same_of (Err faults.Device) f old input now may e s = absurd (none≢some e)
same_of (Err faults.Store) f old input now may e s = absurd (none≢some e)
same_of (Err faults.Closed) f old input now may e s = absurd (none≢some e)

next_of : (a : Answer) (old : Record) (input : SiteInput) (new : Record) (may : Record → Type 0) → Applies old input a (Some new) may → (new ≡ old) ⊎ IsAfter old input new
next_of (Ok d) old input new may s = inr (d, s)
next_of (Err faults.NoMemory) old input new may s = inl s
next_of (Err (faults.Refused why)) old input new may s = inl s.1
next_of (Err faults.Device) old input new may s = absurd s
next_of (Err faults.Store) old input new may s = absurd s
next_of (Err faults.Closed) old input new may s = absurd s

pub shown_up : (shown : Option Record) → IsSome shown → (r : Record) × (shown ≡ Some r)
shown_up None up = absurd (true≢false (sym up))
shown_up (Some r) up = (r, refl)

module _ (shown : Option Record) (may : Record → Type 0) (logs : List Log) (me : ℕ) (kept : Stamp) (entries : List Entry) (start : WithMarks) (h : IsRunning shown may logs me kept entries start) (is_open : IsSome shown) where
  up : (r : Record) × (shown ≡ Some r)
  up = shown_up shown is_open

  held : StandsOpen up.0 start entries h.log
  held = subst (λ (s : Option Record). Holding s may start entries h.log) up.1 h.holding

  steps : StandsAfter EntersMarked start entries (with_marks h.log.last h.log.inputs)
  steps = subst (λ (r : Record). StandsAfter EntersMarked start entries (with_marks r h.log.inputs)) held.marked held.steps

  -- the keeper stays open in its record
  runs_on : (now : Option Record) (may' : Record → Type 0) → now ≡ Some up.0 → IsRunning now may' logs me kept entries start
  runs_on now may' is = record {
    log = h.log;
    alone = h.alone;
    own = h.own;
    stamped = h.stamped;
    numbered = h.numbered;
    holding = subst (λ (s : Option Record). Holding s may' start entries h.log) (sym is) held;
  }

  module _ (input : SiteInput) (a : Answer) (f : Bool) (now : Option Record) (may' : Record → Type 0) (applies : (old : Record) → shown ≡ Some old → Applies old input a now may') where
    applied : Applies h.log.last input a now may'
    applied = subst (λ (o : Record). Applies o input a now may') held.marked (applies up.0 up.1)

    pub no_memory : None ≡ reply_to f a → IsRunning now may' logs me kept entries start × (now ≡ shown)
    no_memory e = let is = same_of a f up.0 input now may' e (applies up.0 up.1) in (runs_on now may' is, is ∙ sym up.1)

    pub may_follow : marks_in logs < 2 ^ 62 → MayDeliver input logs → IfSome now (MayFollow logs kept input)
    may_follow few noted = by_shown now applied
      where
        by_shown : (n : Option Record) → Applies h.log.last input a n may' → IfSome n (MayFollow logs kept input)
        by_shown None s = tt
        by_shown (Some r) s = record {
          log = h.log;
          alone = h.alone;
          own = log_own shown may logs me kept entries start h;
          stamped = h.stamped;
          room = few_in shown may logs me kept entries start h few;
          next = next_of a h.log.last input r may' s;
          noted = noted h.log h.alone;
        }

    pub took_in : (p : Reply) (new : List Log) (kept' : Stamp) (number : ℕ) (all : List Entry) → f ≡ is_delivery input → Some p ≡ reply_to f a → MayDeliver input logs → MatchOption now ((kept' ≡ kept) × (new ≡ logs)) (λ r. (kept' ≡ stamp r) × Follows logs r new) → IfSome now (λ r. MarksChange logs input r new)
        → number ≡ 1 + length entries → all ≡ entries ++ (record { number = number; input = input; reply = p }) ∷ [] → IsRunning now may' new me kept' all start
    took_in p new kept' number all frame e noted follows marks place is = by_shown now applied follows marks
      where
        x : Entry
        x = record { number = number; input = input; reply = p }

        numbers : AreNumbered all
        numbers = numbered_push (λ (y : Entry). y.number) 1 entries all x h.numbered place is

        by_shown : (n : Option Record) → Applies h.log.last input a n may' → MatchOption n ((kept' ≡ kept) × (new ≡ logs)) (λ r. (kept' ≡ stamp r) × Follows logs r new) → IfSome n (λ r. MarksChange logs input r new) → IsRunning n may' new me kept' all start
        by_shown None s m w = let t = stopped_of a f p h.log.last input may' e s in record {
          log = h.log;
          alone = m.1 ∙ h.alone;
          own = h.own;
          stamped = m.0 ∙ h.stamped;
          numbered = numbers;
          holding = record { earlier = entries; last = x; all = is; reply = t.0; steps = steps; old_or_new = t.1; noted = noted h.log h.alone };
        }
        by_shown (Some r) s m w = let g = m.1 h.log h.alone in let more = w h.log g.0 h.alone g.1 in record {
          log = g.0;
          alone = g.1;
          own = record { site = g.2.site ∙ h.own.site; last = ap (λ z. z.engagement.me) g.2.last ∙ next_me h.log.last r input (next_of a h.log.last input r may' s) ∙ h.own.last };
          stamped = m.0 ∙ ap stamp (sym g.2.last);
          numbered = numbers;
          holding = record {
            marked = sym g.2.last;
            steps = subst (λ (l : List Entry). StandsAfter EntersMarked start l (with_marks r g.0.inputs)) (sym is) (entered_more start entries h.log.inputs x h.log.last r more.0 g.0.inputs steps (keeps_of a f p h.log.last input r may' frame e s) more.1 more.2);
          };
        }
