-- What opening a closed keeper again leaves known of a running site.
use Rattle.std.proofs.Common.{◌≡◌, ℕ, ◌-◌, ◌^◌, ◌<◌, ◌⊎◌, ⊎_elim, Option, Some, None, List, [], ◌∷◌, ◌++◌, length, slice_get, sym, ap, ◌∙◌, subst, arith}
use Rattle.std.proofs.lemmas.Option.{get_or_from_slice_get}
use Rattle.std.proofs.lemmas.List.{get_or_push, length-append}
use Rattle.std.specs.Prelude.{get_or}
use Rattle.keeper_core.specs.Keeping.{IsAfter, StaysClosed}
use Rattle.site_core.specs.Records.{Record}
use Rattle.site_core.specs.declared.inputs.SiteInput.{SiteInput}
use Rattle.world_core.specs.KeptSteps.{StandsAfter}
use Rattle.wire_core.specs.declared.views.Log.{Log}
use Rattle.wire_core.specs.Frames.{DeliversOneOf}
use Rattle.site_threads.specs.declared.jobs.Entry.{Entry}
use Rattle.site_threads.specs.declared.jobs.Reply.{Reply}
use Rattle.site_threads.specs.declared.stamps.Stamp.{Stamp}
use Rattle.site_threads.specs.Jobs.{Keeps, EntersMarked, WithMarks, with_marks}
use Rattle.site_threads.specs.Running.{Holding, StandsClosed, IsRunning, MarksChange, MayFollow, Follows, marks_in}
use Rattle.site_threads.specs.Stamps.{stamp}
use Rattle.site_threads.proofs.Changing.{entered_more}
use Rattle.site_threads.proofs.Stamping.{same_me}

last_is : (xs : List Entry) (x y : Entry) (all : List Entry) → all ≡ xs ++ x ∷ [] → Some y ≡ slice_get all (length all - 1) → y ≡ x
last_is xs x y all is at =
    let long = ap length is ∙ length-append xs (x ∷ []) in
    sym (get_or_from_slice_get all (length all - 1) y y (sym at)) ∙ ap (λ (l : List Entry). get_or l (length all - 1) y) is ∙ get_or_push xs x y (length all - 1) (omega arith)

-- the record last marked, or the one after the input, is of the same site
pub next_me : (old new : Record) (input : SiteInput) → (new ≡ old) ⊎ IsAfter old input new → new.engagement.me ≡ old.engagement.me
next_me old new input next = ⊎_elim (λ (k : new ≡ old). ap (λ z. z.engagement.me) k) (λ (a : IsAfter old input new). same_me old new input a) next

module _ (shown : Option Record) (may : Record → Type 0) (logs : List Log) (me : ℕ) (kept : Stamp) (entries : List Entry) (start : WithMarks) (h : IsRunning shown may logs me kept entries start) where
  pub few_in : marks_in logs < 2 ^ 62 → length h.log.inputs < 2 ^ 62
  few_in few = let e = ap marks_in h.alone in omega arith

  pub log_own : h.log.site ≡ h.log.last.engagement.me
  log_own = h.own.site ∙ sym h.own.last

  -- what is held where the keeper is closed
  closed : shown ≡ None → StandsClosed may start entries h.log
  closed is = subst (λ (s : Option Record). Holding s may start entries h.log) is h.holding

  -- a closed keeper is opened in a record that may be marked with the last step of the list
  pub opened_follows : (y : Entry) (r : Record) → shown ≡ None → marks_in logs < 2 ^ 62 → Some y ≡ slice_get entries (length entries - 1) → may r → MayFollow logs kept y.input r
  opened_follows y r is few at m =
      let c = closed is in
      let same = last_is c.earlier c.last y entries c.all at in
      record {
        log = h.log;
        alone = h.alone;
        own = log_own;
        stamped = h.stamped;
        room = few_in few;
        next = subst (λ (z : Entry). (r ≡ h.log.last) ⊎ IsAfter h.log.last z.input r) (sym same) (c.old_or_new r m);
        noted = subst (λ (z : Entry). DeliversOneOf h.log.noted z.input) (sym same) c.noted;
      }

  -- and then it stands as the steps of the list
  pub opened_runs : (now : Option Record) (may' : Record → Type 0) (y : Entry) (r : Record) (new : List Log) (kept' : Stamp) → shown ≡ None → now ≡ Some r → Some y ≡ slice_get entries (length entries - 1) → may r → Follows logs r new → MarksChange logs y.input r new → kept' ≡ stamp r → IsRunning now may' new me kept' entries start
  opened_runs now may' y r new kept' is shows at m follows marks stamped =
      let c = closed is in
      let f = follows h.log h.alone in
      let more = subst (λ (z : Entry). MarksChange logs z.input r new) (last_is c.earlier c.last y entries c.all at) marks h.log f.0 h.alone f.1 in
      let keeps = subst (λ (p : Reply). Keeps p h.log.last c.last.input r) (sym c.reply) (c.old_or_new r m) in
      let steps : StandsAfter EntersMarked start entries (with_marks r f.0.inputs) = subst (λ l. StandsAfter EntersMarked start l (with_marks r f.0.inputs)) (sym c.all) (entered_more start c.earlier h.log.inputs c.last h.log.last r more.0 f.0.inputs c.steps keeps more.1 more.2) in
      record {
        log = f.0;
        alone = f.1;
        own = record { site = f.2.site ∙ h.own.site; last = ap (λ z. z.engagement.me) f.2.last ∙ next_me h.log.last r c.last.input (c.old_or_new r m) ∙ h.own.last };
        stamped = stamped ∙ ap stamp (sym f.2.last);
        numbered = h.numbered;
        holding = subst (λ (s : Option Record). Holding s may' start entries f.0) (sym shows) (record { marked = sym f.2.last; steps = steps });
      }

  -- one that stays closed
  pub unopened_runs : (now : Option Record) (may' : Record → Type 0) → shown ≡ None → StaysClosed may now may' → IsRunning now may' logs me kept entries start
  unopened_runs now may' is stays =
      let c = closed is in
      record {
        log = h.log;
        alone = h.alone;
        own = h.own;
        stamped = h.stamped;
        numbered = h.numbered;
        holding = subst (λ (s : Option Record). Holding s may' start entries h.log) (sym stays.0)
            (record { earlier = c.earlier; last = c.last; all = c.all; reply = c.reply; steps = c.steps; old_or_new = λ r m. c.old_or_new r (stays.1 r m); noted = c.noted });
      }
