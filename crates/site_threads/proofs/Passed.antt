-- Frames that a site takes and posts, from its log to its list of steps.
use Rattle.std.proofs.Common.{◌≡◌, ◌≢◌, ℕ, ◌<◌, Bool, true, true≢false, map, Option, Some, None, Result, Ok, Err, List, [], ◌∷◌, ◌++◌, All, Contains, refl, sym, ap, ap₂, ◌∙◌, subst, arith, append_assoc, append-nil}
use Rattle.std.specs.Prelude.{IfOk, IsTrue, option_map}
use Rattle.std.proofs.lemmas.List.Elements.{All-head, All-tail, Contains-append_left, Contains-append_right}
use Rattle.frame_core.specs.declared.frames.Frame.{Frame}
use Rattle.site_core.specs.Emitting.{emittable}
use Rattle.site_core.specs.Records.{Record}
use Rattle.site_core.specs.declared.inputs.SiteInput.{SiteInput}
use Rattle.site_core.specs.declared.inputs.SiteInput.TheVariants.{Capture, Start, Deliver}
use Rattle.wire_core.specs.Answers.{MatchPost, MayPost, MayTake}
use Rattle.wire_core.specs.declared.calls.Post.{Post}
use Rattle.wire_core.specs.declared.calls.Post.TheVariants.{Posted, Full}
use Rattle.wire_core.specs.Changes.{on, asks, offers, sends, receives}
use Rattle.wire_core.specs.Frames.{sender}
use Rattle.wire_core.specs.declared.views.Log.{Log}
use Rattle.site_threads.specs.Inputs.{input_of, is_delivery}
use Rattle.site_threads.specs.Jobs.{entry_of, job_of, jobs_in, open_after, option_items, WithMarks}
use Rattle.site_threads.specs.Offers.{IsFor}
use Rattle.site_threads.specs.Passing.{EntersFrames, Incoming, TakesFrames}
use Rattle.site_threads.specs.Running.{Holding, StandsOpen, IsRunning, MayDeliver}
use Rattle.site_threads.specs.declared.jobs.Entry.{Entry}
use Rattle.site_threads.specs.declared.jobs.Job.{Job}
use Rattle.site_threads.specs.declared.jobs.Job.TheVariants as jobs
use Rattle.site_threads.specs.declared.jobs.Receipt.{Receipt}
use Rattle.site_threads.specs.declared.stamps.Stamp.{Stamp}
use Rattle.site_threads.specs.declared.turns.TurnReport.{TurnReport}
use Rattle.site_threads.proofs.OneLog.{only, on_one}

alone_has : (e : Log) → Contains (e ∷ []) e
alone_has e = (0, omega arith, refl)

last_has : {A : Type 0} (xs : List A) (x : A) → Contains (xs ++ x ∷ []) x
last_has xs x = Contains-append_right xs (x ∷ []) x (0, omega arith, refl)

-- what is held stays with a site that was asked and a frame that was noted, and with one that was offered or sent
held_asked : (shown : Option Record) (may : Record → Type 0) (start : WithMarks) (entries : List Entry) (log : Log) (other : ℕ) → Holding shown may start entries log → Holding shown may start entries (asks other log)
held_asked (Some r) may start entries log other h = record { marked = h.marked; steps = h.steps }
held_asked None may start entries log other h = record { earlier = h.earlier; last = h.last; all = h.all; reply = h.reply; steps = h.steps; old_or_new = h.old_or_new; noted = h.noted }

held_noted : (shown : Option Record) (may : Record → Type 0) (start : WithMarks) (entries : List Entry) (log : Log) (other : ℕ) (f : Frame) → Holding shown may start entries log → Holding shown may start entries (receives other f log)
held_noted (Some r) may start entries log other f h = record { marked = h.marked; steps = h.steps }
held_noted None may start entries log other f h = record {
  earlier = h.earlier;
  last = h.last;
  all = h.all;
  reply = h.reply;
  steps = h.steps;
  old_or_new = h.old_or_new;
  noted = λ g is. Contains-append_left log.noted (f ∷ []) g (h.noted g is);
}

held_offered : (shown : Option Record) (may : Record → Type 0) (start : WithMarks) (entries : List Entry) (log : Log) (f : Frame) → Holding shown may start entries log → Holding shown may start entries (offers f log)
held_offered (Some r) may start entries log f h = record { marked = h.marked; steps = h.steps }
held_offered None may start entries log f h = record { earlier = h.earlier; last = h.last; all = h.all; reply = h.reply; steps = h.steps; old_or_new = h.old_or_new; noted = h.noted }

held_sent : (shown : Option Record) (may : Record → Type 0) (start : WithMarks) (entries : List Entry) (log : Log) (f : Frame) → Holding shown may start entries log → Holding shown may start entries (sends f log)
held_sent (Some r) may start entries log f h = record { marked = h.marked; steps = h.steps }
held_sent None may start entries log f h = record { earlier = h.earlier; last = h.last; all = h.all; reply = h.reply; steps = h.steps; old_or_new = h.old_or_new; noted = h.noted }

delivered : SiteInput → Frame → Frame
delivered (Deliver f) g = f
delivered (Capture bytes) g = g
delivered (Start item) g = g

module _ (shown : Option Record) (may : Record → Type 0) (logs : List Log) (me : ℕ) (kept : Stamp) (entries : List Entry) (start : WithMarks) (h : IsRunning shown may logs me kept entries start) where
  pub may_take : (count other : ℕ) → other ≢ me → other < count → MayTake count me other logs
  may_take count other apart there = record { held = (h.log, subst (λ l. Contains l h.log) (sym h.alone) (alone_has h.log), h.own.site); apart = apart; there = there }

  pub other_entries : (more : List Entry) → more ≡ entries → IsRunning shown may logs me kept more start
  other_entries more is = subst (λ l. IsRunning shown may logs me kept l start) (sym is) h

  pub same_runs : (new : List Log) → new ≡ logs → IsRunning shown may new me kept entries start
  same_runs new is = subst (λ l. IsRunning shown may l me kept entries start) (sym is) h

  -- the one log is changed
  now_log : (g : Log → Log) (site : ℕ) (new : List Log) → site ≡ me → new ≡ on site g logs → new ≡ g h.log ∷ []
  now_log g site new mine is = is ∙ ap (on site g) h.alone ∙ on_one h.log g site (h.own.site ∙ sym mine)

  pub asked_runs : (other : ℕ) (new : List Log) → new ≡ on me (asks other) logs → IsRunning shown may new me kept entries start
  asked_runs other new is = record {
    log = asks other h.log;
    alone = now_log (asks other) me new refl is;
    own = record { site = h.own.site; last = h.own.last };
    stamped = h.stamped;
    numbered = h.numbered;
    holding = held_asked shown may start entries h.log other h.holding;
  }

  pub noted_runs : (other : ℕ) (f : Frame) (new : List Log) → new ≡ on me (receives other f) logs → IsRunning shown may new me kept entries start
  noted_runs other f new is = record {
    log = receives other f h.log;
    alone = now_log (receives other f) me new refl is;
    own = record { site = h.own.site; last = h.own.last };
    stamped = h.stamped;
    numbered = h.numbered;
    holding = held_noted shown may start entries h.log other f h.holding;
  }

  -- a frame that was taken may be delivered
  pub taken_delivers : (other : ℕ) (f : Frame) (new : List Log) → new ≡ on me (receives other f) logs → MayDeliver (Deliver f) new
  unfolding delivered
  taken_delivers other f new is e alone g same =
      subst (λ (x : Log). Contains x.noted g) (only (receives other f h.log) e (sym (now_log (receives other f) me new refl is) ∙ alone))
      (subst (Contains (h.log.noted ++ f ∷ [])) (ap (λ i. delivered i f) same) (last_has h.log.noted f))

  pub sent_runs : (f : Frame) (site : ℕ) (new : List Log) → site ≡ me → new ≡ on site (sends f) logs → IsRunning shown may new me kept entries start
  sent_runs f site new mine is = record {
    log = sends f h.log;
    alone = now_log (sends f) site new mine is;
    own = record { site = h.own.site; last = h.own.last };
    stamped = h.stamped;
    numbered = h.numbered;
    holding = held_sent shown may start entries h.log f h.holding;
  }

  pub offered_runs : (f : Frame) (site : ℕ) (new : List Log) → site ≡ me → new ≡ on site (offers f) logs → IsRunning shown may new me kept entries start
  offered_runs f site new mine is = record {
    log = offers f h.log;
    alone = now_log (offers f) site new mine is;
    own = record { site = h.own.site; last = h.own.last };
    stamped = h.stamped;
    numbered = h.numbered;
    holding = held_offered shown may start entries h.log f h.holding;
  }

  -- whether it was posted or not
  pub posted_runs : (f : Frame) (site : ℕ) (new : List Log) → site ≡ me → (A B C : Type 0) (p : Post) → MatchPost p ((new ≡ on site (sends f) logs) × A) (λ g. (g ≡ f) × (new ≡ on site (offers f) logs) × B × C) → IsRunning shown may new me kept entries start
  posted_runs f site new mine A B C Posted answer = sent_runs f site new mine answer.0
  posted_runs f site new mine A B C (Full g) answer = offered_runs f site new mine answer.1

  module _ (r : Record) (is : shown ≡ Some r) (to : ℕ) (f : Frame) (fits : IsFor r.engagement to f) where
    open_in : StandsOpen r start entries h.log
    open_in = subst (λ (s : Option Record). Holding s may start entries h.log) is h.holding

    pub mine : sender f ≡ me
    mine = fits.from ∙ ap (λ z. z.engagement.me) open_in.marked ∙ h.own.last

    pub may_post : (count : ℕ) → to ≢ me → to < count → MayPost count f logs
    may_post count apart there = record {
      log = h.log;
      held = subst (λ l. Contains l h.log) (sym h.alone) (alone_has h.log);
      site = h.own.site ∙ sym mine;
      emitted = subst (λ (z : Record). Contains (emittable z.engagement) f) open_in.marked fits.emitted;
      other = λ same. apart (sym fits.there ∙ sym same ∙ mine);
      there = subst (λ k. k < count) (sym fits.there) there;
    }

-- The jobs of a turn.

frames_have_no_jobs : (xs : List Entry) → All (λ x. IsTrue (is_delivery x.input)) xs → jobs_in xs ≡ []
frames_have_no_jobs [] all = refl
frames_have_no_jobs (x ∷ xs) all = ap₂ (λ a b. a ++ b) (none x.input (All-head (λ (y : Entry). IsTrue (is_delivery y.input)) x xs all)) (frames_have_no_jobs xs (All-tail (λ (y : Entry). IsTrue (is_delivery y.input)) x xs all))
  where
    none : (input : SiteInput) → is_delivery input ≡ true → job_of input ≡ []
    none (Deliver f) is = refl
    none (Capture bytes) is = absurd (true≢false (sym is))
    none (Start item) is = absurd (true≢false (sym is))

job_back : (j : Job) → job_of (input_of j) ++ [] ≡ j ∷ []
job_back (jobs.Capture bytes) = refl
job_back (jobs.Start item) = refl

receipt_jobs : (receipt : Option Receipt) → jobs_in (map entry_of (option_items receipt)) ≡ option_items (option_map (λ x. x.job) receipt)
receipt_jobs None = refl
receipt_jobs (Some x) = job_back x.job

jobs_append : (xs ys : List Entry) → jobs_in (xs ++ ys) ≡ jobs_in xs ++ jobs_in ys
jobs_append [] ys = refl
jobs_append (x ∷ xs) ys = ap (λ l. job_of x.input ++ l) (jobs_append xs ys) ∙ sym (append_assoc (job_of x.input) (jobs_in xs) (jobs_in ys))

jobs_added : (before after : Bool) (took : List Frame) (old new : List Entry) (receipt : Option Receipt) (n l : ℕ) → EntersFrames before after took (old ++ map entry_of (option_items receipt)) new n l → jobs_in new ≡ jobs_in old ++ option_items (option_map (λ x. x.job) receipt)
jobs_added before after took old new receipt n l t =
    ap jobs_in t.all ∙ jobs_append (old ++ map entry_of (option_items receipt)) t.frames ∙ ap (λ l. jobs_in (old ++ map entry_of (option_items receipt)) ++ l) (frames_have_no_jobs t.frames t.each) ∙ append-nil _
    ∙ jobs_append old (map entry_of (option_items receipt)) ∙ ap (λ l. jobs_in old ++ l) (receipt_jobs receipt)

pub jobs_done : {E : Type 0} (S : TurnReport → Type 0) (me low high : ℕ) (noted noted' : Incoming) (after : Bool) (r : Result TurnReport E) (old begun new : List Entry) (ready job : Option Job) → begun ≡ old → ready ≡ job → IfOk r (λ report. (option_map (λ x. x.job) report.receipt ≡ ready) × S report)
    → IfOk r (λ report. TakesFrames me low high noted noted' (open_after report.receipt) after (begun ++ map entry_of (option_items report.receipt)) new report.applied report.lost) → IfOk r (λ report. jobs_in new ≡ jobs_in old ++ option_items job)
jobs_done S me low high noted noted' after (Ok report) old begun new ready job same is done entered =
    jobs_added (open_after report.receipt) after entered.took begun new report.receipt report.applied report.lost entered.enters ∙ (λ i. jobs_in (same i) ++ option_items ((done.0 ∙ is) i))
jobs_done S me low high noted noted' after (Err e) old begun new ready job same is done entered = tt
