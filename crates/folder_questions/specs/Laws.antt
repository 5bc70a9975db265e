-- What an audit gives, and what a trace.
use Rattle.std.specs.Prelude.{◌≡◌, ◌↔◌, ℕ, Bool, true, false, List, [], Option, Some, Contains, length, slice_get}
use mathlib.Core.Logic.{inr}
use Rattle.std.specs.declared.vec.Vec.{Vec}
use Rattle.std.specs.Global.{Global}
use Rattle.frame_core.specs.Numbers.{Recall}
use Rattle.recall_outcomes.specs.declared.notes.Notes.{Notes}
use Rattle.recall_outcomes.specs.declared.notes.Notes.TheVariants.{Nothing}
use Rattle.recall_outcomes.specs.declared.outcomes.AuditedRecall.{AuditedRecall}
use Rattle.recall_outcomes.specs.declared.outcomes.Outcome.TheVariants.{Audited, Traced}
use Rattle.recall_outcomes.specs.declared.outcomes.Ways.{Ways}
use Rattle.gap_core.specs.Inside.{LiesInside}
use Rattle.report_core.specs.declared.audits.Verdict.TheVariants.{Equal}
use Rattle.report_core.specs.declared.traces.Trace.{Trace}
use Rattle.report_core.specs.declared.with_events.ShownEvents.{ShownEvents}
use Rattle.site_core.specs.Records.{Record, IsSound}
use Rattle.world_core.specs.declared.events.Answer.{Answer}
use Rattle.world_core.specs.declared.events.WorldEvent.{WorldEvent}
use Rattle.world_core.specs.Copies.{IsLateCopy}
use Rattle.world_core.specs.EndingLaws.{CanEnd, HasBegun, HasNumbersFor}
use Rattle.world_core.specs.Faults.{AreOneWorld}
use Rattle.world_core.specs.Recalls.{HasEnded, quarantined}
use Rattle.world_core.specs.Turns.{Runs}
use Rattle.world_core.specs.Worlds.{WorldFits, WorldState, records}
use Rattle.folder_questions.specs.Audits.{AnswersAudit}
use Rattle.folder_questions.specs.Traces.{AnswersTrace}
use Rattle.site_recovery.specs.Fit.{Fits}
use Rattle.site_recovery.specs.Laws.{captured_of}
use Rattle.site_recovery.specs.Looks.{world_of}
use Rattle.trace_core.specs.Gaps.{IsSent, WideRelated, by_known, by_own}
use Rattle.trace_core.specs.Relations.{Reaches}
use Rattle.trace_core.specs.Sites.{SiteEvents}
use Rattle.trace_core.specs.declared.pairs.Pair.{Pair}

-- The records are those of all sites, as the files of a folder show them, and no frame is on its way. Where an audit of them notes
-- nothing, no recall is stuck: as long as numbers are left, frames end it, whichever sites are open.
abbrev pub AuditedRecallsCanEnd : Type 0
AuditedRecallsCanEnd =
    (world : WorldState) (recalls : Vec AuditedRecall Global) (coded told : Bool) (recall : Recall) (root : List ℕ)
    → world.sent ≡ []
    → AreOneWorld (records world)
    → ((place : ℕ) (r : Record) → slice_get (records world) place ≡ Some r → IsSound r)
    → AnswersAudit (records world) false coded (Audited recalls false told) Nothing
    → HasBegun recall root (records world)
    → ((place : ℕ) (r : Record) → slice_get (records world) place ≡ Some r → HasNumbersFor recall r)
    → CanEnd recall root world

-- An audit of copies of all sites' records, each taken at whatever moment from the end of a recall on, finds the recall equal.
abbrev pub LateAuditsAreEqual : Type 0
LateAuditsAreEqual =
    (mid new : WorldState) (events : List WorldEvent) (answers : List Answer) (recall : Recall) (root : List ℕ) (copies : List Record)
    → (recalls : Vec AuditedRecall Global) (coded told : Bool) (notes : Notes) (audited : AuditedRecall)
    → WorldFits mid → Runs mid events answers new → HasEnded recall root (records mid)
    → length copies ≡ length (records mid) → ((site : ℕ) (copy : Record) → slice_get copies site ≡ Some copy → IsLateCopy mid new site copy)
    → AnswersAudit copies true coded (Audited recalls true told) notes
    → Contains recalls.items audited → audited.recall ≡ recall
    → audited.verdict ≡ Some (Equal (length (quarantined recall copies)))

-- A trace beside which nothing is noted is of records that agree, and has just the pairs that the item reaches by all packings that are known at the sites; of each
-- of them the item left for just those places outside for which it is known to have left; and no site put anything into the item.
abbrev pub UnnotedTracesMissNothing : Type 0
UnnotedTracesMissNothing =
    (records : List Record) (site : ℕ) (item : List ℕ) (ways : Ways) (events : Bool) (trace : Trace) (told : Ways) (behind : Option ShownEvents)
    → AnswersTrace records site item false ways events (Traced trace told behind) Nothing
    → Fits (world_of records) []
    × ((p : Pair) → Contains trace.pairs p ↔ Reaches (WideRelated (captured_of records)) trace.root p)
    × ((s : SiteEvents) (i text : List ℕ) → Contains (captured_of records) s → Contains trace.pairs (record { site = s.me; item = i })
    → IsSent (by_known (captured_of records)) s i (inr text) ↔ IsSent by_own s i (inr text))
    × ((i : List ℕ) → LiesInside (captured_of records) item i → ⊥)
