-- What a command came to, as JSON: values whose members are in the order of their names.
use Rattle.std.specs.Prelude.{true, ℕ, Bool, List, [], ◌∷◌, ◌++◌, codes, Option, Some, None, map, option_map, string_bytes}
use Rattle.std.specs.Global.{Global}
use Rattle.std.specs.List.{flat_map}
use Rattle.std.specs.declared.vec.Vec.{Vec}
use Rattle.event_json.specs.Names.{field_name, kind_name, sites_fault_name}
use Rattle.event_json.specs.Sites.{Site}
use Rattle.event_json.specs.declared.doc_faults.DocFault.{DocFault}
use Rattle.frame_core.specs.Numbers.{Recall, Message}
use Rattle.gap_core.specs.declared.lines.GapLine.{GapLine}
use Rattle.gap_core.specs.declared.unseen.UnseenItem.{UnseenItem}
use Rattle.gap_core.specs.declared.untold.UntoldShipment.{UntoldShipment}
use Rattle.item_spellings.specs.Names.{scan_fault_name}
use Rattle.query_core.specs.declared.known_items.KnownItem.{KnownItem}
use Rattle.query_core.specs.declared.recalls.RecallDetail.{RecallDetail}
use Rattle.query_core.specs.declared.recalls.RecallStatus.{RecallStatus}
use Rattle.query_core.specs.declared.recalls.SiteStanding.{SiteStanding}
use Rattle.query_core.specs.declared.recalls.WaitingMessage.{WaitingMessage}
use Rattle.report_core.specs.declared.audits.Verdict.{Verdict}
use Rattle.report_core.specs.declared.audits.Verdict.TheVariants.{Equal, Differs}
use Rattle.report_core.specs.declared.packing_events.PackingEvent.{PackingEvent}
use Rattle.report_core.specs.declared.trail_events.CapturedEvent.{CapturedEvent}
use Rattle.report_core.specs.declared.trail_events.StepEvents.{StepEvents}
use Rattle.report_core.specs.declared.trail_events.StepEvents.TheVariants.{Shipped, Made}
use Rattle.report_core.specs.declared.outside.OutsideShipment.{OutsideShipment}
use Rattle.report_core.specs.declared.outside_events.OutsideEvent.{OutsideEvent}
use Rattle.recall_text.specs.Words.{name_at, recall_text, message_text}
use Rattle.recall_text.specs.declared.site_lists.LineRefusal.{LineRefusal}
use Rattle.recall_text.specs.declared.site_lists.LineRefusal.TheVariants.{BadLine, BadSite}
use Rattle.serde_json.specs.Data.{Data, null, boolean, number, unsigned, string, array, object, Members, member, no_members, put}
use Rattle.serde_json.specs.View.{items_of}
use Rattle.serde_json.specs.Written.{compact_text}
use Rattle.site_core.specs.declared.outcomes.Effects.{Effects}
use Rattle.site_core.specs.declared.outcomes.Effects.TheVariants as effects
use Rattle.site_core.specs.declared.outcomes.Refusal.{Refusal}
use Rattle.site_core.specs.declared.outcomes.Refusal.TheVariants as steps
use Rattle.site_recovery.specs.declared.checking.Misfit.{Misfit}
use Rattle.trace_core.specs.declared.pairs.Pair.{Pair}
use Rattle.report_forms.specs.Accounts.{Account, OutsidePart, Part, back_account, report_account, trace_account, way_beside, way_pairs}
use Rattle.report_forms.specs.declared.accounts.Title.{Title}
use Rattle.report_forms.specs.declared.accounts.Title.TheVariants as titles
use Rattle.report_forms.specs.declared.accounts.Way.{Way}
use Rattle.report_forms.specs.declared.accounts.Way.TheVariants.{To}
use Rattle.outcome_forms.specs.Accounts.{told_events}
use Rattle.recall_outcomes.specs.declared.batches.InputOutcome.{InputOutcome}
use Rattle.recall_outcomes.specs.declared.batches.InputOutcome.TheVariants.{Captured, Started, Refused}
use Rattle.recall_outcomes.specs.declared.batches.Task.{Task}
use Rattle.recall_outcomes.specs.declared.batches.Task.TheVariants as tasks
use Rattle.recall_outcomes.specs.declared.batches.Totals.{Totals}
use Rattle.recall_outcomes.specs.declared.outcomes.AuditedRecall.{AuditedRecall}
use Rattle.recall_outcomes.specs.declared.outcomes.CommandRefusal.{CommandRefusal}
use Rattle.recall_outcomes.specs.declared.outcomes.CommandRefusal.TheVariants as refusals
use Rattle.recall_outcomes.specs.declared.outcomes.FoundGaps.{FoundGaps}
use Rattle.recall_outcomes.specs.declared.outcomes.MissedPair.{MissedPair}
use Rattle.recall_outcomes.specs.declared.outcomes.MissedReach.{MissedReach}
use Rattle.recall_outcomes.specs.declared.outcomes.Outcome.{Outcome}
use Rattle.recall_outcomes.specs.declared.outcomes.Outcome.TheVariants as outcomes
use Rattle.recall_outcomes.specs.declared.outcomes.PackedGap.{PackedGap}
use Rattle.recall_outcomes.specs.declared.outcomes.SiteCoverage.{SiteCoverage}
use Rattle.recall_outcomes.specs.declared.outcomes.StartedRecall.{StartedRecall}
use Rattle.recall_outcomes.specs.declared.outcomes.Ways.{Ways}
use Rattle.recall_outcomes.specs.declared.outcomes.Ways.TheVariants.{Trails, Steps}

-- a member of a name, with those behind it
abbrev pub text_at : List ℕ → List ℕ → Members → Members
text_at name text rest = member name (string text) rest

abbrev pub count_at : List ℕ → ℕ → Members → Members
count_at name count rest = member name (number (unsigned count)) rest

abbrev pub flag_at : List ℕ → Bool → Members → Members
flag_at name flag rest = member name (boolean flag) rest

-- an array
abbrev pub list_of : {X : Type 0} → (X → Data) → List X → Data
list_of of xs = array (items_of (map of xs))

-- ---- a step

abbrev pub captured_members : ℕ → ℕ → ℕ → Members
captured_members fresh known skipped =
    count_at (codes "captured") fresh (count_at (codes "known") known (count_at (codes "skipped") skipped no_members))

abbrev pub started_members : List Site → Recall → ℕ → ℕ → Bool → Members
started_members sites r new messages ended =
    flag_at (codes "ended") ended (count_at (codes "messages") messages (count_at (codes "new") new (text_at (codes "recall") (recall_text sites r) no_members)))

abbrev pub effects_json : List Site → Effects → Data
effects_json sites (effects.Captured fresh known skipped) = object (captured_members fresh known skipped)
effects_json sites (effects.Started r new numbered ended) = object (started_members sites r new numbered ended)
effects_json sites (effects.Received new numbered owed) =
    object (count_at (codes "messages") numbered (count_at (codes "new") new (flag_at (codes "owed") owed no_members)))
effects_json sites effects.Repeat = object (text_at (codes "effect") (codes "repeat") no_members)
effects_json sites effects.Stale = object (text_at (codes "effect") (codes "stale") no_members)
effects_json sites effects.Cleared = object (text_at (codes "effect") (codes "cleared") no_members)
effects_json sites (effects.ParentDue m) = object (text_at (codes "due") (message_text sites m) (text_at (codes "effect") (codes "due") no_members))
effects_json sites (effects.Ended r) = object (text_at (codes "effect") (codes "ended") (text_at (codes "recall") (recall_text sites r) no_members))

-- ---- a run

abbrev pub ran_json : List Site → StartedRecall → Data
ran_json sites b = object (flag_at (codes "ended") b.ended (text_at (codes "recall") (recall_text sites b.recall) no_members))

-- ---- the events behind a step

-- a text of an event, or null
abbrev pub text_or_null : Option (List ℕ) → Data
text_or_null None = null
text_or_null (Some text) = string text

abbrev pub event_json : CapturedEvent → Data
event_json e =
    object (member (codes "id") (text_or_null e.id) (count_at (codes "number") e.number (member (codes "time") (text_or_null e.time) no_members)))

-- an event that put an item into another one, and which that is
abbrev pub packing_json : PackingEvent → Data
packing_json x = object (member (codes "event") (event_json x.event) (text_at (codes "into") x.into no_members))

-- the events of a step
abbrev pub step_json : StepEvents → Data
step_json (Shipped e packings) =
    object (member (codes "event") (event_json e) (text_at (codes "kind") (codes "shipped") (member (codes "packings") (list_of packing_json packings) no_members)))
step_json (Made taken given) =
    object (member (codes "input") (event_json taken) (text_at (codes "kind") (codes "made") (member (codes "output") (event_json given) no_members)))

-- the members, with the events of the steps of a trail among them, where these were asked for
abbrev pub with_events : Option (List StepEvents) → Members → Members
with_events None members = members
with_events (Some steps) members = put (codes "events") (list_of step_json steps) members

-- ---- a report

-- the item, as its key, and the site; what is named behind them stands behind
abbrev pub pair_members : List Site → Pair → Members → Members
pair_members sites p rest = text_at (codes "item") p.item (text_at (codes "site") (name_at sites p.site) rest)

abbrev pub pair_json : List Site → Pair → Data
pair_json sites p = object (pair_members sites p no_members)

-- what is shown of how a pair is reached: the whole trail, where one is known, or the pair beside it, before it or behind it
pub data Shown : Type 0 where
  whole : Option (List Pair) → Shown
  before : Option Pair → Shown
  behind : Option Pair → Shown

abbrev pub shown_way : Ways → Way → Shown
shown_way Trails way = whole (way_pairs way)
shown_way Steps (To trail) = behind (way_beside (To trail))
shown_way Steps way = before (way_beside way)

-- a trail, or null
abbrev pub trail_json : List Site → Option (List Pair) → Data
trail_json sites None = null
trail_json sites (Some trail) = list_of (pair_json sites) trail

-- a pair, or null
abbrev pub beside_json : List Site → Option Pair → Data
beside_json sites None = null
beside_json sites (Some p) = pair_json sites p

-- the members of a pair, and of what is shown of how it is reached
abbrev pub shown_members : List Site → Pair → Shown → Members
shown_members sites p (whole trail) = pair_members sites p (member (codes "trail") (trail_json sites trail) no_members)
shown_members sites p (before q) = member (codes "from") (beside_json sites q) (pair_members sites p no_members)
shown_members sites p (behind q) = pair_members sites p (member (codes "to") (beside_json sites q) no_members)

-- and the events behind the steps that are told, where they were asked for
abbrev pub part_json : List Site → Ways → Part → Data
part_json sites ways part = object (with_events part.events (shown_members sites part.pair (shown_way ways part.way)))

-- a shipment out of the traced sites, with its event and what the item left with, where they are told
abbrev pub shown_outside : List Site → OutsideShipment → Option OutsideEvent → Data
shown_outside sites x None =
    object (text_at (codes "destination") x.destination (text_at (codes "item") x.item (text_at (codes "site") (name_at sites x.site) no_members)))
shown_outside sites x (Some told) =
    object (text_at (codes "carrier") told.carrier (text_at (codes "destination") x.destination (member (codes "event") (event_json told.event)
    (text_at (codes "item") x.item (text_at (codes "site") (name_at sites x.site) no_members)))))

abbrev pub outside_json : List Site → OutsidePart → Data
outside_json sites x = shown_outside sites x.shipment x.event

-- a report or a trace of these parts
abbrev pub titled_json : List Site → Title → Pair → List OutsidePart → List Pair → Data → Data
titled_json sites (titles.Recall r ended) root outside origins pairs =
    object (flag_at (codes "ended") ended (member (codes "outside") (list_of (outside_json sites) outside) (member (codes "pairs") pairs
    (text_at (codes "recall") (recall_text sites r) (member (codes "root") (pair_json sites root) no_members)))))
titled_json sites titles.Forward root outside origins pairs =
    object (member (codes "outside") (list_of (outside_json sites) outside) (member (codes "pairs") pairs
    (member (codes "root") (pair_json sites root) (text_at (codes "trace") (codes "forward") no_members))))
titled_json sites titles.Back root outside origins pairs =
    object (member (codes "origins") (list_of (pair_json sites) origins) (member (codes "pairs") pairs
    (member (codes "root") (pair_json sites root) (text_at (codes "trace") (codes "back") no_members))))

unfoldable pub account_json : List Site → Ways → Account → Data
account_json sites ways a = titled_json sites a.title a.root a.outside a.origins (list_of (part_json sites ways) a.parts)

-- ---- how recalls stand

-- the recalled item, at the site that began the recall
abbrev pub root_json : List Site → RecallStatus → Data
root_json sites s = pair_json sites (record { site = s.recall.site; item = s.root })

unfoldable pub status_json : List Site → RecallStatus → Data
status_json sites s =
    object (flag_at (codes "ended") s.ended (count_at (codes "quarantined") s.quarantined (text_at (codes "recall") (recall_text sites s.recall)
    (member (codes "root") (root_json sites s) (count_at (codes "waiting") s.waiting no_members)))))

abbrev pub engaged_json : List Site → Option Message → Data
engaged_json sites None = null
engaged_json sites (Some m) = string (message_text sites m)

abbrev pub standing_json : List Site → SiteStanding → Data
standing_json sites s =
    object (member (codes "engaged_by") (engaged_json sites s.engaged_by) (count_at (codes "quarantined") s.quarantined
    (text_at (codes "site") (name_at sites s.site) (count_at (codes "waiting") s.waiting no_members))))

abbrev pub waiting_json : List Site → WaitingMessage → Data
waiting_json sites w =
    object (text_at (codes "item") w.item (text_at (codes "message") (message_text sites w.message)
    (text_at (codes "to") (name_at sites w.to) (flag_at (codes "told") w.told no_members))))

unfoldable pub detail_json : List Site → RecallDetail → Data
detail_json sites detail = of_status detail.status where
  of_status : RecallStatus → Data
  of_status s =
      object (flag_at (codes "ended") s.ended (member (codes "messages") (list_of (waiting_json sites) detail.waiting)
      (count_at (codes "quarantined") s.quarantined (text_at (codes "recall") (recall_text sites s.recall)
      (member (codes "root") (root_json sites s) (member (codes "sites") (list_of (standing_json sites) detail.sites)
      (count_at (codes "waiting") s.waiting no_members)))))))

-- ---- items

abbrev pub known_json : List Site → ℕ → KnownItem → Data
known_json sites site k =
    object (count_at (codes "events") k.events (text_at (codes "item") k.item (text_at (codes "site") (name_at sites site) no_members)))

-- ---- a start that isn't made

abbrev pub would_json : ℕ → ℕ → Data
would_json quarantined messages =
    object (count_at (codes "messages") messages (count_at (codes "new") quarantined (text_at (codes "would") (codes "recall") no_members)))

-- ---- an audit

abbrev pub misfit_json : List Site → Misfit → Data
misfit_json sites misfit = object (count_at (codes "misfit") misfit.condition (text_at (codes "site") (name_at sites misfit.site) no_members))

abbrev pub differs_json : List Site → List ℕ → Pair → Bool → Data
differs_json sites recall p missing =
    object (text_at (codes "audit") (codes "differs") (text_at (codes "item") p.item (flag_at (codes "missing") missing
    (text_at (codes "recall") recall (text_at (codes "site") (name_at sites p.site) no_members)))))

abbrev pub verdict_json : List Site → Recall → Option Verdict → Data
verdict_json sites r None = object (text_at (codes "audit") (codes "open") (text_at (codes "recall") (recall_text sites r) no_members))
verdict_json sites r (Some (Equal count)) =
    object (text_at (codes "audit") (codes "equal") (count_at (codes "pairs") count (text_at (codes "recall") (recall_text sites r) no_members)))
verdict_json sites r (Some (Differs p missing)) = differs_json sites (recall_text sites r) p missing

abbrev pub audited_json : List Site → AuditedRecall → Data
audited_json sites audited = verdict_json sites audited.recall audited.verdict

-- ---- gaps

-- a container, the site that shipped it on, the one that packed it, and how many items lie in it
abbrev pub gap_line_json : List Site → GapLine → Data
gap_line_json sites l =
    object (text_at (codes "by") (name_at sites l.by) (text_at (codes "item") l.container (count_at (codes "items") l.items
    (text_at (codes "site") (name_at sites l.site) no_members))))

-- and when it was packed there and shipped here, or null
abbrev pub packed_json : List Site → PackedGap → Data
packed_json sites g =
    object (text_at (codes "by") (name_at sites g.line.by) (text_at (codes "item") g.line.container (count_at (codes "items") g.line.items
    (member (codes "packed_at") (text_or_null g.packed_at) (member (codes "shipped_at") (text_or_null g.shipped_at)
    (text_at (codes "site") (name_at sites g.line.site) no_members))))))

-- a container, the site that took it into a transformation, and how many items that lie in it weren't taken in
abbrev pub used_json : List Site → GapLine → Data
used_json sites l = object (text_at (codes "item") l.container (count_at (codes "items") l.items (text_at (codes "site") (name_at sites l.site) no_members)))

-- an item, the site that it was shipped to, and the one that shipped it
abbrev pub unseen_json : List Site → UnseenItem → Data
unseen_json sites u =
    object (text_at (codes "from") (name_at sites u.from) (text_at (codes "item") u.item (text_at (codes "site") (name_at sites u.site) no_members)))

-- the containers that never came from where they were packed, where they are told
abbrev pub unlinked_of : FoundGaps → Option (List GapLine)
unlinked_of gaps = option_map (λ (lines : Vec GapLine Global). lines.items) gaps.unlinked

-- these, or null
abbrev pub unlinked_json : List Site → Option (List GapLine) → Data
unlinked_json sites None = null
unlinked_json sites (Some lines) = list_of (gap_line_json sites) lines

-- how many items lie in the packed ones, and all of them; a lot stands with its site
unfoldable pub gaps_json : List Site → FoundGaps → Data
gaps_json sites gaps =
    object (count_at (codes "items") gaps.items (member (codes "lots") (list_of (pair_json sites) gaps.lots.items)
    (member (codes "packed") (list_of (packed_json sites) gaps.packed.items) (member (codes "unlinked") (unlinked_json sites (unlinked_of gaps))
    (member (codes "unseen") (list_of (unseen_json sites) gaps.unseen.items) (member (codes "used") (list_of (used_json sites) gaps.used.items) no_members))))))

-- ---- what a recall misses

-- the recall that holds a pair, or null
abbrev pub held_json : List Site → Option Recall → Data
held_json sites None = null
held_json sites (Some r) = string (recall_text sites r)

abbrev pub missed_pair_json : List Site → MissedPair → Data
missed_pair_json sites m = object (member (codes "held_by") (held_json sites m.held) (pair_members sites m.pair no_members))

-- an item that left the traced sites, the site that shipped it, and where it went
abbrev pub left_json : List Site → UntoldShipment → Data
left_json sites x =
    object (text_at (codes "destination") x.destination (text_at (codes "item") x.item (text_at (codes "site") (name_at sites x.site) no_members)))

unfoldable pub missed_json : List Site → Recall → MissedReach → Data
missed_json sites r missed =
    object (member (codes "left") (list_of (left_json sites) missed.outside.items) (member (codes "missed") (list_of (missed_pair_json sites) missed.pairs.items)
    (text_at (codes "recall") (recall_text sites r) no_members)))

-- ---- refusals

abbrev pub refused : List ℕ → Members → Members
refused name rest = text_at (codes "refused") name rest

abbrev pub doc_members : DocFault → Members
doc_members fault =
    count_at (codes "event") fault.event (text_at (codes "field") (field_name fault.field) (text_at (codes "kind") (kind_name fault.kind) (refused (codes "Doc") no_members)))

abbrev pub blocked_members : List Site → Recall → List ℕ → ℕ → Members
blocked_members sites r item event =
    count_at (codes "event") event (text_at (codes "item") item (text_at (codes "recall") (recall_text sites r) (refused (codes "Blocked") no_members)))

abbrev pub step_members : List Site → Refusal → Members
step_members sites (steps.Blocked r item event) = blocked_members sites r item event
step_members sites (steps.IdTaken event) = count_at (codes "event") event (refused (codes "IdTaken") no_members)
step_members sites steps.UnknownItem = refused (codes "UnknownItem") no_members
step_members sites steps.NotMine = refused (codes "NotMine") no_members
step_members sites steps.NumbersSpent = refused (codes "NumbersSpent") no_members
step_members sites (steps.Doc fault) = doc_members fault
step_members sites steps.NoMemory = refused (codes "NoMemory") no_members

abbrev pub line_members : ℕ → LineRefusal → Members
line_members line BadLine = count_at (codes "line") line (refused (codes "BadLine") no_members)
line_members line (BadSite why) = text_at (codes "kind") (sites_fault_name why) (count_at (codes "line") line (refused (codes "BadSite") no_members))

abbrev pub why_members : List Site → CommandRefusal → Members
why_members sites (refusals.Line refused) = line_members refused.line refused.why
why_members sites refusals.NoWorld = refused (codes "NoWorld") no_members
why_members sites (refusals.Exists name) = text_at (codes "name") (string_bytes name) (refused (codes "Exists") no_members)
why_members sites (refusals.NoSite name) = refused (codes "NoSite") (text_at (codes "site") (string_bytes name) no_members)
why_members sites refusals.BadEpc = refused (codes "BadEpc") no_members
why_members sites refusals.BadKey = refused (codes "BadKey") no_members
why_members sites (refusals.BadScan fault) = text_at (codes "kind") (scan_fault_name fault) (refused (codes "BadScan") no_members)
why_members sites refusals.BadRecall = refused (codes "BadLine") no_members
why_members sites refusals.UnknownRecall = refused (codes "UnknownRecall") no_members
why_members sites (refusals.Step why) = step_members sites why

abbrev pub why_json : List Site → CommandRefusal → Data
why_json sites why = object (why_members sites why)

-- ---- the whole

-- the names of the sites whose files were made
abbrev pub created_json : List Site → Data
created_json sites = object (member (codes "created") (list_of (λ s. string s.name) sites) no_members)

-- what a site captured, and from when to when
abbrev pub covered_json : List Site → SiteCoverage → Data
covered_json sites c =
    object (count_at (codes "events") c.events (member (codes "first") (text_or_null c.first) (count_at (codes "items") c.items
    (member (codes "last") (text_or_null c.last) (text_at (codes "site") (name_at sites c.site) no_members)))))

-- that sites didn't run
abbrev pub withheld_json : Data
withheld_json = object (member (codes "withheld") (boolean true) no_members)

-- a value for each line
abbrev pub outcome_json : List Site → Outcome → List Data
outcome_json sites outcomes.Created = created_json sites ∷ []
outcome_json sites (outcomes.Stepped effects) = effects_json sites effects ∷ []
outcome_json sites (outcomes.Ran recalls coded) = map (ran_json sites) recalls.items
outcome_json sites (outcomes.Reported r report ways events) = account_json sites ways (report_account r report events) ∷ []
outcome_json sites (outcomes.Traced trace ways events) = account_json sites ways (trace_account trace events) ∷ []
outcome_json sites (outcomes.TracedBack trace ways events) = account_json sites ways (back_account trace (told_events events)) ∷ []
outcome_json sites (outcomes.Standing recalls coded) = map (status_json sites) recalls.items
outcome_json sites (outcomes.Waiting detail coded) = detail_json sites detail ∷ []
outcome_json sites (outcomes.Known site items) = map (known_json sites site) items.items
outcome_json sites (outcomes.WouldStart quarantined messages) = would_json quarantined messages ∷ []
outcome_json sites outcomes.Withheld = withheld_json ∷ []
outcome_json sites (outcomes.Audited recalls ended coded) = map (audited_json sites) recalls.items
outcome_json sites (outcomes.Inconsistent misfit) = misfit_json sites misfit ∷ []
outcome_json sites (outcomes.Covered found) = map (covered_json sites) found.items
outcome_json sites (outcomes.Gaps gaps coded) = gaps_json sites gaps ∷ []
outcome_json sites (outcomes.Missed r missed coded) = missed_json sites r missed ∷ []
outcome_json sites (outcomes.Refused whys) = map (why_json sites) whys.items

-- ---- inputs of several, with their source

abbrev pub input_members : List Site → InputOutcome → Members
input_members sites (Captured fresh known skipped) = captured_members fresh known skipped
input_members sites (Started r new messages ended) = started_members sites r new messages ended
input_members sites (Refused why) = why_members sites why

-- a document comes of a file, and an EPC of a file or of the command line
abbrev pub source_name : Task → List ℕ
source_name tasks.Capture = codes "file"
source_name tasks.Start = codes "source"

abbrev pub input_json : Task → List Site → List ℕ → InputOutcome → Data
input_json task sites source came = object (put (source_name task) (string source) (input_members sites came))

abbrev pub documents_json : Totals → Data
documents_json t =
    object (count_at (codes "captured") t.captured (count_at (codes "documents") t.inputs (count_at (codes "known") t.known
    (count_at (codes "refused") t.refused (count_at (codes "skipped") t.skipped no_members)))))

abbrev pub items_json : Totals → Data
items_json t = object (count_at (codes "items") t.inputs (count_at (codes "refused") t.refused (count_at (codes "started") t.started no_members)))

abbrev pub total_json : Task → Totals → Data
total_json tasks.Capture t = documents_json t
total_json tasks.Start t = items_json t

abbrev pub totals_json : Totals → Data
totals_json t = total_json t.task t

-- ---- as lines

abbrev pub json_line : Data → List ℕ
json_line d = compact_text d ++ 10 ∷ []

abbrev pub json_lines : List Data → List ℕ
json_lines ds = flat_map json_line ds
