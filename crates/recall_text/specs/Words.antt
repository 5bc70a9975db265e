-- The words of answers.
use Rattle.std.specs.Prelude.{ℕ, Bool, true, false, List, [], ◌∷◌, ◌++◌, codes, Option, Some, None, length, slice_get}
use Rattle.std.specs.Fmt.{decimal}
use Rattle.std.specs.List.{flat_map}
use Rattle.event_json.specs.Names.{field_name, kind_name}
use Rattle.event_json.specs.Sites.{Site}
use Rattle.event_json.specs.declared.doc_faults.DocFault.{DocFault}
use Rattle.frame_core.specs.Numbers.{Recall, Message}
use Rattle.keeper_core.specs.declared.faults.Keep.{Keep}
use Rattle.recall_text.specs.Requests.{keep_word}
use Rattle.site_core.specs.declared.outcomes.Effects.{Effects}
use Rattle.site_core.specs.declared.outcomes.Effects.TheVariants as effects
use Rattle.site_core.specs.declared.outcomes.Refusal.{Refusal}
use Rattle.site_core.specs.declared.outcomes.Refusal.TheVariants as refusals
use Rattle.trace_core.specs.declared.pairs.Pair.{Pair}

-- the name of the site of this number
abbrev pub name_at : List Site → ℕ → List ℕ
name_at sites n = of_site (slice_get sites n) where
  of_site : Option Site → List ℕ
  of_site None = []
  of_site (Some site) = site.name

-- a recall is its site, `#` and its number; a message its sender, `.` and its number
abbrev pub recall_text : List Site → Recall → List ℕ
recall_text sites r = name_at sites r.site ++ 35 ∷ decimal r.number

abbrev pub message_text : List Site → Message → List ℕ
message_text sites m = name_at sites m.site ++ 46 ∷ decimal m.number

-- whether a recall has ended
abbrev pub ended_word : Bool → List ℕ
ended_word true = codes "ended"
ended_word false = codes "open"

-- what a message leaves behind
abbrev pub owed_word : Bool → List ℕ
owed_word true = codes "owed"
owed_word false = codes "signal"

-- What a step did. Of a frame the message is reported that it is about.

abbrev pub captured_text : ℕ → ℕ → ℕ → List ℕ
captured_text fresh known skipped = codes "captured " ++ decimal fresh ++ codes " known " ++ decimal known ++ codes " skipped " ++ decimal skipped ++ 10 ∷ []

abbrev pub started_text : List Site → Recall → ℕ → ℕ → Bool → List ℕ
started_text sites r new numbered ended =
    codes "recall " ++ recall_text sites r ++ codes " new " ++ decimal new ++ codes " messages " ++ decimal numbered ++ 32 ∷ (ended_word ended ++ 10 ∷ [])

abbrev pub received_text : List ℕ → ℕ → ℕ → Bool → List ℕ
received_text about new numbered owed =
    codes "received " ++ about ++ codes " new " ++ decimal new ++ codes " messages " ++ decimal numbered ++ 32 ∷ (owed_word owed ++ 10 ∷ [])

abbrev pub signalled_text : List ℕ → List ℕ → List ℕ
signalled_text about what = codes "signalled " ++ about ++ 32 ∷ (what ++ 10 ∷ [])

abbrev pub effects_text : List Site → List ℕ → Effects → List ℕ
effects_text sites about (effects.Captured fresh known skipped) = captured_text fresh known skipped
effects_text sites about (effects.Started r new numbered ended) = started_text sites r new numbered ended
effects_text sites about (effects.Received new numbered owed) = received_text about new numbered owed
effects_text sites about effects.Repeat = codes "repeat " ++ about ++ 10 ∷ []
effects_text sites about effects.Stale = signalled_text about (codes "stale")
effects_text sites about effects.Cleared = signalled_text about (codes "cleared")
effects_text sites about (effects.ParentDue m) = signalled_text about (codes "due " ++ message_text sites m)
effects_text sites about (effects.Ended r) = signalled_text about (codes "ended " ++ recall_text sites r)

-- Why a step was refused.

abbrev pub doc_fault_text : DocFault → List ℕ
doc_fault_text fault = codes "Doc " ++ kind_name fault.kind ++ codes " event " ++ decimal fault.event ++ codes " field " ++ field_name fault.field

abbrev pub blocked_text : List Site → Recall → List ℕ → ℕ → List ℕ
blocked_text sites r item event = codes "Blocked " ++ recall_text sites r ++ 32 ∷ [] ++ item ++ (codes " event " ++ decimal event)

abbrev pub refusal_text : List Site → Refusal → List ℕ
refusal_text sites (refusals.Blocked r item event) = blocked_text sites r item event
refusal_text sites (refusals.IdTaken event) = codes "IdTaken event " ++ decimal event
refusal_text sites refusals.UnknownItem = codes "UnknownItem"
refusal_text sites refusals.NotMine = codes "NotMine"
refusal_text sites refusals.NumbersSpent = codes "NumbersSpent"
refusal_text sites (refusals.Doc fault) = doc_fault_text fault
refusal_text sites refusals.NoMemory = codes "NoMemory"

-- The site stopped within its step.
abbrev pub stopped_text : List Site → ℕ → List ℕ
stopped_text sites n = codes "stopped " ++ name_at sites n ++ 10 ∷ []

-- Frames, stops and openings.

abbrev pub frame_text : ℕ → List ℕ
frame_text place = codes "frame " ++ decimal place ++ 10 ∷ []

abbrev pub armed_text : List ℕ → Keep → List ℕ
armed_text name keep = codes "armed " ++ name ++ 32 ∷ (keep_word keep ++ 10 ∷ [])

abbrev pub open_text : List ℕ → List ℕ
open_text name = codes "open " ++ name ++ 10 ∷ []

-- the initiator has recorded the end of the recall
abbrev pub ended_text : List Site → Recall → List ℕ
ended_text sites r = codes "ended " ++ recall_text sites r ++ 10 ∷ []

abbrev pub pumped_text : ℕ → ℕ → List ℕ
pumped_text rounds frames = codes "pumped " ++ decimal rounds ++ codes " frames " ++ decimal frames ++ 10 ∷ []

-- Lists of pairs.

abbrev pub pair_text : List Site → Pair → List ℕ
pair_text sites p = codes "pair " ++ name_at sites p.site ++ 32 ∷ p.item ++ 10 ∷ []

-- how many pairs there are
abbrev pub count_text : ℕ → List ℕ
count_text n = codes "pairs " ++ decimal n ++ 10 ∷ []

-- and how many are quarantined under a recall, and whether it has ended
abbrev pub quarantined_text : ℕ → Bool → List ℕ
quarantined_text n ended = codes "quarantined " ++ decimal n ++ 32 ∷ (ended_word ended ++ 10 ∷ [])

-- each pair
abbrev pub each_pair : List Site → List Pair → List ℕ
each_pair sites pairs = flat_map (pair_text sites) pairs

-- each pair, and how many they are
abbrev pub pairs_text : List Site → List Pair → List ℕ
pairs_text sites pairs = each_pair sites pairs ++ count_text (length pairs)

abbrev pub quarantine_text : List Site → List Pair → Bool → List ℕ
quarantine_text sites pairs ended = each_pair sites pairs ++ quarantined_text (length pairs) ended
