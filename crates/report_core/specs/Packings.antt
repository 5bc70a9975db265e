-- How it is found by which packings an item came to lie in what was shipped.
use Rattle.std.specs.Prelude.{◌≡◌, ◌++◌, ℕ, List, [], ◌∷◌, Option, None, Some}
use Rattle.event_json.specs.Events.{Content}
use Rattle.trace_core.specs.Pairs.{Carries}
use Rattle.trace_core.specs.declared.pairs.Pair.{Pair}
use Rattle.report_core.specs.Leaving.{IsLeftWith}
use Rattle.report_core.specs.Sources.{Index}
use Rattle.report_core.specs.TrailEvents.{ArePackings, IsFirstPacking}
use Rattle.report_core.specs.declared.makers.EventPlace.{EventPlace}
use Rattle.report_core.specs.declared.packing_events.PackingEvent.{PackingEvent}

-- an event puts the item of the one pair into that of the other one
abbrev pub IsPutInto : List Content → Pair → Pair → Type 0
IsPutInto events p q = Carries events q.item p.item

-- the first event that puts the inner item into the outer one, which it tells
abbrev pub TellsPacking : List Content → List ℕ → List ℕ → PackingEvent → Type 0
TellsPacking events inner outer x = (x.into ≡ outer) × IsFirstPacking events inner outer x.event

-- so for the step from a pair to another one
abbrev pub TellsPut : List Content → Pair × Pair → PackingEvent → Type 0
TellsPut events step x = TellsPacking events step.0.item step.1.item x

-- none where no event puts it there
abbrev pub AnswersPacking : List Content → List ℕ → List ℕ → Option PackingEvent → Type 0
AnswersPacking events inner outer None = Carries events outer inner → ⊥
AnswersPacking events inner outer (Some x) = TellsPacking events inner outer x

-- one packing more, at the end
abbrev pub AddsPacking : List Content → Pair → Pair → List PackingEvent → List PackingEvent → Type 0
AddsPacking events p q old new = (x : PackingEvent) × (new ≡ old ++ x ∷ []) × TellsPut events (p, q) x

-- by which packings the item came to lie in what it left with; none where it left with none of these
abbrev pub AnswersPackings : List Content → Index → EventPlace → List ℕ → List Pair → Option (List PackingEvent) → Type 0
AnswersPackings events sent place item carriers None = IsLeftWith sent place item carriers None
AnswersPackings events sent place item carriers (Some packings) =
    (carrier : List ℕ) × IsLeftWith sent place item carriers (Some carrier) × ArePackings events item packings carrier
