-- What becomes of the events of a document (GS1 EPCIS 2.0, section 7.4: the eventID names one event).
use Rattle.std.specs.Prelude.{◌≡◌, ℕ, suc, Bool, true, false, not, if◌then◌else◌, List, [], ◌∷◌, ◌++◌, map, filter, count_by, position, take, Option, Some, None, Result, Ok, Err, ⊤}
use Rattle.std.specs.List.{list_any, enumerate_from}
use Rattle.event_json.specs.Events.{Content}
use Rattle.trace_core.specs.declared.adding.AddFault.{AddFault}
use Rattle.trace_core.specs.declared.adding.AddFault.TheVariants.{NoMemory, IdTaken}
use Rattle.trace_core.specs.declared.adding.Standing.{Standing}
use Rattle.trace_core.specs.declared.adding.Standing.TheVariants.{Fresh, Known, Taken}
use Rattle.event_json.specs.Contents.{same_content}
use Rattle.trace_core.specs.PairTests.{same_id}

-- how an event stands among other events: fresh without an eventID, or with one that none of them has; known where one of them is equal to it;
-- else its eventID is taken
unfoldable pub standing_among : List Content → Content → Standing
standing_among events e =
    if not (list_any (λ f. same_id f.id e.id) events) then Fresh else
    if list_any (λ f. same_content f e) events then Known else Taken

abbrev pub is_fresh : Content × Standing → Bool
is_fresh (e, Fresh) = true
is_fresh (e, Known) = false
is_fresh (e, Taken) = false

abbrev pub is_known : Content × Standing → Bool
is_known (e, Fresh) = false
is_known (e, Known) = true
is_known (e, Taken) = false

abbrev pub is_taken : Content × Standing → Bool
is_taken (e, Fresh) = false
is_taken (e, Known) = false
is_taken (e, Taken) = true

-- the events of a document, each with how it stands among the events before the document and the given ones before it
abbrev pub judged : List Content → List Content → List (Content × Standing)
judged before given = map (λ p. (p.1, standing_among (before ++ take p.0 given) p.1)) (enumerate_from 0 given)

-- the events of a site after a document, and how many of the document's were fresh and known
pub record Addition : Type 0 where
  pub events : List Content
  pub fresh : ℕ
  pub known : ℕ

-- the fresh ones are kept, in order
abbrev pub kept_with : List Content → List (Content × Standing) → Addition
kept_with before given = record {
  events = before ++ map (λ g. g.0) (filter is_fresh given);
  fresh = count_by is_fresh given;
  known = count_by is_known given;
}

-- what the judged events of a document make of the events before it, or the place, from 1, of the first one whose eventID is taken
abbrev pub outcome_at : List Content → List (Content × Standing) → Option ℕ → Result Addition ℕ
outcome_at before given None = Ok (kept_with before given)
outcome_at before given (Some place) = Err (suc place)

abbrev pub outcome_of : List Content → List (Content × Standing) → Result Addition ℕ
outcome_of before given = outcome_at before given (position is_taken given)

unfoldable pub adding : List Content → List Content → Result Addition ℕ
adding before given = outcome_of before (judged before given)

-- the events once one event has come that stands so
abbrev pub with_fresh : List Content → Content → Standing → List Content
with_fresh events e Fresh = events ++ e ∷ []
with_fresh events e Known = events
with_fresh events e Taken = events

-- the fault of a call that adds: a taken eventID is that of adding, and memory may always run out
abbrev pub FaultOf : Result Addition ℕ → AddFault → Type 0
FaultOf outcome NoMemory = ⊤
FaultOf outcome (IdTaken event) = outcome ≡ Err event
