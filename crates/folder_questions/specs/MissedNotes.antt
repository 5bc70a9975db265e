-- What is noted of pairs that are missed, and of what lies in an item.
use Rattle.std.specs.Prelude.{◌≡◌, ◌≢◌, ◌↔◌, ◌⊎◌, ℕ, List, [], Contains, length}
use Rattle.gap_core.specs.Inside.{AreInside}
use Rattle.gap_core.specs.Missed.{IsMissedPair}
use Rattle.gap_core.specs.Touched.{AreTouchedLines}
use Rattle.recall_outcomes.specs.Missed.{IsNoReach}
use Rattle.recall_outcomes.specs.declared.notes.Notes.{Notes}
use Rattle.recall_outcomes.specs.declared.notes.Notes.TheVariants.{Nothing, Missed}
use Rattle.recall_outcomes.specs.declared.outcomes.MissedReach.{MissedReach}
use Rattle.site_core.specs.Records.{Record}
use Rattle.site_recovery.specs.Laws.{captured_of}
use Rattle.trace_core.specs.Chains.{Related}
use Rattle.trace_core.specs.Pairs.{IsStrictlyAscending}
use Rattle.trace_core.specs.Relations.{Reaches}
use Rattle.trace_core.specs.declared.pairs.Pair.{Pair}
use Rattle.folder_questions.specs.Missed.{AreMissedBy}

-- just those of the pairs that are missed, in order and each once
pub record AreMissedOf (records : List Record) (pairs found : List Pair) : Type 0 where
  pub ascending : IsStrictlyAscending found
  pub exact : (p : Pair) → Contains found p ↔ (Contains pairs p × IsMissedPair (captured_of records) p)

-- so many items lie in it by the packings of all sites
abbrev pub CountsInside : List Record → List ℕ → ℕ → Type 0
CountsInside records item n = (items : List (List ℕ)) × AreInside (captured_of records) item items × (n ≡ length items)

-- what a recall of the root misses, where pairs are missed, and else nothing
abbrev pub IsReachBeside : List Record → Pair → List Pair → MissedReach → Type 0
IsReachBeside records root missed reach = ((missed ≢ []) × AreMissedBy records root reach) ⊎ ((missed ≡ []) × IsNoReach reach)

-- What is missed of the pairs is noted, with the containers in which it went on and with what a recall of the root misses by that; and how many items lie
-- in the root's. Where there is neither, nothing is.
abbrev pub NotesMissed : List Record → List Pair → Pair → Notes → Type 0
NotesMissed records pairs root Nothing = AreMissedOf records pairs [] × CountsInside records root.item 0
NotesMissed records pairs root (Missed found) =
    AreMissedOf records pairs found.pairs.items × AreTouchedLines (captured_of records) found.pairs.items found.containers.items
    × IsReachBeside records root found.pairs.items found.reach × CountsInside records root.item found.inside × ((found.pairs.items ≢ []) ⊎ (found.inside ≢ 0))
NotesMissed records pairs root other = ⊥

-- Where these are all that the item at the site reaches.
abbrev pub NotesMissedFrom : List Record → Pair → Notes → Type 0
NotesMissedFrom records root notes =
    (pairs : List Pair) × ((p : Pair) → Contains pairs p ↔ Reaches (Related (captured_of records)) root p) × NotesMissed records pairs root notes

-- What is missed of the pairs is noted, with the containers in which it went on, and nothing else.
abbrev pub NotesMissedAlone : List Record → List Pair → Notes → Type 0
NotesMissedAlone records pairs Nothing = AreMissedOf records pairs []
NotesMissedAlone records pairs (Missed found) =
    AreMissedOf records pairs found.pairs.items × AreTouchedLines (captured_of records) found.pairs.items found.containers.items
    × IsNoReach found.reach × (found.inside ≡ 0) × (found.pairs.items ≢ [])
NotesMissedAlone records pairs other = ⊥
