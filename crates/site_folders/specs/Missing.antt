-- What recalls miss, and what a recall of a container leaves out.
use Rattle.std.specs.Prelude.{◌≡◌, ◌≢◌, ◌↔◌, ℕ, List, [], ◌∷◌, Contains, length}
use Rattle.gap_core.specs.Inside.{AreInside}
use Rattle.gap_core.specs.Missed.{IsMissedPair}
use Rattle.recall_outcomes.specs.Missed.{IsNoReach}
use Rattle.recall_outcomes.specs.declared.notes.Notes.{Notes}
use Rattle.recall_outcomes.specs.declared.notes.Notes.TheVariants as notes
use Rattle.site_core.specs.Records.{Record}
use Rattle.site_recovery.specs.Laws.{captured_of}
use Rattle.trace_core.specs.Chains.{Related}
use Rattle.trace_core.specs.Pairs.{IsStrictlyAscending}
use Rattle.trace_core.specs.Relations.{ReachedFrom}
use Rattle.trace_core.specs.declared.pairs.Pair.{Pair}

-- just the pairs that these roots reach and that are missed: sent on with something that others packed; in order, each once
pub record AreMissedFrom (records : List Record) (roots missed : List Pair) : Type 0 where
  pub ascending : IsStrictlyAscending missed
  pub exact : (p : Pair) → Contains missed p ↔ (ReachedFrom (Related (captured_of records)) roots p × IsMissedPair (captured_of records) p)

-- so many items lie in this one by the packings that the site captured
abbrev pub CountsOwn : Record → List ℕ → ℕ → Type 0
CountsOwn r item n = (items : List (List ℕ)) × AreInside (r.captured ∷ []) item items × (n ≡ length items)

-- it is noted how many items lie in one, if any do
abbrev pub NotesInside : ℕ → Notes → Type 0
NotesInside inside notes.Nothing = inside ≡ 0
NotesInside inside (notes.Missed found) =
    (found.pairs.items ≡ []) × (found.containers.items ≡ []) × IsNoReach found.reach × (found.inside ≡ inside) × (inside ≢ 0)
NotesInside inside other = ⊥
