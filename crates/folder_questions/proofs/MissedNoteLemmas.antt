-- what is noted of pairs that are missed
use Rattle.std.proofs.Common.{◌≡◌, ◌↔◌, ℕ, List, length, subst}
use Rattle.std.specs.List.{Contains}
use Rattle.gap_core.specs.Inside.{AreInside}
use Rattle.gap_core.specs.Missed.{IsMissedPair}
use Rattle.gap_core.specs.Touched.{AreTouchedLines}
use Rattle.gap_core.specs.declared.lines.GapLine.{GapLine}
use Rattle.site_core.specs.Records.{Record}
use Rattle.site_recovery.specs.Laws.{captured_of}
use Rattle.trace_core.specs.Pairs.{IsStrictlyAscending}
use Rattle.trace_core.specs.Sites.{SiteEvents}
use Rattle.trace_core.specs.declared.pairs.Pair.{Pair}
use Rattle.folder_questions.specs.MissedNotes.{AreMissedOf, CountsInside}

-- the missed ones, by what the records have captured
pub are_missed_of : (records : List Record) (sites : List SiteEvents) (pairs found : List Pair) → sites ≡ captured_of records → IsStrictlyAscending found
    → ((p : Pair) → Contains found p ↔ (Contains pairs p × IsMissedPair sites p)) → AreMissedOf records pairs found
are_missed_of records sites pairs found are ascending exact = record {
  ascending = ascending;
  exact = subst (λ (ss : List SiteEvents). (p : Pair) → Contains found p ↔ (Contains pairs p × IsMissedPair ss p)) are exact;
}

-- how many lie in the item
pub counts_inside : (records : List Record) (sites : List SiteEvents) (item : List ℕ) (items : List (List ℕ)) (n : ℕ) → sites ≡ captured_of records → AreInside sites item items → n ≡ length items → CountsInside records item n
counts_inside records sites item items n are inside count = (items, subst (λ (ss : List SiteEvents). AreInside ss item items) are inside, count)

-- the containers in which the missed ones went
pub touched_by : (records : List Record) (sites : List SiteEvents) (copy missed : List Pair) (lines : List GapLine) → sites ≡ captured_of records → copy ≡ missed → AreTouchedLines sites copy lines → AreTouchedLines (captured_of records) missed lines
touched_by records sites copy missed lines are same touched =
    subst (λ (ss : List SiteEvents). AreTouchedLines ss missed lines) are (subst (λ (ps : List Pair). AreTouchedLines sites ps lines) same touched)
