-- What is told of gaps.
use Rattle.std.specs.Prelude.{◌≡◌, ◌≢◌, ◌↔◌, ◌⊎◌, ◌++◌, ◌∷◌, [], ℕ, Bool, true, false, List, Contains, Option, None, Some, MatchOption, length, option_map, slice_get}
use Rattle.std.specs.List.{AllZip}
use Rattle.std.specs.List.Sorted.{IsStrictlySortedBy}
use Rattle.gap_core.specs.LineEvents.{AreEventsOf}
use Rattle.gap_core.specs.Lines.{AreGapLines, AreUsedLines, items_in}
use Rattle.gap_core.specs.Unlinked.{AreUnlinkedLines}
use Rattle.gap_core.specs.Unseen.{IsUnseen, unseen_item_cmp}
use Rattle.gap_core.specs.declared.line_events.GapEvents.{GapEvents}
use Rattle.gap_core.specs.declared.lines.GapLine.{GapLine}
use Rattle.gap_core.specs.declared.unseen.UnseenItem.{UnseenItem}
use Rattle.report_core.specs.EventTimes.{TellsTime}
use Rattle.recall_outcomes.specs.declared.notes.Notes.{Notes}
use Rattle.recall_outcomes.specs.declared.notes.Notes.TheVariants as notes
use Rattle.recall_outcomes.specs.declared.outcomes.FoundGaps.{FoundGaps}
use Rattle.recall_outcomes.specs.declared.outcomes.Outcome.{Outcome}
use Rattle.recall_outcomes.specs.declared.outcomes.Outcome.TheVariants.{Gaps}
use Rattle.recall_outcomes.specs.declared.outcomes.PackedGap.{PackedGap}
use Rattle.site_core.specs.Records.{Record}
use Rattle.site_recovery.specs.Laws.{captured_of}
use Rattle.trace_core.specs.Pairs.{IsStrictlyAscending}
use Rattle.trace_core.specs.Sites.{SiteEvents}
use Rattle.trace_core.specs.declared.pairs.Pair.{Pair}
use Rattle.folder_questions.specs.Lots.{IsLotGap}

-- ---- times

-- the time of the site's event at the place
abbrev pub TellsTimeOf : SiteEvents → ℕ → Option (List ℕ) → Type 0
TellsTimeOf s place time = MatchOption (slice_get s.events place) (time ≡ None) (λ e. TellsTime e.instant time)

-- so of the site of a number, which stands in the place of that
abbrev pub TellsTimeAt : List SiteEvents → ℕ → Option ℕ → Option (List ℕ) → Type 0
TellsTimeAt sites number None time = time ≡ None
TellsTimeAt sites number (Some place) time = MatchOption (slice_get sites number) (time ≡ None) (λ s. TellsTimeOf s place time)

-- the line, with the times of its first packing and its last shipment
pub record HasTimes (sites : List SiteEvents) (line : GapLine) (events : GapEvents) (gap : PackedGap) : Type 0 where
  pub of : gap.line ≡ line
  pub packed_at : TellsTimeAt sites line.by events.packed gap.packed_at
  pub shipped_at : TellsTimeAt sites line.site events.shipped gap.shipped_at

abbrev pub IsTimed : List SiteEvents → GapLine → PackedGap → Type 0
IsTimed sites line gap = (events : GapEvents) × AreEventsOf sites line events × HasTimes sites line events gap

-- one more
abbrev pub AddsTimed : List SiteEvents → GapLine → GapEvents → List PackedGap → List PackedGap → Type 0
AddsTimed sites line events old new = (gap : PackedGap) × (new ≡ old ++ gap ∷ []) × HasTimes sites line events gap

-- ---- gaps

-- all gaps of what sites captured and hold: containers that were shipped on, how many items lie in them, and when they were packed and shipped; containers
-- that were used; what nobody saw come; and lots
pub record AreGapsOf (records : List Record) (gaps : FoundGaps) : Type 0 where
  pub lines : List GapLine
  pub packed : AreGapLines (captured_of records) lines
  pub timed : AllZip (IsTimed (captured_of records)) lines gaps.packed.items
  pub items : gaps.items ≡ items_in lines
  pub used : AreUsedLines (captured_of records) gaps.used.items
  pub ascending : IsStrictlySortedBy unseen_item_cmp gaps.unseen.items
  pub unseen : (u : UnseenItem) → Contains gaps.unseen.items u ↔ IsUnseen (captured_of records) u
  pub lots_ascending : IsStrictlyAscending gaps.lots.items
  pub lots : (p : Pair) → Contains gaps.lots.items p ↔ IsLotGap records p

-- how many containers never came from where they were packed, unless they are listed or there is none
abbrev pub NotesUnlinked : Bool → ℕ → Notes → Type 0
NotesUnlinked all count notes.Nothing = (all ≡ true) ⊎ (count ≡ 0)
NotesUnlinked all count (notes.Gaps told) = (all ≡ false) × (count ≢ 0) × (told.unlinked ≡ count)
NotesUnlinked all count other = ⊥

-- those containers are listed, if all are asked for
abbrev pub Lists : Bool → List GapLine → Option (List GapLine) → Type 0
Lists false lines told = told ≡ None
Lists true lines told = told ≡ Some lines

-- the gaps of what the records have captured and hold, with the status that was asked for; and containers that never came from where they were packed, listed or
-- counted
abbrev pub AnswersGaps : List Record → Bool → Bool → Outcome → Notes → Type 0
AnswersGaps records all coded (Gaps gaps told) notes =
    (told ≡ coded) × AreGapsOf records gaps
    × (lines : List GapLine) × AreUnlinkedLines (captured_of records) lines × Lists all lines (option_map (λ v. v.items) gaps.unlinked) × NotesUnlinked all (length lines) notes
AnswersGaps records all coded other notes = ⊥
