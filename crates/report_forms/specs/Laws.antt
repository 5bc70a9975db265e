-- What rows and pictures are, in the words of those that read them.
use Rattle.std.specs.Prelude.{◌≡◌, ◌==◌, ◌⊎◌, ℕ, Bool, true, false, List, [], ◌∷◌, ◌++◌, Option, Some, None, codes, drop, if◌then◌else◌, map, option_map, take}
use Rattle.std.specs.List.{AllZip}
use Rattle.epc_core.specs.Items.{sgtin_key, sscc_key, uri_key, with_first}
use Rattle.epc_core.specs.Numbers.{IsChecked}
use Rattle.epc_core.specs.Serials.{IsSerial}
use Rattle.event_json.specs.Sites.{Site}
use Rattle.frame_core.specs.Numbers.{Recall}
use Rattle.item_spellings.specs.LotParts.{IsLot, IsLotOf, lot_number}
use Rattle.item_spellings.specs.Lots.{lot_text}
use Rattle.report_core.specs.TrailEvents.{TellsStep, pairs_shown, steps_of}
use Rattle.report_core.specs.declared.reports.RecallReport.{RecallReport}
use Rattle.report_core.specs.declared.traces.BackTrace.{BackTrace}
use Rattle.report_core.specs.declared.traces.Trace.{Trace}
use Rattle.report_core.specs.declared.trail_events.ShownSteps.{ShownSteps}
use Rattle.report_core.specs.declared.trail_events.ShownSteps.TheVariants.{Each, First, Last}
use Rattle.report_core.specs.declared.trail_events.StepEvents.{StepEvents}
use Rattle.report_core.specs.declared.with_events.ShownEvents.{ShownEvents}
use Rattle.trace_core.specs.Sites.{SiteEvents}
use Rattle.trace_core.specs.declared.pairs.Pair.{Pair}
use Rattle.report_forms.specs.Accounts.{back_account, report_account, trace_account, way_beside}
use Rattle.report_forms.specs.Csv.{Fields, account_rows, gtin_of, guarded, lot_of, serial_of, sscc_of}
use Rattle.report_forms.specs.Dot.{dot_text, with_entities}
use Rattle.report_forms.specs.Evidence.{step_beside}
use Rattle.report_forms.specs.declared.accounts.Way.TheVariants.{From, To}

-- ---- rows

-- its columns of numbers
pub record HasNumbers (key gtin serial sscc lot : List ℕ) : Type 0 where
  pub gtin_is : gtin_of key ≡ gtin
  pub serial_is : serial_of key ≡ serial
  pub sscc_is : sscc_of key ≡ sscc
  pub lot_is : lot_of key ≡ lot

-- A trade item has its GTIN and its serial number, a logistic unit its SSCC, a lot its GTIN and its number, and any other item none of them.
-- The number of a lot is the one of which its text was made.
abbrev pub ItemsHaveNumbers : Type 0
ItemsHaveNumbers =
    ((gtin serial : List ℕ) → IsChecked 14 gtin → HasNumbers (sgtin_key gtin serial) gtin serial [] [])
    × ((digits : List ℕ) → HasNumbers (sscc_key digits) [] [] digits [])
    × ((key gtin number : List ℕ) → IsLotOf key gtin number → HasNumbers key gtin [] [] (lot_number number))
    × ((gtin lot : List ℕ) → IsChecked 14 gtin → IsSerial lot → HasNumbers (uri_key (lot_text gtin lot)) gtin [] [] lot)
    × ((text : List ℕ) → (IsLot (uri_key text) → ⊥) → HasNumbers (uri_key text) [] [] [] [])

-- it begins with `=`, `+`, `-`, `@`, a tab or a CR
abbrev pub BeginsFormula : List ℕ → Type 0
BeginsFormula [] = ⊥
BeginsFormula (b ∷ rest) = (b ≡ 61) ⊎ (b ≡ 43) ⊎ (b ≡ 45) ⊎ (b ≡ 64) ⊎ (b ≡ 9) ⊎ (b ≡ 13)

-- No guarded text begins so. One that did stands behind an apostrophe, and any other is as it was.
abbrev pub FormulasAreGuarded : Type 0
FormulasAreGuarded =
    ((text : List ℕ) → BeginsFormula (guarded text) → ⊥)
    × ((text : List ℕ) → BeginsFormula text → guarded text ≡ codes "'" ++ text)
    × ((text : List ℕ) → (BeginsFormula text → ⊥) → guarded text ≡ text)

-- ---- the events behind rows

-- it is told of the step between the two
abbrev pub IsOfStep : List SiteEvents → Pair → Pair → Option StepEvents → Type 0
IsOfStep sites p q None = ⊥
IsOfStep sites p q (Some step) = TellsStep sites p q step

-- along the trail the events are told of these steps
abbrev pub AreTold : List SiteEvents → ShownSteps → List Pair → List StepEvents → Type 0
AreTold sites shown trail told = AllZip (λ step. TellsStep sites step.0 step.1) (steps_of (pairs_shown shown trail)) told

-- A trail that ends with the step from p to q has in q's row p and the events of this step, whether those of all steps are told or of the last one.
abbrev pub LastStepsAreInRows : Type 0
LastStepsAreInRows =
    (sites : List SiteEvents) (before : List Pair) (p q : Pair) (told : List StepEvents)
    → (way_beside (From (before ++ p ∷ q ∷ [])) ≡ Some p)
    × (AreTold sites Each (before ++ p ∷ q ∷ []) told → IsOfStep sites p q (step_beside (From (before ++ p ∷ q ∷ [])) told))
    × (AreTold sites Last (before ++ p ∷ q ∷ []) told → IsOfStep sites p q (step_beside (From (before ++ p ∷ q ∷ [])) told))

-- So has in a trace back p's row, where a trail begins with the step, whether those of all steps are told or of the first one.
abbrev pub FirstStepsAreInRows : Type 0
FirstStepsAreInRows =
    (sites : List SiteEvents) (after : List Pair) (p q : Pair) (told : List StepEvents)
    → (way_beside (To (p ∷ q ∷ after)) ≡ Some q)
    × (AreTold sites Each (p ∷ q ∷ after) told → IsOfStep sites p q (step_beside (To (p ∷ q ∷ after)) told))
    × (AreTold sites First (p ∷ q ∷ after) told → IsOfStep sites p q (step_beside (To (p ∷ q ∷ after)) told))

-- a row but for the eleventh to the thirteenth field
abbrev pub other_fields : Fields → Fields
other_fields row = take 10 row ++ drop 13 row

-- Where the events are told, a row has three fields behind the tenth that tell them, and its other fields are those that it has without.
abbrev pub OtherFieldsStay : Type 0
OtherFieldsStay =
    ((sites : List Site) (r : Recall) (report : RecallReport) (events : ShownEvents)
    → map other_fields (account_rows sites (report_account r report (Some events))) ≡ account_rows sites (report_account r report None))
    × ((sites : List Site) (trace : Trace) (events : ShownEvents) → map other_fields (account_rows sites (trace_account trace (Some events))) ≡ account_rows sites (trace_account trace None))
    × ((sites : List Site) (trace : BackTrace) (first : List StepEvents) (events : List (List StepEvents))
    → map other_fields (account_rows sites (back_account trace (first ∷ events))) ≡ account_rows sites (back_account trace []))

-- ---- pictures

-- What stands up to a quote that no backslash is before, each backslash with the byte behind it, and what is behind the quote.
abbrev pub up_to_quote : Bool → List ℕ → Option (List ℕ × List ℕ)
up_to_quote escaped [] = None
up_to_quote true (b ∷ rest) = option_map (with_first b) (up_to_quote false rest)
up_to_quote false (b ∷ rest) =
    if b == 34 then Some ([], rest) else if b == 92 then up_to_quote true rest else option_map (with_first b) (up_to_quote false rest)

-- the text in quotes that a picture begins with, as it is drawn but for the names of characters, and what is behind it
abbrev pub first_text : List ℕ → Option (List ℕ × List ℕ)
first_text [] = None
first_text (b ∷ rest) = if b == 34 then up_to_quote false rest else None

-- No quote inside a text ends it.
abbrev pub TextsReadBack : Type 0
TextsReadBack = (text rest : List ℕ) → first_text (dot_text text ++ rest) ≡ Some (with_entities text, rest)
