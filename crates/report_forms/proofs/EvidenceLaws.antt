-- the events in rows are those of their steps, and stand behind what is there without them
use Rattle.std.proofs.Common.{◌≡◌, ◌∙◌, ◌+◌, ◌-◌, ℕ, suc, true, false, List, [], ◌∷◌, ◌++◌, Option, Some, None, ap, ap₂, arith, drop, length, map, refl, slice_get, subst, sym}
use Rattle.std.specs.List.{AllZip}
use Rattle.std.specs.Option.{unwrap_or}
use Rattle.std.proofs.Math.Seq.{drop-append_seam}
use Rattle.std.proofs.lemmas.List.{length-append, map-append}
use Rattle.event_json.specs.Sites.{Site}
use Rattle.report_core.specs.TrailEvents.{TellsStep, steps_of}
use Rattle.report_core.specs.declared.outside.OutsideShipment.{OutsideShipment}
use Rattle.report_core.specs.declared.outside_events.OutsideEvent.{OutsideEvent}
use Rattle.report_core.specs.declared.trail_events.StepEvents.{StepEvents}
use Rattle.trace_core.specs.Sites.{SiteEvents}
use Rattle.trace_core.specs.Trails.{before_end}
use Rattle.trace_core.specs.declared.pairs.Pair.{Pair}
use Rattle.report_forms.specs.Accounts.{held_way, outside_in, outside_parts, parts_of, steps_in}
use Rattle.report_forms.specs.Csv.{Fields, columns_of, kind_of, origin_row, outside_row, part_row, recall_field}
use Rattle.report_forms.specs.Laws.{FirstStepsAreInRows, IsOfStep, LastStepsAreInRows, OtherFieldsStay, other_fields}
use Rattle.report_forms.specs.declared.accounts.Title.{Title}
use Rattle.report_forms.specs.declared.accounts.Title.TheVariants as titles
use Rattle.report_forms.specs.declared.accounts.Way.{Way}
use Rattle.report_forms.specs.declared.accounts.Way.TheVariants.{Unknown, From, To}

-- ---- steps

-- the last one of a list
abbrev last : List StepEvents → Option StepEvents
last told = slice_get told (length told - 1)

last_behind : (t u : StepEvents) (us : List StepEvents) → slice_get (t ∷ u ∷ us) (length (t ∷ u ∷ us) - 1) ≡ slice_get (u ∷ us) (length (u ∷ us) - 1)
last_behind t u us =
    let more : length (t ∷ u ∷ us) - 1 ≡ suc (length us) = omega arith in
    let less : length us ≡ length (u ∷ us) - 1 = omega arith in
    ap (slice_get (t ∷ u ∷ us)) more ∙ ap (slice_get (u ∷ us)) less

-- the events told along these steps
abbrev AreAlong : List SiteEvents → List (Pair × Pair) → List StepEvents → Type 0
AreAlong sites steps told = AllZip (λ step. TellsStep sites step.0 step.1) steps told

-- a step before them changes nothing
one_before : (sites : List SiteEvents) (p q : Pair) (t : StepEvents) (ts : List StepEvents) → IsOfStep sites p q (last ts) → IsOfStep sites p q (last (t ∷ ts))
one_before sites p q t [] is = absurd is
one_before sites p q t (u ∷ us) is = subst (IsOfStep sites p q) (sym (last_behind t u us)) is

last_told : (sites : List SiteEvents) (before : List Pair) (p q : Pair) (told : List StepEvents)
    → AreAlong sites (steps_of (before ++ p ∷ q ∷ [])) told → IsOfStep sites p q (last told)
last_told sites [] p q [] along = absurd along
last_told sites [] p q (t ∷ []) along = along.0
last_told sites [] p q (t ∷ u ∷ us) along = absurd along.1
last_told sites (o ∷ []) p q [] along = absurd along
last_told sites (o ∷ []) p q (t ∷ ts) along = one_before sites p q t ts (last_told sites [] p q ts along.1)
last_told sites (o ∷ r ∷ rest) p q [] along = absurd along
last_told sites (o ∷ r ∷ rest) p q (t ∷ ts) along = one_before sites p q t ts (last_told sites (r ∷ rest) p q ts along.1)

-- what stands behind others
behind_others : {X : Type 0} (before : List X) (x : X) (after : List X) → slice_get (before ++ x ∷ after) (length before) ≡ Some x
behind_others [] x after = refl
behind_others (b ∷ before) x after = behind_others before x after

two_more : (before : List Pair) (p q : Pair) → length (before ++ p ∷ q ∷ []) ≡ length before + 2
two_more before p q = length-append before (p ∷ q ∷ [])

pub last_steps : LastStepsAreInRows
last_steps sites before p q told =
    let trail = before ++ p ∷ q ∷ [] in
    let place : length trail - 2 ≡ length before = omega (arith, two_more before p q) in
    let ends : drop (length trail - 2) trail ≡ p ∷ q ∷ [] = ap (λ n. drop n trail) place ∙ drop-append_seam before (p ∷ q ∷ []) in (
      ap (before_end trail) (two_more before p q ∙ twice (length before)) ∙ behind_others before p (q ∷ []),
      λ along. last_told sites before p q told along,
      λ along. last_told sites [] p q told (subst (λ (shown : List Pair). AreAlong sites (steps_of shown) told) ends along),
    )
  where
    twice : (n : ℕ) → n + 2 ≡ suc (suc n)
    twice n = omega arith

first_told : (sites : List SiteEvents) (after : List Pair) (p q : Pair) (told : List StepEvents)
    → AreAlong sites (steps_of (p ∷ q ∷ after)) told → IsOfStep sites p q (slice_get told 0)
first_told sites after p q [] along = absurd along
first_told sites after p q (t ∷ ts) along = along.0

pub first_steps : FirstStepsAreInRows
first_steps sites after p q told = (refl, λ along. first_told sites after p q told along, λ along. first_told sites [] p q told along)

-- ---- rows

parts_stay : (sites : List Site) (recall kind : List ℕ) (pairs : List Pair) (ways : List Way) (events : List (List StepEvents))
    → map other_fields (map (part_row sites recall kind true) (parts_of pairs ways events)) ≡ map (part_row sites recall kind false) (parts_of pairs ways [])
parts_stay sites recall kind [] ways events = refl
parts_stay sites recall kind (p ∷ pairs) ways events =
    ap (λ (rest : List Fields). part_row sites recall kind false (record { pair = p; way = unwrap_or (slice_get ways 0) Unknown; events = None }) ∷ rest)
    (parts_stay sites recall kind pairs (drop 1 ways) (drop 1 events))

outside_stay : (sites : List Site) (recall : List ℕ) (outside : List OutsideShipment) (told : List OutsideEvent)
    → map other_fields (map (outside_row sites recall true) (outside_parts outside told)) ≡ map (outside_row sites recall false) (outside_parts outside [])
outside_stay sites recall [] told = refl
outside_stay sites recall (x ∷ outside) told =
    ap (λ (rest : List Fields). outside_row sites recall false (record { shipment = x; event = None }) ∷ rest) (outside_stay sites recall outside (drop 1 told))

origins_stay : (sites : List Site) (recall : List ℕ) (origins : List Pair) → map other_fields (map (origin_row sites recall true) origins) ≡ map (origin_row sites recall false) origins
origins_stay sites recall [] = refl
origins_stay sites recall (p ∷ origins) = ap (λ (rest : List Fields). origin_row sites recall false p ∷ rest) (origins_stay sites recall origins)

columns_stay : (title : Title) → other_fields (columns_of title true) ≡ columns_of title false
columns_stay (titles.Recall r ended) = refl
columns_stay titles.Forward = refl
columns_stay titles.Back = refl

-- those of the columns, of pairs, of shipments and of origins
rows_stay : (sites : List Site) (title : Title) (pairs : List Pair) (ways : List Way) (events : List (List StepEvents)) (outside : List OutsideShipment) (told : List OutsideEvent) (origins : List Pair)
    → map other_fields
    (columns_of title true
    ∷ map (part_row sites (recall_field sites title) (kind_of title) true) (parts_of pairs ways events)
    ++ (map (outside_row sites (recall_field sites title) true) (outside_parts outside told) ++ map (origin_row sites (recall_field sites title) true) origins))
    ≡ columns_of title false
    ∷ map (part_row sites (recall_field sites title) (kind_of title) false) (parts_of pairs ways [])
    ++ (map (outside_row sites (recall_field sites title) false) (outside_parts outside []) ++ map (origin_row sites (recall_field sites title) false) origins)
rows_stay sites title pairs ways events outside told origins =
    let recall = recall_field sites title in
    let parts = map (part_row sites recall (kind_of title) true) (parts_of pairs ways events) in
    let left = map (outside_row sites recall true) (outside_parts outside told) in
    let began = map (origin_row sites recall true) origins in
    ap₂ (λ (x : Fields) (xs : List Fields). x ∷ xs) (columns_stay title)
    (map-append other_fields parts (left ++ began)
    ∙ ap₂ (λ (xs ys : List Fields). xs ++ ys) (parts_stay sites recall (kind_of title) pairs ways events)
    (map-append other_fields left began ∙ ap₂ (λ (xs ys : List Fields). xs ++ ys) (outside_stay sites recall outside told) (origins_stay sites recall origins)))

pub others_stay : OtherFieldsStay
others_stay = (
  λ sites r report events.
      rows_stay sites (titles.Recall r report.ended) report.pairs (map held_way report.trails) (steps_in (Some events)) report.outside (outside_in (Some events)) [],
  λ sites trace events. rows_stay sites titles.Forward trace.pairs (map From trace.trails) (steps_in (Some events)) trace.outside (outside_in (Some events)) [],
  λ sites trace first events. rows_stay sites titles.Back trace.pairs (map To trace.trails) (first ∷ events) [] [] trace.origins,
)
