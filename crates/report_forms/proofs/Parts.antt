-- Parts place by place, and what is written of them so far.
use Rattle.std.proofs.Common.{Bool, ◌≡◌, ◌<◌, ◌+◌, ℕ, zero, suc, List, [], ◌∷◌, ◌++◌, Option, None, Some, append-nil, append_assoc, drop, get_or, length, map, slice_get, take, refl, sym, ap, ap₂, ◌∙◌, arith}
use Rattle.std.specs.Option.{unwrap_or}
use Rattle.std.proofs.lemmas.Grind.{flat_map-append}
use Rattle.std.proofs.lemmas.List.{map-append, take_more}
use Rattle.std.proofs.lemmas.Option.{slice_get-get_or, slice_get_within}
use Rattle.report_core.specs.declared.outside.OutsideShipment.{OutsideShipment}
use Rattle.report_core.specs.declared.outside_events.OutsideEvent.{OutsideEvent}
use Rattle.report_core.specs.declared.trail_events.StepEvents.{StepEvents}
use Rattle.trace_core.proofs.NumberLists.{none_is, some_is}
use Rattle.trace_core.specs.declared.pairs.Pair.{Pair}
use Rattle.report_forms.specs.Accounts.{OutsidePart, Part, outside_parts, parts_of}
use Rattle.report_forms.specs.Csv.{Fields, cell_line, cell_lines}
use Rattle.report_forms.specs.declared.accounts.Way.{Way}
use Rattle.report_forms.specs.declared.accounts.Way.TheVariants.{Unknown}

behind : {X : Type 0} (xs : List X) (n : ℕ) → slice_get (drop 1 xs) n ≡ slice_get xs (suc n)
behind [] n = refl
behind (x ∷ xs) n = refl

unfoldable pub part_with : Pair → Way → Option (List StepEvents) → Part
part_with p way events = record { pair = p; way = way; events = events }

pub part_at : (pairs : List Pair) (ways : List Way) (events : List (List StepEvents)) (n : ℕ) (p : Pair) → slice_get pairs n ≡ Some p
    → slice_get (parts_of pairs ways events) n ≡ Some (record { pair = p; way = unwrap_or (slice_get ways n) Unknown; events = slice_get events n })
unfolding part_with
part_at [] ways events n p at = none_is p at
part_at (a ∷ pairs) ways events zero p at = ap (λ q. Some (part_with q (unwrap_or (slice_get ways 0) Unknown) (slice_get events 0))) (some_is a p at)
part_at (a ∷ pairs) ways events (suc n) p at =
    part_at pairs (drop 1 ways) (drop 1 events) n p at
    ∙ ap₂ (λ w e. Some (part_with p (unwrap_or w Unknown) e)) (behind ways n) (behind events n)

pub no_part : (pairs : List Pair) (ways : List Way) (events : List (List StepEvents)) (n : ℕ) → slice_get pairs n ≡ None → slice_get (parts_of pairs ways events) n ≡ None
no_part [] ways events n none = refl
no_part (a ∷ pairs) ways events zero none = none_is a (sym none)
no_part (a ∷ pairs) ways events (suc n) none = no_part pairs (drop 1 ways) (drop 1 events) n none

pub length-parts_of : (pairs : List Pair) (ways : List Way) (events : List (List StepEvents)) → length (parts_of pairs ways events) ≡ length pairs
length-parts_of [] ways events = refl
length-parts_of (p ∷ pairs) ways events = ap suc (length-parts_of pairs (drop 1 ways) (drop 1 events))

-- ---- shipments out of the traced sites

unfoldable pub outside_with : OutsideShipment → Option OutsideEvent → OutsidePart
outside_with x event = record { shipment = x; event = event }

pub outside_at : (outside : List OutsideShipment) (told : List OutsideEvent) (n : ℕ) (x : OutsideShipment) → slice_get outside n ≡ Some x
    → slice_get (outside_parts outside told) n ≡ Some (record { shipment = x; event = slice_get told n })
unfolding outside_with
outside_at [] told n x at = none_is x at
outside_at (y ∷ outside) told zero x at = ap (λ z. Some (outside_with z (slice_get told 0))) (some_is y x at)
outside_at (y ∷ outside) told (suc n) x at = outside_at outside (drop 1 told) n x at ∙ ap (λ e. Some (outside_with x e)) (behind told n)

pub no_outside : (outside : List OutsideShipment) (told : List OutsideEvent) (n : ℕ) → slice_get outside n ≡ None → slice_get (outside_parts outside told) n ≡ None
no_outside [] told n none = refl
no_outside (y ∷ outside) told zero none = none_is y (sym none)
no_outside (y ∷ outside) told (suc n) none = no_outside outside (drop 1 told) n none

pub length-outside_parts : (outside : List OutsideShipment) (told : List OutsideEvent) → length (outside_parts outside told) ≡ length outside
length-outside_parts [] told = refl
length-outside_parts (x ∷ outside) told = ap suc (length-outside_parts outside (drop 1 told))

-- with what shows them they are the same shipments
pub same_shipments : (outside : List OutsideShipment) (told : List OutsideEvent) → map (λ (x : OutsidePart). x.shipment) (outside_parts outside told) ≡ outside
same_shipments [] told = refl
same_shipments (x ∷ outside) told = ap (λ rest. x ∷ rest) (same_shipments outside (drop 1 told))

-- ---- place by place

-- what stands at a place below the length
pub one_there : {X : Type 0} (xs : List X) (n : ℕ) → n < length xs → slice_get xs n ≡ None → ⊥
one_there [] n below none = omega (arith, below)
one_there (x ∷ xs) zero below none = none_is x (sym none)
one_there (x ∷ xs) (suc n) below none = one_there xs n (omega (arith, below)) none

-- those before a place, and the one at it
pub one_more : {X : Type 0} (xs : List X) (n : ℕ) (x : X) → slice_get xs n ≡ Some x → take (n + 1) xs ≡ take n xs ++ x ∷ []
one_more xs n x at =
    let below = slice_get_within xs n x at in
    take_more xs n x below ∙ ap (λ y. take n xs ++ y ∷ []) (some_is (get_or xs n x) x (sym (slice_get-get_or xs n x below) ∙ at))

pub one_row : {X : Type 0} (g : Bool) (row : X → Fields) (xs : List X) (n : ℕ) (x : X) (old text more : List ℕ) → slice_get xs n ≡ Some x
    → text ≡ old ++ cell_lines g (map row (take n xs)) → more ≡ text ++ cell_line g (row x) → more ≡ old ++ cell_lines g (map row (take (n + 1) xs))
one_row g row xs n x old text more at so_far written =
    let rows : map row (take (n + 1) xs) ≡ map row (take n xs) ++ row x ∷ [] = ap (map row) (one_more xs n x at) ∙ map-append row (take n xs) (x ∷ []) in
    let all : cell_lines g (map row (take (n + 1) xs)) ≡ cell_lines g (map row (take n xs)) ++ cell_line g (row x) =
    ap (cell_lines g) rows ∙ flat_map-append (cell_line g) (map row (take n xs)) (row x ∷ []) ∙ ap (λ (ys : List ℕ). cell_lines g (map row (take n xs)) ++ ys) (append-nil (cell_line g (row x))) in
    written ∙ ap (λ (ys : List ℕ). ys ++ cell_line g (row x)) so_far ∙ append_assoc old (cell_lines g (map row (take n xs))) (cell_line g (row x)) ∙ ap (λ (ys : List ℕ). old ++ ys) (sym all)
