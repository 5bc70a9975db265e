-- Each lot of an event's quantities stands in the list of the same role.
use Rattle.std.proofs.Common.{◌≡◌, inl, inr, ℕ, List, [], ◌∷◌, Option, Some, None, codes, refl, sym, subst}
use Rattle.std.specs.Prelude.{option_and_then, unwrap_or}
use Rattle.serde_json.specs.Data.{Data, Items}
use Rattle.event_json.specs.Checks.{type_text}
use Rattle.event_json.specs.Members.{member_named}
use Rattle.document_convert.specs.Quantities.{list_of, lots_of, moved, with_its_lots, with_lots}
use Rattle.document_convert.specs.LotLaws.{AreFilled, IsFilled, IsMoved, IsStuck, LotsAreNamed}
use Rattle.document_convert.proofs.MovedLaws.{are_moved}

-- what isn't moved is stuck
stuck : (quantities items : List ℕ) (d : Data) → moved quantities items d ≡ None → IsStuck quantities items d
unfolding moved
stuck quantities items d is = by (lots_of (member_named quantities d)) refl is
  where
    of_list : (lot : List ℕ) (lots : List (List ℕ)) (o : Option Items) → list_of (member_named items d) ≡ o → lots_of (member_named quantities d) ≡ Some (lot ∷ lots)
        → IsStuck quantities items d
    of_list lot lots None l each = inr l
    of_list lot lots (Some list) l each = let no = rw (each, l) at is in cc

    by : (o : Option (List (List ℕ))) → lots_of (member_named quantities d) ≡ o → option_and_then (with_lots quantities items d) o ≡ None → IsStuck quantities items d
    by None each e = inl each
    by (Some []) each e = cc
    by (Some (lot ∷ lots)) each e = of_list lot lots (list_of (member_named items d)) refl each

-- one list
filled_by : (quantities items : List ℕ) (d : Data) → (quantities ≡ items → ⊥) → with_its_lots d ≡ unwrap_or (moved quantities items d) d → IsFilled quantities items d
filled_by quantities items d apart is = by (moved quantities items d) refl is
  where
    by : (o : Option Data) → moved quantities items d ≡ o → with_its_lots d ≡ unwrap_or o d → IsFilled quantities items d
    by None m w = inr (stuck quantities items d m, w)
    by (Some found) m w = inl (subst (IsMoved quantities items d) (sym w) (are_moved quantities items d found apart m))

-- two lists
both_filled : (quantities items others behind : List ℕ) (d : Data) → (quantities ≡ items → ⊥) → (others ≡ behind → ⊥)
    → with_its_lots d ≡ unwrap_or (option_and_then (moved others behind) (moved quantities items d)) d → AreFilled quantities items others behind d
both_filled quantities items others behind d apart also is = of_first (moved quantities items d) refl is
  where
    of_second : (half : Data) (o : Option Data) → moved quantities items d ≡ Some half → moved others behind half ≡ o → with_its_lots d ≡ unwrap_or o d
        → AreFilled quantities items others behind d
    of_second half None m s w = inr (inr (half, are_moved quantities items d half apart m, stuck others behind half s), w)
    of_second half (Some found) m s w =
        inl (half, are_moved quantities items d half apart m, subst (IsMoved others behind half) (sym w) (are_moved others behind half found also s))

    of_first : (o : Option Data) → moved quantities items d ≡ o → with_its_lots d ≡ unwrap_or (option_and_then (moved others behind) o) d
        → AreFilled quantities items others behind d
    of_first None m w = inr (inl (stuck quantities items d m), w)
    of_first (Some half) m w = of_second half (moved others behind half) m refl w

objects : (d : Data) → type_text d ≡ Some (codes "ObjectEvent") → IsFilled (codes "quantityList") (codes "epcList") d
unfolding with_its_lots
objects d is = filled_by (codes "quantityList") (codes "epcList") d (λ e. cc) (rw is refl)

aggregations : (d : Data) → type_text d ≡ Some (codes "AggregationEvent") → IsFilled (codes "childQuantityList") (codes "childEPCs") d
unfolding with_its_lots
aggregations d is = filled_by (codes "childQuantityList") (codes "childEPCs") d (λ e. cc) (rw is refl)

transformations : (d : Data) → type_text d ≡ Some (codes "TransformationEvent")
    → AreFilled (codes "inputQuantityList") (codes "inputEPCList") (codes "outputQuantityList") (codes "outputEPCList") d
unfolding with_its_lots
transformations d is =
    both_filled (codes "inputQuantityList") (codes "inputEPCList") (codes "outputQuantityList") (codes "outputEPCList") d (λ e. cc) (λ e. cc) (rw is refl)

pub lots_are_named : LotsAreNamed
lots_are_named = record { objects = objects; aggregations = aggregations; transformations = transformations }
