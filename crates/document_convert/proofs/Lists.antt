-- Lists of values, as a JSON array has them.
use Rattle.std.proofs.lemmas.Bool.{ne_eqb}
use Rattle.std.proofs.Common.{arith, suc, ◌≡◌, ◌≤◌, ℕ, List, [], ◌∷◌, map, take, refl, sym, ap, ◌∙◌}
use Rattle.std.proofs.lemmas.List.{take_all}
use Rattle.std.specs.Prelude.{◌==◌, not, length, Some}
use Rattle.serde_json.specs.Data.{Data, Items, no_items, item, array}
use Rattle.serde_json.specs.View.{items_of, view}
use Rattle.serde_json.specs.declared.value.Value.{Value}
use Rattle.event_json.specs.Untraced.{in_order}
use Rattle.document_convert.specs.Documents.{values_in}
use Rattle.document_convert.specs.Quantities.{is_filled}

pub listed_back : (ds : List Data) → in_order (items_of ds) ≡ ds
listed_back [] = refl
listed_back (d ∷ ds) = ap (λ l. d ∷ l) (listed_back ds)

pub items_back : (items : Items) → items_of (in_order items) ≡ items
items_back no_items = refl
items_back (item d ds) = ap (item d) (items_back ds)

-- the values of an array are its members
pub array_values : (vs : List Value) → values_in (array (items_of (map view vs))) ≡ map view vs
array_values vs = listed_back (map view vs)

-- a list has elements where it isn't empty
pub filled : (vs : List Value) → not (length vs == 0) ≡ is_filled (Some (items_of (map view vs)))
filled [] = refl
filled (v ∷ vs) = rw (ne_eqb (suc (length vs)) 0 (λ e. absurd (omega arith))) refl

pub listed_length : (vs : List Value) → length (in_order (items_of (map view vs))) ≡ length vs
listed_length [] = refl
listed_length (v ∷ vs) = ap suc (listed_length vs)

-- the values of a list, once all are taken
pub listed_taken : (vs : List Value) (n : ℕ) → length vs ≤ n → map view (take n vs) ≡ in_order (items_of (map view vs))
listed_taken vs n all = ap (map view) (take_all n vs all) ∙ sym (listed_back (map view vs))
