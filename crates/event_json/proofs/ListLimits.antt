-- The lists of an event have a limit.
use Rattle.std.proofs.Common.{◌≡◌, ℕ, zero, suc, ◌+◌, Bool, true, false, cond, List, ◌∷◌, Some, Result, Ok, Err, refl, sym, subst, arith}
use Rattle.std.specs.Prelude.{⊤, IsOk, nat_lt}
use Rattle.std.proofs.lemmas.Bool.{true≢false, ltb-false, ltb-true}
use Rattle.std.proofs.lemmas.Option.{same_Some}
use Rattle.serde_json.specs.Data.{Data, Items, no_items, item}
use Rattle.serde_json.specs.Find.{as_array}
use Rattle.event_json.specs.declared.doc_faults.DocField.{DocField}
use Rattle.event_json.specs.declared.doc_faults.DocField.TheVariants as fields
use Rattle.event_json.specs.declared.doc_faults.DocFaultKind.TheVariants as kinds
use Rattle.event_json.specs.declared.doc_faults.Flaw.{Flaw}
use Rattle.event_json.specs.Faults.{◌>>=◌}
use Rattle.event_json.specs.ItemLists.{limit_checked, epc_of, epcs_of, destination_of, destinations_of}
use Rattle.event_json.specs.Laws.{member_at, IsLimited}
use Rattle.event_json.specs.Members.{member_of, count_of, each}

-- two steps that both find something
parts : {A : Type 0} (first : Result A Flaw) (rest : Result (List A) Flaw) → IsOk (first >>= λ y. rest >>= λ ys. Ok (y ∷ ys)) → IsOk first × IsOk rest
parts (Ok y) (Ok ys) h = (refl, refl)
parts (Ok y) (Err e) h = absurd (true≢false (sym h))
parts (Err e) rest h = absurd (true≢false (sym h))

whole : {A : Type 0} (first : Result A Flaw) (rest : Result (List A) Flaw) → IsOk first → IsOk rest → IsOk (first >>= λ y. rest >>= λ ys. Ok (y ∷ ys))
whole (Ok y) (Ok ys) a b = refl
whole (Ok y) (Err e) a b = absurd (true≢false (sym b))
whole (Err e) rest a b = absurd (true≢false (sym a))

each_passes : {A : Type 0} (check : Data → Result A Flaw) (n : ℕ) (items : Items) → IsOk (each (λ _. check) n items)
    → (place : ℕ) (d : Data) → member_at items place ≡ Some d → IsOk (check d)
each_passes check n no_items h place d at = absurd (let no : ⊥ = cc in no)
each_passes check n (item x xs) h zero d at = subst (λ (v : Data). IsOk (check v)) (same_Some x d at) (parts (check x) (each (λ _. check) (n + 1) xs) h).0
each_passes check n (item x xs) h (suc place) d at = each_passes check (n + 1) xs (parts (check x) (each (λ _. check) (n + 1) xs) h).1 place d at

passes_each : {A : Type 0} (check : Data → Result A Flaw) (n : ℕ) (items : Items) → ((place : ℕ) (d : Data) → member_at items place ≡ Some d → IsOk (check d))
    → IsOk (each (λ _. check) n items)
passes_each check n no_items h = refl
passes_each check n (item x xs) h = whole (check x) (each (λ _. check) (n + 1) xs) (h zero x refl) (passes_each check (n + 1) xs (λ place d at. h (suc place) d at))

limited : {A : Type 0} (field : DocField) (check : Data → Result A Flaw) (items : Items) → IsLimited field check items (limit_checked field items >>= λ _. each (λ _. check) 1 items)
unfolding limit_checked
limited {A} field check items = by (nat_lt 1000 (count_of items)) refl
  where
    few_enough : Bool → Result ⊤ Flaw
    few_enough b = cond b (Err (record { field = field; kind = kinds.TooManyEpcs })) (Ok tt)

    found : Bool → Result (List A) Flaw
    found b = few_enough b >>= λ _. each (λ _. check) 1 items

    by : (b : Bool) → nat_lt 1000 (count_of items) ≡ b → IsLimited field check items (found b)
    by true e =
        let over = ltb-true 1000 (count_of items) e in
        ((λ ok. absurd (true≢false (sym ok)), λ (few, all). absurd (omega (arith, few, over))), λ more. refl)
    by false e =
        let few = ltb-false 1000 (count_of items) e in
        ((λ ok. (few, each_passes check 1 items ok), λ (le, all). passes_each check 1 items all), λ more. absurd (omega (arith, few, more)))

pub items_limited : (field : DocField) (d list : Data) (items : Items) → member_of field d ≡ Some list → as_array list ≡ Some items → IsLimited field (epc_of field) items (epcs_of field d)
unfolding epcs_of
items_limited field d list items at is =
    let one : epcs_of field d ≡ (limit_checked field items >>= λ _. each (λ _. epc_of field) 1 items) = rw (at, is) refl in
    subst (IsLimited field (epc_of field) items) (sym one) (limited field (epc_of field) items)

pub destinations_limited : (d list : Data) (items : Items) → member_of fields.DestinationList d ≡ Some list → as_array list ≡ Some items → IsLimited fields.DestinationList destination_of items (destinations_of d)
unfolding destinations_of
destinations_limited d list items at is =
    let one : destinations_of d ≡ (limit_checked fields.DestinationList items >>= λ _. each (λ _. destination_of) 1 items) = rw (at, is) refl in
    subst (IsLimited fields.DestinationList destination_of items) (sym one) (limited fields.DestinationList destination_of items)
