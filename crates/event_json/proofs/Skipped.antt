-- The events of a document that are skipped, and those that ship without a destination.
use Rattle.std.proofs.Common.{◌≡◌, ◌≤◌, ℕ, suc, ◌+◌, true, false, cond, List, length, count_by, Option, Result, Ok, Err, refl, sym, ap, ◌∙◌, subst, arith}
use Rattle.std.specs.Prelude.{is_none}
use Rattle.std.proofs.lemmas.List.Sums.{sum_by-cons, length-filter}
use Rattle.serde_json.specs.Data.{Data, Items, no_items, item}
use Rattle.event_json.specs.declared.doc_faults.Flaw.{Flaw}
use Rattle.event_json.specs.declared.documents.Doc.{Doc}
use Rattle.event_json.specs.declared.event_types.EventType.{EventType}
use Rattle.event_json.specs.declared.event_types.EventType.TheVariants.{Object, Aggregation, Transaction, Transformation, Association}
use Rattle.event_json.specs.Checks.{event_type}
use Rattle.event_json.specs.Documents.{event_list, numbered_event, events_of, document_of}
use Rattle.event_json.specs.EventReading.{object_event, transformation_event, aggregation_event, kept, event_of_type, event_of}
use Rattle.event_json.specs.Events.{Content}
use Rattle.event_json.specs.Members.{each, count_of}
use Rattle.event_json.specs.Sites.{Site}
use Rattle.event_json.specs.Untraced.{in_order, listed_events}
use Rattle.event_json.specs.UntracedLaws.{skips, is_skipped}
use Rattle.event_json.proofs.Destinations.{after}
use Rattle.event_json.proofs.Listed.{same_ok, unnumbered, both_found, doc_found, read_of}

kept_is_some : (read : Result Content Flaw) (found : Option Content) → kept read ≡ Ok found → is_none found ≡ false
kept_is_some (Ok e) found is = subst (λ o. is_none o ≡ false) (same_ok _ _ is) refl
kept_is_some (Err flaw) found is = absurd (let no : ⊥ = cc in no)

type_skips : (sites : List Site) (its_type : EventType) (d : Data) (found : Option Content) → event_of_type sites its_type d ≡ Ok found → is_none found ≡ skips its_type
unfolding event_of_type
type_skips sites Object d found is = kept_is_some (object_event sites d) found is
type_skips sites Transformation d found is = kept_is_some (transformation_event d) found is
type_skips sites Aggregation d found is = kept_is_some (aggregation_event d) found is
type_skips sites Transaction d found is = subst (λ o. is_none o ≡ true) (same_ok _ _ is) refl
type_skips sites Association d found is = subst (λ o. is_none o ≡ true) (same_ok _ _ is) refl

-- an event that is read is skipped where its type is
event_skipped : (sites : List Site) (d : Data) (found : Option Content) → event_of sites d ≡ Ok found → is_none found ≡ is_skipped d
unfolding event_of
event_skipped sites d found is =
    let its_type = after (event_type d) _ found is in
    rw its_type.1 (type_skips sites its_type.0 d found its_type.2)

each_skipped : (sites : List Site) (n : ℕ) (items : Items) (found : List (Option Content)) → each (numbered_event sites) n items ≡ Ok found
    → count_by is_none found ≡ count_by is_skipped (in_order items)
each_skipped sites n no_items found h = subst (λ l. count_by is_none l ≡ 0) (same_ok _ _ h) refl
each_skipped sites n (item x xs) found h =
    let parts = both_found _ _ found h in
    let here : is_none parts.0 ≡ is_skipped x = event_skipped sites x parts.0 (unnumbered n _ _ parts.2) in
    let rest = each_skipped sites (n + 1) xs parts.1 parts.3 in
    ap (count_by is_none) parts.4
    ∙ sum_by-cons (λ o. cond (is_none o) 1 0) parts.0 parts.1
    ∙ ap (λ b. cond b 1 0 + count_by is_none parts.1) here
    ∙ ap (λ k. cond (is_skipped x) 1 0 + k) rest
    ∙ sym (sum_by-cons (λ v. cond (is_skipped v) 1 0) x (in_order xs))

in_order_count : (items : Items) → length (in_order items) ≡ count_of items
in_order_count no_items = refl
in_order_count (item d ds) = ap suc (in_order_count ds)

listed_in_order : (d : Data) (items : Items) → event_list d ≡ Ok items → listed_events d ≡ in_order items
unfolding listed_events
listed_in_order d items e = rw e refl

list_skipped : (sites : List Site) (items : Items) (doc : Doc) → events_of sites items ≡ Ok doc → doc.skipped ≡ count_by is_skipped (in_order items)
unfolding events_of
list_skipped sites items doc h =
    let made = doc_found (each (numbered_event sites) 1 items) doc h in
    ap (λ (o : Doc). o.skipped) (sym made.2) ∙ length-filter is_none made.0 ∙ each_skipped sites 1 items made.0 made.1

pub skipped_counted : (sites : List Site) (d : Data) (doc : Doc) → document_of sites d ≡ Ok doc
    → (length (listed_events d) ≤ 1000) × (doc.skipped ≡ count_by is_skipped (listed_events d)) × (length doc.events + doc.skipped ≡ length (listed_events d))
skipped_counted sites d doc h =
    let read = read_of sites d doc h in
    let listed = listed_in_order d read.0 read.1 in
    let counted : length (listed_events d) ≡ count_of read.0 = ap length listed ∙ in_order_count read.0 in
    (omega (arith, counted, read.2), list_skipped sites read.0 doc read.3 ∙ ap (count_by is_skipped) (sym listed), read.4 ∙ sym counted)
