-- What is within the limits has no parts, as what a capture reads.
use Rattle.std.proofs.Common.{◌≡◌, ◌≤◌, ℕ, suc, ◌+◌, ◌*◌, Bool, true, false, Contains, List, [], ◌∷◌, Option, Some, None, Result, Ok, Err, bytes_eq, codes, length, refl, sym, ap, ◌∙◌, arith}
use Rattle.std.specs.Prelude.{⊤, ◌&&◌, ◌||◌, is_some, nat_le, nat_lt, option_and_then, unwrap_or}
use Rattle.std.specs.List.{list_any}
use Rattle.std.proofs.lemmas.Bool.{ltb-true}
use Rattle.serde_json.specs.Data.{Data, Items, no_items, item}
use Rattle.serde_json.specs.Find.{as_array, as_object}
use Rattle.event_json.specs.Checks.{action_checked, action_of, event_type, head_of, type_named, type_text, without_declaration, without_quantities}
use Rattle.event_json.specs.declared.doc_faults.DocFault.{DocFault}
use Rattle.event_json.specs.declared.doc_faults.DocField.{DocField}
use Rattle.event_json.specs.declared.doc_faults.DocField.TheVariants as fields
use Rattle.event_json.specs.declared.doc_faults.Flaw.{Flaw}
use Rattle.event_json.specs.declared.documents.Doc.{Doc}
use Rattle.event_json.specs.Documents.{document_of, event_list, numbered_event}
use Rattle.event_json.specs.EventReading.{aggregation_event, event_of, event_of_type, object_event, parent_of, transformation_event}
use Rattle.event_json.specs.Events.{Content}
use Rattle.event_json.specs.Faults.{◌>>=◌}
use Rattle.event_json.specs.ItemLists.{epcs_of, limit_checked}
use Rattle.event_json.specs.Members.{count_of, each, list_of, member_of}
use Rattle.event_json.specs.Names.{field_name}
use Rattle.event_json.specs.Sites.{Site}
use Rattle.event_json.specs.Untraced.{in_order, is_text}
use Rattle.event_json.proofs.Listed.{read_of}
use Rattle.document_convert.specs.Parted.{has_parts, in_parts, is_list, is_long, is_long_as, made_id, count_at, members_at}
use Rattle.document_convert.specs.PartLaws.{IsWithin, WithinStays}
use Rattle.document_convert.proofs.DocumentParts.{bare_stays, none_in_list}
use Rattle.document_convert.proofs.EventParts.{in_one, ins_at, outs_at}
use Rattle.document_convert.proofs.Has.{here, there}
use Rattle.document_convert.proofs.NoLots.{alone_list, both_none, its_list, no_other}
use Rattle.document_convert.proofs.ReadLaws.{read_list, same_Ok}
use Rattle.document_convert.proofs.Settled.{is_document}

-- ---- an event within the limits

not_more : (n : ℕ) → n ≤ 1000 → nat_lt 1000 n ≡ false
not_more n few = by (nat_lt 1000 n) refl
  where
    by : (b : Bool) → nat_lt 1000 n ≡ b → b ≡ false
    by true is = absurd (omega (arith, few, ltb-true 1000 n is))
    by false is = refl

no_make : (a b : Bool) → (a && (false && b)) ≡ false
no_make true b = refl
no_make false b = refl

-- of a type
within_as : (d : Data) (text : List ℕ) → is_long (codes "epcList") d ≡ false → is_long (codes "childEPCs") d ≡ false → is_long ins_at d ≡ false → is_long outs_at d ≡ false
    → is_long_as d text ≡ false
within_as d text a b c e = of_object (bytes_eq text (codes "ObjectEvent")) (bytes_eq text (codes "AggregationEvent")) (bytes_eq text (codes "TransformationEvent")) refl refl refl
  where
    of_object : (x y z : Bool) → bytes_eq text (codes "ObjectEvent") ≡ x → bytes_eq text (codes "AggregationEvent") ≡ y → bytes_eq text (codes "TransformationEvent") ≡ z → is_long_as d text ≡ false
    of_object true y z o p t = rw o a
    of_object false true z o p t = rw (o, p) b
    of_object false false true o p t =
        rw (o, p, t, c, e) (no_make (is_list ins_at d && is_list outs_at d) (is_some (made_id d) || nat_le (count_at ins_at d * count_at outs_at d) 1000))
    of_object false false false o p t = rw (o, p, t) refl

pub within : (d : Data) → IsWithin d → has_parts d ≡ false
unfolding has_parts
within d w = by (type_text d)
  where
    by : (o : Option (List ℕ)) → is_text (is_long_as d) o ≡ false
    by None = refl
    by (Some text) =
        within_as d text (not_more (length (members_at (codes "epcList") d)) w.items) (not_more (length (members_at (codes "childEPCs") d)) w.children)
        (not_more (length (members_at ins_at d)) w.ins) (not_more (length (members_at outs_at d)) w.outs)

-- ---- a document without long lists

none_longer : (n : ℕ) (some : Bool) → n ≤ 1000 → some ≡ false → (nat_lt 1000 n || some) ≡ false
none_longer n some few none = rw (not_more n few, none) refl

document_stays : (d : Data) (events : Items) → event_list d ≡ Ok events → length (in_order events) ≤ 1000 → list_any has_parts (in_order events) ≡ false → in_parts d ≡ d ∷ []
document_stays d events is few none = by (is_text is_document (type_text d)) refl
  where
    by : (b : Bool) → is_text is_document (type_text d) ≡ b → in_parts d ≡ d ∷ []
    by true named = none_in_list d events named (its_list d events is named) (none_longer (length (in_order events)) (list_any has_parts (in_order events)) few none)
    by false other =
        bare_stays d other (both_none (has_parts d) false (ap (λ (i : Items). list_any has_parts (in_order i)) (sym (alone_list d events is other)) ∙ none)).0

none_within : (es : List Data) → ((e : Data) → Contains es e → IsWithin e) → list_any has_parts es ≡ false
none_within [] each = refl
none_within (e ∷ es) each = rw (within e (each e (here e es))) (none_within es (λ x has. each x (there e x es has)))

-- ---- a list that is read

-- where one check after another passes, each does
bound : {A B E : Type 0} (r : Result A E) (f : A → Result B E) (x : B) → (r >>= f) ≡ Ok x → (a : A) × (r ≡ Ok a) × (f a ≡ Ok x)
bound (Ok a) f x is = (a, refl, is)
bound (Err e) f x is = cc

counted : (items : Items) → count_of items ≡ length (in_order items)
counted no_items = refl
counted (item d ds) = ap suc (counted ds)

same_found : {E : Type 0} (a b : Items) → ◌≡◌ {A = Result Items E} (Ok a) (Ok b) → a ≡ b
same_found a b is = cc

array_of : (field : DocField) (o : Option Data) (items : Items) → list_of field o ≡ Ok items → unwrap_or (option_and_then as_array o) no_items ≡ items
array_of field None items is = same_found no_items items is
array_of field (Some v) items is = by (as_array v) refl
  where
    by : (a : Option Items) → as_array v ≡ a → unwrap_or a no_items ≡ items
    by None e = let no = rw e at is in cc
    by (Some found) e = let same : ◌≡◌ {A = Result Items Flaw} (Ok found) (Ok items) = rw e at is in same_found found items same

passed : (field : DocField) (items : Items) (u : ⊤) → limit_checked field items ≡ Ok u → nat_lt 1000 (count_of items) ≡ false
unfolding limit_checked
passed field items u is = by (nat_lt 1000 (count_of items)) refl
  where
    by : (b : Bool) → nat_lt 1000 (count_of items) ≡ b → b ≡ false
    by true e = let no = rw e at is in cc
    by false e = refl

epcs_few : (field : DocField) (d : Data) (xs : List (List ℕ)) → epcs_of field d ≡ Ok xs → is_long (field_name field) d ≡ false
unfolding epcs_of
epcs_few field d xs is =
    let (items, list, rest) = bound (list_of field (member_of field d)) _ xs is in
    let (u, few, last) = bound (limit_checked field items) _ xs rest in
    let same : members_at (field_name field) d ≡ in_order items = ap in_order (array_of field (member_of field d) items list) in
    ap (nat_lt 1000) (ap length same ∙ sym (counted items)) ∙ passed field items u few

-- ---- an event that is read

object_few : (sites : List Site) (d : Data) (e : Content) → object_event sites d ≡ Ok e → is_long (codes "epcList") d ≡ false
unfolding object_event
object_few sites d e is =
    let (a, p, r) = bound (without_declaration d) _ e is in
    let (b, q, s) = bound (without_quantities fields.QuantityList d) _ e r in
    let (c, t, u) = bound (head_of d) _ e s in
    let (f, v, w) = bound (action_checked d) _ e u in
    let (items, its, rest) = bound (epcs_of fields.EpcList d) _ e w in
    epcs_few fields.EpcList d items its

aggregation_few : (d : Data) (e : Content) → aggregation_event d ≡ Ok e → is_long (codes "childEPCs") d ≡ false
unfolding aggregation_event
aggregation_few d e is =
    let (a, p, r) = bound (without_declaration d) _ e is in
    let (b, q, s) = bound (without_quantities fields.ChildQuantityList d) _ e r in
    let (c, t, u) = bound (head_of d) _ e s in
    let (f, v, w) = bound (action_of d) _ e u in
    let (g, x, y) = bound (parent_of f d) _ e w in
    let (items, its, rest) = bound (epcs_of fields.ChildEpcs d) _ e y in
    epcs_few fields.ChildEpcs d items its

transformation_few : (d : Data) (e : Content) → transformation_event d ≡ Ok e → (is_long ins_at d ≡ false) × (is_long outs_at d ≡ false)
unfolding transformation_event
transformation_few d e is =
    let (a, p, r) = bound (without_declaration d) _ e is in
    let (b, q, s) = bound (without_quantities fields.InputQuantityList d) _ e r in
    let (c, t, u) = bound (without_quantities fields.OutputQuantityList d) _ e s in
    let (f, v, w) = bound (head_of d) _ e u in
    let (ins, its, x) = bound (epcs_of fields.InputEpcList d) _ e w in
    let (outs, too, rest) = bound (epcs_of fields.OutputEpcList d) _ e x in
    (epcs_few fields.InputEpcList d ins its, epcs_few fields.OutputEpcList d outs too)

-- what is kept was read
was_read : (r : Result Content Flaw) (x : Option Content) → (r >>= λ e. Ok (Some e)) ≡ Ok x → (e : Content) × (r ≡ Ok e)
was_read (Ok e) x is = (e, refl)
was_read (Err flaw) x is = cc

read_few : (sites : List Site) (d : Data) (x : Option Content) → event_of sites d ≡ Ok x → has_parts d ≡ false
unfolding event_of event_type type_named event_of_type has_parts
read_few sites d x is = of_value (as_object d) refl
  where
    of_transformation : (text : List ℕ) (b : Bool) → is_some (as_object d) ≡ true → type_text d ≡ Some text → bytes_eq text (codes "ObjectEvent") ≡ false
        → bytes_eq text (codes "AggregationEvent") ≡ false → bytes_eq text (codes "TransformationEvent") ≡ b → is_text (is_long_as d) (type_text d) ≡ false
    of_transformation text true v s o a t =
        let other = no_other text (codes "TransformationEvent") (codes "TransactionEvent") t refl in
        let read = was_read (transformation_event d) x (rw (v, s, o, a, other, t) at is) in
        let few = transformation_few d read.0 read.1 in
        rw (s, o, a, t, few.0, few.1) (no_make (is_list ins_at d && is_list outs_at d) (is_some (made_id d) || nat_le (count_at ins_at d * count_at outs_at d) 1000))
    of_transformation text false v s o a t = rw (s, o, a, t) refl

    of_aggregation : (text : List ℕ) (b : Bool) → is_some (as_object d) ≡ true → type_text d ≡ Some text → bytes_eq text (codes "ObjectEvent") ≡ false
        → bytes_eq text (codes "AggregationEvent") ≡ b → is_text (is_long_as d) (type_text d) ≡ false
    of_aggregation text true v s o a =
        let read = was_read (aggregation_event d) x (rw (v, s, o, a) at is) in
        rw (s, o, a) (aggregation_few d read.0 read.1)
    of_aggregation text false v s o a = of_transformation text (bytes_eq text (codes "TransformationEvent")) v s o a refl

    of_name : (text : List ℕ) (b : Bool) → is_some (as_object d) ≡ true → type_text d ≡ Some text → bytes_eq text (codes "ObjectEvent") ≡ b → is_text (is_long_as d) (type_text d) ≡ false
    of_name text true v s o =
        let read = was_read (object_event sites d) x (rw (v, s, o) at is) in
        rw (s, o) (object_few sites d read.0 read.1)
    of_name text false v s o = of_aggregation text (bytes_eq text (codes "AggregationEvent")) v s o refl

    of_text : (o : Option (List ℕ)) → is_some (as_object d) ≡ true → type_text d ≡ o → is_text (is_long_as d) (type_text d) ≡ false
    of_text (Some text) v s = of_name text (bytes_eq text (codes "ObjectEvent")) v s refl
    of_text None v s = rw s refl

    of_value : {X : Type 0} (o : Option X) → is_some (as_object d) ≡ is_some o → is_text (is_long_as d) (type_text d) ≡ false
    of_value (Some ms) v = of_text (type_text d) v refl
    of_value None v = let no = rw v at is in cc

-- ---- a list that is read has none

abbrev Have : Items → Result (List (Option Content)) DocFault → Type 0
Have ds read = (es : List (Option Content)) → read ≡ Ok es → list_any has_parts (in_order ds) ≡ false

list_few : (sites : List Site) (n : ℕ) (items : Items) (found : List (Option Content)) → each (numbered_event sites) n items ≡ Ok found
    → list_any has_parts (in_order items) ≡ false
list_few sites n no_items found is = refl
list_few sites n (item d ds) found is = by (event_of sites d) refl (λ es. list_few sites (n + 1) ds es)
  where
    rest : (e : Option Content) (others : Result (List (Option Content)) DocFault) → event_of sites d ≡ Ok e → each (numbered_event sites) (n + 1) ds ≡ others
        → Have ds (each (numbered_event sites) (n + 1) ds) → list_any has_parts (in_order (item d ds)) ≡ false
    rest e (Ok es) one others have = rw (read_few sites d e one) (have es others)
    rest e (Err fault) one others have = let no = rw (one, others) at is in cc

    by : (read : Result (Option Content) Flaw) → event_of sites d ≡ read → Have ds (each (numbered_event sites) (n + 1) ds)
        → list_any has_parts (in_order (item d ds)) ≡ false
    by (Ok e) one have = rest e (each (numbered_event sites) (n + 1) ds) one refl have
    by (Err flaw) one have = let no = rw one at is in cc

read_stays : (sites : List Site) (d : Data) (doc : Doc) → document_of sites d ≡ Ok doc → in_parts d ≡ d ∷ []
read_stays sites d doc is =
    let r = read_list sites d doc is in
    let all = read_of sites d doc is in
    let same : all.0 ≡ r.items = same_Ok _ _ (sym all.1 ∙ r.list) in
    let many = ap count_of same in
    let n = counted r.items in
    document_stays d r.items r.list (omega (arith, all.2, many, n)) (list_few sites 1 r.items r.found r.read)

pub within_stays : WithinStays
within_stays = record {
  event = λ d w. in_one d (within d w);
  document = λ d events is few each. document_stays d events is few (none_within (in_order events) each);
  read = read_stays;
}
