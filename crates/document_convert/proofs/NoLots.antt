-- A document that a capture reads has no quantities.
use Rattle.std.proofs.Common.{◌≡◌, ◌⊎◌, inl, inr, ◌+◌, ℕ, suc, List, [], ◌∷◌, Option, Some, None, Result, Ok, Err, codes, Bool, true, false, refl, sym, ap, ◌∙◌, arith}
use Rattle.std.proofs.lemmas.Bool.{ne_eqb}
use Rattle.std.proofs.lemmas.Slice.Eq.{bytes_eq-Decides}
use Rattle.std.specs.Prelude.{⊤, ◌||◌, bytes_eq, is_some, option_and_then, unwrap_or}
use Rattle.std.specs.List.{list_any}
use Rattle.serde_json.specs.Data.{Data, Items, no_items, item}
use Rattle.serde_json.specs.Find.{as_array, as_object}
use Rattle.event_json.specs.Checks.{event_type, type_named, type_text, without_declaration, without_quantities}
use Rattle.event_json.specs.declared.doc_faults.DocFault.{DocFault}
use Rattle.event_json.specs.declared.doc_faults.DocField.{DocField}
use Rattle.event_json.specs.declared.doc_faults.DocField.TheVariants as fields
use Rattle.event_json.specs.declared.doc_faults.Flaw.{Flaw}
use Rattle.event_json.specs.Documents.{event_list, listed, numbered_event}
use Rattle.event_json.specs.EventReading.{aggregation_event, event_of, event_of_type, object_event, transformation_event}
use Rattle.event_json.specs.Events.{Content}
use Rattle.event_json.specs.Faults.{◌>>=◌}
use Rattle.event_json.specs.Members.{count_of, each, member_named, member_of}
use Rattle.event_json.specs.Sites.{Site}
use Rattle.event_json.specs.Untraced.{in_order, is_text}
use Rattle.document_convert.specs.Quantities.{has_by, has_elements, has_quantities, is_filled, lots_of, moved, moved_by, with_its_lots, with_lots}
use Rattle.document_convert.specs.LotLaws.{ReadStaysWithLots, WithoutStays}
use Rattle.document_convert.specs.LotEvents.{has_unit_lots}
use Rattle.document_convert.specs.Lotted.{document_with_lots, has_lots, lotted}
use Rattle.document_convert.specs.Respelled.{spells_otherwise, with_spelled}
use Rattle.document_convert.proofs.MadeLots.{no_unit_lots, none_behind}
use Rattle.document_convert.proofs.ReadLaws.{ReadList, read_list, same_Ok}
use Rattle.document_convert.proofs.Settled.{is_document}

-- ---- an event without quantities stays

-- it was found, or nothing was
abbrev Stays : Data → Option Data → Type 0
Stays d o = (o ≡ Some d) ⊎ (o ≡ None)

none_moved : (quantities items : List ℕ) (d : Data) → has_elements (member_named quantities d) ≡ false → Stays d (moved quantities items d)
unfolding moved
none_moved quantities items d none = of_member (member_named quantities d) refl none
  where
    of_array : (v : Data) (o : Option Items) → member_named quantities d ≡ Some v → as_array v ≡ o → is_filled o ≡ false → Stays d (option_and_then (with_lots quantities items d) (lots_of (Some v)))
    of_array v None m a none = inr (rw a refl)
    of_array v (Some no_items) m a none = inl (rw a refl)
    of_array v (Some (item e es)) m a none = cc

    of_member : (o : Option Data) → member_named quantities d ≡ o → has_elements o ≡ false → Stays d (option_and_then (with_lots quantities items d) (lots_of o))
    of_member None m none = inl refl
    of_member (Some v) m none = of_array v (as_array v) m refl none

pub both_none : (a b : Bool) → (a || b) ≡ false → (a ≡ false) × (b ≡ false)
both_none true b is = cc
both_none false b is = (refl, is)

then_moved : (quantities items : List ℕ) (d : Data) (first : Option Data) → Stays d first → has_elements (member_named quantities d) ≡ false
    → Stays d (option_and_then (moved quantities items) first)
then_moved quantities items d None found none = inr refl
then_moved quantities items d (Some e) (inl is) none =
    let same : e ≡ d = cc in
    rw same (none_moved quantities items d none)
then_moved quantities items d (Some e) (inr is) none = cc

moved_none : (d : Data) (text : List ℕ) → has_by d text ≡ false → Stays d (moved_by d text)
moved_none d text none = of_object (bytes_eq text (codes "ObjectEvent")) refl
  where
    of_transformation : (b : Bool) → bytes_eq text (codes "ObjectEvent") ≡ false → bytes_eq text (codes "AggregationEvent") ≡ false
        → bytes_eq text (codes "TransformationEvent") ≡ b → Stays d (moved_by d text)
    of_transformation true o a t =
        let parts = both_none (has_elements (member_named (codes "inputQuantityList") d)) (has_elements (member_named (codes "outputQuantityList") d)) (rw (o, a, t) at none) in
        rw (o, a, t)
        (then_moved (codes "outputQuantityList") (codes "outputEPCList") d (moved (codes "inputQuantityList") (codes "inputEPCList") d)
        (none_moved (codes "inputQuantityList") (codes "inputEPCList") d parts.0) parts.1)
    of_transformation false o a t = rw (o, a, t) (inl refl)

    of_aggregation : (b : Bool) → bytes_eq text (codes "ObjectEvent") ≡ false → bytes_eq text (codes "AggregationEvent") ≡ b → Stays d (moved_by d text)
    of_aggregation true o a = rw (o, a) (none_moved (codes "childQuantityList") (codes "childEPCs") d (rw (o, a) at none))
    of_aggregation false o a = of_transformation (bytes_eq text (codes "TransformationEvent")) o a refl

    of_object : (b : Bool) → bytes_eq text (codes "ObjectEvent") ≡ b → Stays d (moved_by d text)
    of_object true o = rw o (none_moved (codes "quantityList") (codes "epcList") d (rw o at none))
    of_object false o = of_aggregation (bytes_eq text (codes "AggregationEvent")) o refl

the_same : (d : Data) (o : Option Data) → Stays d o → unwrap_or o d ≡ d
the_same d None stays = refl
the_same d (Some e) (inl is) = let same : e ≡ d = cc in same
the_same d (Some e) (inr is) = cc

pub without_stays : (d : Data) → has_quantities d ≡ false → with_its_lots d ≡ d
unfolding with_its_lots
without_stays d none = by (type_text d) refl none
  where
    by : (o : Option (List ℕ)) → type_text d ≡ o → is_text (has_by d) o ≡ false → unwrap_or (option_and_then (moved_by d) o) d ≡ d
    by None is none = refl
    by (Some text) is none = the_same d (moved_by d text) (moved_none d text none)

-- ---- an event that is read has none

passes : (field : DocField) (d : Data) (x : ⊤) → without_quantities field d ≡ Ok x → has_elements (member_of field d) ≡ false
unfolding without_quantities
passes field d x is = of_member (member_of field d) refl
  where
    of_array : (v : Data) (o : Option Items) → member_of field d ≡ Some v → as_array v ≡ o → is_filled o ≡ false
    of_array v None m a = refl
    of_array v (Some no_items) m a = refl
    of_array v (Some (item e es)) m a = let no = rw (m, a, ne_eqb (suc (count_of es)) 0 (λ z. absurd (omega arith))) at is in cc

    of_member : (o : Option Data) → member_of field d ≡ o → has_elements o ≡ false
    of_member None m = refl
    of_member (Some v) m = of_array v (as_array v) m refl

object_none : (sites : List Site) (d : Data) (e : Content) → object_event sites d ≡ Ok e → has_elements (member_named (codes "quantityList") d) ≡ false
unfolding object_event
object_none sites d e is = of_declaration (without_declaration d) refl
  where
    of_quantities : (p : ⊤) (r : Result ⊤ Flaw) → without_declaration d ≡ Ok p → without_quantities fields.QuantityList d ≡ r → has_elements (member_named (codes "quantityList") d) ≡ false
    of_quantities p (Ok q) a b = passes fields.QuantityList d q b
    of_quantities p (Err flaw) a b = let no = rw (a, b) at is in cc

    of_declaration : (r : Result ⊤ Flaw) → without_declaration d ≡ r → has_elements (member_named (codes "quantityList") d) ≡ false
    of_declaration (Ok p) a = of_quantities p (without_quantities fields.QuantityList d) a refl
    of_declaration (Err flaw) a = let no = rw a at is in cc

aggregation_none : (d : Data) (e : Content) → aggregation_event d ≡ Ok e → has_elements (member_named (codes "childQuantityList") d) ≡ false
unfolding aggregation_event
aggregation_none d e is = of_declaration (without_declaration d) refl
  where
    of_quantities : (p : ⊤) (r : Result ⊤ Flaw) → without_declaration d ≡ Ok p → without_quantities fields.ChildQuantityList d ≡ r
        → has_elements (member_named (codes "childQuantityList") d) ≡ false
    of_quantities p (Ok q) a b = passes fields.ChildQuantityList d q b
    of_quantities p (Err flaw) a b = let no = rw (a, b) at is in cc

    of_declaration : (r : Result ⊤ Flaw) → without_declaration d ≡ r → has_elements (member_named (codes "childQuantityList") d) ≡ false
    of_declaration (Ok p) a = of_quantities p (without_quantities fields.ChildQuantityList d) a refl
    of_declaration (Err flaw) a = let no = rw a at is in cc

neither : (a b : Bool) → a ≡ false → b ≡ false → (a || b) ≡ false
neither a b x y = rw (x, y) refl

transformation_none : (d : Data) (e : Content) → transformation_event d ≡ Ok e
    → (has_elements (member_named (codes "inputQuantityList") d) || has_elements (member_named (codes "outputQuantityList") d)) ≡ false
unfolding transformation_event
transformation_none d e is = of_declaration (without_declaration d) refl
  where
    of_outputs : (p q : ⊤) (r : Result ⊤ Flaw) → without_declaration d ≡ Ok p → without_quantities fields.InputQuantityList d ≡ Ok q
        → without_quantities fields.OutputQuantityList d ≡ r
        → (has_elements (member_named (codes "inputQuantityList") d) || has_elements (member_named (codes "outputQuantityList") d)) ≡ false
    of_outputs p q (Ok o) a b c =
        neither (has_elements (member_named (codes "inputQuantityList") d)) (has_elements (member_named (codes "outputQuantityList") d))
        (passes fields.InputQuantityList d q b) (passes fields.OutputQuantityList d o c)
    of_outputs p q (Err flaw) a b c = let no = rw (a, b, c) at is in cc

    of_inputs : (p : ⊤) (r : Result ⊤ Flaw) → without_declaration d ≡ Ok p → without_quantities fields.InputQuantityList d ≡ r
        → (has_elements (member_named (codes "inputQuantityList") d) || has_elements (member_named (codes "outputQuantityList") d)) ≡ false
    of_inputs p (Ok q) a b = of_outputs p q (without_quantities fields.OutputQuantityList d) a b refl
    of_inputs p (Err flaw) a b = let no = rw (a, b) at is in cc

    of_declaration : (r : Result ⊤ Flaw) → without_declaration d ≡ r
        → (has_elements (member_named (codes "inputQuantityList") d) || has_elements (member_named (codes "outputQuantityList") d)) ≡ false
    of_declaration (Ok p) a = of_inputs p (without_quantities fields.InputQuantityList d) a refl
    of_declaration (Err flaw) a = let no = rw a at is in cc

-- what is kept was read
was_read : (r : Result Content Flaw) (x : Option Content) → (r >>= λ e. Ok (Some e)) ≡ Ok x → (e : Content) × (r ≡ Ok e)
was_read (Ok e) x is = (e, refl)
was_read (Err flaw) x is = cc

-- a text is no other one
pub no_other : (text a b : List ℕ) → bytes_eq text a ≡ true → bytes_eq a b ≡ false → bytes_eq text b ≡ false
no_other text a b is other = ap (λ t. bytes_eq t b) ((bytes_eq-Decides text a).0 is) ∙ other

read_none : (sites : List Site) (d : Data) (x : Option Content) → event_of sites d ≡ Ok x → has_quantities d ≡ false
unfolding event_of event_type type_named event_of_type
read_none sites d x is = of_value (as_object d) refl
  where
    of_transformation : (text : List ℕ) (b : Bool) → is_some (as_object d) ≡ true → type_text d ≡ Some text → bytes_eq text (codes "ObjectEvent") ≡ false
        → bytes_eq text (codes "AggregationEvent") ≡ false → bytes_eq text (codes "TransformationEvent") ≡ b → has_quantities d ≡ false
    of_transformation text true v s o a t =
        let other = no_other text (codes "TransformationEvent") (codes "TransactionEvent") t refl in
        let read = was_read (transformation_event d) x (rw (v, s, o, a, other, t) at is) in
        rw (s, o, a, t) (transformation_none d read.0 read.1)
    of_transformation text false v s o a t = rw (s, o, a, t) refl

    of_aggregation : (text : List ℕ) (b : Bool) → is_some (as_object d) ≡ true → type_text d ≡ Some text → bytes_eq text (codes "ObjectEvent") ≡ false
        → bytes_eq text (codes "AggregationEvent") ≡ b → has_quantities d ≡ false
    of_aggregation text true v s o a =
        let read = was_read (aggregation_event d) x (rw (v, s, o, a) at is) in
        rw (s, o, a) (aggregation_none d read.0 read.1)
    of_aggregation text false v s o a = of_transformation text (bytes_eq text (codes "TransformationEvent")) v s o a refl

    of_name : (text : List ℕ) (b : Bool) → is_some (as_object d) ≡ true → type_text d ≡ Some text → bytes_eq text (codes "ObjectEvent") ≡ b → has_quantities d ≡ false
    of_name text true v s o =
        let read = was_read (object_event sites d) x (rw (v, s, o) at is) in
        rw (s, o) (object_none sites d read.0 read.1)
    of_name text false v s o = of_aggregation text (bytes_eq text (codes "AggregationEvent")) v s o refl

    of_text : (o : Option (List ℕ)) → is_some (as_object d) ≡ true → type_text d ≡ o → has_quantities d ≡ false
    of_text (Some text) v s = of_name text (bytes_eq text (codes "ObjectEvent")) v s refl
    of_text None v s = rw s refl

    of_value : {X : Type 0} (o : Option X) → is_some (as_object d) ≡ is_some o → has_quantities d ≡ false
    of_value (Some ms) v = of_text (type_text d) v refl
    of_value None v = let no = rw v at is in cc

-- ---- a list that is read has none

abbrev Have : Items → Result (List (Option Content)) DocFault → Type 0
Have ds read = (es : List (Option Content)) → read ≡ Ok es → list_any has_quantities (in_order ds) ≡ false

list_none : (sites : List Site) (n : ℕ) (items : Items) (found : List (Option Content)) → each (numbered_event sites) n items ≡ Ok found
    → list_any has_quantities (in_order items) ≡ false
list_none sites n no_items found is = refl
list_none sites n (item d ds) found is = by (event_of sites d) refl (λ es. list_none sites (n + 1) ds es)
  where
    rest : (e : Option Content) (others : Result (List (Option Content)) DocFault) → event_of sites d ≡ Ok e → each (numbered_event sites) (n + 1) ds ≡ others
        → Have ds (each (numbered_event sites) (n + 1) ds) → list_any has_quantities (in_order (item d ds)) ≡ false
    rest e (Ok es) one others have = rw (read_none sites d e one) (have es others)
    rest e (Err fault) one others have = let no = rw (one, others) at is in cc

    by : (read : Result (Option Content) Flaw) → event_of sites d ≡ read → Have ds (each (numbered_event sites) (n + 1) ds)
        → list_any has_quantities (in_order (item d ds)) ≡ false
    by (Ok e) one have = rest e (each (numbered_event sites) (n + 1) ds) one refl have
    by (Err flaw) one have = let no = rw one at is in cc

-- ---- a document

-- where it is no EPCISDocument it is an event alone
pub alone_list : (d : Data) (items : Items) → event_list d ≡ Ok items → is_text is_document (type_text d) ≡ false → items ≡ item d no_items
unfolding event_list
alone_list d items is other = of_type (type_text d) refl other
  where
    of_name : (text : List ℕ) (b : Bool) → type_text d ≡ Some text → is_document text ≡ false → is_some (type_named text) ≡ b → items ≡ item d no_items
    of_name text true s o n =
        let same : ◌≡◌ {A = Result Items DocFault} (Ok (item d no_items)) (Ok items) = rw (s, o, n) at is in
        sym (same_Ok _ _ same)
    of_name text false s o n = let no = rw (s, o, n) at is in cc

    of_type : (o : Option (List ℕ)) → type_text d ≡ o → is_text is_document o ≡ false → items ≡ item d no_items
    of_type None s o = let no = rw s at is in cc
    of_type (Some text) s o = of_name text (is_some (type_named text)) s o refl

-- and where it is one it has the list
pub its_list : (d : Data) (items : Items) → event_list d ≡ Ok items → is_text is_document (type_text d) ≡ true → listed d ≡ Some items
unfolding event_list
its_list d items is named = of_type (type_text d) refl named
  where
    of_list : (text : List ℕ) (o : Option Items) → type_text d ≡ Some text → is_document text ≡ true → listed d ≡ o → o ≡ Some items
    of_list text None s n l = let no = rw (s, n, l) at is in cc
    of_list text (Some found) s n l =
        let same : ◌≡◌ {A = Result Items DocFault} (Ok found) (Ok items) = rw (s, n, l) at is in
        ap Some (same_Ok _ _ same)

    of_type : (o : Option (List ℕ)) → type_text d ≡ o → is_text is_document o ≡ true → listed d ≡ Some items
    of_type None s n = cc
    of_type (Some text) s n = of_list text (listed d) s n refl

-- an event without quantities that spells no lot otherwise, and tells none of units, has no lots
none_of_all : (events : List Data) → list_any has_quantities events ≡ false → list_any spells_otherwise events ≡ false → list_any has_unit_lots events ≡ false
    → list_any has_lots events ≡ false
none_of_all [] a b c = refl
none_of_all (e ∷ es) a b c =
    let first = both_none (has_quantities e) (list_any has_quantities es) a in
    let second = both_none (spells_otherwise e) (list_any spells_otherwise es) b in
    let third = both_none (has_unit_lots e) (list_any has_unit_lots es) c in
    rw (first.0, second.0, third.0) (none_of_all es first.1 second.1 third.1)

lotted_stays : (d : Data) → has_quantities d ≡ false → spells_otherwise d ≡ false → lotted d ≡ d
unfolding with_spelled
lotted_stays d none also =
    let same = without_stays d none in
    rw (same, also) refl

pub without_lots_stays : WithoutStays
without_lots_stays d none =
    let parts = both_none (has_quantities d || spells_otherwise d) (has_unit_lots d) none in
    let first = both_none (has_quantities d) (spells_otherwise d) parts.0 in
    none_behind d (no_unit_lots d parts.1) ∙ ap (λ v. v ∷ []) (lotted_stays d first.0 first.1)

read_stays : (sites : List Site) (d : Data) (r : ReadList sites d) → list_any spells_otherwise (in_order r.items) ≡ false → list_any has_unit_lots (in_order r.items) ≡ false
    → document_with_lots d ≡ d
unfolding document_with_lots
read_stays sites d r other units = by (is_text is_document (type_text d)) refl
  where
    quantities : list_any has_quantities (in_order r.items) ≡ false
    quantities = list_none sites 1 r.items r.found r.read

    none : list_any has_lots (in_order r.items) ≡ false
    none = none_of_all (in_order r.items) quantities other units

    by : (b : Bool) → is_text is_document (type_text d) ≡ b → document_with_lots d ≡ d
    by true named = rw (named, its_list d r.items r.list named, none) refl
    by false alone =
        let same = alone_list d r.items r.list alone in
        let of_one : (p : Data → Bool) → list_any p (in_order r.items) ≡ false → p d ≡ false =
        λ p is. (both_none (p d) false (ap (λ i. list_any p (in_order i)) (sym same) ∙ is)).0 in
        rw (alone, of_one has_unit_lots units) (lotted_stays d (of_one has_quantities quantities) (of_one spells_otherwise other))

pub read_stays_with_lots : ReadStaysWithLots
read_stays_with_lots sites d doc events is list other units =
    let r = read_list sites d doc is in
    let same : events ≡ r.items = same_Ok _ _ (sym list ∙ r.list) in
    read_stays sites d r (ap (λ i. list_any spells_otherwise (in_order i)) (sym same) ∙ other) (ap (λ i. list_any has_unit_lots (in_order i)) (sym same) ∙ units)
