-- The documents of a document.
use Rattle.std.proofs.Common.{◌≡◌, ◌⊎◌, ◌≤◌, ◌<◌, ℕ, ◌*◌, Bool, true, false, Contains, List, [], ◌∷◌, ◌++◌, Option, Some, None, Result, Ok, Err, codes, drop, length, take, inl, inr, refl, sym, ap, subst, ◌∙◌, arith, append-nil}
use Rattle.std.specs.Prelude.{nat_lt}
use Rattle.std.specs.List.{flat_map, list_any}
use Rattle.std.proofs.lemmas.Bool.{ltb-false}
use Rattle.std.proofs.lemmas.List.{take_all}
use Rattle.serde_json.specs.Data.{Data, object, string, Items, Members, no_members}
use Rattle.serde_json.specs.Find.{get}
use Rattle.serde_json.specs.View.{items_of}
use Rattle.event_json.specs.Checks.{type_text}
use Rattle.event_json.specs.Documents.{event_list, listed}
use Rattle.event_json.specs.declared.doc_faults.DocFault.{DocFault}
use Rattle.event_json.specs.Untraced.{in_order, is_text, listed_events}
use Rattle.document_convert.specs.Documents.{body_of, document_around}
use Rattle.document_convert.specs.Parted.{are_long, documents_around, event_parts, has_parts, in_parts, numbers, thousand, thousands}
use Rattle.document_convert.specs.PartLaws.{DocumentsAreParted, IsOfType}
use Rattle.document_convert.specs.Types.{with_member}
use Rattle.document_convert.proofs.Around.{around_type}
use Rattle.document_convert.proofs.EventParts.{in_one}
use Rattle.document_convert.proofs.Has.{cases, from_map, none_has}
use Rattle.document_convert.proofs.Lists.{listed_back}
use Rattle.document_convert.proofs.Members.{other_member}
use Rattle.document_convert.proofs.NoLots.{alone_list, both_none, its_list}
use Rattle.document_convert.proofs.PartLemmas.{are_enough, at_most, each_at, flat_each, single_at, some_there, thousands_all}
use Rattle.document_convert.proofs.Settled.{is_document}
use Rattle.document_convert.proofs.UnitLaws.{around_events, listed_object}

-- ---- which documents there are

pub in_list : (d : Data) (items : Items) → is_text is_document (type_text d) ≡ true → listed d ≡ Some items → are_long (in_order items) ≡ true
    → in_parts d ≡ documents_around d (flat_map event_parts (in_order items))
unfolding in_parts
in_list d items named list some = rw (named, list, some) refl

pub none_in_list : (d : Data) (items : Items) → is_text is_document (type_text d) ≡ true → listed d ≡ Some items → are_long (in_order items) ≡ false → in_parts d ≡ d ∷ []
unfolding in_parts
none_in_list d items named list none = rw (named, list, none) refl

pub no_list : (d : Data) → is_text is_document (type_text d) ≡ true → listed d ≡ None → in_parts d ≡ d ∷ []
unfolding in_parts
no_list d named list = rw (named, list) refl

pub bare_parts : (d : Data) → is_text is_document (type_text d) ≡ false → has_parts d ≡ true → in_parts d ≡ documents_around (object no_members) (event_parts d)
unfolding in_parts
bare_parts d other some = rw (other, some) refl

pub bare_stays : (d : Data) → is_text is_document (type_text d) ≡ false → has_parts d ≡ false → in_parts d ≡ d ∷ []
unfolding in_parts
bare_stays d other none = rw (other, none) refl

-- ---- events

listed_in : (d : Data) (items : Items) → event_list d ≡ Ok items → listed_events d ≡ in_order items
unfolding listed_events
listed_in d items is = rw is refl

listed_none : (d : Data) (fault : DocFault) → event_list d ≡ Err fault → listed_events d ≡ []
unfolding listed_events
listed_none d fault is = rw is refl

around_listed : (ms : Members) (es : List Data) → listed_events (document_around (object ms) es) ≡ es
around_listed ms es = listed_in (document_around (object ms) es) (items_of es) (around_events ms es) ∙ listed_back es

-- the events of the documents are these
all_around : (ms : Members) (es : List Data) → flat_map listed_events (documents_around (object ms) es) ≡ es
all_around ms es =
    flat_each listed_events (λ k. document_around (object ms) (thousand k es)) es (λ k. around_listed ms (thousand k es)) 0 (thousands (length es))
    ∙ thousands_all es (thousands (length es)) (are_enough (length es))

few_around : (ms : Members) (es : List Data) (e : Data) → Contains (documents_around (object ms) es) e → length (listed_events e) ≤ 1000
few_around ms es e has = by (from_map (λ k. document_around (object ms) (thousand k es)) (numbers 0 (thousands (length es))) e has)
  where
    by : (k : ℕ) × Contains (numbers 0 (thousands (length es))) k × (document_around (object ms) (thousand k es) ≡ e) → length (listed_events e) ≤ 1000
    by (k, its, same) =
        let n : length (listed_events e) ≡ length (thousand k es) = ap length (ap listed_events (sym same) ∙ around_listed ms (thousand k es)) in
        let low = at_most k es in
        omega (arith, n, low)

only_one : (d e : Data) (P : Data → Type 0) → P d → Contains (d ∷ []) e → P e
only_one d e P its has = by (cases d e [] has)
  where
    by : (d ≡ e) ⊎ Contains [] e → P e
    by (inl same) = subst P same its
    by (inr none) = absurd (none_has e none)

-- events without parts stay
none_parted : (es : List Data) → list_any has_parts es ≡ false → flat_map event_parts es ≡ es
none_parted [] none = refl
none_parted (e ∷ es) none =
    let parts = both_none (has_parts e) (list_any has_parts es) none in
    λ i. in_one e parts.0 i ++ none_parted es parts.1 i

abbrev HasEvents : Data → Items → Type 0
HasEvents d events = flat_map listed_events (in_parts d) ≡ flat_map event_parts (in_order events)

events_listed : (d : Data) (events : Items) → event_list d ≡ Ok events → is_text is_document (type_text d) ≡ true → HasEvents d events
events_listed d events is named = by (are_long (in_order events)) refl
  where
    list : listed d ≡ Some events
    list = its_list d events is named

    by : (b : Bool) → are_long (in_order events) ≡ b → HasEvents d events
    by true some =
        let (ms, same) = listed_object d events list in
        ap (flat_map listed_events) (in_list d events named list some ∙ ap (λ v. documents_around v (flat_map event_parts (in_order events))) same)
        ∙ all_around ms (flat_map event_parts (in_order events))
    by false none =
        let few = both_none (nat_lt 1000 (length (in_order events))) (list_any has_parts (in_order events)) none in
        ap (flat_map listed_events) (none_in_list d events named list none)
        ∙ append-nil (listed_events d)
        ∙ listed_in d events is
        ∙ sym (none_parted (in_order events) few.1)

events_bare : (d : Data) (events : Items) → event_list d ≡ Ok events → is_text is_document (type_text d) ≡ false → HasEvents d events
events_bare d events is other = by (has_parts d) refl
  where
    all : flat_map event_parts (in_order events) ≡ event_parts d
    all = ap (λ (i : Items). flat_map event_parts (in_order i)) (alone_list d events is other) ∙ append-nil (event_parts d)

    by : (b : Bool) → has_parts d ≡ b → HasEvents d events
    by true some = ap (flat_map listed_events) (bare_parts d other some) ∙ all_around no_members (event_parts d) ∙ sym all
    by false none =
        ap (flat_map listed_events) (bare_stays d other none)
        ∙ append-nil (listed_events d)
        ∙ listed_in d events is
        ∙ ap in_order (alone_list d events is other)
        ∙ sym (all ∙ in_one d none)

its_events : (d : Data) (events : Items) → event_list d ≡ Ok events → HasEvents d events
its_events d events is = by (is_text is_document (type_text d)) refl
  where
    by : (b : Bool) → is_text is_document (type_text d) ≡ b → HasEvents d events
    by true named = events_listed d events is named
    by false other = events_bare d events is other

-- ---- at most a thousand

abbrev AreFew : Data → Type 0
AreFew e = length (listed_events e) ≤ 1000

-- a list that isn't read is none
few_by : (d : Data) (limit : (items : Items) → event_list d ≡ Ok items → length (in_order items) ≤ 1000) → AreFew d
few_by d limit = by (event_list d) refl
  where
    by : (r : Result Items DocFault) → event_list d ≡ r → AreFew d
    by (Ok items) is = let n = ap length (listed_in d items is) in let low = limit items is in omega (arith, n, low)
    by (Err fault) is = let n = ap length (listed_none d fault is) in omega (arith, n)

few_listed : (d e : Data) → is_text is_document (type_text d) ≡ true → (o : Option Items) → listed d ≡ o → Contains (in_parts d) e → AreFew e
few_listed d e named None list has =
    only_one d e AreFew (few_by d (λ items is. let no : None ≡ Some items = sym list ∙ its_list d items is named in cc)) (subst (λ es. Contains es e) (no_list d named list) has)
few_listed d e named (Some items) list has = by (are_long (in_order items)) refl
  where
    of_object : (ms : Members) × (d ≡ object ms) → Contains (documents_around d (flat_map event_parts (in_order items))) e → AreFew e
    of_object (ms, same) h = few_around ms (flat_map event_parts (in_order items)) e (subst (λ v. Contains (documents_around v (flat_map event_parts (in_order items))) e) same h)

    same_list : (found : Items) → event_list d ≡ Ok found → found ≡ items
    same_list found is = let both : Some found ≡ Some items = sym (its_list d found is named) ∙ list in cc

    by : (b : Bool) → are_long (in_order items) ≡ b → AreFew e
    by true some = of_object (listed_object d items list) (subst (λ es. Contains es e) (in_list d items named list some) has)
    by false none =
        let few = both_none (nat_lt 1000 (length (in_order items))) (list_any has_parts (in_order items)) none in
        let low = ltb-false 1000 (length (in_order items)) few.0 in
        only_one d e AreFew (few_by d (λ found is. let n = ap (λ (i : Items). length (in_order i)) (same_list found is) in omega (arith, n, low)))
        (subst (λ es. Contains es e) (none_in_list d items named list none) has)

few_bare : (d e : Data) → is_text is_document (type_text d) ≡ false → Contains (in_parts d) e → AreFew e
few_bare d e other has = by (has_parts d) refl
  where
    by : (b : Bool) → has_parts d ≡ b → AreFew e
    by true some = few_around no_members (event_parts d) e (subst (λ es. Contains es e) (bare_parts d other some) has)
    by false none =
        only_one d e AreFew (few_by d (λ found is. let n = ap (λ (i : Items). length (in_order i)) (alone_list d found is other) in omega (arith, n)))
        (subst (λ es. Contains es e) (bare_stays d other none) has)

are_few : (d e : Data) → Contains (in_parts d) e → AreFew e
are_few d e has = by (is_text is_document (type_text d)) refl
  where
    by : (b : Bool) → is_text is_document (type_text d) ≡ b → AreFew e
    by true named = few_listed d e named (listed d) refl has
    by false other = few_bare d e other has

-- ---- the nth, and none is empty

abbrev IsNthOf : List Data → List Data → Data → Type 0
IsNthOf all before e = listed_events e ≡ take 1000 (drop (length before * 1000) all)

nth_around : (ms : Members) (es before behind : List Data) (e : Data) → documents_around (object ms) es ≡ before ++ e ∷ behind → IsNthOf es before e
nth_around ms es before behind e is =
    ap listed_events (sym (each_at (λ k. document_around (object ms) (thousand k es)) (thousands (length es)) before behind e is)) ∙ around_listed ms (thousand (length before) es)

nth_one : (d e : Data) (all before behind : List Data) → d ∷ [] ≡ before ++ e ∷ behind → listed_events d ≡ all → length all ≤ 1000 → IsNthOf all before e
nth_one d e all before behind is its few = by (single_at d e before behind is)
  where
    by : (d ≡ e) × (before ≡ []) → IsNthOf all before e
    by (same, none) = ap listed_events (sym same) ∙ its ∙ sym (take_all 1000 all few) ∙ sym (ap (λ (b : List Data). thousand (length b) all) none)

nth_listed : (d e : Data) (events : Items) (before behind : List Data) → event_list d ≡ Ok events → is_text is_document (type_text d) ≡ true → in_parts d ≡ before ++ e ∷ behind
    → IsNthOf (flat_map event_parts (in_order events)) before e
nth_listed d e events before behind is named stands = by (are_long (in_order events)) refl
  where
    list : listed d ≡ Some events
    list = its_list d events is named

    by : (b : Bool) → are_long (in_order events) ≡ b → IsNthOf (flat_map event_parts (in_order events)) before e
    by true some =
        let (ms, same) = listed_object d events list in
        nth_around ms (flat_map event_parts (in_order events)) before behind e
        (sym (in_list d events named list some ∙ ap (λ v. documents_around v (flat_map event_parts (in_order events))) same) ∙ stands)
    by false none =
        let few = both_none (nat_lt 1000 (length (in_order events))) (list_any has_parts (in_order events)) none in
        let low = ltb-false 1000 (length (in_order events)) few.0 in
        let n = ap length (none_parted (in_order events) few.1) in
        nth_one d e (flat_map event_parts (in_order events)) before behind (sym (none_in_list d events named list none) ∙ stands)
        (listed_in d events is ∙ sym (none_parted (in_order events) few.1)) (omega (arith, n, low))

nth_bare : (d e : Data) (events : Items) (before behind : List Data) → event_list d ≡ Ok events → is_text is_document (type_text d) ≡ false → in_parts d ≡ before ++ e ∷ behind
    → IsNthOf (flat_map event_parts (in_order events)) before e
nth_bare d e events before behind is other stands = subst (λ all. IsNthOf all before e) (sym whole) (by (has_parts d) refl)
  where
    whole : flat_map event_parts (in_order events) ≡ event_parts d
    whole = ap (λ (i : Items). flat_map event_parts (in_order i)) (alone_list d events is other) ∙ append-nil (event_parts d)

    by : (b : Bool) → has_parts d ≡ b → IsNthOf (event_parts d) before e
    by true some = nth_around no_members (event_parts d) before behind e (sym (bare_parts d other some) ∙ stands)
    by false none =
        let n = ap length (in_one d none) in
        nth_one d e (event_parts d) before behind (sym (bare_stays d other none) ∙ stands)
        (listed_in d events is ∙ ap in_order (alone_list d events is other) ∙ sym (in_one d none)) (omega (arith, n))

nth_document : (d e : Data) (events : Items) (before behind : List Data) → event_list d ≡ Ok events → in_parts d ≡ before ++ e ∷ behind
    → IsNthOf (flat_map event_parts (in_order events)) before e
nth_document d e events before behind is stands = by (is_text is_document (type_text d)) refl
  where
    by : (b : Bool) → is_text is_document (type_text d) ≡ b → IsNthOf (flat_map event_parts (in_order events)) before e
    by true named = nth_listed d e events before behind is named stands
    by false other = nth_bare d e events before behind is other stands

some_around : (ms : Members) (es : List Data) (e : Data) → 0 < length (flat_map listed_events (documents_around (object ms) es)) → Contains (documents_around (object ms) es) e → 0 < length (listed_events e)
some_around ms es e some has = by (from_map (λ k. document_around (object ms) (thousand k es)) (numbers 0 (thousands (length es))) e has)
  where
    by : (k : ℕ) × Contains (numbers 0 (thousands (length es))) k × (document_around (object ms) (thousand k es) ≡ e) → 0 < length (listed_events e)
    by (k, its, same) =
        let all = ap length (all_around ms es) in
        let n : length (listed_events e) ≡ length (thousand k es) = ap length (ap listed_events (sym same) ∙ around_listed ms (thousand k es)) in
        let more = some_there es k (omega (arith, some, all)) its in
        omega (arith, n, more)

some_one : (d e : Data) → 0 < length (flat_map listed_events (d ∷ [])) → Contains (d ∷ []) e → 0 < length (listed_events e)
some_one d e some has = let n = ap length (append-nil (listed_events d)) in only_one d e (λ v. 0 < length (listed_events v)) (omega (arith, some, n)) has

abbrev HaveSome : List Data → Data → Type 0
HaveSome found e = 0 < length (flat_map listed_events found) → Contains found e → 0 < length (listed_events e)

some_listed : (d e : Data) (o : Option Items) → is_text is_document (type_text d) ≡ true → listed d ≡ o → HaveSome (in_parts d) e
some_listed d e None named list = subst (λ found. HaveSome found e) (sym (no_list d named list)) (some_one d e)
some_listed d e (Some items) named list = by (are_long (in_order items)) refl
  where
    of_object : (ms : Members) × (d ≡ object ms) → HaveSome (documents_around d (flat_map event_parts (in_order items))) e
    of_object (ms, same) = subst (λ v. HaveSome (documents_around v (flat_map event_parts (in_order items))) e) (sym same) (some_around ms (flat_map event_parts (in_order items)) e)

    by : (b : Bool) → are_long (in_order items) ≡ b → HaveSome (in_parts d) e
    by true some = subst (λ found. HaveSome found e) (sym (in_list d items named list some)) (of_object (listed_object d items list))
    by false none = subst (λ found. HaveSome found e) (sym (none_in_list d items named list none)) (some_one d e)

some_bare : (d e : Data) → is_text is_document (type_text d) ≡ false → HaveSome (in_parts d) e
some_bare d e other = by (has_parts d) refl
  where
    by : (b : Bool) → has_parts d ≡ b → HaveSome (in_parts d) e
    by true some = subst (λ found. HaveSome found e) (sym (bare_parts d other some)) (some_around no_members (event_parts d) e)
    by false none = subst (λ found. HaveSome found e) (sym (bare_stays d other none)) (some_one d e)

have_some : (d e : Data) → HaveSome (in_parts d) e
have_some d e = by (is_text is_document (type_text d)) refl
  where
    by : (b : Bool) → is_text is_document (type_text d) ≡ b → HaveSome (in_parts d) e
    by true named = some_listed d e (listed d) named refl
    by false other = some_bare d e other

-- ---- what stands beside the events

-- what each document that is made around a value has, and the value has, each document of it has
around_has : (d e : Data) (P : Data → Type 0) → IsOfType (codes "EPCISDocument") d → P d → ((ms : Members) (es : List Data) → d ≡ object ms → P (document_around (object ms) es))
    → Contains (in_parts d) e → P e
around_has d e P type its each has = by_list (listed d) refl
  where
    named : is_text is_document (type_text d) ≡ true
    named = ap (is_text is_document) type

    of_number : (items : Items) (ms : Members) → d ≡ object ms
        → (k : ℕ) × Contains (numbers 0 (thousands (length (flat_map event_parts (in_order items))))) k
        × (document_around d (thousand k (flat_map event_parts (in_order items))) ≡ e) → P e
    of_number items ms same (k, some, is) =
        subst P (sym (ap (λ v. document_around v (thousand k (flat_map event_parts (in_order items)))) same) ∙ is) (each ms (thousand k (flat_map event_parts (in_order items))) same)

    of_list : (items : Items) (b : Bool) → listed d ≡ Some items → are_long (in_order items) ≡ b → P e
    of_list items true list some =
        let (ms, same) = listed_object d items list in
        of_number items ms same
        (from_map (λ k. document_around d (thousand k (flat_map event_parts (in_order items)))) (numbers 0 (thousands (length (flat_map event_parts (in_order items))))) e
        (subst (λ es. Contains es e) (in_list d items named list some) has))
    of_list items false list none = only_one d e P its (subst (λ es. Contains es e) (none_in_list d items named list none) has)

    by_list : (o : Option Items) → listed d ≡ o → P e
    by_list None list = only_one d e P its (subst (λ es. Contains es e) (no_list d named list) has)
    by_list (Some items) list = of_list items (are_long (in_order items)) list refl

types : (d e : Data) → IsOfType (codes "EPCISDocument") d → Contains (in_parts d) e → IsOfType (codes "EPCISDocument") e
types d e type has = around_has d e (λ v. IsOfType (codes "EPCISDocument") v) type type (λ ms es same. around_type ms es) has

others : (d e : Data) (name : List ℕ) → IsOfType (codes "EPCISDocument") d → Contains (in_parts d) e → (name ≡ codes "type" → ⊥) → (name ≡ codes "epcisBody" → ⊥)
    → get name e ≡ get name d
others d e name type has a b =
    around_has d e (λ v. get name v ≡ get name d) type refl
    (λ ms es same. other_member name (codes "epcisBody") (body_of es) (with_member (codes "type") (string (codes "EPCISDocument")) (object ms)) b
    ∙ other_member name (codes "type") (string (codes "EPCISDocument")) (object ms) a
    ∙ ap (get name) (sym same)) has

pub documents_are_parted : DocumentsAreParted
documents_are_parted = record { events = its_events; nth = nth_document; few = are_few; some = have_some; type = types; others = others }
