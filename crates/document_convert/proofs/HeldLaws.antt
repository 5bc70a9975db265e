-- What is an event, and what holds some.
use Rattle.std.proofs.Common.{◌≡◌, ℕ, List, [], ◌∷◌, Option, Some, None, codes, refl, ap, ◌∙◌}
use Rattle.std.specs.Prelude.{IsSome, option_and_then}
use Rattle.serde_json.specs.Data.{Data, null, boolean, number, array, object, string, Items, no_items, item, Members}
use Rattle.serde_json.specs.Find.{get}
use Rattle.event_json.specs.Checks.{type_named}
use Rattle.event_json.specs.Members.{member_named, present}
use Rattle.event_json.specs.Untraced.{in_order}
use Rattle.document_convert.specs.Types.{first_type, missing_type, type_told}
use Rattle.document_convert.specs.Documents.{body_events, document_events, first_list, result_events}
use Rattle.document_convert.specs.Laws.{HoldersAreThese, IsAbsent, TypesAreThese, held_in}
use Rattle.document_convert.proofs.Bare.{event_type, no_list}

-- ---- types

missing_first : (d : Data) (at_type is_a : Option Data) → IsAbsent (codes "type") d → member_named (codes "@type") d ≡ at_type → member_named (codes "isA") d ≡ is_a
    → type_told d ≡ first_type at_type is_a
unfolding missing_type
missing_first d at_type is_a type at is = rw (type, at, is) refl

member_is : (name : List ℕ) (d found : Data) → get name d ≡ Some found → member_named name d ≡ present found
member_is name d found is = ap (option_and_then present) is

told_as : (d : Data) (text : List ℕ) → get (codes "type") d ≡ Some (string text) → type_told d ≡ Some text
told_as d text is = rw is refl

pub types_are_these : TypesAreThese
types_are_these = record {
  type = told_as;
  at_type = λ d text none is. missing_first d (Some (string text)) _ none (member_is (codes "@type") d (string text) is) refl;
  at_types = λ d text none is. missing_first d (Some (array (item (string text) no_items))) _ none (member_is (codes "@type") d (array (item (string text) no_items)) is) refl;
  is_a = λ d text none other is. missing_first d None (Some (string text)) none other (member_is (codes "isA") d (string text) is);
  none = λ d none other third. missing_first d None None none other third;
}

-- ---- holders

by_list : (d : Data) (events : Items) → document_events d ≡ Some events → held_in d ≡ Some (in_order events)
unfolding held_in
by_list d events is = rw is refl

in_document : (d : Data) (events : Items) → type_told d ≡ Some (codes "EPCISDocument") → body_events d ≡ Some events → document_events d ≡ Some events
unfolding document_events
in_document d events told is = rw told is

in_results : (d : Data) (events : Items) → type_told d ≡ Some (codes "EPCISQueryDocument") → result_events d ≡ Some events → document_events d ≡ Some events
unfolding document_events
in_results d events told is = rw told is

-- the list that is first in a body
of_body : (d body : Data) (list event : Option Data) → get (codes "epcisBody") d ≡ Some body → present body ≡ Some body → member_named (codes "eventList") body ≡ list
    → member_named (codes "event") body ≡ event → body_events d ≡ first_list list event
unfolding body_events
of_body d body list event is there l e = rw (is, there, l, e) refl

-- what has a member isn't null
has_member : (name : List ℕ) (d found : Data) → member_named name d ≡ Some found → present d ≡ Some d
has_member name null found is = cc
has_member name (boolean b) found is = refl
has_member name (number n) found is = refl
has_member name (string s) found is = refl
has_member name (array ds) found is = refl
has_member name (object ms) found is = refl

listed : (d body : Data) (events : Items) → type_told d ≡ Some (codes "EPCISDocument") → get (codes "epcisBody") d ≡ Some body → get (codes "eventList") body ≡ Some (array events)
    → held_in d ≡ Some (in_order events)
listed d body events told is list =
    let named : member_named (codes "eventList") body ≡ Some (array events) = member_is (codes "eventList") body (array events) list in
    by_list d events (in_document d events told (of_body d body (Some (array events)) _ is (has_member (codes "eventList") body (array events) named) named refl))

several : (d body : Data) (events : Items) → type_told d ≡ Some (codes "EPCISDocument") → get (codes "epcisBody") d ≡ Some body → IsAbsent (codes "eventList") body
    → get (codes "event") body ≡ Some (array events) → held_in d ≡ Some (in_order events)
several d body events told is none event =
    let named : member_named (codes "event") body ≡ Some (array events) = member_is (codes "event") body (array events) event in
    by_list d events (in_document d events told (of_body d body None (Some (array events)) is (has_member (codes "event") body (array events) named) none named))

one : (d body : Data) (members : Members) → type_told d ≡ Some (codes "EPCISDocument") → get (codes "epcisBody") d ≡ Some body → IsAbsent (codes "eventList") body
    → get (codes "event") body ≡ Some (object members) → held_in d ≡ Some (object members ∷ [])
one d body members told is none event =
    let named : member_named (codes "event") body ≡ Some (object members) = member_is (codes "event") body (object members) event in
    let list = of_body d body None (Some (object members)) is (has_member (codes "event") body (object members) named) none named in
    by_list d (item (object members) no_items) (in_document d (item (object members) no_items) told list)

results : (d body res found : Data) (events : Items) → member_named (codes "epcisBody") d ≡ Some body → member_named (codes "queryResults") body ≡ Some res
    → member_named (codes "resultsBody") res ≡ Some found → member_named (codes "eventList") found ≡ Some (array events) → result_events d ≡ Some events
unfolding result_events
results d body res found events a b c e = rw (a, b, c, e) refl

-- a member that is found, of what has one itself
above : (name below : List ℕ) (d found inner : Data) → get name d ≡ Some found → member_named below found ≡ Some inner → member_named name d ≡ Some found
above name below d found inner is has = member_is name d found is ∙ has_member below found inner has

found_by_query : (d body res found : Data) (events : Items) → type_told d ≡ Some (codes "EPCISQueryDocument") → get (codes "epcisBody") d ≡ Some body
    → get (codes "queryResults") body ≡ Some res → get (codes "resultsBody") res ≡ Some found → get (codes "eventList") found ≡ Some (array events)
    → held_in d ≡ Some (in_order events)
found_by_query d body res found events told a b c e =
    let list : member_named (codes "eventList") found ≡ Some (array events) = member_is (codes "eventList") found (array events) e in
    let third = above (codes "resultsBody") (codes "eventList") res found (array events) c list in
    let second = above (codes "queryResults") (codes "resultsBody") body res found b third in
    let first = above (codes "epcisBody") (codes "queryResults") d body res a second in
    by_list d events (in_results d events told (results d body res found events first second third list))

alone : (d : Data) (text : List ℕ) → type_told d ≡ Some text → IsSome (type_named text) → held_in d ≡ Some (d ∷ [])
unfolding held_in
alone d text told named =
    let its = event_type text named in
    rw (no_list d text told its, told, its.named) refl

nothing : (d : Data) → type_told d ≡ None → held_in d ≡ None
unfolding held_in document_events
nothing d told = rw (told, told) refl

pub holders_are_these : HoldersAreThese
holders_are_these = record { list = listed; several = several; one = one; found = found_by_query; alone = alone; nothing = nothing }
