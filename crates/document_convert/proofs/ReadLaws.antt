-- A document that a capture reads has all in place.
use Rattle.std.proofs.Common.{◌≡◌, ◌+◌, ℕ, List, Option, Some, None, Result, Ok, Err, codes, Bool, true, false, refl, ap, ◌∙◌}
use Rattle.std.specs.Prelude.{⊤, is_none, is_some, option_and_then}
use Rattle.std.specs.List.{list_all}
use Rattle.std.specs.Option.{option_or}
use Rattle.serde_json.specs.Data.{Data, Items, no_items, item}
use Rattle.serde_json.specs.Find.{as_object, as_str}
use Rattle.event_json.specs.Checks.{event_type, type_named, type_text}
use Rattle.event_json.specs.declared.doc_faults.DocFault.{DocFault}
use Rattle.event_json.specs.declared.doc_faults.Flaw.{Flaw}
use Rattle.event_json.specs.declared.documents.Doc.{Doc}
use Rattle.event_json.specs.Documents.{document_of, event_list, events_of, few_events, listed, numbered_event}
use Rattle.event_json.specs.EventReading.{event_of}
use Rattle.event_json.specs.Events.{Content}
use Rattle.event_json.specs.Members.{each, member_named}
use Rattle.event_json.specs.Sites.{Site}
use Rattle.event_json.specs.Untraced.{in_order}
use Rattle.document_convert.specs.Types.{is_event, missing_type, type_told, typed, typed_as}
use Rattle.document_convert.specs.Documents.{document_in}
use Rattle.document_convert.specs.Laws.{ReadIsUnchanged}
use Rattle.document_convert.proofs.Members.{not_missing}
use Rattle.document_convert.proofs.Settled.{is_document, stays}
use Rattle.document_convert.proofs.Bare.{event_type as event_text, no_list, not_settled}

-- ---- an event that is read has its type

-- a type that is told is there
told_there : (d : Data) (text : List ℕ) → type_text d ≡ Some text → missing_type d ≡ None
told_there d text is = by (member_named (codes "type") d) refl is
  where
    by : (o : Option Data) → member_named (codes "type") d ≡ o → option_and_then as_str o ≡ Some text → missing_type d ≡ None
    by None there is = cc
    by (Some t) there is = not_missing d t there

has_type : (sites : List Site) (d : Data) (e : Option Content) → event_of sites d ≡ Ok e → missing_type d ≡ None
unfolding event_of event_type
has_type sites d e is = by_object (as_object d) refl
  where
    by_text : (o : Option (List ℕ)) → is_some (as_object d) ≡ true → type_text d ≡ o → missing_type d ≡ None
    by_text (Some text) object type = told_there d text type
    by_text None object type = let no = rw (object, type) at is in cc

    by_object : {X : Type 0} (o : Option X) → is_some (as_object d) ≡ is_some o → missing_type d ≡ None
    by_object (Some ms) object = by_text (type_text d) object refl
    by_object None object = let no = rw object at is in cc

-- where the list of this result is one, each event of it has its type
abbrev Have : Items → Result (List (Option Content)) DocFault → Type 0
Have ds read = (es : List (Option Content)) → read ≡ Ok es → list_all (λ x. is_none (missing_type x)) (in_order ds) ≡ true

-- and so has each of a list
all_have : (sites : List Site) (n : ℕ) (items : Items) (found : List (Option Content)) → each (numbered_event sites) n items ≡ Ok found
    → list_all (λ e. is_none (missing_type e)) (in_order items) ≡ true
all_have sites n no_items found is = refl
all_have sites n (item d ds) found is = by (event_of sites d) refl (λ es. all_have sites (n + 1) ds es)
  where
    rest : (e : Option Content) (others : Result (List (Option Content)) DocFault) → event_of sites d ≡ Ok e → each (numbered_event sites) (n + 1) ds ≡ others
        → Have ds (each (numbered_event sites) (n + 1) ds) → list_all (λ x. is_none (missing_type x)) (in_order (item d ds)) ≡ true
    rest e (Ok es) one others have = rw (has_type sites d e one) (have es others)
    rest e (Err fault) one others have = let no = rw (one, others) at is in cc

    by : (read : Result (Option Content) Flaw) → event_of sites d ≡ read → Have ds (each (numbered_event sites) (n + 1) ds) → list_all (λ x. is_none (missing_type x)) (in_order (item d ds)) ≡ true
    by (Ok e) one have = rest e (each (numbered_event sites) (n + 1) ds) one refl have
    by (Err flaw) one have = let no = rw one at is in cc

-- ---- the list that is read

pub record ReadList (sites : List Site) (d : Data) : Type 0 where
  pub items : Items
  pub list : event_list d ≡ Ok items
  pub found : List (Option Content)
  pub read : each (numbered_event sites) 1 items ≡ Ok found

pub read_list : (sites : List Site) (d : Data) (doc : Doc) → document_of sites d ≡ Ok doc → ReadList sites d
unfolding document_of events_of
read_list sites d doc is = by (event_list d) refl
  where
    of_events : (items : Items) (passed : ⊤) (read : Result (List (Option Content)) DocFault) → event_list d ≡ Ok items → few_events items ≡ Ok passed
        → each (numbered_event sites) 1 items ≡ read → ReadList sites d
    of_events items passed (Ok found) list few read = record { items = items; list = list; found = found; read = read }
    of_events items passed (Err fault) list few read = let no = rw (list, few, read) at is in cc

    of_items : (items : Items) (few : Result ⊤ DocFault) → event_list d ≡ Ok items → few_events items ≡ few → ReadList sites d
    of_items items (Ok passed) list few = of_events items passed (each (numbered_event sites) 1 items) list few refl
    of_items items (Err fault) list few = let no = rw (list, few) at is in cc

    by : (list : Result Items DocFault) → event_list d ≡ list → ReadList sites d
    by (Ok items) list = of_items items (few_events items) list refl
    by (Err fault) list = let no = rw list at is in cc

-- an event alone stays
alone_stays : (d : Data) (text : List ℕ) → type_text d ≡ Some text → is_some (type_named text) ≡ true → document_in d ≡ Some d
unfolding document_in
alone_stays d text type named =
    let its = event_text text named in
    let told : type_told d ≡ Some text = ap (λ (o : Option (List ℕ)). option_or o (missing_type d)) type in
    let event : is_event d ≡ true = ap (λ (o : Option (List ℕ)). is_some (option_and_then type_named o)) told ∙ named in
    let same : typed d ≡ d = ap (λ (o : Option (List ℕ)). typed_as o d) (told_there d text type) in
    rw (not_settled d text type its, no_list d text told its, event) (ap Some same)

pub same_Ok : (a b : Items) → ◌≡◌ {A = Result Items DocFault} (Ok a) (Ok b) → a ≡ b
same_Ok a b e = cc

stays_as_read : (sites : List Site) (d : Data) → ReadList sites d → document_in d ≡ Some d
unfolding event_list
stays_as_read sites d r = of_type (type_text d) refl
  where
    all : list_all (λ e. is_none (missing_type e)) (in_order r.items) ≡ true
    all = all_have sites 1 r.items r.found r.read

    of_list : (text : List ℕ) (o : Option Items) → type_text d ≡ Some text → is_document text ≡ true → listed d ≡ o → document_in d ≡ Some d
    of_list text None type named list = let no = rw (type, named, list) at r.list in cc
    of_list text (Some items) type named list =
        let same : ◌≡◌ {A = Result Items DocFault} (Ok items) (Ok r.items) = rw (type, named, list) at r.list in
        let all_typed = ap (λ (i : Items). list_all (λ e. is_none (missing_type e)) (in_order i)) (same_Ok _ _ same) ∙ all in
        stays d (record { text = text; type = type; named = named; items = items; list = list; all = all_typed })

    of_name : (text : List ℕ) (b : Bool) → type_text d ≡ Some text → is_document text ≡ false → is_some (type_named text) ≡ b → document_in d ≡ Some d
    of_name text true type other named = alone_stays d text type named
    of_name text false type other named = let no = rw (type, other, named) at r.list in cc

    of_text : (text : List ℕ) (b : Bool) → type_text d ≡ Some text → is_document text ≡ b → document_in d ≡ Some d
    of_text text true type named = of_list text (listed d) type named refl
    of_text text false type other = of_name text (is_some (type_named text)) type other refl

    of_type : (o : Option (List ℕ)) → type_text d ≡ o → document_in d ≡ Some d
    of_type None type = let no = rw type at r.list in cc
    of_type (Some text) type = of_text text (is_document text) type refl

pub read_is_unchanged : ReadIsUnchanged
read_is_unchanged sites d doc is = stays_as_read sites d (read_list sites d doc is)
