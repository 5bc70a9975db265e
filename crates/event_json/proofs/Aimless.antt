-- An event that ships without a destination is kept as an observation.
use Rattle.std.proofs.Common.{◌≡◌, ℕ, suc, Bool, true, false, cond, List, [], bytes_eq, codes, Option, Some, None, Result, Ok, Err, refl, sym, ap, ◌∙◌, subst, arith}
use Rattle.std.specs.Prelude.{IsTrue, is_some, option_and_then}
use Rattle.std.proofs.lemmas.Bool.{and_parts, eqb-true}
use Rattle.serde_json.specs.Data.{Data, Items, no_items, item}
use Rattle.serde_json.specs.Find.{as_object}
use Rattle.event_json.specs.declared.bodies.Body.TheVariants.{Note}
use Rattle.event_json.specs.declared.doc_faults.DocField.TheVariants as fields
use Rattle.event_json.specs.declared.doc_faults.DocFaultKind.TheVariants as kinds
use Rattle.event_json.specs.declared.doc_faults.Flaw.{Flaw}
use Rattle.event_json.specs.declared.event_types.EventType.{EventType}
use Rattle.event_json.specs.declared.event_types.EventType.TheVariants.{Object}
use Rattle.event_json.specs.Checks.{type_named, type_text, event_type, without_declaration, without_quantities, head_of, action_checked}
use Rattle.event_json.specs.EventReading.{shipment, object_event, kept, event_of_type, event_of}
use Rattle.event_json.specs.Events.{Content}
use Rattle.event_json.specs.ItemLists.{limit_checked, epcs_of, destinations_of}
use Rattle.event_json.specs.Members.{member_of, list_of, or_flaw, count_of}
use Rattle.event_json.specs.Sites.{Site}
use Rattle.event_json.specs.Untraced.{is_text, is_empty_list, is_aimless}
use Rattle.event_json.proofs.Destinations.{after}
use Rattle.event_json.proofs.Listed.{same_ok}

text_there : (p : List ℕ → Bool) (o : Option (List ℕ)) → is_text p o ≡ true → (text : List ℕ) × (o ≡ Some text) × (p text ≡ true)
text_there p (Some text) h = (text, refl, h)
text_there p None h = absurd (let no : ⊥ = cc in no)

empty_there : {E : Type 0} (found : Result Items E) → is_empty_list found ≡ true → found ≡ Ok no_items
empty_there (Ok no_items) h = refl
empty_there (Ok (item d ds)) h = absurd (let none : suc (count_of ds) ≡ 0 = eqb-true _ _ h in omega (arith, none))
empty_there (Err flaw) h = absurd (let no : ⊥ = cc in no)

object_named : (text : List ℕ) → bytes_eq text (codes "ObjectEvent") ≡ true → type_named text ≡ Some Object
unfolding type_named
object_named text h = rw h refl

is_object : (d : Data) (text : List ℕ) (its_type : EventType) → type_text d ≡ Some text → bytes_eq text (codes "ObjectEvent") ≡ true
    → event_type d ≡ Ok its_type → Object ≡ its_type
unfolding event_type
is_object d text its_type there same =
    by (is_some (as_object d))
  where
    flaw : Flaw
    flaw = record { field = fields.Type; kind = kinds.NoType }

    other : Flaw
    other = record { field = fields.Event; kind = kinds.WrongShape }

    named : option_and_then type_named (type_text d) ≡ Some Object
    named = ap (option_and_then type_named) there ∙ object_named text same

    by : (b : Bool) → cond b (or_flaw flaw (option_and_then type_named (type_text d))) (Err other) ≡ Ok its_type → Object ≡ its_type
    by true is = same_ok {E = Flaw} _ _ (sym (ap (or_flaw flaw) named) ∙ is)
    by false is = absurd (let no : ⊥ = cc in no)

no_destinations : (d : Data) → list_of fields.DestinationList (member_of fields.DestinationList d) ≡ Ok no_items → destinations_of d ≡ Ok []
unfolding destinations_of limit_checked
no_destinations d e = rw e refl

object_seen : (sites : List Site) (d : Data) (e : Content) → destinations_of d ≡ Ok [] → object_event sites d ≡ Ok e → (items : List (List ℕ)) × (e.body ≡ Note items)
unfolding object_event
object_seen sites d e none is =
    let declared = after (without_declaration d) _ e is in
    let counted = after (without_quantities fields.QuantityList d) _ e declared.2 in
    let head = after (head_of d) _ e counted.2 in
    let action = after (action_checked d) _ e head.2 in
    let items = after (epcs_of fields.EpcList d) _ e action.2 in
    let destinations = after (destinations_of d) _ e items.2 in
    let nowhere : destinations.0 ≡ [] = same_ok {E = Flaw} _ _ (sym destinations.1 ∙ none) in
    let body : shipment sites items.0 destinations.0 ≡ e.body =
    ap (λ (c : Content). c.body) (same_ok {E = Flaw} (record { id = head.0.id; instant = head.0.instant; body = shipment sites items.0 destinations.0 }) e destinations.2) in
    (items.0, sym body ∙ ap (shipment sites items.0) nowhere)

kept_seen : (read : Result Content Flaw) (found : Option Content) → ((e : Content) → read ≡ Ok e → (items : List (List ℕ)) × (e.body ≡ Note items)) → kept read ≡ Ok found
    → (e : Content) × (items : List (List ℕ)) × (found ≡ Some e) × (e.body ≡ Note items)
kept_seen (Ok e) found seen is = let body = seen e refl in (e, body.0, sym (same_ok _ _ is), body.1)
kept_seen (Err flaw) found seen is = absurd (let no : ⊥ = cc in no)

of_object : (sites : List Site) (d : Data) → event_of_type sites Object d ≡ kept (object_event sites d)
unfolding event_of_type
of_object sites d = refl

event_typed : (sites : List Site) (d : Data) (found : Option Content) → event_of sites d ≡ Ok found → (its_type : EventType) × (event_type d ≡ Ok its_type) × (event_of_type sites its_type d ≡ Ok found)
unfolding event_of
event_typed sites d found is = after (event_type d) _ found is

parts : (d : Data) → is_aimless d ≡ true
    → ((text : List ℕ) × (type_text d ≡ Some text) × (bytes_eq text (codes "ObjectEvent") ≡ true)) × (list_of fields.DestinationList (member_of fields.DestinationList d) ≡ Ok no_items)
unfolding is_aimless
parts d h =
    let both = and_parts _ _ h in
    let said = and_parts _ _ both.0 in
    (text_there _ _ said.0, empty_there _ both.1)

pub aimless_seen : (sites : List Site) (d : Data) (found : Option Content) → IsTrue (is_aimless d) → event_of sites d ≡ Ok found
    → (e : Content) × (items : List (List ℕ)) × (found ≡ Some e) × (e.body ≡ Note items)
aimless_seen sites d found aimless is =
    let known = parts d aimless in
    let typed = event_typed sites d found is in
    let object : Object ≡ typed.0 = is_object d known.0.0 typed.0 known.0.1 known.0.2 typed.1 in
    let read : kept (object_event sites d) ≡ Ok found = sym (of_object sites d) ∙ subst (λ t. event_of_type sites t d ≡ Ok found) (sym object) typed.2 in
    kept_seen (object_event sites d) found (λ e. object_seen sites d e (no_destinations d known.1)) read
