-- What is kept of the events of a value.
use Rattle.std.proofs.Common.{◌≡◌, inl, inr, ℕ, List, [], ◌∷◌, map, Option, Some, None, Ok, codes, Bool, true, false, refl, sym, ap, ◌∙◌, subst}
use mathlib.Core.Bool.{false≢true}
use Rattle.std.proofs.lemmas.Option.{same_Some}
use Rattle.std.specs.Prelude.{◌⊎◌, is_some, IsSome, option_and_then}
use Rattle.std.specs.Option.{option_or}
use Rattle.serde_json.specs.Data.{Data, Items, no_items, item}
use Rattle.serde_json.specs.Find.{get}
use Rattle.serde_json.specs.View.{items_of}
use Rattle.event_json.specs.Checks.{type_named, type_text}
use Rattle.event_json.specs.Documents.{event_list}
use Rattle.event_json.specs.Untraced.{in_order}
use Rattle.document_convert.specs.Types.{is_event, missing_type, type_told, typed, typed_as}
use Rattle.document_convert.specs.Documents.{document_around, document_events, document_in, is_settled}
use Rattle.document_convert.specs.Laws.{EventsAreKept, HoldersAreDocuments, SecondChangesNothing, SurroundingsAreKept, held_in}
use Rattle.document_convert.proofs.Lists.{items_back}
use Rattle.document_convert.proofs.Members.{members_are_kept, other_member, types_are_told}
use Rattle.document_convert.proofs.Settled.{Settled, all_stay, settled, settled_events, settled_list, stays}
use Rattle.document_convert.proofs.Around.{all_have, around_settled, typed_has}
use Rattle.document_convert.proofs.Bare.{list_of_itself, no_list, not_settled, told_by}

-- ---- of which of the three kinds a document is

pub record InPlace (d found : Data) : Type 0 where
  pub settled : Settled d
  pub same : found ≡ d

pub record Built (d found : Data) : Type 0 where
  pub items : Items
  pub list : document_events d ≡ Some items
  pub around : found ≡ document_around d (map typed (in_order items))

pub record Alone (d found : Data) : Type 0 where
  pub no_list : document_events d ≡ None
  pub event : is_event d ≡ true
  pub typed : found ≡ typed d

abbrev pub Kind : Data → Data → Type 0
Kind d found = InPlace d found ⊎ (Built d found ⊎ Alone d found)

pub kind_of : (d found : Data) → document_in d ≡ Some found → Kind d found
unfolding document_in
kind_of d found is = by (is_settled d) refl
  where
    alone : (e : Bool) → is_settled d ≡ false → document_events d ≡ None → is_event d ≡ e → Kind d found
    alone true s l e =
        let same : Some (typed d) ≡ Some found = rw (s, l, e) at is in
        inr (inr (record { no_list = l; event = e; typed = sym (same_Some _ _ same) }))
    alone false s l e = let no : ◌≡◌ {A = Option Data} None (Some found) = rw (s, l, e) at is in cc

    listed : (o : Option Items) → is_settled d ≡ false → document_events d ≡ o → Kind d found
    listed None s l = alone (is_event d) s l refl
    listed (Some items) s l =
        let same : Some (document_around d (map typed (in_order items))) ≡ Some found = rw (s, l) at is in
        inr (inl (record { items = items; list = l; around = sym (same_Some _ _ same) }))

    by : (b : Bool) → is_settled d ≡ b → Kind d found
    by true s =
        let same : Some d ≡ Some found = rw s at is in
        inl (record { settled = settled d s; same = sym (same_Some _ _ same) })
    by false s = listed (document_events d) s refl

-- ---- no event is lost

abbrev Keeps : Data → Data → Type 0
Keeps d found = (events : List Data) × (held_in d ≡ Some events) × (event_list found ≡ Ok (items_of (map typed events)))

held_of_list : (d : Data) (items : Items) → document_events d ≡ Some items → held_in d ≡ Some (in_order items)
unfolding held_in
held_of_list d items is = rw is refl

held_alone : (d : Data) → document_events d ≡ None → is_event d ≡ true → held_in d ≡ Some (d ∷ [])
unfolding held_in
held_alone d none is = rw (none, is) refl

-- the type of an event alone is in place once it is typed
typed_type : (d : Data) (text : List ℕ) → type_told d ≡ Some text → type_text (typed d) ≡ Some text
typed_type d text told = types_are_told d ∙ told

kept_alone : (d : Data) → document_events d ≡ None → is_event d ≡ true → event_list (typed d) ≡ Ok (item (typed d) no_items)
kept_alone d none is =
    let by = told_by d is in
    list_of_itself (typed d) by.0 (typed_type d by.0 by.1) by.2

kept_by : (d found : Data) → Kind d found → Keeps d found
kept_by d found (inl p) =
    let list = settled_list d p.settled in
    let same : items_of (map typed (in_order p.settled.items)) ≡ p.settled.items = ap items_of (all_stay (in_order p.settled.items) p.settled.all) ∙ items_back p.settled.items in
    (in_order p.settled.items, held_of_list d p.settled.items list, ap event_list p.same ∙ settled_events d p.settled ∙ ap Ok (sym same))
kept_by d found (inr (inl b)) =
    let es = map typed (in_order b.items) in
    let around = around_settled d b.items es b.list (all_have (in_order b.items)) in
    (in_order b.items, held_of_list d b.items b.list, ap event_list b.around ∙ settled_events (document_around d es) around.0 ∙ ap Ok around.1)
kept_by d found (inr (inr a)) = (d ∷ [], held_alone d a.no_list a.event, ap event_list a.typed ∙ kept_alone d a.no_list a.event)

pub events_are_kept : EventsAreKept
events_are_kept d found is = kept_by d found (kind_of d found is)

-- ---- what holds events is a document

held_by : (d found : Data) → Kind d found → IsSome (held_in d)
held_by d found kind = let kept = kept_by d found kind in subst IsSome (sym kept.1) refl

document_if : (d : Data) → IsSome (held_in d) → IsSome (document_in d)
unfolding document_in held_in
document_if d held = by (is_settled d) refl
  where
    alone : (e : Bool) → is_settled d ≡ false → document_events d ≡ None → is_event d ≡ e → IsSome (document_in d)
    alone true s l e = rw (s, l, e) refl
    alone false s l e = absurd (false≢true (rw (l, e) at held))

    listed : (o : Option Items) → is_settled d ≡ false → document_events d ≡ o → IsSome (document_in d)
    listed None s l = alone (is_event d) s l refl
    listed (Some items) s l = rw (s, l) refl

    by : (b : Bool) → is_settled d ≡ b → IsSome (document_in d)
    by true s = rw s refl
    by false s = listed (document_events d) s refl

some_found : (d : Data) → IsSome (document_in d) → IsSome (held_in d)
some_found d is = by (document_in d) refl is
  where
    by : (o : Option Data) → document_in d ≡ o → IsSome o → IsSome (held_in d)
    by None e some = cc
    by (Some found) e some = held_by d found (kind_of d found e)

pub holders_are_documents : HoldersAreDocuments
holders_are_documents d = (some_found d, document_if d)

-- ---- what stands beside the events stays

pub surroundings_are_kept : SurroundingsAreKept
surroundings_are_kept d found name is type body = by (kind_of d found is)
  where
    by : Kind d found → get name found ≡ get name d
    by (inl p) = ap (get name) p.same
    by (inr (inl b)) = ap (get name) b.around ∙ other_member name (codes "epcisBody") _ _ body ∙ other_member name (codes "type") _ d type
    by (inr (inr a)) = ap (get name) a.typed ∙ members_are_kept d name type

-- ---- a second time

again_alone : (d : Data) → is_event d ≡ true → document_in (typed d) ≡ Some (typed d)
unfolding document_in
again_alone d is =
    let by = told_by d is in
    let type = typed_type d by.0 by.1 in
    let told : type_told (typed d) ≡ Some by.0 = ap (λ (o : Option (List ℕ)). option_or o (missing_type (typed d))) type in
    let event : is_event (typed d) ≡ true = ap (λ (o : Option (List ℕ)). is_some (option_and_then type_named o)) told ∙ by.2.named in
    let twice : typed (typed d) ≡ typed d = ap (λ (o : Option (List ℕ)). typed_as o (typed d)) (typed_has d) in
    rw (not_settled (typed d) by.0 type by.2, no_list (typed d) by.0 told by.2, event) (ap Some twice)

pub second_changes_nothing : SecondChangesNothing
second_changes_nothing d found is = by (kind_of d found is)
  where
    by : Kind d found → document_in found ≡ Some found
    by (inl p) = ap document_in p.same ∙ stays d p.settled ∙ ap Some (sym p.same)
    by (inr (inl b)) =
        let es = map typed (in_order b.items) in
        let around = around_settled d b.items es b.list (all_have (in_order b.items)) in
        ap document_in b.around ∙ stays (document_around d es) around.0 ∙ ap Some (sym b.around)
    by (inr (inr a)) = ap document_in a.typed ∙ again_alone d a.event ∙ ap Some (sym a.typed)
