-- The index of a list of events, as events are noted and taken back.
use Rattle.std.proofs.Common.{◌≡◌, ℕ, true, false, List, [], ◌∷◌, ◌++◌, Some, None, is_some, length, take, drop, slice_get, refl, sym, ap, subst, ◌∙◌, ⊎_elim, arith, length-append}
use Rattle.std.specs.List.{Contains, list_any}
use mathlib.Core.Bool.{false≢true}
use Rattle.std.specs.Map.{lookup}
use Rattle.std.specs.Str.{bytes_eq}
use Rattle.std.specs.String.{string_bytes}
use Rattle.std.proofs.lemmas.Bool.{cases_Bool}
use Rattle.std.proofs.lemmas.List.{take-append-drop, take-append-le, take-map, take_at, length-map}
use Rattle.std.proofs.lemmas.List.Elements.{Contains-append_right}
use Rattle.std.proofs.lemmas.Option.{slice_get_within}
use Rattle.event_json.specs.Events.{Content}
use Rattle.event_json.specs.declared.bodies.Body.{Body}
use Rattle.event_json.specs.declared.bodies.Body.TheVariants.{Note, Ship, Make, Pack}
use Rattle.trace_core.specs.declared.event_items.Members.{Members}
use Rattle.trace_core.specs.declared.indexes.Index.{Index}
use Rattle.trace_core.specs.EventIds.{hash_places}
use Rattle.trace_core.specs.Indexes.{HasPlaces, NotesItems, ForgetsItems, KeepsItems}
use Rattle.trace_core.specs.Numbers.{Named, with_names, numbered, names_of, item_places, outs_in, numbers_of, HasMembers}
use Rattle.trace_core.specs.PairTests.{lists}
use Rattle.trace_core.specs.PutIn.{children_in}
use Rattle.trace_core.specs.Places.{kept, places_where, names_item, takes_item, IsIndex}
use Rattle.trace_core.specs.Spreads.{items_of, ins_in}
use Rattle.trace_core.proofs.Members.{contains_none, list_any_witness, list_any_member}
use Rattle.trace_core.proofs.NumberLists.{none_is, none_numbered, with_more, numbered_named, numbered_more, numbers_stay, slice_pushed, slice_stays, slice_last}
use Rattle.trace_core.proofs.NamedLists.{no_places_of, found_in_front}
use Rattle.trace_core.proofs.PackedSteps.{none_packed}
use Rattle.trace_core.proofs.PairTestsDecide.{lists_decides}
use Rattle.trace_core.proofs.RelatedPlaces.{slice_there, ins_listed, takes_named}
use Rattle.trace_core.proofs.SendingSteps.{no_events}
use Rattle.trace_core.proofs.PlaceLists.{some_place, index_less, index_back, index_same, index_more, notes_inputs_of, forgets_inputs_of}

-- nothing takes in an item that isn't known
pub untaken : (events : List Content) (i : List ℕ) → lists (numbered events) i ≡ false → places_where (takes_item i) events ≡ []
untaken events i new = none (places_where (takes_item i) events) (some_place (takes_item i) 0 events ∙ ⊎_elim
    (λ yes. let (e, there, takes) = list_any_witness (takes_item i) events yes in absurd (false≢true (sym new ∙ numbered_named events i ∙ list_any_member (names_item i) events e there (takes_named i e.body (sym (ins_listed i e.body) ∙ takes)))))
    (λ missing. missing)
    (cases_Bool (list_any (takes_item i) events)))
  where
    none : (places : List ℕ) → is_some (kept places) ≡ false → places ≡ []
    none [] h = refl
    none (k ∷ ks) h = absurd (false≢true (sym h))

-- the items that were new are taken back
module _ (events : List Content) (left new : List Named) (n : ℕ) (more : List (List ℕ)) (names : names_of left ≡ numbered events ++ more) (taken : new ≡ take n left) (known : length (numbered events) ≡ n) where
  pub names_back : names_of new ≡ numbered events
  names_back = ap names_of taken ∙ sym (take-map (λ (x : Named). x.0) n left) ∙ ap (take n) names ∙ take_at (numbered events) more n known

  pub items_back : IsIndex (item_places left) takes_item events → IsIndex (item_places new) takes_item events
  items_back is i = ⊎_elim
      (λ there. sym (found_in_front new (drop n left) i there) ∙ ap (λ (xs : List Named). item_places xs i) (ap (λ (xs : List Named). xs ++ drop n left) taken ∙ take-append-drop n left) ∙ is i)
      (λ away. no_places_of new i away ∙ sym (ap kept (untaken events i (ap (λ ns. lists ns i) (sym names_back) ∙ away))))
      (cases_Bool (lists (names_of new) i))

outs_named : (b : Body) (i : List ℕ) → Contains (outs_in b) i → lists (items_of b) i ≡ true
outs_named (Note items) i h = absurd (contains_none i h)
outs_named (Ship items sites outside) i h = absurd (contains_none i h)
outs_named (Make id ins outs) i h = (lists_decides (ins ++ outs) i).1 (Contains-append_right ins outs i h)
outs_named (Pack action parent children) i h = absurd (contains_none i h)

-- the outputs of an event are numbered
pub outs_numbered : (events : List Content) (k : ℕ) (e : Content) → slice_get events k ≡ Some e → (i : List ℕ) → Contains (outs_in e.body) i → lists (numbered events) i ≡ true
outs_numbered events k e stands i h =
    let (below, at) = slice_there events k e stands in
    numbered_named events i ∙ list_any_member (names_item i) events e (k, below, at) (outs_named e.body i h)

-- one event more changes nothing of an earlier one
numbers_same : (events : List Content) (e f : Content) (k : ℕ) → slice_get events k ≡ Some f → numbers_of (numbered (events ++ e ∷ [])) (outs_in f.body) ≡ numbers_of (numbered events) (outs_in f.body)
numbers_same events e f k stands =
    let (more, is) = with_more (items_of e.body) (numbered events) in
    ap (λ ns. numbers_of ns (outs_in f.body)) (numbered_more events e ∙ is) ∙ numbers_stay (numbered events) more (outs_in f.body) (outs_numbered events k f stands)

front_same : (events : List Content) (e f : Content) (k : ℕ) → slice_get events k ≡ Some f → length (numbered (take k (events ++ e ∷ []))) ≡ length (numbered (take k events))
front_same events e f k stands = let below = slice_get_within events k f stands in ap (λ es. length (numbered es)) (take-append-le k events (e ∷ []) (omega (arith, below)))

module _ (events : List Content) (e : Content) (members : List Members) (m : Members) where
  -- an event is noted
  pub members_more : HasMembers events members → m.known ≡ length (numbered events) → m.outs ≡ numbers_of (numbered (events ++ e ∷ [])) (outs_in e.body) → HasMembers (events ++ e ∷ []) (members ++ m ∷ [])
  members_more has known outs = record {
    count = omega (arith, has.count, length-append events (e ∷ []), length-append members (m ∷ []));
    each = λ k f x at_f at_x. ⊎_elim
        (λ before. ⊎_elim
        (λ own. let is = has.each k f x before own in record { known = is.known ∙ sym (front_same events e f k before); outs = is.outs ∙ sym (numbers_same events e f k before) })
        (λ (last, same). absurd (omega (arith, last, slice_get_within events k f before, has.count)))
        (slice_pushed members m k x at_x))
        (λ (last, same). ⊎_elim
        (λ own. absurd (omega (arith, last, slice_get_within members k x own, has.count)))
        (λ (end, it). record {
          known = ap (λ (y : Members). y.known) (sym it) ∙ known ∙ ap (λ es. length (numbered es)) (sym (ap (λ n. take n (events ++ e ∷ [])) last ∙ take_at events (e ∷ []) (length events) refl));
          outs = ap (λ (y : Members). y.outs) (sym it) ∙ outs ∙ ap (λ (g : Content). numbers_of (numbered (events ++ e ∷ [])) (outs_in g.body)) same;
        })
        (slice_pushed members m k x at_x))
        (slice_pushed events e k f at_f);
  }

  -- it is taken away
  pub members_less : HasMembers (events ++ e ∷ []) (members ++ m ∷ []) → HasMembers events members
  members_less has =
      let count : length members ≡ length events = omega (arith, has.count, length-append events (e ∷ []), length-append members (m ∷ [])) in
      record {
        count = count;
        each = λ k f x at_f at_x.
            let is = has.each k f x (slice_stays events (e ∷ []) k f at_f) (slice_stays members (m ∷ []) k x at_x) in
            record { known = is.known ∙ front_same events e f k at_f; outs = is.outs ∙ numbers_same events e f k at_f };
      }

  -- and it had noted how many items there were
  pub known_before : HasMembers (events ++ e ∷ []) (members ++ m ∷ []) → m.known ≡ length (numbered events)
  known_before has =
      let count : length members ≡ length events = omega (arith, has.count, length-append events (e ∷ []), length-append members (m ∷ [])) in
      let is = has.each (length events) e m (slice_last events e) (subst (λ n. slice_get (members ++ m ∷ []) n ≡ Some m) count (slice_last members m)) in
      is.known ∙ ap (λ es. length (numbered es)) (take_at events (e ∷ []) (length events) refl)

-- a list with one event more has members
pub some_members : (events : List Content) (e : Content) (members : List Members) → length members ≡ 0 → HasMembers (events ++ e ∷ []) members → ⊥
some_members events e members none has = omega (arith, none, has.count, length-append events (e ∷ []))

pub count_names : (named : List Named) (events : List Content) → names_of named ≡ numbered events → length (numbered events) ≡ length named
count_names named events names = ap length (sym names) ∙ length-map named (λ (x : Named). x.0)

module _ (old : List Named) (events : List Content) (place : ℕ) (last : place ≡ length events) (names : names_of old ≡ numbered events) (items : IsIndex (item_places old) takes_item events) where
  -- an event's items are noted
  pub items_noted : (new : List Named) (e : Content) (b : Body) → b ≡ e.body → NotesItems old new place (items_of b) (ins_in b) → IsIndex (item_places new) takes_item (events ++ e ∷ [])
  items_noted new e b is noted = index_more (item_places old) (item_places new) takes_item events place last e (notes_inputs_of (item_places old) (item_places new) place e b is noted.noted) items

  pub names_noted : (new : List Named) (e : Content) (b : Body) → b ≡ e.body → NotesItems old new place (items_of b) (ins_in b) → names_of new ≡ numbered (events ++ e ∷ [])
  names_noted new e b is noted = noted.names ∙ ap (λ ns. with_names ns (items_of b)) names ∙ ap (λ (c : Body). with_names (numbered events) (items_of c)) is ∙ sym (numbered_more events e)

  -- nothing came of it
  module _ (new : List Named) (kept_all : KeepsItems old new place) where
    kept_names : names_of kept_all.left ≡ numbered events ++ kept_all.more
    kept_names = kept_all.names ∙ ap (λ ns. ns ++ kept_all.more) names

    pub items_kept : IsIndex (item_places new) takes_item events
    items_kept = items_back events kept_all.left new (length old) kept_all.more kept_names kept_all.taken (count_names old events names)
        (index_same (item_places old) (item_places kept_all.left) takes_item events place last kept_all.none items)

    pub names_kept : names_of new ≡ numbered events
    names_kept = names_back events kept_all.left new (length old) kept_all.more kept_names kept_all.taken (count_names old events names)

  -- they are noted and taken back
  module _ (mid new : List Named) (e : Content) (b c : Body) (is : b ≡ e.body) (is' : c ≡ e.body) (known : ℕ) (before : known ≡ length old) (noted : NotesItems old mid place (items_of b) (ins_in b)) (taken : ForgetsItems mid new place (lists (ins_in c)) known) where
    undone_more : (more : List (List ℕ)) × (names_of taken.left ≡ numbered events ++ more)
    undone_more =
        let (more, is) = with_more (items_of b) (numbered events) in
        (more, taken.forgotten.names ∙ noted.names ∙ ap (λ ns. with_names ns (items_of b)) names ∙ is)

    pub items_undone : IsIndex (item_places new) takes_item events
    items_undone = items_back events taken.left new known undone_more.0 undone_more.1 taken.taken (count_names old events names ∙ sym before)
        (index_back (item_places old) (item_places mid) (item_places taken.left) takes_item events place e last
        (notes_inputs_of (item_places old) (item_places mid) place e b is noted.noted) (forgets_inputs_of (item_places mid) (item_places taken.left) place e c is' taken.forgotten.forgotten) items)

    pub names_undone : names_of new ≡ numbered events
    names_undone = names_back events taken.left new known undone_more.0 undone_more.1 taken.taken (count_names old events names ∙ sym before)

-- an event's items are taken back
module _ (old new : List Named) (events : List Content) (e : Content) (b : Body) (is : b ≡ e.body) (place known : ℕ) (last : place ≡ length events) (before : known ≡ length (numbered events))
    (names : names_of old ≡ numbered (events ++ e ∷ [])) (items : IsIndex (item_places old) takes_item (events ++ e ∷ [])) (taken : ForgetsItems old new place (lists (ins_in b)) known) where
  gone_more : (more : List (List ℕ)) × (names_of taken.left ≡ numbered events ++ more)
  gone_more =
      let (more, is) = with_more (items_of e.body) (numbered events) in
      (more, taken.forgotten.names ∙ names ∙ numbered_more events e ∙ is)

  pub items_gone : IsIndex (item_places new) takes_item events
  items_gone = items_back events taken.left new known gone_more.0 gone_more.1 taken.taken (sym before)
      (index_less (item_places old) (item_places taken.left) takes_item events place last e (forgets_inputs_of (item_places old) (item_places taken.left) place e b is taken.forgotten.forgotten) items)

  pub names_gone : names_of new ≡ numbered events
  names_gone = names_back events taken.left new known gone_more.0 gone_more.1 taken.taken (sym before)

-- before any event
pub nothing_there : (index : Index) → index.items ≡ [] → index.members.items ≡ [] → ((key : List ℕ) → hash_places index.ids.places key ≡ None) → index.parts.entries ≡ [] → index.sent ≡ [] → index.counts.items ≡ []
    → ((n : ℕ) → children_in index.packed n ≡ []) → HasPlaces index []
nothing_there index items members ids parts sent counts packed = record {
  packed = none_packed (children_in index.packed) packed;
  sent = no_events index.sent index.counts.items sent counts;
  items = record {
    places = λ i. ap (λ (xs : List Named). item_places xs i) items;
    names = ap names_of items ∙ sym none_numbered;
    members = record { count = ap length members; each = λ k e m at_e at_m. none_is e at_e };
  };
  ids = record {
    ids = ids;
    parts = λ i. ap (λ es. lookup (λ k. bytes_eq i (string_bytes k)) es) parts;
  };
}
