-- What all sites' events ship out of the traced sites.
use Rattle.std.proofs.Common.{◌≡◌, ◌↔◌, inl, inr, Some, None, is_some, true, ℕ, ◌<◌, List, [], length, get_or, slice_get, refl, sym, ap, ◌∙◌, subst, Bor, Contains}
use mathlib.Core.Bool.{false≢true}
use Rattle.std.specs.FinMap.{get-empty}
use Rattle.std.specs.FinMap as finite
use Rattle.std.specs.List.Sorted.{IsStrictlySortedBy}
use Rattle.std.specs.Prelude.{IsTrue}
use Rattle.std.proofs.lemmas.List.{get_or_past, get_or_default}
use Rattle.std.proofs.lemmas.Map.Views.{btree_set_contains_iff}
use Rattle.std.proofs.lemmas.Option.{slice_get-get_or, slice_get_within, get_or_from_slice_get}
use Rattle.event_json.specs.Events.{Content}
use Rattle.event_json.specs.declared.bodies.Body.{Body}
use Rattle.event_json.specs.declared.bodies.Body.TheVariants.{Note, Ship, Make, Pack}
use Rattle.frame_core.specs.Identifiers.{recall_cmp}
use Rattle.frame_core.specs.Numbers.{Recall}
use Rattle.site_core.specs.ItemSets.{Items, item_cmp}
use Rattle.site_core.specs.ItemSets as set
use Rattle.site_core.specs.Quarantines.{Quarantine, held, items_under, or_none}
use Rattle.site_core.specs.Records.{Record, fresh}
use Rattle.site_core.proofs.Entries.{entry_found, entry_there}
use Rattle.site_core.proofs.Held.{none_held}
use Rattle.site_core.proofs.ItemOrder.{item_total, item_exact}
use Rattle.site_recovery.specs.Checking.{records_at}
use Rattle.site_recovery.specs.Laws.{AreInPlace}
use Rattle.site_recovery.specs.Looks.{World, world_of, Held}
use Rattle.site_recovery.proofs.Exact.{within_or_past}
use Rattle.trace_core.specs.Pairs.{IsCarriedWith}
use Rattle.trace_core.specs.Sites.{SiteEvents}
use Rattle.trace_core.specs.declared.pairs.Pair.{Pair}
use Rattle.trace_core.proofs.Members.{contains-map, contains_none}
use Rattle.trace_core.proofs.NumberLists.{none_is, some_is}
use Rattle.trace_core.proofs.SetMembers.{contains-from_map}
use Rattle.report_core.specs.Destinations.{outside_cmp}
use Rattle.report_core.specs.Gathering.{Adds, BodyTells, CarrierTells, Found, FirstTell, IsAmong, IsIn, ItemTells, OneTells, PlaceTells, RecordTells, SiteTells, WentOutBy}
use Rattle.report_core.specs.Outside.{ShipsOut, WentOut, IsOutsideOf, AreOutsideOf}
use Rattle.report_core.specs.Sources.{AreSitePlaces, Index, ShipsItself}
use Rattle.report_core.specs.declared.makers.EventPlace.{EventPlace}
use Rattle.report_core.specs.declared.outside.OutsideShipment.{OutsideShipment}
use Rattle.report_core.proofs.Adding.{added_alike, outside_total, outside_exact}

-- what an event says of the item with which it ships this one
told_by : (site : ℕ) (item carrier : List ℕ) (x : OutsideShipment) (b : Body) → ShipsItself carrier b → BodyTells site item b x → (x.site ≡ site) × (x.item ≡ item) × ShipsOut carrier x.destination b
told_by site item carrier x (Note xs) ships tells = absurd ships
told_by site item carrier x (Make id ins outs) ships tells = absurd ships
told_by site item carrier x (Pack action parent children) ships tells = absurd ships
told_by site item carrier x (Ship xs sites outside) ships (d, there, goes) =
    (ap (λ y. y.site) (sym goes), ap (λ y. y.item) (sym goes), (ships, subst (Contains outside) (ap (λ y. y.destination) goes) there))

tells_out : (carrier : List ℕ) (x : OutsideShipment) (b : Body) → ShipsOut carrier x.destination b → ShipsItself carrier b × BodyTells x.site x.item b x
tells_out carrier x (Note xs) out = absurd out
tells_out carrier x (Make id ins outs) out = absurd out
tells_out carrier x (Pack action parent children) out = absurd out
tells_out carrier x (Ship xs sites outside) (ships, there) = (ships, (x.destination, there, (λ i. x)))

-- what the event at a place says
pub place_told : (events : List Content) (site : ℕ) (item : List ℕ) (place : EventPlace) (e : Content) (body : Body) (old new : Found) → slice_get events place.event ≡ Some e → body ≡ e.body
    → Adds old new (BodyTells site item body) → Adds old new (PlaceTells events site item place)
place_told events site item place e body old new stands is = added_alike old new (BodyTells site item body) (PlaceTells events site item place)
    (λ x. (
      λ tells. (e, stands, subst (λ b. BodyTells site item b x) is tells),
      λ (f, stands', tells). subst (λ b. BodyTells site item b x) (sym is) (subst (λ (c : Content). BodyTells site item c.body x) (some_is f e (sym stands' ∙ stands)) tells),
    ))

pub none_at : (events : List Content) (site : ℕ) (item : List ℕ) (place : EventPlace) → slice_get events place.event ≡ None → (x : OutsideShipment) → PlaceTells events site item place x → ⊥
none_at events site item place none x (e, stands, tells) = none_is e (sym none ∙ stands)

-- the shipments of all that carries an item, as they stand under it
pub item_told : (s : SiteEvents) (number site : ℕ) (item : List ℕ) (shipments : Index) (carriers : List Pair) → AreSitePlaces ShipsItself s number shipments
    → ((p : Pair) → Contains carriers p ↔ ((p.site ≡ s.me) × IsCarriedWith s.events p.item item)) → (x : OutsideShipment)
    → OneTells carriers (CarrierTells s.events shipments site item) x ↔ ItemTells s.events site item x
item_told s number site item shipments carriers are exact x = (
  λ (p, there, (place, kept, (e, stands, tells))).
      let (here, (f, stands', ships)) = (are (p.item, place)).0 kept in
      let one : f ≡ e = some_is f e (sym stands' ∙ stands) in
      let (at, is, out) = told_by site item p.item x e.body (subst (λ (c : Content). ShipsItself p.item c.body) one ships) tells in
      (at, is, (p.item, (e, (place.event, slice_get_within s.events place.event e stands, get_or_from_slice_get s.events place.event e e stands), out), ((exact p).0 there).1)),
  λ (at, is, (carrier, (e, (k, below, found), out), carries)).
      let stands : slice_get s.events k ≡ Some e = slice_get-get_or s.events k e below ∙ ap Some found in
      let place : EventPlace = record { site = number; event = k } in
      let p : Pair = record { site = s.me; item = carrier } in
      let (ships, tells) = tells_out carrier x e.body out in
      (p, (exact p).1 (refl, carries), (place, (are (carrier, place)).1 (refl, (e, stands, ships)), (e, stands, subst (λ i. BodyTells site i e.body x) is (subst (λ n. BodyTells n x.item e.body x) at tells)))),
)

-- an item is in a set where it is one of the set's items
listed : (items : Items) (i : List ℕ) → IsTrue (set.contains items i) → Contains (set.items items) i
listed items i h = elim (finite.get items i) as (λ found. finite.get items i ≡ found → is_some found ≡ true → Contains (set.items items) i) [
  | None ↦ λ _ some. absurd (false≢true some)
  | Some u ↦ λ is _. contains-map (λ e. e.0) (finite.entries items) (i, u) (entry_there item_total item_exact items i u is)
] refl h

in_set : (items : Items) (i : List ℕ) → Contains (set.items items) i → IsTrue (set.contains items i)
in_set items i at =
    let (e, among, same) = contains-from_map (λ e. e.0) (finite.entries items) i at in
    subst (λ j. IsTrue (set.contains items j)) same (ap is_some (entry_found item_total items e.0 e.1 among))

-- of each of the items of a set
pub site_told : (items : Items) (r : Record) (x : OutsideShipment) → SiteTells items r x ↔ ((x.site ≡ r.engagement.me) × IsTrue (set.contains items x.item) × WentOut (λ _. r) x.site x.item x.destination)
site_told items r x = (λ h. h, λ h. h)

pub items_told : (items : Items) (keys : List (List ℕ)) (r : Record) (events : List Content) (me : ℕ) → keys ≡ set.items items → events ≡ r.captured.events → me ≡ r.engagement.me → (x : OutsideShipment)
    → OneTells keys (ItemTells events me) x ↔ SiteTells items r x
items_told items keys r events me same here own x = (
  λ (i, there, (at, is, out)).
      (at ∙ own, subst (λ j. IsTrue (set.contains items j)) (sym is) (in_set items i (subst (λ ks. Contains ks i) same there)), subst (λ es. WentOutBy es x.item x.destination) here (subst (λ j. WentOutBy events j x.destination) (sym is) out)),
  λ (at, has, out). (x.item, subst (λ ks. Contains ks x.item) (sym same) (listed items x.item has), (at ∙ sym own, refl, subst (λ es. WentOutBy es x.item x.destination) (sym here) out)),
)

-- no item, none of them
pub nothing_told : (items : Items) (r : Record) → items ≡ set.empty → (x : OutsideShipment) → SiteTells items r x → ⊥
nothing_told items r none x (at, has, out) =
    false≢true (sym (ap is_some (get-empty item_cmp x.item)) ∙ subst (λ (s : Items). IsTrue (set.contains s x.item)) none has)

-- what a set of shipments holds, in order
pub all_outside : (W : World) (IsOne : Pair → Type 0) (found : Found) (out : List OutsideShipment) → out ≡ found.keys → IsStrictlySortedBy outside_cmp out
    → ((x : OutsideShipment) → IsIn found x ↔ IsOutsideOf W IsOne x) → AreOutsideOf W IsOne out
all_outside W IsOne found out keys up told = record {
  ascending = up;
  exact = λ x.
      let kept = btree_set_contains_iff outside_total outside_exact found x in (
        λ at. (told x).0 (kept.1 (subst (λ ks. Contains ks x) keys at)),
        λ is. subst (λ ks. Contains ks x) (sym keys) (kept.0 ((told x).1 is)),
      );
}

-- pairs told in other words have the same shipments
pub outside_alike : (W : World) (P Q : Pair → Type 0) (out : List OutsideShipment) → ((p : Pair) → P p ↔ Q p) → AreOutsideOf W P out → AreOutsideOf W Q out
outside_alike W P Q out alike are = record {
  ascending = are.ascending;
  exact = λ x.
      let same = alike (record { site = x.site; item = x.item }) in (
        λ at. let is = (are.exact x).0 at in (same.0 is.0, is.1),
        λ is. (are.exact x).1 (same.1 is.0, is.1),
      );
}

-- the shipments out of what is quarantined under a recall
pub told_outside : (recall : Recall) (records : List Record) → AreInPlace records → (x : OutsideShipment) → OneTells records (RecordTells recall) x ↔ IsOutsideOf (world_of records) (λ p. Held (world_of records) p.site recall p.item) x
told_outside recall records places x = (
  λ (r, (k, below, at), tells).
      let here = (site_told (items_under r.quarantine recall) r x).0 tells in
      let is : world_of records k ≡ r = get_or_default records k (fresh [] k) r below ∙ at in
      let number : k ≡ x.site = sym (places k below).engagement ∙ ap (λ z. z.engagement.me) is ∙ sym here.0 in
      let found : r ≡ world_of records x.site = sym is ∙ ap (world_of records) number in
      subst (λ (z : Record). IsTrue (held z.quarantine recall x.item) × WentOut (λ _. z) x.site x.item x.destination) found (here.1, here.2),
  λ (has, went). elim (within_or_past x.site (length records)) [
    | inl below ↦ (
      world_of records x.site,
      (x.site, below, get_or_default records x.site (world_of records x.site) (fresh [] x.site) below),
      (site_told (items_under (world_of records x.site).quarantine recall) (world_of records x.site) x).1 (sym (places x.site below).engagement, has, went),
    )
    | inr past ↦
        let nothing : world_of records x.site ≡ fresh [] x.site = get_or_past records x.site (fresh [] x.site) past in
        let none = none_held (fresh [] x.site).quarantine recall x.item (get-empty recall_cmp recall) in
        absurd (false≢true (sym none ∙ subst (λ (z : Record). IsTrue (held z.quarantine recall x.item)) nothing has))
  ],
)

-- the shipments out of some pairs, by the sets of their items at each site
pub told_of_sets : (records : List Record) → AreInPlace records → (sets : List Items) (pairs : List Pair) → ((p : Pair) → IsAmong sets p ↔ ((p.site < length records) × Contains pairs p))
    → (x : OutsideShipment) → FirstTell (world_of records) sets (length records) x ↔ IsOutsideOf (world_of records) (λ p. Contains pairs p) x
told_of_sets records places sets pairs among x = (
  λ (k, below, tells).
      let here = (site_told (get_or sets k set.empty) (world_of records k) x).0 tells in
      let number : k ≡ x.site = sym (places k below).engagement ∙ sym here.0 in
      let there = subst (λ s. IsTrue (set.contains (get_or sets s set.empty) x.item) × WentOut (λ _. world_of records s) x.site x.item x.destination) number (here.1, here.2) in
      (((among (record { site = x.site; item = x.item })).0 there.0).1, there.1),
  λ (is, went). elim (within_or_past x.site (length records)) [
    | inl below ↦ (
      x.site,
      below,
      (site_told (get_or sets x.site set.empty) (world_of records x.site) x).1 (sym (places x.site below).engagement, (among (record { site = x.site; item = x.item })).1 (below, is), went),
    )
    | inr past ↦
        let nothing : (world_of records x.site).captured.events ≡ [] = ap (λ z. z.captured.events) (get_or_past records x.site (fresh [] x.site) past) in
        let (carrier, (e, there, ships), carries) = went in
        absurd (contains_none e (subst (λ es. Contains es e) nothing there))
  ],
)

-- the records that references point to
pub told_of_records : (recall : Recall) (refs : List (Bor Record)) (x : OutsideShipment) → OneTells refs (λ (s : Bor Record). RecordTells recall s.now) x ↔ OneTells (records_at refs) (RecordTells recall) x
told_of_records recall refs x = (
  λ (s, among, tells). (s.now, contains-map (λ (s : Bor Record). s.now) refs s among, tells),
  λ (r, among, tells).
      let (s, there, same) = contains-from_map (λ (s : Bor Record). s.now) refs r among in
      (s, there, subst (λ z. RecordTells recall z x) (sym same) tells),
)

-- nothing is told where nothing is held under the recall
pub none_told : (recall : Recall) (r : Record) (q : Quarantine) → q ≡ r.quarantine → None ≡ finite.get q recall → (x : OutsideShipment) → RecordTells recall r x → ⊥
none_told recall r q same none x (at, has, out) =
    let nothing = none_held r.quarantine recall x.item (ap (λ z. finite.get z recall) (sym same) ∙ sym none) in
    false≢true (sym nothing ∙ has)

-- the set that is held under the recall
pub held_set : (recall : Recall) (r : Record) (q : Quarantine) (items : Items) → q ≡ r.quarantine → Some items ≡ finite.get q recall → items ≡ items_under r.quarantine recall
held_set recall r q items same some = ap or_none (some ∙ ap (λ z. finite.get z recall) same)

-- a set without members finds nothing
pub none_in : (found : Found) → found.keys ≡ [] → (x : OutsideShipment) → IsIn found x → ⊥
none_in found none x at = contains_none x (subst (λ ks. Contains ks x) none ((btree_set_contains_iff outside_total outside_exact found x).0 at))
