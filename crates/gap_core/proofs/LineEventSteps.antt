-- The events that tell of the lines of gaps.
use Rattle.std.proofs.Common.{◌≡◌, ◌≢◌, ◌↔◌, inl, inr, ℕ, ◌+◌, ◌<◌, ◌≤◌, ◌∙◌, List, [], ◌∷◌, Option, None, Some, length, get_or, slice_get, refl, sym, ap, subst, ⊎_elim, arith}
use mathlib.Core.Bool.{false≢true}
use mathlib.Core.Logic.{◌⊎◌}
use Rattle.std.specs.BTreeMap.{UpdatesBy, get, is_at}
use Rattle.std.specs.List.{Contains}
use Rattle.std.specs.Map.{lookup}
use Rattle.std.proofs.lemmas.Bool.{cases_Bool, cases_lt}
use Rattle.std.proofs.lemmas.Option.{slice_get_within, slice_get-get_or}
use Rattle.event_json.specs.Events.{Content}
use Rattle.event_json.specs.declared.bodies.Action.TheVariants.{Add, Observe, Delete}
use Rattle.event_json.specs.declared.bodies.Body.{Body}
use Rattle.event_json.specs.declared.bodies.Body.TheVariants.{Note, Ship, Make, Pack}
use Rattle.trace_core.specs.declared.pairs.Pair.{Pair}
use Rattle.trace_core.specs.Gaps.{by_known}
use Rattle.trace_core.specs.Pairs.{Packs, pair_cmp}
use Rattle.trace_core.specs.PutIn.{filled}
use Rattle.trace_core.specs.Sites.{SiteEvents}
use Rattle.trace_core.proofs.ChainLaws.{reach_widens}
use Rattle.trace_core.proofs.Members.{contains_cases, contains_here, contains_none}
use Rattle.trace_core.proofs.NumberLists.{none_is, some_is}
use Rattle.trace_core.proofs.PairOrder.{pairs_exact, same_pair_decides}
use Rattle.gap_core.specs.Adding.{AddsTo, ByOne}
use Rattle.gap_core.specs.Elsewhere.{GoesElsewhere}
use Rattle.gap_core.specs.GapItems.{IsSentBy}
use Rattle.gap_core.specs.LineEvents.{AreEventsOf, BodyDoes, Does, EventDoes, Holds, IsDoneAt, IsFirstAt, IsFirstPlace, IsIndexed, IsKept, IsLastPlace, IsPairOf, IsWantedOf, PairPlaces, ShipsOnAt, SiteDoes, SomeDoes, children_in, pair_of}
use Rattle.gap_core.specs.Shipments.{GoesTo, IsShippedAt}
use Rattle.gap_core.specs.Sources.{AreKnown, Index, LiesIn}
use Rattle.gap_core.specs.declared.event_places.Kind.{Kind}
use Rattle.gap_core.specs.declared.event_places.Kind.TheVariants.{FirstPacking, LastShipment}
use Rattle.gap_core.specs.declared.lines.GapLine.{GapLine}
use Rattle.gap_core.proofs.Additions.{Before, adds_alike, adds_nothing}
use Rattle.gap_core.proofs.KnownSteps.{fills, lies_as_known}
use Rattle.gap_core.proofs.ShippedItems.{ships_split}
use Rattle.gap_core.proofs.SourceLists.{other_key}

-- ---- the first place, or the last

kept_self : (kind : Kind) (n : ℕ) → IsKept kind n n
kept_self FirstPacking n = omega arith
kept_self LastShipment n = omega arith

kept_then : (kind : Kind) (a b c : ℕ) → IsKept kind a b → IsKept kind b c → IsKept kind a c
kept_then FirstPacking a b c h k = omega (arith, h, k)
kept_then LastShipment a b c h k = omega (arith, h, k)

kept_either : (kind : Kind) (a b : ℕ) → IsKept kind a b ⊎ IsKept kind b a
kept_either FirstPacking a b = ⊎_elim (λ lt. inl (omega (arith, lt))) (λ le. inr le) (cases_lt a b)
kept_either LastShipment a b = ⊎_elim (λ lt. inr (omega (arith, lt))) (λ le. inl le) (cases_lt a b)

first_is : (P : ℕ → Type 0) (o : Option ℕ) → ((n : ℕ) → ((k : ℕ) × (o ≡ Some k) × (k ≤ n)) ↔ ((k : ℕ) × P k × (k ≤ n))) → IsFirstPlace P o
first_is P None are = λ j p. let (k, none, le) = (are j).1 (j, p, omega arith) in none_is k none
first_is P (Some k) are =
    let (j, p, le) = (are k).0 (k, refl, omega arith) in
    let (l, same, low) = (are j).1 (j, p, omega arith) in (
      subst P (is j l le (some_is k l same) low) p,
      λ i q. let (m, also, lower) = (are i).1 (i, q, omega arith) in below i m (some_is k m also) lower,
    )
  where
    is : (j l : ℕ) → j ≤ k → k ≡ l → l ≤ j → j ≡ k
    is j l le same low = omega (arith, le, same, low)

    below : (i m : ℕ) → k ≡ m → m ≤ i → k ≤ i
    below i m same lower = omega (arith, same, lower)

last_is : (P : ℕ → Type 0) (o : Option ℕ) → ((n : ℕ) → ((k : ℕ) × (o ≡ Some k) × (n ≤ k)) ↔ ((k : ℕ) × P k × (n ≤ k))) → IsLastPlace P o
last_is P None are = λ j p. let (k, none, le) = (are j).1 (j, p, omega arith) in none_is k none
last_is P (Some k) are =
    let (j, p, le) = (are k).0 (k, refl, omega arith) in
    let (l, same, high) = (are j).1 (j, p, omega arith) in (
      subst P (is j l le (some_is k l same) high) p,
      λ i q. let (m, also, higher) = (are i).1 (i, q, omega arith) in above i m (some_is k m also) higher,
    )
  where
    is : (j l : ℕ) → k ≤ j → k ≡ l → j ≤ l → j ≡ k
    is j l le same high = omega (arith, le, same, high)

    above : (i m : ℕ) → k ≡ m → i ≤ m → i ≤ k
    above i m same higher = omega (arith, same, higher)

-- ---- what is kept of pairs

one_pair : (p q : Pair) → (p ≡ q) ⊎ (p ≢ q)
one_pair p q =
    let (is, so) = same_pair_decides p q in
    ⊎_elim
    (λ same. inl (is same))
    (λ other. inr (λ same. false≢true (sym other ∙ so same)))
    (cases_Bool _)

module _ (kind : Kind) (old : PairPlaces) where
  pub place_noted : (new : PairPlaces) (p : Pair) (by : ℕ) → UpdatesBy pair_cmp (pair_cmp p) old new (Some by) → (Holds kind old (p, by) → ⊥)
      → AddsTo (Holds kind old) (Holds kind new) (λ m. (p ≡ m.0) × IsKept kind by m.1)
  place_noted new p by at fresh (c, k) = ⊎_elim
      (λ here.
      let now : get pair_cmp new c ≡ Some by = ap (get pair_cmp new) here ∙ at.1 in (
        λ (n, so, le). inr (sym here, subst (λ x. IsKept kind x k) (some_is n by (sym so ∙ now)) le),
        λ h. ⊎_elim
            (λ (n, so, le). (by, now, better n le (λ low. fresh (n, subst (λ x. get pair_cmp old x ≡ Some n) here so, low))))
            (λ (same, le). (by, now, le))
            h,
      ))
      (λ ne.
      let stays : get pair_cmp new c ≡ get pair_cmp old c = at.2 c (other_key pairs_exact p c ne) in (
        λ (n, so, le). inl (n, sym stays ∙ so, le),
        λ h. ⊎_elim (λ (n, so, le). (n, stays ∙ so, le)) (λ (same, le). absurd (ne (sym same))) h,
      ))
      (one_pair c p)
    where
      better : (n : ℕ) → IsKept kind n k → (IsKept kind n by → ⊥) → IsKept kind by k
      better n le worse = ⊎_elim (λ no_worse. absurd (worse no_worse)) (λ higher. kept_then kind by n k higher le) (kept_either kind n by)

  pub place_held : (p : Pair) (by : ℕ) → Holds kind old (p, by) → AddsTo (Holds kind old) (Holds kind old) (λ m. (p ≡ m.0) × IsKept kind by m.1)
  place_held p by (n, so, le) (c, k) = (
    λ h. inl h,
    λ h. ⊎_elim (λ was. was) (λ (same, ge). (n, subst (λ x. get pair_cmp old x ≡ Some n) same so, kept_then kind n by k le ge)) h,
  )

  pub held_is : (p : Pair) (place n : ℕ) → Some n ≡ get pair_cmp old p → IsKept kind n place ↔ Holds kind old (p, place)
  held_is p place n so = (
    λ le. (n, sym so, le),
    λ (k, also, le). subst (λ x. IsKept kind x place) (some_is k n (sym also ∙ sym so)) le,
  )

  pub none_held : (p : Pair) (place : ℕ) → None ≡ get pair_cmp old p → Holds kind old (p, place) → ⊥
  none_held p place none (k, so, le) = none_is k (none ∙ so)

  -- ---- an item at a site

  module _ (me : ℕ) (wanted : List (List ℕ)) (place : ℕ) where
    pub wanted_noted : (new : PairPlaces) (item : List ℕ) (p : Pair) → Contains wanted item → p ≡ record { site = me; item = item } → AddsTo (Holds kind old) (Holds kind new) (λ m. (p ≡ m.0) × IsKept kind place m.1)
        → AddsTo (Holds kind old) (Holds kind new) (IsWantedOf kind me wanted place item)
    wanted_noted new item p there is = adds_alike (Holds kind old) (Holds kind new) (λ m. (p ≡ m.0) × IsKept kind place m.1) (IsWantedOf kind me wanted place item)
        (λ m. (λ (same, kept). (there, sym is ∙ same, kept), λ (also, same, kept). (is ∙ same, kept)))

    pub unwanted : (item : List ℕ) → (Contains wanted item → ⊥) → AddsTo (Holds kind old) (Holds kind old) (IsWantedOf kind me wanted place item)
    unwanted item other = adds_nothing (Holds kind old) (IsWantedOf kind me wanted place item) (λ m (there, same, kept). other there)

-- no place at first
pub none_kept : (kind : Kind) (index : PairPlaces) → index.entries ≡ [] → (m : Pair × ℕ) → Holds kind index m → ⊥
none_kept kind index nothing m (n, so, le) = none_is n (sym (ap (λ (es : List (Pair × ℕ)). lookup (is_at (pair_cmp m.0)) es) nothing) ∙ so)

-- ---- a packing

packs_split : (p c : List ℕ) (b : Body) → Packs p c b → Contains (children_in b) c
packs_split p c (Note items) h = absurd h
packs_split p c (Ship items sites outside) h = absurd h
packs_split p c (Make id ins outs) h = absurd h
packs_split p c (Pack action parent children) (add, is, there) = there

some_child : (xs : List (List ℕ)) → (length xs ≡ 0 → ⊥) → (c : List ℕ) × Contains xs c
some_child [] some = absurd (some refl)
some_child (x ∷ xs) some = (x, contains_here x xs)

packs_some : (p : List ℕ) (b : Body) → filled b ≡ Some p → (length (children_in b) ≡ 0 → ⊥) → (c : List ℕ) × Packs p c b
packs_some p (Note items) is some = absurd (none_is p is)
packs_some p (Ship items sites outside) is some = absurd (none_is p is)
packs_some p (Make id ins outs) is some = absurd (none_is p is)
packs_some p (Pack Add parent children) is some = let (c, there) = some_child children some in (c, (refl, is, there))
packs_some p (Pack Observe parent children) is some = absurd (none_is p is)
packs_some p (Pack Delete parent children) is some = absurd (none_is p is)

module _ (b : Body) (xs : List (List ℕ)) (are : xs ≡ children_in b) where
  pub none_packed : length xs ≡ 0 → (p : List ℕ) → ((child : List ℕ) × Packs p child b) → ⊥
  none_packed none p (c, packs) = empty (subst (λ ys. Contains ys c) (sym are) (packs_split p c b packs))
    where
      empty : Contains xs c → ⊥
      empty (k, below, at) = omega (arith, below, none)

  pub some_packed : (r : Option (List ℕ)) → r ≡ filled b → (length xs ≡ 0 → ⊥) → (p : List ℕ) → (r ≡ Some p) ↔ ((child : List ℕ) × Packs p child b)
  some_packed r is some p = (
    λ so. packs_some p b (sym is ∙ so) (λ none. some (ap length are ∙ none)),
    λ (c, packs). is ∙ fills p c b packs,
  )

module _ (old new : PairPlaces) (me : ℕ) (wanted : List (List ℕ)) (place : ℕ) (b : Body) where
  pub body_noted : (r : Option (List ℕ)) (container : List ℕ) → ((p : List ℕ) → (r ≡ Some p) ↔ ((child : List ℕ) × Packs p child b)) → r ≡ Some container
      → AddsTo (Holds FirstPacking old) (Holds FirstPacking new) (IsWantedOf FirstPacking me wanted place container) → AddsTo (Holds FirstPacking old) (Holds FirstPacking new) (BodyDoes me wanted place b)
  body_noted r container packs is = adds_alike (Holds FirstPacking old) (Holds FirstPacking new) (IsWantedOf FirstPacking me wanted place container) (BodyDoes me wanted place b)
      (λ m. (
        λ (there, same, kept).
            let here : container ≡ m.0.item = ap (λ (q : Pair). q.item) same in
            (ap (λ (q : Pair). q.site) same, subst (Contains wanted) here there, subst (λ x. (child : List ℕ) × Packs x child b) here ((packs container).0 is), kept),
        λ (site, there, puts, kept).
            let here : container ≡ m.0.item = some_is container m.0.item (sym is ∙ (packs m.0.item).1 puts) in
            (subst (Contains wanted) (sym here) there, (λ k. record { site = site k; item = here k }), kept),
      ))

  pub no_body : (r : Option (List ℕ)) → ((p : List ℕ) → (r ≡ Some p) ↔ ((child : List ℕ) × Packs p child b)) → r ≡ None → AddsTo (Holds FirstPacking old) (Holds FirstPacking old) (BodyDoes me wanted place b)
  no_body r packs none = adds_nothing (Holds FirstPacking old) (BodyDoes me wanted place b) (λ m (site, there, puts, kept). none_is m.0.item (sym none ∙ (packs m.0.item).1 puts))

module _ (sites : List SiteEvents) (s : SiteEvents) (wanted : List (List ℕ)) (place : ℕ) where
  pub packing_noted : (old new : PairPlaces) (me : ℕ) (b : Body) (e : Content) → slice_get s.events place ≡ Some e → me ≡ s.me → b ≡ e.body
      → AddsTo (Holds FirstPacking old) (Holds FirstPacking new) (BodyDoes me wanted place b) → AddsTo (Holds FirstPacking old) (Holds FirstPacking new) (EventDoes FirstPacking sites s wanted place)
  packing_noted old new me b e so own is = adds_alike (Holds FirstPacking old) (Holds FirstPacking new) (BodyDoes me wanted place b) (EventDoes FirstPacking sites s wanted place)
      (λ m. (
        λ (site, there, (child, packs), kept). (sym own ∙ site, there, (e, so, child, subst (Packs m.0.item child) is packs), kept),
        λ (site, there, (f, also, child, packs), kept).
            (own ∙ site, there, (child, subst (Packs m.0.item child) (sym is) (subst (λ (g : Content). Packs m.0.item child g.body) (some_is f e (sym also ∙ so)) packs)), kept),
      ))

  pub no_packing : (old : PairPlaces) → slice_get s.events place ≡ None → AddsTo (Holds FirstPacking old) (Holds FirstPacking old) (EventDoes FirstPacking sites s wanted place)
  no_packing old none = adds_nothing (Holds FirstPacking old) (EventDoes FirstPacking sites s wanted place) (λ m (site, there, (e, so, child, packs), kept). none_is e (sym none ∙ so))

  -- ---- a shipment

  pub no_shipment : (old : PairPlaces) → (GoesElsewhere s place → ⊥) → AddsTo (Holds LastShipment old) (Holds LastShipment old) (EventDoes LastShipment sites s wanted place)
  no_shipment old other = adds_nothing (Holds LastShipment old) (EventDoes LastShipment sites s wanted place)
      (λ m (site, there, it, kept). other (it.to, it.elsewhere, (it.event, it.stands, ((ships_split it.carrier it.to it.event.body).0 it.ships).1)))

  pub shipment_noted : (old new : PairPlaces) (me : ℕ) (sent : List (List ℕ)) → me ≡ s.me → ((i : List ℕ) → Contains sent i ↔ ShipsOnAt sites s i place)
      → AddsTo (Holds LastShipment old) (Holds LastShipment new) (ByOne sent (IsWantedOf LastShipment me wanted place)) → AddsTo (Holds LastShipment old) (Holds LastShipment new) (EventDoes LastShipment sites s wanted place)
  shipment_noted old new me sent own ships = adds_alike (Holds LastShipment old) (Holds LastShipment new) (ByOne sent (IsWantedOf LastShipment me wanted place)) (EventDoes LastShipment sites s wanted place)
      (λ m. (
        λ (item, there, (also, same, kept)).
            let here : item ≡ m.0.item = ap (λ (q : Pair). q.item) same in
            (sym own ∙ ap (λ (q : Pair). q.site) same, subst (Contains wanted) here also, subst (λ i. ShipsOnAt sites s i place) here ((ships item).0 there), kept),
        λ (site, there, it, kept). (m.0.item, (ships m.0.item).1 it, (there, (λ k. record { site = (own ∙ site) k; item = m.0.item }), kept)),
      ))

module _ (sites : List SiteEvents) (known : Index) (are_known : AreKnown sites known) (at : ℕ) (s : SiteEvents) (so : slice_get sites at ≡ Some s) where
  pub ships_there : (place : ℕ) (places : List ℕ) → places ≡ place ∷ [] → GoesElsewhere s place → (i : List ℕ) → IsSentBy sites known at places i ↔ ShipsOnAt sites s i place
  ships_there place places are (to, other, (f, again, goes)) i = (
    λ (t, also, carrier, shipped, chain).
        let (k, there, (e, stands, has)) = subst (λ (z : SiteEvents). IsShippedAt z.events places carrier) (some_is t s (sym also ∙ so)) shipped in
        let here : place ≡ k = only k (subst (λ ks. Contains ks k) are there) in
        let now : slice_get s.events place ≡ Some e = ap (slice_get s.events) here ∙ stands in record {
          event = e;
          stands = now;
          to = to;
          elsewhere = other;
          carrier = carrier;
          ships = (ships_split carrier to e.body).1 (has, subst (λ (g : Content). GoesTo to g.body) (some_is f e (sym again ∙ now)) goes);
          inside = reach_widens (LiesIn sites known at) (by_known sites s) (λ x y h. (lies_as_known sites known are_known at s so x y).0 h) carrier i chain;
        },
    λ it. (
      s,
      so,
      it.carrier,
      (place, subst (λ ks. Contains ks place) (sym are) (contains_here place []), (it.event, it.stands, ((ships_split it.carrier it.to it.event.body).0 it.ships).0)),
      reach_widens (by_known sites s) (LiesIn sites known at) (λ x y h. (lies_as_known sites known are_known at s so x y).1 h) it.carrier i it.inside,
    ),
  )
    where
      only : (k : ℕ) → Contains (place ∷ []) k → place ≡ k
      only k h = ⊎_elim (λ same. same) (λ none. absurd (contains_none k none)) (contains_cases place k [] h)

-- ---- one site

does_below : (kind : Kind) (sites : List SiteEvents) (s : SiteEvents) (container : List ℕ) (place : ℕ) → Does kind sites s container place → place < length s.events
does_below FirstPacking sites s container place (e, so, child, packs) = slice_get_within s.events place e so
does_below LastShipment sites s container place it = slice_get_within s.events place it.event it.stands

module _ (kind : Kind) (sites : List SiteEvents) where
  pub all_events : (s : SiteEvents) (wanted : List (List ℕ)) (n : ℕ) (old new : PairPlaces) → length s.events ≤ n → AddsTo (Holds kind old) (Holds kind new) (Before n (EventDoes kind sites s wanted))
      → AddsTo (Holds kind old) (Holds kind new) (λ m. (place : ℕ) × EventDoes kind sites s wanted place m)
  all_events s wanted n old new past = adds_alike (Holds kind old) (Holds kind new) (Before n (EventDoes kind sites s wanted)) (λ m. (place : ℕ) × EventDoes kind sites s wanted place m)
      (λ m. (
        λ (k, below, does). (k, does),
        λ (k, (site, there, does, kept)). (k, within k (does_below kind sites s m.0.item k does), (site, there, does, kept)),
      ))
    where
      within : (k : ℕ) → k < length s.events → k < n
      within k below = omega (arith, below, past)

  pub site_events : (pairs : List Pair) (at : ℕ) (s : SiteEvents) (wanted : List (List ℕ)) (old new : PairPlaces) → IsFirstAt sites at s → ((i : List ℕ) → Contains wanted i ↔ Contains pairs (record { site = s.me; item = i }))
      → AddsTo (Holds kind old) (Holds kind new) (λ m. (place : ℕ) × EventDoes kind sites s wanted place m) → AddsTo (Holds kind old) (Holds kind new) (SiteDoes kind sites pairs at)
  site_events pairs at s wanted old new first are = adds_alike (Holds kind old) (Holds kind new) (λ m. (place : ℕ) × EventDoes kind sites s wanted place m) (SiteDoes kind sites pairs at)
      (λ m. (
        λ (place, (site, there, does, kept)). record {
          site = s;
          first = first;
          number = site;
          given = subst (Contains pairs) (λ k. record { site = site k; item = m.0.item }) ((are m.0.item).0 there);
          place = place;
          does = does;
          kept = kept;
        },
        λ it.
            let one : it.site ≡ s = some_is it.site s (sym it.first.there ∙ first.there) in
            let site : s.me ≡ m.0.site = sym (ap (λ (z : SiteEvents). z.me) one) ∙ it.number in (
              it.place,
              (
                site,
                (are m.0.item).1 (subst (Contains pairs) (λ k. record { site = (sym site) k; item = m.0.item }) it.given),
                subst (λ z. Does kind sites z m.0.item it.place) one it.does,
                it.kept,
              ),
            ),
      ))

  pub later_site : (pairs : List Pair) (at : ℕ) (old : PairPlaces) → (((s : SiteEvents) × IsFirstAt sites at s) → ⊥) → AddsTo (Holds kind old) (Holds kind old) (SiteDoes kind sites pairs at)
  later_site pairs at old later = adds_nothing (Holds kind old) (SiteDoes kind sites pairs at) (λ m it. later (it.site, it.first))

  pub none_wanted : (pairs : List Pair) (at : ℕ) (s : SiteEvents) (wanted : List (List ℕ)) (old : PairPlaces) → slice_get sites at ≡ Some s → ((i : List ℕ) → Contains wanted i ↔ Contains pairs (record { site = s.me; item = i })) → length wanted ≡ 0
      → AddsTo (Holds kind old) (Holds kind old) (SiteDoes kind sites pairs at)
  none_wanted pairs at s wanted old so are none = adds_nothing (Holds kind old) (SiteDoes kind sites pairs at)
      (λ m it.
      let one : it.site ≡ s = some_is it.site s (sym it.first.there ∙ so) in
      let site : s.me ≡ m.0.site = sym (ap (λ (z : SiteEvents). z.me) one) ∙ it.number in
      empty ((are m.0.item).1 (subst (Contains pairs) (λ k. record { site = (sym site) k; item = m.0.item }) it.given)))
    where
      empty : {i : List ℕ} → Contains wanted i → ⊥
      empty (k, below, stands) = omega (arith, below, none)

  -- ---- all sites

  pub all_sites : (pairs : List Pair) (n : ℕ) (index : PairPlaces) → length sites ≤ n → AddsTo (λ m. ⊥) (Holds kind index) (Before n (SiteDoes kind sites pairs))
      → (m : Pair × ℕ) → Holds kind index m ↔ SomeDoes kind sites pairs m
  all_sites pairs n index past adds m = (
    λ h. ⊎_elim (λ none. absurd none) (λ (at, below, it). (at, it)) ((adds m).0 h),
    λ (at, it). (adds m).1 (inr (at, within at (slice_get_within sites at it.site it.first.there), it)),
  )
    where
      within : (k : ℕ) → k < length sites → k < n
      within k below = omega (arith, below, past)

  pub line_indexed : (lines : List GapLine) (pairs : List Pair) (index : PairPlaces) → ((p : Pair) → Contains pairs p ↔ ByOne lines (IsPairOf kind) p)
      → ((m : Pair × ℕ) → Holds kind index m ↔ SomeDoes kind sites pairs m) → (line : GapLine) → Contains lines line → IsIndexed kind sites index (pair_of kind line)
  line_indexed lines pairs index are holds line there n = (
    λ h. let (at, it) = (holds (pair_of kind line, n)).0 h in (it.place, (it.site, (at, it.first, it.number), it.does), it.kept),
    λ (k, (s, (at, first, number), does), kept). (holds (pair_of kind line, n)).1 (
      at,
      record {
        site = s;
        first = first;
        number = number;
        given = (are (pair_of kind line)).1 (line, there, refl);
        place = k;
        does = does;
        kept = kept;
      },
    ),
  )

-- ---- the first of a number

-- none before the place has the number
abbrev pub NoneBefore : List SiteEvents → ℕ → ℕ → Type 0
NoneBefore sites me n = (k : ℕ) (t : SiteEvents) → k < n → slice_get sites k ≡ Some t → t.me ≢ me

pub none_before : (sites : List SiteEvents) (me : ℕ) → NoneBefore sites me 0
none_before sites me k t below = absurd (none below)
  where
    none : k < 0 → ⊥
    none below = omega (arith, below)

pub one_more_before : (sites : List SiteEvents) (me n : ℕ) (s : SiteEvents) → slice_get sites n ≡ Some s → (s.me ≡ me → ⊥) → NoneBefore sites me n → NoneBefore sites me (n + 1)
one_more_before sites me n s so other before k t below stands same = ⊎_elim
    (λ sooner. before k t sooner stands same)
    (λ past. other (ap (λ (z : SiteEvents). z.me) (some_is s t (sym so ∙ ap (slice_get sites) (here past) ∙ stands)) ∙ same))
    (cases_lt k n)
  where
    here : n ≤ k → n ≡ k
    here past = omega (arith, below, past)

pub is_the_first : (sites : List SiteEvents) (at n : ℕ) (s : SiteEvents) → slice_get sites at ≡ Some s → at ≤ n → NoneBefore sites s.me n → (t : SiteEvents) × IsFirstAt sites at t
is_the_first sites at n s so past before = (s, record { there = so; first = λ k t below. before k t (within k below) })
  where
    within : (k : ℕ) → k < at → k < n
    within k below = omega (arith, below, past)

-- some site stands at each place
pub site_there : (sites : List SiteEvents) (at : ℕ) → at < length sites → (s : SiteEvents) × (slice_get sites at ≡ Some s)
site_there sites at below = let none : SiteEvents = record { me = 0; events = [] } in (get_or sites at none, slice_get-get_or sites at none below)

pub is_later : (sites : List SiteEvents) (at k : ℕ) (s t : SiteEvents) → slice_get sites at ≡ Some s → slice_get sites k ≡ Some t → k < at → t.me ≡ s.me → ((u : SiteEvents) × IsFirstAt sites at u) → ⊥
is_later sites at k s t so stands below same (u, it) = it.first k t below stands (same ∙ ap (λ (z : SiteEvents). z.me) (some_is s u (sym so ∙ it.there)))

-- ---- one line

pub events_of_line : (sites : List SiteEvents) (packed shipped : PairPlaces) (line : GapLine) → IsIndexed FirstPacking sites packed (pair_of FirstPacking line) → IsIndexed LastShipment sites shipped (pair_of LastShipment line)
    → AreEventsOf sites line (record { packed = get pair_cmp packed (pair_of FirstPacking line); shipped = get pair_cmp shipped (pair_of LastShipment line) })
events_of_line sites packed shipped line first last = record {
  packed = first_is (IsDoneAt FirstPacking sites (pair_of FirstPacking line)) (get pair_cmp packed (pair_of FirstPacking line)) first;
  shipped = last_is (IsDoneAt LastShipment sites (pair_of LastShipment line)) (get pair_cmp shipped (pair_of LastShipment line)) last;
}
