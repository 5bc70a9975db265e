-- By what an item was shipped, by the places that stand under all that it lies in.
use Rattle.std.proofs.Common.{◌≡◌, ◌↔◌, inl, inr, ℕ, ◌≤◌, List, get_or, slice_get, Some, None, refl, sym, ap, ◌∙◌, subst, ⊎_elim, Contains, arith}
use mathlib.Core.Logic.{◌⊎◌}
use Rattle.std.specs.BTreeMap.{get}
use Rattle.std.specs.Ordering.{ordering_then}
use Rattle.std.specs.declared.cmp.Ordering.{Ordering}
use Rattle.std.specs.declared.cmp.Ordering.TheVariants.{Less}
use Rattle.std.proofs.lemmas.Cmp.{nat_cmp_total, tied_itself}
use Rattle.std.proofs.lemmas.Map.Keys.{Less-from_sorted}
use Rattle.std.proofs.lemmas.Option.{slice_get-get_or, slice_get_within, get_or_from_slice_get}
use Rattle.event_json.specs.Events.{Content}
use Rattle.event_json.specs.declared.bodies.Body.{Body}
use Rattle.event_json.specs.declared.bodies.Body.TheVariants.{Note, Ship, Make, Pack}
use Rattle.trace_core.specs.Pairs.{Carries, IsCarriedWith, IsStrictlyAscending, pair_cmp}
use Rattle.trace_core.specs.Sites.{SiteEvents}
use Rattle.trace_core.specs.declared.pairs.Pair.{Pair}
use Rattle.trace_core.proofs.ChainLaws.{reaches_itself}
use Rattle.trace_core.proofs.NumberLists.{some_is}
use Rattle.site_core.specs.ItemSets.{item_cmp}
use Rattle.site_recovery.proofs.Exact.{within_or_past}
use Rattle.report_core.specs.FirstPlaces.{AreShipments, IsOneOf, ShipsOff}
use Rattle.report_core.specs.Leaving.{AreUnderEach, IsLeftWith, UnderAt}
use Rattle.report_core.specs.Sources.{AreItemPlaces, ByOne, Index, Keeps, ShipsItself, or_no_places}
use Rattle.report_core.specs.TrailEvents.{IsCarrierBy, IsFirst, IsFirstOrNone, StandsAt}
use Rattle.report_core.specs.declared.makers.EventPlace.{EventPlace}
use Rattle.report_core.proofs.FirstFound.{first_alike}

-- a shipment of what an item lies in ships it off
ships_off : (events : List Content) (item : List ℕ) (b : Body) (carrier : List ℕ) → ShipsItself carrier b → IsCarriedWith events carrier item → ShipsOff events item b
ships_off events item (Note items) carrier ships carried = absurd ships
ships_off events item (Ship items sites outside) carrier ships carried = (carrier, ships, carried)
ships_off events item (Make id ins outs) carrier ships carried = absurd ships
ships_off events item (Pack action parent children) carrier ships carried = absurd ships

off_ships : (events : List Content) (item : List ℕ) (b : Body) → ShipsOff events item b → (carrier : List ℕ) × ShipsItself carrier b × IsCarriedWith events carrier item
off_ships events item (Note items) off = absurd off
off_ships events item (Ship items sites outside) (carrier, ships, carried) = (carrier, ships, carried)
off_ships events item (Make id ins outs) off = absurd off
off_ships events item (Pack action parent children) off = absurd off

-- the shipments of all that carries an item
carriers_ship : (s : SiteEvents) (number : ℕ) (item : List ℕ) (sent : Index) (carriers : List Pair) (places : List EventPlace) → ((i : List ℕ) → IsCarriedWith s.events i item → AreItemPlaces ShipsItself s.events number sent i)
    → ((p : Pair) → Contains carriers p ↔ ((p.site ≡ s.me) × IsCarriedWith s.events p.item item))
    → ((p : EventPlace) → Contains places p ↔ ByOne carriers (λ (c : Pair). Contains (or_no_places (get item_cmp sent c.item))) p) → AreShipments s.events number item places
carriers_ship s number item sent carriers places are exact gathered p here = (
  λ there.
      let (c, among, kept) = (gathered p).0 there in
      let carried = ((exact c).0 among).1 in
      let (e, stands, ships) = (are c.item carried p here).0 kept in
      (e, stands, ships_off s.events item e.body c.item ships carried),
  λ (e, stands, off).
      let (carrier, ships, carried) = off_ships s.events item e.body off in
      (gathered p).1 (record { site = s.me; item = carrier }, (exact (record { site = s.me; item = carrier })).1 (refl, carried), (are carrier carried p here).1 (e, stands, ships)),
)

-- of two pairs at one site
by_item : (site : ℕ) (i j : List ℕ) → pair_cmp (record { site = site; item = i }) (record { site = site; item = j }) ≡ item_cmp i j
by_item site i j = ap (λ (o : Ordering). ordering_then o (item_cmp i j)) (tied_itself nat_cmp_total site)

-- shipments of a carrier that go somewhere
module _ (To : List ℕ → Body → Type 0) (At : Body → Type 0) (parts : (c : List ℕ) (b : Body) → To c b ↔ (ShipsItself c b × At b)) (s : SiteEvents) (number : ℕ) (item : List ℕ) (sent : Index)
    (carriers : List Pair) (places : List EventPlace) (are : (i : List ℕ) → IsCarriedWith s.events i item → AreItemPlaces ShipsItself s.events number sent i) (ascending : IsStrictlyAscending carriers)
    (exact : (p : Pair) → Contains carriers p ↔ ((p.site ≡ s.me) × IsCarriedWith s.events p.item item)) (gathered : AreUnderEach sent carriers places) where
  off : AreShipments s.events number item places
  off = carriers_ship s number item sent carriers places are exact gathered

  one_of_going : (n : ℕ) → IsOneOf (λ p. (number ≡ p.site) × StandsAt s.events At p.event) places n ↔ StandsAt s.events (λ b. (carrier : List ℕ) × To carrier b × IsCarriedWith s.events carrier item) n
  one_of_going n = (
    λ (p, there, at, (here, (e, stands, goes))).
        let (f, stands', shipped) = (off p here).0 there in
        let one : f ≡ e = some_is f e (sym stands' ∙ stands) in
        let (carrier, ships, carried) = off_ships s.events item e.body (subst (λ (c : Content). ShipsOff s.events item c.body) one shipped) in
        (e, subst (λ k. slice_get s.events k ≡ Some e) at stands, (carrier, (parts carrier e.body).1 (ships, goes), carried)),
    λ (e, stands, (carrier, to, carried)).
        let (ships, goes) = (parts carrier e.body).0 to in
        (record { site = number; event = n }, (off (record { site = number; event = n }) refl).1 (e, stands, ships_off s.events item e.body carrier ships carried), refl, (refl, (e, stands, goes))),
  )

  -- where none is found nothing went there
  pub nothing_went : IsFirstOrNone (IsOneOf (λ p. (number ≡ p.site) × StandsAt s.events At p.event) places) None
      → (n : ℕ) → StandsAt s.events (λ b. (carrier : List ℕ) × To carrier b × IsCarriedWith s.events carrier item) n → ⊥
  nothing_went none n went = none n ((one_of_going n).1 went)

  module _ (n : ℕ) (first : IsFirstOrNone (IsOneOf (λ p. (number ≡ p.site) × StandsAt s.events At p.event) places) (Some n)) where
    -- the one that is found is the first
    pub first_went : IsFirst (StandsAt s.events (λ b. (carrier : List ℕ) × To carrier b × IsCarriedWith s.events carrier item)) n
    first_went = first_alike (IsOneOf (λ p. (number ≡ p.site) × StandsAt s.events At p.event) places)
        (StandsAt s.events (λ b. (carrier : List ℕ) × To carrier b × IsCarriedWith s.events carrier item)) one_of_going n first

    -- a carrier that is shipped there has a place among the carriers
    carrier_at : (c : List ℕ) → StandsAt s.events (To c) n → IsCarriedWith s.events c item → (k : ℕ) × (slice_get carriers k ≡ Some (record { site = s.me; item = c })) × Keeps sent (c, record { site = number; event = n })
    carrier_at c (e, stands, to) carried =
        let p : Pair = record { site = s.me; item = c } in
        let (k, below, at) = (exact p).1 (refl, carried) in
        (k, slice_get-get_or carriers k p below ∙ ap Some at, (are c carried (record { site = number; event = n }) refl).1 (e, stands, ((parts c e.body).0 to).0))

    -- it has a carrier
    pub carrier_went : IsLeftWith sent (record { site = number; event = n }) item carriers None → ⊥
    carrier_went none =
        let (e, stands, (c, to, carried)) = first_went.0 in
        let (k, at, kept) = carrier_at c (e, stands, to) carried in
        none k (record { site = s.me; item = c }, at, kept)

    shipped_itself : (c : List ℕ) → IsCarriedWith s.events c item → Keeps sent (c, record { site = number; event = n }) → StandsAt s.events (To c) n
    shipped_itself c carried kept =
        let (e, stands, (carrier, to, carried')) = first_went.0 in
        let (f, stands', ships) = (are c carried (record { site = number; event = n }) refl).0 kept in
        let one : f ≡ e = some_is f e (sym stands' ∙ stands) in
        (e, stands, (parts c e.body).1 (subst (λ (g : Content). ShipsItself c g.body) one ships, ((parts carrier e.body).0 to).1))

    -- the first one among the carriers is the first by key
    first_by_key : (k : ℕ) → IsFirst (UnderAt sent (record { site = number; event = n }) carriers) k → (c : Pair) → slice_get carriers k ≡ Some c → c.site ≡ s.me
        → (d : List ℕ) → StandsAt s.events (To d) n → IsCarriedWith s.events d item → (c.item ≡ d) ⊎ (item_cmp c.item d ≡ Less)
    first_by_key k (under, least) c at here d to carried =
        let q : Pair = record { site = s.me; item = d } in
        let (j, at', kept) = carrier_at d to carried in
        let after : k ≤ j = least j (q, at', kept) in
        ⊎_elim
        (λ before.
        let low : pair_cmp (get_or carriers k q) (get_or carriers j q) ≡ Less = Less-from_sorted pair_cmp carriers k j q ascending before (slice_get_within carriers j q at') in
        let low' : pair_cmp c q ≡ Less = subst (λ p. pair_cmp c p ≡ Less) (get_or_from_slice_get carriers j q q at') (subst (λ p. pair_cmp p (get_or carriers j q) ≡ Less) (get_or_from_slice_get carriers k c q at) low) in
        let same : c ≡ record { site = s.me; item = c.item } = (λ i. record { site = here i; item = c.item }) in
        inr (sym (by_item s.me c.item d) ∙ subst (λ p. pair_cmp p q ≡ Less) same low'))
        (λ past.
        let one : k ≡ j = omega (arith, after, past) in
        inl (ap (λ (p : Pair). p.item) (some_is c q (sym at ∙ ap (slice_get carriers) one ∙ at'))))
        (within_or_past k j)

    pub carrier_is : (carrier : List ℕ) → IsLeftWith sent (record { site = number; event = n }) item carriers (Some carrier) → IsCarrierBy s.events To item n carrier
    carrier_is carrier (inl (kept, same)) = record {
      shipped = subst (λ i. StandsAt s.events (To i) n) (sym same) (shipped_itself item (reaches_itself (Carries s.events) item) kept);
      carried = subst (λ i. IsCarriedWith s.events i item) (sym same) (reaches_itself (Carries s.events) item);
      itself = λ _. same;
      least = λ c to carried. inl same;
    }
    carrier_is carrier (inr (apart, (k, first, (c, at, same)))) =
        let (here, carried) = (exact c).0 (k, slice_get_within carriers k c at, get_or_from_slice_get carriers k c c at) in
        let ((d, at', kept), least) = first in
        let one : d ≡ c = some_is d c (sym at' ∙ at) in
        record {
          shipped = subst (λ i. StandsAt s.events (To i) n) same (shipped_itself c.item carried (subst (λ (p : Pair). Keeps sent (p.item, record { site = number; event = n })) one kept));
          carried = subst (λ i. IsCarriedWith s.events i item) same carried;
          itself = λ (e, stands, to). absurd (apart ((are item (reaches_itself (Carries s.events) item) (record { site = number; event = n }) refl).1 (e, stands, ((parts item e.body).0 to).0)));
          least = λ d to carried'. inr (subst (λ i. (i ≡ d) ⊎ (item_cmp i d ≡ Less)) same (first_by_key k first c at here d to carried'));
        }
