-- The first events that relate two pairs, by the places that stand under their items.
use Rattle.std.proofs.Common.{◌≡◌, ◌≢◌, ◌↔◌, inl, inr, ℕ, ◌≤◌, List, [], ◌∷◌, length, slice_get, Option, Some, None, refl, sym, ap, ◌∙◌, subst, ⊎_elim, arith}
use Rattle.std.specs.BTreeMap.{get}
use Rattle.std.specs.BTreeSet.{BTreeSet}
use Rattle.std.specs.List.{Contains}
use Rattle.std.specs.Ordering.{nat_cmp}
use Rattle.std.proofs.lemmas.Option.{slice_get-get_or, slice_get_within, get_or_from_slice_get}
use Rattle.event_json.specs.Events.{Content}
use Rattle.event_json.specs.declared.bodies.Body.{Body}
use Rattle.trace_core.specs.Groups.{IsPartOf, first_of}
use Rattle.trace_core.specs.Pairs.{GivesOut, IsCarriedWith, IsMadeOf, IsSentTo, TakesIn, make_id}
use Rattle.trace_core.specs.Searches.{IsFound}
use Rattle.trace_core.specs.Sites.{SiteEvents}
use Rattle.trace_core.specs.declared.pairs.Pair.{Pair}
use Rattle.trace_core.proofs.LookSteps.{first_alone, first_stands, one_first}
use Rattle.trace_core.proofs.NumberLists.{some_is, none_is}
use Rattle.trace_core.proofs.PairTestsDecide.{same_id_decides}
use Rattle.site_core.specs.ItemSets.{item_cmp}
use Rattle.report_core.specs.TrailEvents.{AnswersStep, AreOfOneMake, GivesOutWith, IsFirstOrNone, IsFirstShipment, StandsAt, TakesInAt}
use Rattle.report_core.specs.FirstPlaces.{AnswersMake, AnswersShipment, IsContainerAt, IsGroupAt, IsOfOne, IsOneOf, TellsEvent}
use Rattle.report_core.specs.Sources.{Among, AreItemPlaces, AreOwnPlaces, ArePlaces, ByOne, Index, IsNotedAt, ShipsItself, or_no_places}
use Rattle.report_core.specs.declared.trail_events.CapturedEvent.{CapturedEvent}
use Rattle.report_core.specs.declared.trail_events.StepEvents.{StepEvents}
use Rattle.report_core.specs.declared.trail_events.StepEvents.TheVariants.{Shipped, Made}
use Rattle.report_core.specs.declared.makers.EventPlace.{EventPlace}
use Rattle.report_core.proofs.FirstFound.{first_alike}
use Rattle.report_core.proofs.LiesInItems.{fills_packed}

-- two events are parts of one transformation just where it has one first part
group_joined : (events : List Content) (n m first : ℕ) → IsPartOf events n first → IsPartOf events m first → AreOfOneMake events n m
group_joined events n m first (e, stands, is) (f, stands', is') =
    let (g, there, same) = first_stands events n e stands in
    let (h, there', same') = first_stands events m f stands' in
    let one : g ≡ h = some_is g h (sym there ∙ ap (slice_get events) (is ∙ sym is') ∙ there') in
    let ids : make_id e.body ≡ make_id f.body = sym same ∙ ap (λ (c : Content). make_id c.body) one ∙ same' in
    elim (make_id e.body) as (λ id. make_id e.body ≡ id → AreOfOneMake events n m) [
      | None ↦ λ none. inl (sym (first_alone events n e.body none) ∙ is ∙ sym is' ∙ first_alone events m f.body (sym ids ∙ none))
      | Some id ↦ λ some. inr (e, stands, (f, stands', (id, some, sym ids ∙ some)))
    ] refl

joined_group : (events : List Content) (n m : ℕ) (e f : Content) → slice_get events n ≡ Some e → slice_get events m ≡ Some f → AreOfOneMake events n m → first_of events m f.body ≡ first_of events n e.body
joined_group events n m e f stands stands' one = ⊎_elim
    (λ same.
    let it : f ≡ e = some_is f e (sym stands' ∙ ap (slice_get events) (sym same) ∙ stands) in
    ap (λ k. first_of events k f.body) (sym same) ∙ ap (λ (c : Content). first_of events n c.body) it)
    (λ (g, there, (h, there', (id, own, other))).
    let own' : make_id e.body ≡ Some id = ap (λ (c : Content). make_id c.body) (some_is e g (sym stands ∙ there)) ∙ own in
    let other' : make_id f.body ≡ Some id = ap (λ (c : Content). make_id c.body) (some_is f h (sym stands' ∙ there')) ∙ other in
    one_first events m n f e stands ((same_id_decides (make_id f.body) (make_id e.body)).1 (id, other', own')))
    one

module _ (sites : List SiteEvents) (number : ℕ) (s : SiteEvents) (stands : slice_get sites number ≡ Some s) where
  -- what stands under an item, of the site
  listed : (N : List ℕ → Body → Type 0) (index : Index) → ArePlaces N index sites → (item : List ℕ) (places : List EventPlace) → places ≡ or_no_places (get item_cmp index item)
      → (p : EventPlace) → number ≡ p.site → Contains places p ↔ StandsAt s.events (N item) p.event
  listed N index are item places lent p here = (
    λ h.
        let (t, at, noted) = (are (item, p)).0 (subst (λ ps. Contains ps p) lent h) in
        let one : t ≡ s = some_is t s (sym at ∙ ap (slice_get sites) (sym here) ∙ stands) in
        subst (λ (u : SiteEvents). IsNotedAt N u.events item p.event) one noted,
    λ noted. subst (λ ps. Contains ps p) (sym lent) ((are (item, p)).1 (s, subst (λ n. slice_get sites n ≡ Some s) here stands, noted)),
  )

  -- so under one that is wanted
  listed_wanted : (items : BTreeSet (List ℕ)) (N : List ℕ → Body → Type 0) (index : Index) → ArePlaces (Among items N) index sites → (item : List ℕ) → IsFound item_cmp items item
      → (places : List EventPlace) → places ≡ or_no_places (get item_cmp index item) → (p : EventPlace) → number ≡ p.site → Contains places p ↔ StandsAt s.events (N item) p.event
  listed_wanted items N index are item wanted places lent p here =
      let all = listed (Among items N) index are item places lent p here in (
        λ h. let (e, stands', (among, told)) = all.0 h in (e, stands', told),
        λ (e, stands', told). all.1 (e, stands', (wanted, told)),
      )

  -- those of the site alone
  pub own_places : (N : List ℕ → Body → Type 0) (index : Index) → ArePlaces N index sites → AreOwnPlaces N s.events number index
  own_places N index are item p here = listed N index are item (or_no_places (get item_cmp index item)) refl p here

  -- those of the shipments of what carried a wanted item
  pub carrier_places : (items : BTreeSet (List ℕ)) (sent : Index) → ArePlaces (Among items ShipsItself) sent sites → ((i : List ℕ) → ByOne sites IsContainerAt i → IsFound item_cmp items i)
      → (item : List ℕ) → IsFound item_cmp items item → (carrier : List ℕ) → IsCarriedWith s.events carrier item → AreItemPlaces ShipsItself s.events number sent carrier
  carrier_places items sent are all item found carrier carried p here =
      listed_wanted items ShipsItself sent are carrier (carrier_found carried) (or_no_places (get item_cmp sent carrier)) refl p here
    where
      carrier_found : IsCarriedWith s.events carrier item → IsFound item_cmp items carrier
      carrier_found ([], chain, ends) = subst (IsFound item_cmp items) (sym ends) found
      carrier_found (next ∷ rest, ((k, e, below, at, packs), chain), ends) =
          all carrier (s, (number, slice_get_within sites number s stands, get_or_from_slice_get sites number s s stands), (k, (e, slice_get-get_or s.events k e below ∙ ap Some at, fills_packed e.body carrier next packs)))

  module _ (items : BTreeSet (List ℕ)) (takers givers : Index) (ins : ArePlaces (Among items TakesIn) takers sites) (outs : ArePlaces (Among items GivesOut) givers sites) (i j : List ℕ)
      (asked : IsFound item_cmp items i) (asked' : IsFound item_cmp items j) (taken given : List EventPlace)
      (lent : taken ≡ or_no_places (get item_cmp takers i)) (lent' : given ≡ or_no_places (get item_cmp givers j)) (firsts : BTreeSet ℕ)
      (kept : (n : ℕ) → IsFound nat_cmp firsts n ↔ ByOne given (IsGroupAt s.events number) n) where
    one_of_parts : (n m : ℕ) → IsOneOf (λ p. (number ≡ p.site) × AreOfOneMake s.events n p.event) given m ↔ GivesOutWith s.events j n m
    one_of_parts n m = (
      λ (p, there, at, (here, one)). subst (λ k. GivesOutWith s.events j n k) at ((listed_wanted items GivesOut givers outs j asked' given lent' p here).0 there, one),
      λ (gives, one). (record { site = number; event = m }, (listed_wanted items GivesOut givers outs j asked' given lent' (record { site = number; event = m }) refl).1 gives, refl, (refl, one)),
    )

    one_of_makes : (n : ℕ) → IsOneOf (λ p. (number ≡ p.site) × IsOfOne s.events firsts p.event) taken n ↔ TakesInAt s.events i j n
    one_of_makes n = (
      λ (p, there, at, (here, (first, part, found))).
          let (q, there', (here', part')) = (kept first).0 found in
          subst (λ k. TakesInAt s.events i j k) at
          ((listed_wanted items TakesIn takers ins i asked taken lent p here).0 there, (q.event, (one_of_parts p.event q.event).0 (q, there', refl, (here', group_joined s.events p.event q.event first part part')))),
      λ ((e, stands', takes), (m, gives)).
          let (q, there', at', (here', one)) = (one_of_parts n m).1 gives in
          let (f, stands'', gives') = (listed_wanted items GivesOut givers outs j asked' given lent' q here').0 there' in
          let p : EventPlace = record { site = number; event = n } in (
            p,
            (listed_wanted items TakesIn takers ins i asked taken lent p refl).1 (e, stands', takes),
            refl,
            (
              refl,
              (
                first_of s.events n e.body,
                (e, stands', refl),
                (kept (first_of s.events n e.body)).1 (q, there', (here', (f, stands'', joined_group s.events n q.event e f stands' stands'' one))),
              ),
            ),
          ),
    )

    made_somewhere : IsMadeOf s.events i j → (n : ℕ) × TakesInAt s.events i j n
    made_somewhere (n, e, below, at, (takes, (m, f, below', at', (one, gives)))) =
        let there : slice_get s.events n ≡ Some e = slice_get-get_or s.events n e below ∙ ap Some at in
        let there' : slice_get s.events m ≡ Some f = slice_get-get_or s.events m f below' ∙ ap Some at' in
        ⊎_elim
        (λ same. (n, ((e, there, takes), (n, ((e, there, subst (λ (c : Content). GivesOut j c.body) (sym same) gives), inl refl)))))
        (λ ids. (n, ((e, there, takes), (m, ((f, there', gives), inr (e, there, (f, there', ids)))))))
        one

    -- where no places are found nothing is made of it
    pub no_make : IsFirstOrNone (IsOneOf (λ p. (number ≡ p.site) × IsOfOne s.events firsts p.event) taken) None → AnswersMake s.events i j None
    no_make none made = let (n, takes) = made_somewhere made in none n ((one_of_makes n).1 takes)

    -- those that are found have events
    pub taking_there : (n : ℕ) → IsFirstOrNone (IsOneOf (λ p. (number ≡ p.site) × IsOfOne s.events firsts p.event) taken) (Some n) → TellsEvent s.events n None → ⊥
    taking_there n first none = let ((e, there, takes), gives) = (one_of_makes n).0 first.0 in none_is e (sym none ∙ there)

    pub giving_there : (n m : ℕ) → IsFirstOrNone (IsOneOf (λ p. (number ≡ p.site) × AreOfOneMake s.events n p.event) given) (Some m) → TellsEvent s.events m None → ⊥
    giving_there n m part none = let ((f, there, gives), one) = (one_of_parts n m).0 part.0 in none_is f (sym none ∙ there)

    pub make_found : (n m : ℕ) (x y : CapturedEvent) → IsFirstOrNone (IsOneOf (λ p. (number ≡ p.site) × IsOfOne s.events firsts p.event) taken) (Some n) → IsFirstOrNone (IsOneOf (λ p. (number ≡ p.site) × AreOfOneMake s.events n p.event) given) (Some m) → TellsEvent s.events n (Some x) → TellsEvent s.events m (Some y) → AnswersMake s.events i j (Some (Made x y))
    make_found n m x y first part told told' = (
      n,
      first_alike (IsOneOf (λ p. (number ≡ p.site) × IsOfOne s.events firsts p.event) taken) (TakesInAt s.events i j) one_of_makes n first,
      told,
      (m, first_alike (IsOneOf (λ p. (number ≡ p.site) × AreOfOneMake s.events n p.event) given) (GivesOutWith s.events j n) (one_of_parts n) m part, told'),
    )

-- the first of those that are parts of one has one that it is joined with
pub part_there : (events : List Content) (number n : ℕ) (taken given : List EventPlace) (firsts : BTreeSet ℕ) → ((k : ℕ) → IsFound nat_cmp firsts k ↔ ByOne given (IsGroupAt events number) k)
    → IsFirstOrNone (IsOneOf (λ p. (number ≡ p.site) × IsOfOne events firsts p.event) taken) (Some n) → IsFirstOrNone (IsOneOf (λ p. (number ≡ p.site) × AreOfOneMake events n p.event) given) None → ⊥
part_there events number n taken given firsts kept ((p, there, at, (here, (first, part, found))), least) none =
    let (q, there', (here', part')) = (kept first).0 found in
    none q.event (q, there', refl, (here', group_joined events n q.event first (subst (λ k. IsPartOf events k first) at part) part'))

module _ (sites : List SiteEvents) (p q : Pair) (s : SiteEvents) (stands : slice_get sites p.site ≡ Some s) where
  -- a step inside the site
  pub step_of_make : (found : Option StepEvents) → q.site ≡ s.me → AnswersMake s.events p.item q.item found → AnswersStep sites p q found
  step_of_make None here none = λ (t, at, related).
      let one : t ≡ s = some_is t s (sym at ∙ stands) in
      ⊎_elim
      (λ (apart, item, sent). apart (here ∙ ap (λ (u : SiteEvents). u.me) (sym one)))
      (λ (me, made). none (subst (λ (u : SiteEvents). IsMadeOf u.events p.item q.item) one made))
      related
  step_of_make (Some (Shipped y packings)) here answer = absurd answer
  step_of_make (Some (Made y z)) here answer = (s, stands, (here, answer))

  -- one to another site
  pub step_of_shipment : (found : Option StepEvents) → q.site ≢ s.me → q.item ≡ p.item → AnswersShipment s.events q.item q.site found → AnswersStep sites p q found
  step_of_shipment None apart same none = λ (t, at, related).
      let one : t ≡ s = some_is t s (sym at ∙ stands) in
      ⊎_elim
      (λ (other, item, sent). none (subst (λ i. IsSentTo s.events i q.site) (sym same) (subst (λ (u : SiteEvents). IsSentTo u.events p.item q.site) one sent)))
      (λ (me, made). apart (me ∙ ap (λ (u : SiteEvents). u.me) one))
      related
  step_of_shipment (Some (Shipped y packings)) apart same answer = (s, stands, (apart, same, subst (λ i. IsFirstShipment s.events i q.site y packings) same answer))
  step_of_shipment (Some (Made y z)) apart same answer = absurd answer

  -- none relates these
  pub no_step : q.site ≢ s.me → q.item ≢ p.item → AnswersStep sites p q None
  no_step apart other (t, at, related) =
      let one : t ≡ s = some_is t s (sym at ∙ stands) in
      ⊎_elim
      (λ (away, item, sent). other item)
      (λ (me, made). apart (me ∙ ap (λ (u : SiteEvents). u.me) one))
      related

-- nor where there is no such site
pub no_site : (sites : List SiteEvents) (p q : Pair) → length sites ≤ p.site → AnswersStep sites p q None
no_site sites p q past (s, at, related) = omega (arith, past, slice_get_within sites p.site s at)
