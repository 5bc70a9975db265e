-- What items lay in, and what carried them.
use Rattle.std.proofs.Common.{◌≡◌, ◌↔◌, inl, inr, ℕ, List, [], slice_get, Some, refl, sym, ap, ◌∙◌, subst, ⊎_elim}
use Rattle.std.specs.BTreeMap.{get}
use Rattle.std.specs.List.{Contains}
use Rattle.std.proofs.lemmas.Option.{slice_get-get_or, slice_get_within, get_or_from_slice_get}
use Rattle.event_json.specs.Events.{Content}
use Rattle.event_json.specs.declared.bodies.Action.TheVariants.{Add, Observe, Delete}
use Rattle.event_json.specs.declared.bodies.Body.{Body}
use Rattle.event_json.specs.declared.bodies.Body.TheVariants.{Note, Ship, Make, Pack}
use Rattle.trace_core.specs.Pairs.{Carries, IsCarriedWith, Packs}
use Rattle.trace_core.specs.PutIn.{filled}
use Rattle.trace_core.specs.Relations.{Converse, Reaches}
use Rattle.trace_core.specs.AllFound.{AreAllFound}
use Rattle.trace_core.specs.declared.pairs.Pair.{Pair}
use Rattle.trace_core.specs.declared.trails.FoundTrails.{FoundTrails}
use Rattle.trace_core.proofs.Carrying.{deletes, observes, reaches_front}
use Rattle.trace_core.proofs.ChainLaws.{reach_converse, reached_holds, reaches_itself, reaches_step}
use Rattle.trace_core.specs.Searches.{AreUnseen}
use Rattle.trace_core.proofs.Members.{contains_none}
use Rattle.trace_core.proofs.NumberLists.{some_is}
use Rattle.site_core.specs.ItemSets.{item_cmp}
use Rattle.report_core.specs.Containers.{IsFilledAt, LiesIn}
use Rattle.report_core.specs.Sources.{AddsToList, AreOwnPlaces, ByOne, Index, PutsIn, or_no_places}
use Rattle.report_core.specs.declared.makers.EventPlace.{EventPlace}
use Rattle.report_core.proofs.Additions.{adds_alike}

-- what an event fills is what it puts its items into
pub packs_filled : (b : Body) (parent item container : List ℕ) → Packs parent item b → filled b ≡ Some container → Packs container item b
packs_filled (Note items) parent item container packs fills = absurd packs
packs_filled (Ship items sites outside) parent item container packs fills = absurd packs
packs_filled (Make id ins outs) parent item container packs fills = absurd packs
packs_filled (Pack Add own children) parent item container (add, is, there) fills = (add, fills, there)
packs_filled (Pack Observe own children) parent item container (add, is, there) fills = absurd (observes add)
packs_filled (Pack Delete own children) parent item container (add, is, there) fills = absurd (deletes add)

pub fills_packed : (b : Body) (parent item : List ℕ) → Packs parent item b → filled b ≡ Some parent
fills_packed (Note items) parent item packs = absurd packs
fills_packed (Ship items sites outside) parent item packs = absurd packs
fills_packed (Make id ins outs) parent item packs = absurd packs
fills_packed (Pack Add own children) parent item (add, is, there) = is
fills_packed (Pack Observe own children) parent item (add, is, there) = absurd (observes add)
fills_packed (Pack Delete own children) parent item (add, is, there) = absurd (deletes add)

-- what the event at a place fills
pub filled_there : (events : List Content) (number at : ℕ) (place : EventPlace) (e : Content) (body : Body) (old new : List Pair) → number ≡ place.site → slice_get events place.event ≡ Some e → body ≡ e.body
    → AddsToList old new (λ q. (q.site ≡ at) × (filled body ≡ Some q.item)) → AddsToList old new (IsFilledAt events number at place)
filled_there events number at place e body old new here stands is = adds_alike (Contains old) (Contains new) (λ q. (q.site ≡ at) × (filled body ≡ Some q.item)) (IsFilledAt events number at place)
    (λ q. (
      λ (site, fills). (site, (here, (e, stands, subst (λ b. filled b ≡ Some q.item) is fills))),
      λ (site, (same, (f, stands', fills))). (site, subst (λ b. filled b ≡ Some q.item) (sym is) (subst (λ (c : Content). filled c.body ≡ Some q.item) (some_is f e (sym stands' ∙ stands)) fills)),
    ))

-- all that an item lies in
pub all_filled : {S : Type 0} (events : List Content) (number : ℕ) (packings : Index) (p : Pair) (none found : List Pair) (places : List EventPlace) (seen seen' : S) → none ≡ [] → places ≡ or_no_places (get item_cmp packings p.item)
    → AddsToList none found (ByOne places (IsFilledAt events number p.site)) → AreUnseen (LiesIn events number packings p) (λ (_ : S) (_ : Pair). ⊥) seen seen' found
all_filled events number packings p none found places seen seen' nothing lent adds = record {
  sound = λ q there. ⊎_elim (λ was. absurd (contains_none q (subst (λ qs. Contains qs q) nothing was))) (λ fills. subst (λ ps. ByOne ps (IsFilledAt events number p.site) q) lent fills) ((adds q).0 there);
  complete = λ q fills. inl ((adds q).1 (inr (subst (λ ps. ByOne ps (IsFilledAt events number p.site) q) (sym lent) fills)));
  given = λ q h. absurd h;
}

module _ (events : List Content) (number : ℕ) (packings : Index) (are : AreOwnPlaces PutsIn events number packings) where
  -- the item of the one pair was put into that of the other
  pub lies_in : (p q : Pair) → LiesIn events number packings p q ↔ ((q.site ≡ p.site) × Carries events q.item p.item)
  lies_in p q = (
    λ (place, kept, (at, (here, (e, stands, fills)))).
        let (f, stands', (parent, packs)) = (are p.item place here).0 kept in
        let one : f ≡ e = some_is f e (sym stands' ∙ stands) in
        let into = packs_filled e.body parent p.item q.item (subst (λ (c : Content). Packs parent p.item c.body) one packs) fills in
        (at, (place.event, e, slice_get_within events place.event e stands, get_or_from_slice_get events place.event e e stands, into)),
    λ (at, (k, e, below, is, packs)).
        let stands : slice_get events k ≡ Some e = slice_get-get_or events k e below ∙ ap Some is in
        let place : EventPlace = record { site = number; event = k } in
        (place, (are p.item place refl).1 (e, stands, (q.item, packs)), (at, (refl, (e, stands, fills_packed e.body q.item p.item packs)))),
  )

  -- all that carries an item, by what it lay in
  pub carried_up : (site : ℕ) (item : List ℕ) (p : Pair) → Reaches (LiesIn events number packings) (record { site = site; item = item }) p ↔ ((p.site ≡ site) × IsCarriedWith events p.item item)
  carried_up site item p = (
    λ reaches. reached_holds (LiesIn events number packings) (λ q. (q.site ≡ site) × IsCarriedWith events q.item item)
        (λ y z (at, carried) lies.
        let (same, carries) = (lies_in y z).0 lies in
        (same ∙ at, reaches_front (Carries events) z.item y.item item carries carried))
        (record { site = site; item = item }) p reaches (refl, reaches_itself (Carries events) item),
    λ (at, carried).
        let up = reached_holds (Converse (Carries events)) (λ i. Reaches (LiesIn events number packings) (record { site = site; item = item }) (record { site = site; item = i }))
        (λ y z reaches carries. reaches_step (LiesIn events number packings) (record { site = site; item = item }) (record { site = site; item = y }) (record { site = site; item = z }) reaches
        ((lies_in (record { site = site; item = y }) (record { site = site; item = z })).1 (refl, carries)))
        item p.item ((reach_converse (Carries events) item p.item).1 carried) (reaches_itself (LiesIn events number packings) (record { site = site; item = item })) in
        subst (λ q. Reaches (LiesIn events number packings) (record { site = site; item = item }) q) (λ k. record { site = sym at k; item = p.item }) up,
  )

  -- so of all that is found
  pub all_carriers : (site : ℕ) (item : List ℕ) (found : FoundTrails) → AreAllFound (LiesIn events number packings) (record { site = site; item = item }) found
      → (p : Pair) → Contains found.pairs p ↔ ((p.site ≡ site) × IsCarriedWith events p.item item)
  all_carriers site item found all p =
      let up = carried_up site item p in
      let reached = all.reached p in
      (λ h. up.0 (reached.0 h), λ h. reached.1 (up.1 h))
