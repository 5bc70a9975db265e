-- The steps of which events are told, as they are gathered.
use Rattle.std.proofs.Common.{◌≡◌, inl, inr, ℕ, ◌+◌, ◌<◌, ◌≤◌, true, List, length, slice_get, Some, refl, sym, ap, ◌∙◌, subst, ⊎_elim, arith}
use mathlib.Core.Logic.{◌⊎◌}
use Rattle.std.specs.BTreeSet.{BTreeSet, Updates}
use Rattle.std.specs.Prelude.{IsTrue}
use Rattle.std.proofs.lemmas.Bool.{cases_lt}
use Rattle.std.proofs.lemmas.List.Elements.{All-weaker}
use Rattle.std.proofs.lemmas.Option.{slice_get_within}
use Rattle.event_json.specs.Events.{Content}
use Rattle.event_json.specs.declared.bodies.Body.{Body}
use Rattle.trace_core.specs.PutIn.{filled}
use Rattle.trace_core.specs.Searches.{IsFound}
use Rattle.trace_core.specs.Sites.{SiteEvents}
use Rattle.trace_core.specs.declared.pairs.Pair.{Pair}
use Rattle.trace_core.proofs.NumberLists.{some_is}
use Rattle.trace_core.proofs.SetMembers.{found-insert}
use Rattle.site_core.specs.ItemSets.{item_cmp}
use Rattle.site_core.proofs.ItemOrder.{item_total, item_exact}
use Rattle.report_core.specs.FirstPlaces.{AreWanted, IsContainerAt, IsWantedStep, StayWanted}
use Rattle.report_core.specs.Leaving.{AreWantedOut, IsWantedItem}
use Rattle.report_core.specs.Sources.{AddsTo}
use Rattle.report_core.specs.TrailEvents.{StandsAt, steps_of}
use Rattle.report_core.specs.declared.outside.OutsideShipment.{OutsideShipment}
use Rattle.report_core.specs.declared.wanted_steps.WantedSteps.{WantedSteps}
use Rattle.report_core.proofs.Additions.{adds_alike, adds_then}

-- a copy of an item is added
pub item_inserted : (old new : BTreeSet (List ℕ)) (item copy : List ℕ) → copy ≡ item → Updates item_cmp old new copy true → AddsTo (IsFound item_cmp old) (IsFound item_cmp new) (λ i. item ≡ i)
item_inserted old new item copy same updates = found-insert item_cmp item_total item_exact old new item (subst (λ k. Updates item_cmp old new k true) same updates)

-- a step's items are added, and shipments where they are one
module _ (old new : WantedSteps) (p q : Pair) (mid : BTreeSet (List ℕ)) (first : AddsTo (IsFound item_cmp old.items) (IsFound item_cmp mid) (λ i. p.item ≡ i))
    (second : AddsTo (IsFound item_cmp mid) (IsFound item_cmp new.items) (λ i. q.item ≡ i)) where
  item_stays : (i : List ℕ) → IsFound item_cmp old.items i → IsFound item_cmp new.items i
  item_stays i found = (second i).1 (inl ((first i).1 (inl found)))

  pub steps_stay : (IsTrue old.ships → IsTrue new.ships) → StayWanted old new
  steps_stay kept x y (from, to, ships) = (item_stays x.item from, item_stays y.item to, λ same. kept (ships same))

  pub step_wanted : (q.item ≡ p.item → IsTrue new.ships) → IsWantedStep new p q
  step_wanted ships = ((second p.item).1 (inl ((first p.item).1 (inr refl))), (second q.item).1 (inr refl), ships)

-- what was wanted before
pub still_wanted : (old new : WantedSteps) → StayWanted old new → (pairs : List Pair) → AreWanted old pairs → AreWanted new pairs
still_wanted old new stay pairs = All-weaker (λ step. IsWantedStep old step.0 step.1) (λ step. IsWantedStep new step.0 step.1) (λ step. stay step.0 step.1) (steps_of pairs)

-- the item of a shipment out of the traced sites is added, and shipments
module _ (old new : WantedSteps) (item : List ℕ) (adds : AddsTo (IsFound item_cmp old.items) (IsFound item_cmp new.items) (λ i. item ≡ i)) (ships : IsTrue new.ships) where
  pub shipment_stays : StayWanted old new
  shipment_stays p q (from, to, was) = ((adds p.item).1 (inl from), (adds q.item).1 (inl to), λ same. ships)

  pub shipment_wanted : IsWantedItem new item
  shipment_wanted = ((adds item).1 (inr refl), ships)

-- a shipment leads to the same item
still_shipped : (old new : WantedSteps) → StayWanted old new → (item : List ℕ) → IsWantedItem old item → IsWantedItem new item
still_shipped old new stay item (found, ships) =
    let p : Pair = record { site = 0; item = item } in
    let (found', again, ships') = stay p p (found, found, λ same. ships) in
    (found', ships' refl)

pub still_out : (old new : WantedSteps) → StayWanted old new → (outside : List OutsideShipment) → AreWantedOut old outside → AreWantedOut new outside
still_out old new stay outside = All-weaker (λ (x : OutsideShipment). IsWantedItem old x.item) (λ (x : OutsideShipment). IsWantedItem new x.item) (λ x. still_shipped old new stay x.item) outside

-- what the events of a site before the place put something into
abbrev pub ContainsBefore : SiteEvents → ℕ → List ℕ → Type 0
ContainsBefore s place i = (n : ℕ) × (n < place) × StandsAt s.events (λ b. filled b ≡ Some i) n

pub container_added : (s : SiteEvents) (start old new : BTreeSet (List ℕ)) (place : ℕ) (e : Content) (body : Body) → slice_get s.events place ≡ Some e → body ≡ e.body
    → AddsTo (IsFound item_cmp start) (IsFound item_cmp old) (ContainsBefore s place) → AddsTo (IsFound item_cmp old) (IsFound item_cmp new) (λ i. filled body ≡ Some i)
    → AddsTo (IsFound item_cmp start) (IsFound item_cmp new) (ContainsBefore s (place + 1))
container_added s start old new place e body stands is before adds =
    adds_alike (IsFound item_cmp start) (IsFound item_cmp new) (λ i. ContainsBefore s place i ⊎ (filled body ≡ Some i)) (ContainsBefore s (place + 1))
    (λ i. (
      λ h. ⊎_elim
          (λ (n, sooner, there). (n, omega (arith, sooner), there))
          (λ fills. (place, omega arith, (e, stands, subst (λ b. filled b ≡ Some i) is fills)))
          h,
      λ (n, sooner, (f, stands', fills)). ⊎_elim
          (λ earlier. inl (n, earlier, (f, stands', fills)))
          (λ past.
          let here : n ≡ place = omega (arith, sooner, past) in
          let one : f ≡ e = some_is f e (sym stands' ∙ ap (slice_get s.events) here ∙ stands) in
          inr (subst (λ b. filled b ≡ Some i) (sym is) (subst (λ (c : Content). filled c.body ≡ Some i) one fills)))
          (cases_lt n place),
    ))
    (adds_then (IsFound item_cmp start) (IsFound item_cmp old) (IsFound item_cmp new) (ContainsBefore s place) (λ i. filled body ≡ Some i) before adds)

pub containers_added : (s : SiteEvents) (start new : BTreeSet (List ℕ)) (place : ℕ) → length s.events ≤ place → AddsTo (IsFound item_cmp start) (IsFound item_cmp new) (ContainsBefore s place)
    → AddsTo (IsFound item_cmp start) (IsFound item_cmp new) (IsContainerAt s)
containers_added s start new place past = adds_alike (IsFound item_cmp start) (IsFound item_cmp new) (ContainsBefore s place) (IsContainerAt s)
    (λ i. (λ (n, sooner, there). (n, there), λ (n, (e, stands, fills)). (n, omega (arith, past, slice_get_within s.events n e stands), (e, stands, fills))))

-- the item that an event puts something into
pub filled_added : (old new : BTreeSet (List ℕ)) (body : Body) (item copy : List ℕ) → filled body ≡ Some item → copy ≡ item → Updates item_cmp old new copy true
    → AddsTo (IsFound item_cmp old) (IsFound item_cmp new) (λ i. filled body ≡ Some i)
filled_added old new body item copy is same updates = adds_alike (IsFound item_cmp old) (IsFound item_cmp new) (λ i. item ≡ i) (λ i. filled body ≡ Some i)
    (λ i. (λ one. is ∙ ap Some one, λ fills. some_is item i (sym is ∙ fills))) (item_inserted old new item copy same updates)
