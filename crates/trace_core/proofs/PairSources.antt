-- The events that a related pair comes from.
use Rattle.std.proofs.Common.{◌≡◌, ℕ, List, [], ◌∷◌, Option, Some, refl, sym, ap, ◌∙◌, subst, inl, inr, ⊎_elim}
use Rattle.std.specs.List.{Contains}
use Rattle.event_json.specs.Events.{Content}
use Rattle.event_json.specs.declared.bodies.Action.TheVariants.{Add}
use Rattle.event_json.specs.declared.bodies.Body.{Body}
use Rattle.event_json.specs.declared.bodies.Body.TheVariants.{Note, Ship, Make, Pack}
use Rattle.trace_core.specs.declared.pairs.Pair.{Pair}
use Rattle.trace_core.specs.Laws.{ArePutIn, IsOfOneMake, IsOfTwoMakes, RelatedPairsComeFromEvents}
use Rattle.trace_core.specs.Pairs.{Ships, Packs, TakesIn, GivesOut, make_id, Carries}
use Rattle.trace_core.specs.Relations.{IsChain}
use Rattle.trace_core.specs.Sites.{SiteEvents}

shipment : (item : List ℕ) (site : ℕ) (body : Body) → Ships item site body
    → (items : List (List ℕ)) × (sites : List ℕ) × (outside : List (List ℕ)) × (body ≡ Ship items sites outside) × Contains items item × Contains sites site
shipment item site (Note items) h = absurd h
shipment item site (Ship items sites outside) h = (items, sites, outside, refl, h.0, h.1)
shipment item site (Make id ins outs) h = absurd h
shipment item site (Pack action parent children) h = absurd h

packing : (p c : List ℕ) (body : Body) → Packs p c body → (children : List (List ℕ)) × (body ≡ Pack Add (Some p) children) × Contains children c
packing p c (Note items) h = absurd h
packing p c (Ship items sites outside) h = absurd h
packing p c (Make id ins outs) h = absurd h
packing p c (Pack action parent children) (add, is, put) = (children, ap (λ a. Pack a parent children) add ∙ ap (λ o. Pack Add o children) is, put)

input : (item : List ℕ) (body : Body) → TakesIn item body → (ins : List (List ℕ)) × (outs : List (List ℕ)) × (body ≡ Make (make_id body) ins outs) × Contains ins item
input item (Note items) h = absurd h
input item (Ship items sites outside) h = absurd h
input item (Make id ins outs) h = (ins, outs, refl, h)
input item (Pack action parent children) h = absurd h

output : (item : List ℕ) (body : Body) → GivesOut item body → (ins : List (List ℕ)) × (outs : List (List ℕ)) × (body ≡ Make (make_id body) ins outs) × Contains outs item
output item (Note items) h = absurd h
output item (Ship items sites outside) h = absurd h
output item (Make id ins outs) h = (ins, outs, refl, h)
output item (Pack action parent children) h = absurd h

both : (i j : List ℕ) (body : Body) → TakesIn i body → GivesOut j body
    → (id : Option (List ℕ)) × (ins : List (List ℕ)) × (outs : List (List ℕ)) × (body ≡ Make id ins outs) × Contains ins i × Contains outs j
both i j (Note items) h k = absurd h
both i j (Ship items sites outside) h k = absurd h
both i j (Make id ins outs) h k = (id, ins, outs, refl, h, k)
both i j (Pack action parent children) h k = absurd h

-- the aggregations that a chain comes from
are_put : (s : SiteEvents) (carrier : List ℕ) (rest : List (List ℕ)) → IsChain (Carries s.events) (carrier ∷ rest) → ArePutIn s carrier rest
are_put s carrier [] chain = tt
are_put s carrier (next ∷ rest) ((k, e, lt, at, packs), chain) =
    let (children, says, put) = packing carrier next e.body packs in
    (record { event = e; children = children; there = (k, lt, at); says = says; listed = put }, are_put s next rest chain)

module _ (s : SiteEvents) (item : List ℕ) (q : Pair) where
  one_make : (e : Content) → Contains s.events e → TakesIn item e.body → GivesOut q.item e.body → q.site ≡ s.me → IsOfOneMake s item q
  one_make e there takes gives here =
      let (id, ins, outs, says, taken, given) = both item q.item e.body takes gives in
      record { event = e; id = id; ins = ins; outs = outs; there = there; says = says; taken = taken; given = given; here = here }

  two_makes : (e f : Content) (id : List ℕ) → Contains s.events e → Contains s.events f → make_id e.body ≡ Some id → make_id f.body ≡ Some id
      → TakesIn item e.body → GivesOut q.item f.body → q.site ≡ s.me → IsOfTwoMakes s item q
  two_makes e f id there there' is is' takes gives here =
      let (ins, outs, says, taken) = input item e.body takes in
      let (ins', outs', says', given) = output q.item f.body gives in
      record {
        taking = e;
        giving = f;
        id = id;
        ins = ins;
        outs = outs;
        ins' = ins';
        outs' = outs';
        takes_there = there;
        gives_there = there';
        takes_says = subst (λ i. e.body ≡ Make i ins outs) is says;
        gives_says = subst (λ i. f.body ≡ Make i ins' outs') is' says';
        taken = taken;
        given = given;
        here = here;
      }

pub related_pairs_come_from_events : RelatedPairsComeFromEvents
related_pairs_come_from_events s item q h = ⊎_elim
    (λ (other, same, (carrier, (k, e, lt, at, ships), (rest, chain, ends))).
    let (items, sites, outside, says, listed, goes) = shipment carrier q.site e.body ships in
    inl (record {
      event = e;
      items = items;
      sites = sites;
      outside = outside;
      there = (k, lt, at);
      says = says;
      carrier = carrier;
      listed = listed;
      chain = rest;
      packed = are_put s carrier rest chain;
      last = ends;
      goes = goes;
      elsewhere = other;
      same = same;
    }))
    (λ (here, (k, e, lt, at, (takes, (l, f, lt', at', (one, gives))))). inr (⊎_elim
    (λ same. inl (one_make s item q e (k, lt, at) takes (subst (λ (x : Content). GivesOut q.item x.body) (sym same) gives) here))
    (λ (id, is, is'). inr (two_makes s item q e f id (k, lt, at) (l, lt', at') is is' takes gives here))
    one))
    h
