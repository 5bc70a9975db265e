-- The pairs that a pair comes from, as they are found.
use Rattle.std.proofs.Common.{◌≡◌, ◌≢◌, ◌↔◌, inl, inr, ℕ, List, [], ◌∷◌, ◌++◌, slice_get, Option, Some, None, Bor, refl, sym, ap, ◌∙◌, subst, ⊎_elim}
use mathlib.Core.Logic.{◌⊎◌}
use Rattle.std.specs.BTreeMap.{get}
use Rattle.std.specs.List.{Contains}
use Rattle.std.proofs.lemmas.Option.{slice_get-get_or, slice_get_within, get_or_from_slice_get}
use Rattle.event_json.specs.Events.{Content}
use Rattle.event_json.specs.declared.bodies.Body.{Body}
use Rattle.event_json.specs.declared.bodies.Body.TheVariants.{Make}
use Rattle.trace_core.specs.Chains.{Related, sites_at}
use Rattle.trace_core.specs.Pairs.{AreOneMake, GivesOut, IsSentTo, TakesIn, make_id}
use Rattle.trace_core.specs.Places.{IsPartAt}
use Rattle.trace_core.specs.Relations.{Converse}
use Rattle.trace_core.specs.Sites.{SiteEvents}
use Rattle.trace_core.specs.declared.pairs.Pair.{Pair}
use Rattle.trace_core.proofs.Members.{contains-map}
use Rattle.trace_core.proofs.NumberLists.{some_is, none_is}
use Rattle.trace_core.proofs.SetMembers.{contains-from_map}
use Rattle.site_core.specs.ItemSets.{item_cmp}
use Rattle.report_core.specs.Sources.{AddsToList, AreMakers, ByOne, GoesInto, GoesIntoAt, Index, IsInputAt, SendsTo, or_no_places}
use Rattle.report_core.specs.declared.makers.EventPlace.{EventPlace}
use Rattle.report_core.proofs.Additions.{adds_alike, adds_one}

-- some items at a site
pub at_site : (old new : List Pair) (site : ℕ) (items : List (List ℕ)) → AddsToList old new (ByOne items (λ i q. record { site = site; item = i } ≡ q)) → AddsToList old new (λ q. (q.site ≡ site) × Contains items q.item)
at_site old new site items = adds_alike (Contains old) (Contains new) (ByOne items (λ i q. record { site = site; item = i } ≡ q)) (λ q. (q.site ≡ site) × Contains items q.item)
    (λ q. (
      λ (i, there, same). (ap (λ (p : Pair). p.site) (sym same), subst (Contains items) (ap (λ (p : Pair). p.item) same) there),
      λ (here, there). (q.item, there, λ k. record { site = sym here k; item = q.item }),
    ))

-- one item at a site
pub one_at_site : (old new : List Pair) (site : ℕ) (item copy : List ℕ) → copy ≡ item → new ≡ old ++ (record { site = site; item = copy }) ∷ [] → AddsToList old new (λ q. record { site = site; item = item } ≡ q)
one_at_site old new site item copy same pushed = subst (λ i. AddsToList old new (λ q. record { site = site; item = i } ≡ q)) same (adds_one old new (record { site = site; item = copy }) pushed)

-- the inputs of a transformation
pub inputs_taken : (old new : List Pair) (site : ℕ) (body : Body) (id : Option (List ℕ)) (ins outs items : List (List ℕ)) → body ≡ Make id ins outs → items ≡ ins
    → AddsToList old new (λ q. (q.site ≡ site) × Contains items q.item) → AddsToList old new (λ q. (q.site ≡ site) × TakesIn q.item body)
inputs_taken old new site body id ins outs items is are adds =
    subst (λ (b : Body). AddsToList old new (λ q. (q.site ≡ site) × TakesIn q.item b)) (sym is) (subst (λ xs. AddsToList old new (λ q. (q.site ≡ site) × Contains xs q.item)) are adds)

module _ (s : SiteEvents) (old new : List Pair) where
  -- those of the event at a place
  pub event_taken : (place : ℕ) (e : Content) (site : ℕ) (body : Body) → slice_get s.events place ≡ Some e → site ≡ s.me → body ≡ e.body
      → AddsToList old new (λ q. (q.site ≡ site) × TakesIn q.item body) → AddsToList old new (IsInputAt s place)
  event_taken place e site body stands here is = adds_alike (Contains old) (Contains new) (λ q. (q.site ≡ site) × TakesIn q.item body) (IsInputAt s place)
      (λ q. (
        λ (at, takes). (at ∙ here, e, stands, subst (TakesIn q.item) is takes),
        λ (at, f, stands', takes). (at ∙ sym here, subst (TakesIn q.item) (sym is) (subst (λ (c : Content). TakesIn q.item c.body) (some_is f e (sym stands' ∙ stands)) takes)),
      ))

  -- those of all parts of an id
  pub parts_taken : (place : ℕ) (e : Content) (id : List ℕ) (places : List ℕ) → slice_get s.events place ≡ Some e → make_id e.body ≡ Some id → ((k : ℕ) → Contains places k ↔ IsPartAt s.events id k)
      → AddsToList old new (ByOne places (IsInputAt s)) → AddsToList old new (GoesInto s place)
  parts_taken place e id places stands own exact = adds_alike (Contains old) (Contains new) (ByOne places (IsInputAt s)) (GoesInto s place)
      (λ q. (
        λ (k, there, (site, g, at, takes)).
            let (f, at', has) = (exact k).0 there in
            let part : make_id g.body ≡ Some id = ap (λ (c : Content). make_id c.body) (some_is g f (sym at ∙ at')) ∙ has in
            (site, e, stands, (k, g, slice_get_within s.events k g at, get_or_from_slice_get s.events k g g at, (takes, inr (id, part, own)))),
        λ (site, f, stands', (k, g, below, at, (takes, one))).
            let there : slice_get s.events k ≡ Some g = slice_get-get_or s.events k g below ∙ ap Some at in
            let part : make_id g.body ≡ Some id = has_id g (subst (AreOneMake g) (some_is f e (sym stands' ∙ stands)) one) in
            (k, (exact k).1 (g, there, part), (site, g, there, takes)),
      ))
    where
      has_id : (g : Content) → AreOneMake g e → make_id g.body ≡ Some id
      has_id g one = ⊎_elim
          (λ same. ap (λ (c : Content). make_id c.body) same ∙ own)
          (λ (other, first, second). first ∙ sym second ∙ own)
          one

  -- those of one that has no id, or of another event
  pub alone_taken : (place : ℕ) (e : Content) (site : ℕ) (body : Body) → slice_get s.events place ≡ Some e → site ≡ s.me → body ≡ e.body → make_id body ≡ None
      → AddsToList old new (λ q. (q.site ≡ site) × TakesIn q.item body) → AddsToList old new (GoesInto s place)
  alone_taken place e site body stands here is none = adds_alike (Contains old) (Contains new) (λ q. (q.site ≡ site) × TakesIn q.item body) (GoesInto s place)
      (λ q. (
        λ (at, takes). (at ∙ here, e, stands, (place, e, slice_get_within s.events place e stands, get_or_from_slice_get s.events place e e stands, (subst (TakesIn q.item) is takes, inl refl))),
        λ (at, f, stands', (k, g, below, there, (takes, one))).
            let same : g ≡ e = itself g (subst (AreOneMake g) (some_is f e (sym stands' ∙ stands)) one) in
            (at ∙ sym here, subst (TakesIn q.item) (sym is) (subst (λ (c : Content). TakesIn q.item c.body) same takes)),
      ))
    where
      itself : (g : Content) → AreOneMake g e → g ≡ e
      itself g one = ⊎_elim
          (λ same. same)
          (λ (id, first, second). none_is id (sym none ∙ ap make_id is ∙ second))
          one

  pub none_goes : (place : ℕ) → slice_get s.events place ≡ None → (q : Pair) → GoesInto s place q → ⊥
  none_goes place none q (site, f, stands, any) = none_is f (sym none ∙ stands)

  pub none_input : (place : ℕ) → slice_get s.events place ≡ None → (q : Pair) → IsInputAt s place q → ⊥
  none_input place none q (site, f, stands, takes) = none_is f (sym none ∙ stands)

  -- the site sent the pair's item to the pair's site
  pub sender_added : (p : Pair) (site : ℕ) → site ≡ s.me → (p.site ≢ s.me) → IsSentTo s.events p.item p.site → AddsToList old new (λ q. record { site = site; item = p.item } ≡ q) → AddsToList old new (SendsTo p s)
  sender_added p site me other sent = adds_alike (Contains old) (Contains new) (λ q. record { site = site; item = p.item } ≡ q) (SendsTo p s)
      (λ q. (
        λ same. (sym me ∙ ap (λ (x : Pair). x.site) same, (other, ap (λ (x : Pair). x.item) same, subst (λ i. IsSentTo s.events i p.site) (ap (λ (x : Pair). x.item) same) sent)),
        λ (here, (apart, item, goes)). λ k. record { site = (me ∙ here) k; item = item k },
      ))

pub not_sent : (s : SiteEvents) (p : Pair) → (IsSentTo s.events p.item p.site → ⊥) → (q : Pair) → SendsTo p s q → ⊥
not_sent s p none q (here, (apart, item, goes)) = none (subst (λ i. IsSentTo s.events i p.site) (sym item) goes)

-- the sites that references point to
pub by_sites : {X : Type 0} (refs : List (Bor SiteEvents)) (P : SiteEvents → X → Type 0) (q : X) → ByOne refs (λ (r : Bor SiteEvents). P r.now) q ↔ ByOne (sites_at refs) P q
by_sites refs P q = (
  λ (r, there, p). (r.now, contains-map (λ (r : Bor SiteEvents). r.now) refs r there, p),
  λ (s, there, p). let (r, at, is) = contains-from_map (λ (r : Bor SiteEvents). r.now) refs s there in (r, at, subst (λ t. P t q) (sym is) p),
)

-- what a pair comes from: what was sent, and what was made
pub come_from : (sites : List SiteEvents) (index : Index) → AreMakers index sites → (p q : Pair)
    → (ByOne sites (SendsTo p) q ⊎ ByOne (or_no_places (get item_cmp index p.item)) (GoesIntoAt sites p.site) q) ↔ Converse (Related sites) p q
come_from sites index makers p q = (
  λ h. ⊎_elim
      (λ (s, (k, below, at), (here, ships)). (k, s, below, at, (here, inl ships)))
      (λ (place, kept, (s, stands, me, (site, f, there, (n, e, below, at, (takes, one))))).
      let (t, stands', (g, there', gives)) = (makers (p.item, place)).0 kept in
      let same : t ≡ s = some_is t s (sym stands' ∙ stands) in
      let made : g ≡ f = some_is g f (sym (subst (λ (u : SiteEvents). slice_get u.events place.event ≡ Some g) same there') ∙ there) in (
        place.site,
        s,
        slice_get_within sites place.site s stands,
        get_or_from_slice_get sites place.site s s stands,
        (
          sym site,
          inr (
            sym me,
            (
              n,
              e,
              below,
              at,
              (
                takes,
                (
                  place.event,
                  f,
                  slice_get_within s.events place.event f there,
                  get_or_from_slice_get s.events place.event f f there,
                  (
                    one,
                    subst (λ (c : Content). GivesOut p.item c.body) made gives,
                  ),
                ),
              ),
            ),
          ),
        ),
      ))
      h,
  λ (k, s, below, at, (here, related)). ⊎_elim
      (λ ships. inl (s, (k, below, at), (here, ships)))
      (λ (me, (n, e, below', at', (takes, (m, f, below'', at'', (one, gives))))).
      let place : EventPlace = record { site = k; event = m } in
      let stands : slice_get sites k ≡ Some s = slice_get-get_or sites k s below ∙ ap Some at in
      let there : slice_get s.events m ≡ Some f = slice_get-get_or s.events m f below'' ∙ ap Some at'' in
      inr (place, (makers (p.item, place)).1 (s, stands, (f, there, gives)), (s, stands, sym me, (sym here, f, there, (n, e, below', at', (takes, one))))))
      related,
)
