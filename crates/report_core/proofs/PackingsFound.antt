-- By which packings an item came to lie in another one, by a shortest trail to it.
use Rattle.std.proofs.Common.{◌≡◌, ℕ, zero, suc, List, [], ◌∷◌, length, slice_get, Some, None, refl, sym, ap, ◌∙◌, subst, Contains, arith}
use mathlib.Core.Logic.{◌↔◌}
use Rattle.std.specs.BTreeMap.{get}
use Rattle.std.specs.List.{AllZip}
use Rattle.std.proofs.lemmas.Option.{slice_get-get_or, slice_get_within, get_or_from_slice_get}
use Rattle.event_json.specs.Events.{Content}
use Rattle.trace_core.specs.AllFound.{AreAllFound}
use Rattle.trace_core.specs.Pairs.{Carries, Packs}
use Rattle.trace_core.specs.PutIn.{filled}
use Rattle.trace_core.specs.Relations.{Chain, Converse, IsChain, last_of}
use Rattle.trace_core.specs.Trails.{TellsTrailBy}
use Rattle.trace_core.specs.declared.pairs.Pair.{Pair}
use Rattle.trace_core.specs.declared.trails.FoundTrails.{FoundTrails}
use Rattle.trace_core.proofs.ChainLaws.{chain_converse}
use Rattle.trace_core.proofs.NumberLists.{some_is, none_is}
use Rattle.site_core.specs.ItemSets.{item_cmp}
use Rattle.report_core.specs.Containers.{LiesIn}
use Rattle.report_core.specs.FirstPlaces.{IsOneOf, TellsEvent}
use Rattle.report_core.specs.Packings.{AnswersPacking, IsPutInto, TellsPut}
use Rattle.report_core.specs.Sources.{AreOwnPlaces, Index, PutsIn, or_no_places}
use Rattle.report_core.specs.TrailEvents.{ArePackings, IsFirstOrNone, IsFirstPacking, LeadInto, StandsAt, steps_of}
use Rattle.report_core.specs.declared.makers.EventPlace.{EventPlace}
use Rattle.report_core.specs.declared.packing_events.PackingEvent.{PackingEvent}
use Rattle.report_core.specs.declared.trail_events.CapturedEvent.{CapturedEvent}
use Rattle.report_core.proofs.FirstFound.{first_alike}
use Rattle.report_core.proofs.LiesInItems.{all_carriers, fills_packed, lies_in, packs_filled}
use Rattle.report_core.proofs.Zips.{zip_at, zip_beside}

-- the packings along the steps of a trail lead from its first item into its last one
lead_along : (events : List Content) (p : Pair) (rest : List Pair) (told : List PackingEvent) → AllZip (TellsPut events) (steps_of (p ∷ rest)) told → LeadInto events p.item told (last_of p rest).item
lead_along events p [] [] zip = refl
lead_along events p [] (x ∷ told) zip = absurd zip
lead_along events p (q ∷ rest) [] zip = absurd zip
lead_along events p (q ∷ rest) (x ∷ told) ((into, first), zip) = (
  subst (λ i. IsFirstPacking events p.item i x.event) (sym into) first,
  subst (λ i. LeadInto events i told (last_of q rest).item) (sym into) (lead_along events q rest told zip),
)

count_along : (events : List Content) (p : Pair) (rest : List Pair) (told : List PackingEvent) → AllZip (TellsPut events) (steps_of (p ∷ rest)) told → length told ≡ length rest
count_along events p [] [] zip = refl
count_along events p [] (x ∷ told) zip = absurd zip
count_along events p (q ∷ rest) [] zip = absurd zip
count_along events p (q ∷ rest) (x ∷ told) zip = ap suc (count_along events q rest told zip.1)

-- an item lies in itself by no packings
pub no_packings : (events : List Content) (item : List ℕ) → ArePackings events item [] item
no_packings events item = (refl, λ n chain. omega arith)

module _ (events : List Content) (number : ℕ) (packings : Index) (own : AreOwnPlaces PutsIn events number packings) where
  chain_put : (pairs : List Pair) → IsChain (LiesIn events number packings) pairs → IsChain (IsPutInto events) pairs
  chain_put [] chain = tt
  chain_put (p ∷ []) chain = tt
  chain_put (p ∷ q ∷ rest) chain = (((lies_in events number packings own p q).0 chain.0).1, chain_put (q ∷ rest) chain.1)

  up_chain : (site : ℕ) (item carrier : List ℕ) (n : ℕ) → Chain (Converse (Carries events)) item n carrier
      → Chain (LiesIn events number packings) (record { site = site; item = item }) n (record { site = site; item = carrier })
  up_chain site item carrier zero same = (λ k. record { site = site; item = same k })
  up_chain site item carrier (suc n) (i, chain, step) = (
    record { site = site; item = i },
    up_chain site item i n chain,
    (lies_in events number packings own (record { site = site; item = i }) (record { site = site; item = carrier })).1 (refl, step),
  )

  module _ (site : ℕ) (item : List ℕ) (found : FoundTrails) (all : AreAllFound (LiesIn events number packings) (record { site = site; item = item }) found) (k : ℕ) (c : Pair)
      (at : slice_get found.pairs k ≡ Some c) where
    -- each pair that is found has a trail
    pub trail_found : slice_get found.trails k ≡ None → ⊥
    trail_found none =
        let (trail, there, tells) = zip_beside (λ p trail. TellsTrailBy (LiesIn events number packings) (record { site = site; item = item }) p (Some trail)) found.pairs found.trails all.trails k c at in
        none_is trail (sym none ∙ there)

    module _ (trail : List Pair) (there : slice_get found.trails k ≡ Some trail) where
      tells : TellsTrailBy (LiesIn events number packings) (record { site = site; item = item }) c (Some trail)
      tells = zip_at (λ p trail. TellsTrailBy (LiesIn events number packings) (record { site = site; item = item }) p (Some trail)) found.pairs found.trails all.trails k c trail at there

      -- along it each item was put into the next one
      pub trail_put : IsChain (IsPutInto events) trail
      trail_put =
          let ((rest, is, chain, ends), apart, least) = tells in
          subst (IsChain (IsPutInto events)) (sym is) (chain_put (record { site = site; item = item } ∷ rest) chain)

      -- those packings are fewest
      pub packings_lead : (told : List PackingEvent) → AllZip (TellsPut events) (steps_of trail) told → ArePackings events item told c.item
      packings_lead told zip =
          let root : Pair = record { site = site; item = item } in
          let ((rest, is, chain, ends), apart, least) = tells in
          let along : AllZip (TellsPut events) (steps_of (root ∷ rest)) told = subst (λ (ps : List Pair). AllZip (TellsPut events) (steps_of ps) told) is zip in
          let here : c.site ≡ site = ((all_carriers events number packings own site item found all c).0 (k, slice_get_within found.pairs k c at, get_or_from_slice_get found.pairs k c c at)).0 in
          let one : record { site = site; item = c.item } ≡ c = (λ j. record { site = sym here j; item = c.item }) in (
            subst (λ (p : Pair). LeadInto events item told p.item) ends (lead_along events root rest told along),
            λ n down.
                let up : Chain (LiesIn events number packings) root n c = subst (Chain (LiesIn events number packings) root n) one (up_chain site item c.item n (chain_converse (Carries events) item c.item n down)) in
                omega (arith, least n up, ap length is, count_along events root rest told along),
          )

  module _ (inner outer : List ℕ) (places : List EventPlace) (lent : places ≡ or_no_places (get item_cmp packings inner)) where
    one_of_fillings : (n : ℕ) → IsOneOf (λ p. (number ≡ p.site) × StandsAt events (λ b. filled b ≡ Some outer) p.event) places n ↔ StandsAt events (Packs outer inner) n
    one_of_fillings n = (
      λ (p, there, at, (here, (e, stands, fills))).
          let (f, stands', (parent, packs)) = (own inner p here).0 (subst (λ ps. Contains ps p) lent there) in
          let one : f ≡ e = some_is f e (sym stands' ∙ stands) in
          (e, subst (λ k. slice_get events k ≡ Some e) at stands, packs_filled e.body parent inner outer (subst (λ (c : Content). Packs parent inner c.body) one packs) fills),
      λ (e, stands, packs).
          let p : EventPlace = record { site = number; event = n } in
          (p, subst (λ ps. Contains ps p) (sym lent) ((own inner p refl).1 (e, stands, (outer, packs))), refl, (refl, (e, stands, fills_packed e.body outer inner packs))),
    )

    -- where none is found nothing puts it there
    pub no_packing : IsFirstOrNone (IsOneOf (λ p. (number ≡ p.site) × StandsAt events (λ b. filled b ≡ Some outer) p.event) places) None → AnswersPacking events inner outer None
    no_packing none (n, e, below, at, packs) = none n ((one_of_fillings n).1 (e, slice_get-get_or events n e below ∙ ap Some at, packs))

    module _ (n : ℕ) (first : IsFirstOrNone (IsOneOf (λ p. (number ≡ p.site) × StandsAt events (λ b. filled b ≡ Some outer) p.event) places) (Some n)) where
      -- the one that is found has an event
      pub packing_there : TellsEvent events n None → ⊥
      packing_there none = let (e, stands, packs) = (one_of_fillings n).0 first.0 in none_is e (sym none ∙ stands)

      pub packing_found : (x : CapturedEvent) (into : List ℕ) → TellsEvent events n (Some x) → into ≡ outer → AnswersPacking events inner outer (Some (record { into = into; event = x }))
      packing_found x into told same = (
        same,
        (
          n,
          first_alike (IsOneOf (λ p. (number ≡ p.site) × StandsAt events (λ b. filled b ≡ Some outer) p.event) places) (StandsAt events (Packs outer inner)) one_of_fillings n first,
          told,
        ),
      )
