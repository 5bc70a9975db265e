-- The steps of a report's or a trace's trails are of related pairs.
use Rattle.std.proofs.Common.{◌≡◌, ◌<◌, List, [], ◌∷◌, Option, Some, None, length, map, slice_get, sym, ap, ◌∙◌, subst, arith}
use Rattle.std.specs.List.{All, AllZip}
use Rattle.std.proofs.lemmas.List.{get_or-map, length-map}
use Rattle.std.proofs.lemmas.List.Elements.{All-cons, All-map, All-nil}
use Rattle.std.proofs.lemmas.Option.{slice_get-get_or}
use Rattle.trace_core.specs.Chains.{Related}
use Rattle.trace_core.specs.Relations.{IsChain}
use Rattle.trace_core.specs.Sites.{SiteEvents}
use Rattle.trace_core.specs.Trails.{IsTrail, TellsTrailBy}
use Rattle.trace_core.specs.declared.pairs.Pair.{Pair}
use Rattle.site_core.specs.Records.{Record, fresh}
use Rattle.site_recovery.specs.FittingAt.{AreAllSites}
use Rattle.site_recovery.specs.Laws.{captured_of}
use Rattle.site_recovery.specs.Looks.{world_of}
use Rattle.report_core.specs.TrailEvents.{IsRelatedStep, or_no_pairs}

-- what is told so of each of some trails holds of each
each_trail : {X : Type 0} (T : Pair → X → Type 0) (P : X → Type 0) → ((p : Pair) (t : X) → T p t → P t) → (pairs : List Pair) (trails : List X) → AllZip T pairs trails → All P trails
each_trail T P gives [] [] all = All-nil P
each_trail T P gives [] (t ∷ ts) all = absurd all
each_trail T P gives (p ∷ ps) [] all = absurd all
each_trail T P gives (p ∷ ps) (t ∷ ts) all = All-cons P t ts (gives p t all.0) (each_trail T P gives ps ts all.1)

chain_weaker : (R S : Pair → Pair → Type 0) → ((p q : Pair) → R p q → S p q) → (trail : List Pair) → IsChain R trail → IsChain S trail
chain_weaker R S weaker [] chain = tt
chain_weaker R S weaker (x ∷ []) chain = tt
chain_weaker R S weaker (x ∷ y ∷ rest) chain = (weaker x y chain.0, chain_weaker R S weaker (y ∷ rest) chain.1)

trail_chain : (R : Pair → Pair → Type 0) (root target : Pair) (trail : List Pair) → IsTrail R root target trail → IsChain R trail
trail_chain R root target trail (rest, is, chain, ends) = subst (IsChain R) (sym is) chain

module _ (records : List Record) (all : AreAllSites records) where
  -- the site of the first pair stands at its number
  related_step : (p q : Pair) → Related (captured_of records) p q → IsRelatedStep (captured_of records) p q
  related_step p q (k, s, below, at, (me, related)) =
      let within : k < length records = omega (arith, below, length-map records (λ (r : Record). r.captured)) in
      let there : slice_get (captured_of records) k ≡ Some s = slice_get-get_or (captured_of records) k s below ∙ ap Some at in
      let own : (world_of records k).captured ≡ s = sym (get_or-map (λ (r : Record). r.captured) records k (fresh [] k) s within) ∙ at in
      let number : k ≡ p.site = sym (all k within).place.captured ∙ ap (λ (t : SiteEvents). t.me) own ∙ me in
      (s, subst (λ n. slice_get (captured_of records) n ≡ Some s) number there, related)

  related_trail : (root target : Pair) (trail : List Pair) → IsTrail (Related (captured_of records)) root target trail → IsChain (IsRelatedStep (captured_of records)) trail
  related_trail root target trail is = chain_weaker (Related (captured_of records)) (IsRelatedStep (captured_of records)) related_step trail (trail_chain (Related (captured_of records)) root target trail is)

  -- of trails that lead from a pair to each
  pub chains_forward : (root : Pair) (pairs : List Pair) (trails : List (List Pair)) → AllZip (λ p t. TellsTrailBy (Related (captured_of records)) root p (Some t)) pairs trails
      → All (IsChain (IsRelatedStep (captured_of records))) trails
  chains_forward root pairs trails told = each_trail (λ p t. TellsTrailBy (Related (captured_of records)) root p (Some t)) (IsChain (IsRelatedStep (captured_of records))) (λ p t h. related_trail root p t h.0) pairs trails told

  -- of trails that lead from each to a pair
  pub chains_back : (root : Pair) (pairs : List Pair) (trails : List (List Pair)) → AllZip (λ p t. TellsTrailBy (Related (captured_of records)) p root (Some t)) pairs trails
      → All (IsChain (IsRelatedStep (captured_of records))) trails
  chains_back root pairs trails told = each_trail (λ p t. TellsTrailBy (Related (captured_of records)) p root (Some t)) (IsChain (IsRelatedStep (captured_of records))) (λ p t h. related_trail p root t h.0) pairs trails told

  -- of those trails that are there
  there_chain : (root p : Pair) (trail : Option (List Pair)) → TellsTrailBy (Related (captured_of records)) root p trail → IsChain (IsRelatedStep (captured_of records)) (or_no_pairs trail)
  there_chain root p None told = tt
  there_chain root p (Some t) told = related_trail root p t told.0

  pub chains_there : (root : Pair) (pairs : List Pair) (trails : List (Option (List Pair))) → AllZip (TellsTrailBy (Related (captured_of records)) root) pairs trails
      → All (IsChain (IsRelatedStep (captured_of records))) (map or_no_pairs trails)
  chains_there root pairs trails told = All-map (IsChain (IsRelatedStep (captured_of records))) or_no_pairs trails
      (each_trail (TellsTrailBy (Related (captured_of records)) root) (λ t. IsChain (IsRelatedStep (captured_of records)) (or_no_pairs t)) (there_chain root) pairs trails told)
