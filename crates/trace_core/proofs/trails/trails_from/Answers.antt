use Rattle.std.proofs.Common.{◌≡◌, ◌<◌, ◌↔◌, List, All, Some, length, map, sym, ap, subst, ◌∙◌}
use Rattle.std.specs.List.{AllZip, Contains}
use Rattle.trace_core.specs.declared.pairs.Pair.{Pair}
use Rattle.trace_core.specs.declared.steps.Step.{Step}
use Rattle.trace_core.specs.Pairs.{IsStrictlyAscending}
use Rattle.trace_core.specs.Relations.{Reaches}
use Rattle.trace_core.specs.Trails.{IsPlaceOf, TellsTrailBy, pairs_of, trail_at}
use Rattle.trace_core.proofs.PairOrder.{pairs_exact}
use Rattle.trace_core.proofs.TrailSteps.{listed_reached, reached_listed}
use Rattle.trace_core.proofs.TrailTrees.{places_told, places_within}
use Rattle.trace_core.proofs.trails.trails_from.Goals as goal

-- the pairs are those of the steps
same_pairs : (steps : List Step) (slice : List Step) (copies : List Pair) (ordered : List Pair) → slice ≡ steps → copies ≡ pairs_of slice
    → ((p : Pair) → Contains ordered p ↔ Contains copies p) → (p : Pair) → Contains ordered p ↔ Contains (pairs_of steps) p
same_pairs steps slice copies ordered is are same p =
    subst (λ (ps : List Pair). Contains ordered p ↔ Contains ps p) (are ∙ ap pairs_of is) (same p)

pub places_at-requires : goal.places_at-requires
places_at-requires g c p there =
    (same_pairs c.in_ok-steps.steps c.as_slice.result.now c.in_ok-copies_of_pairs.field-0.items c.in_ok-pairs.pairs.items c.as_slice.ensures c.in_ok-copies_of_pairs.ensures (c.in_ok-pairs.ensures.same pairs_exact) p).0
    (subst (λ (ps : List Pair). Contains ps p) c.as_slice-2.ensures.value there)

pub of-requires-clause-ends : goal.of-requires-clause-ends
of-requires-clause-ends g c =
    subst (λ (steps : List Step). All (λ last. last < length steps) c.in_ok-ends.ends.items) (sym c.into_list.ensures)
    (places_within c.in_ok-steps.steps c.as_slice-2.result.now c.in_ok-ends.ends.items c.in_ok-ends.ensures)

pub returns : goal.returns
returns g c =
    let related = g.R.Adjacency.relates c.args.relation.now in
    let root = c.args.root.now in
    let steps = c.in_ok-steps.steps in
    let pairs = c.in_ok-pairs.pairs.items in
    let places = c.in_ok-ends.ends.items in
    let are : c.of.result ≡ map (trail_at steps) places = c.of.ensures ∙ ap (λ (xs : List Step). map (trail_at xs) places) c.into_list.ensures in
    let found : AllZip (λ p k. IsPlaceOf steps p (Some k)) pairs places = subst (λ (ps : List Pair). AllZip (λ p k. IsPlaceOf steps p (Some k)) ps places) c.as_slice-2.ensures.value c.in_ok-ends.ensures in
    let told = λ (p : Pair) (trail : List Pair). TellsTrailBy related root p (Some trail) in
    record {
      ascending = subst IsStrictlyAscending (sym c.from_vec.ensures) c.in_ok-pairs.ensures.ascending;
      reached = λ p.
          let same = same_pairs steps c.as_slice.result.now c.in_ok-copies_of_pairs.field-0.items pairs c.as_slice.ensures c.in_ok-copies_of_pairs.ensures (c.in_ok-pairs.ensures.same pairs_exact) p in
          subst (λ (ps : List Pair). Contains ps p ↔ Reaches related root p) (sym c.from_vec.ensures)
          (λ there. listed_reached related root steps c.in_ok-steps.ensures p (same.0 there), λ reached. same.1 (reached_listed related root steps c.in_ok-steps.ensures p reached));
      trails = subst (λ (ps : List Pair). AllZip told ps c.of.result) (sym c.from_vec.ensures)
          (subst (AllZip told pairs) (sym are) (places_told related root steps c.in_ok-steps.ensures pairs places found));
    }
