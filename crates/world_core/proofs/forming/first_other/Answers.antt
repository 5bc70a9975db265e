use Rattle.std.proofs.Common.{◌<◌, length, map, sym, ◌∙◌, subst, arith}
use Rattle.std.proofs.lemmas.List.{length-map}
use mathlib.Core.Bool.{false≢true}
use Rattle.world_core.specs.Faults.{IsPlacedAmong}
use Rattle.site_core.specs.Records.{IsSound}
use Rattle.world_core.proofs.InPlace.{AreInPlaceTo, all_places, all_sites, first_there, there, one_more, one_world, other_here, wanting}
use Rattle.world_core.proofs.forming.first_other.Goals as goal

pub loop-place-preserved : goal.loop-place-preserved
loop-place-preserved c =
    let states = c.args.states.now in
    let i = c.loop-place.place in
    let at = there (λ s. s.now) states i c.index-states-place.result c.loop-place-test.true c.index-states-place.is in
    record {
      right = one_more (IsPlacedAmong c.sites-sites.result.now) (map (λ s. s.now) states) i c.index-states-place.result.now at c.loop-place.invariant.right (c.is_in_place.ensures.yes.0 c.if-not-is_in_place.false);
      sound = one_more (λ p r. IsSound r) (map (λ s. s.now) states) i c.index-states-place.result.now at c.loop-place.invariant.sound (c.is_in_place.ensures.sound c.if-not-is_in_place.false);
      within = omega (arith, c.is_in_place.ensures.within c.if-not-is_in_place.false);
    }

pub returns-then-not-is_in_place-clause-some : goal.returns-then-not-is_in_place-clause-some
returns-then-not-is_in_place-clause-some c =
    let states = c.args.states.now in
    let i = c.loop-place.place in
    let rs = map (λ s. s.now) states in
    let at = there (λ s. s.now) states i c.index-states-place.result c.loop-place-test.true c.index-states-place.is in
    let right = subst (λ l. AreInPlaceTo l i rs) c.sites-sites.ensures c.loop-place.invariant.right in
    other_here rs c.in-Some.first.now.now c.index-states-place.result.now i (first_there (λ s. s.now) states c.in-Some.first.now (c.in-Some.ensures.value)) at right
    (λ h. false≢true (sym c.if-not-is_in_place.true ∙ c.is_in_place.ensures.yes.1 (subst (λ l. IsPlacedAmong l i c.index-states-place.result.now) (sym c.sites-sites.ensures) h)))

pub returns-then-number-len-clause-some : goal.returns-then-number-len-clause-some
returns-then-number-len-clause-some c =
    let states = c.args.states.now in
    let rs = map (λ s. s.now) states in
    let first = c.in-Some.first.now in
    let at = first_there (λ s. s.now) states first c.in-Some.ensures.value in
    let n = length-map states (λ s. s.now) in
    let to : AreInPlaceTo first.now.sites (length states) rs =
    λ p r below e. subst (λ l. IsPlacedAmong l p r) c.sites-sites.ensures (c.loop-place.invariant.right p r (omega (arith, below, c.loop-place-test.false)) e) in
    wanting rs first.now (length states) at (sym n) to (subst (λ l. length states < length l) c.sites-sites.ensures (omega (arith, c.if-number-len.true, c.len.ensures.count)))

-- once all were seen, they are of one world
pub returns-clause-none : goal.returns-clause-none
returns-clause-none c _ =
    let states = c.args.states.now in
    let n = length-map states (λ s. s.now) in
    one_world states (λ s. s.now) c.in-Some.first.now c.sites-sites.result.now c.in-Some.ensures.value c.sites-sites.ensures
    (omega (arith, n, c.if-number-len.false, c.len.ensures.count, c.loop-place.invariant.within, c.loop-place-test.false))
    (λ p r below e. c.loop-place.invariant.right p r (omega (arith, below, n, c.loop-place-test.false)) e)

pub returns-clause-all : goal.returns-clause-all
returns-clause-all c _ =
    let states = c.args.states.now in
    let rs = map (λ s. s.now) states in
    let n = length-map states (λ s. s.now) in
    all_sites rs
    (one_world states (λ s. s.now) c.in-Some.first.now c.sites-sites.result.now c.in-Some.ensures.value c.sites-sites.ensures
    (omega (arith, n, c.if-number-len.false, c.len.ensures.count, c.loop-place.invariant.within, c.loop-place-test.false))
    (λ p r below e. c.loop-place.invariant.right p r (omega (arith, below, n, c.loop-place-test.false)) e))
    (all_places (λ p r. IsSound r) rs c.loop-place.place (omega (arith, n, c.loop-place-test.false)) c.loop-place.invariant.sound)
