use Rattle.std.proofs.Common.{◌≡◌, ◌↔◌, inr, ℕ, ◌<◌, length, sym, subst, arith, ⊎_elim, Contains}
use Rattle.std.specs.List.Sorted.{IsStrictlySortedBy}
use Rattle.std.proofs.lemmas.List.{get_or_read, length-map}
use Rattle.trace_core.specs.declared.pairs.Pair.{Pair}
use Rattle.site_core.specs.ItemSets as set
use Rattle.site_recovery.specs.Checking.{records_at, world_at}
use Rattle.site_recovery.proofs.SitesInTurn.{site_of}
use Rattle.report_core.specs.Destinations.{outside_cmp}
use Rattle.report_core.specs.Gathering.{Adds, FirstTell, IsAmong, IsIn}
use Rattle.report_core.specs.Outside.{AreOutsideOf, IsOutsideOf}
use Rattle.report_core.specs.declared.outside.OutsideShipment.{OutsideShipment}
use Rattle.report_core.proofs.ItemsOfSites.{none_first, one_more_site}
use Rattle.report_core.proofs.Outgoing.{told_of_sets, all_outside, none_in}
use Rattle.report_core.proofs.Results.{if_both}
use Rattle.report_core.proofs.outside.shipped_from.Goals as goal

pub loop-place-init : goal.loop-place-init
loop-place-init c = none_first (world_at c.args.sites.now) c.in_ok-sets.sets.items c.new-found.result

pub loop-place-preserved : goal.loop-place-preserved
loop-place-preserved c =
    let refs = c.args.sites.now in
    let sets = c.in_ok-sets.sets.items in
    let place = c.loop-place.place in
    let state = c.index-sites-place.result in
    one_more_site (world_at refs) sets c.new-found.result c.loop-place.found c.add_of_events.new.found place c.index.result.now state.now
    (get_or_read sets place c.index.result.now (omega (arith, c.loop-place-test.true, c.in_ok-sets.ensures.count)) c.index.ensures set.empty)
    (sym (site_of refs place state c.loop-place-test.true (sym c.index-sites-place.is)))
    c.loop-place.invariant c.in_ok-add_of_events.ensures

pub returns : goal.returns
returns c =
    let refs = c.args.sites.now in
    let records = records_at refs in
    let W = world_at refs in
    let sets = c.in_ok-sets.sets.items in
    let pairs = c.args.pairs.now in
    let found = c.loop-place.found in
    let count : length records ≡ length refs = length-map refs (λ r. r.now) in
    let places = λ (s : ℕ) (below : s < length records). (c.requires.all s below).place in
    let among : (p : Pair) → IsAmong sets p ↔ ((p.site < length records) × Contains pairs p) = λ p. subst (λ n. IsAmong sets p ↔ ((p.site < n) × Contains pairs p)) (sym count) (c.in_ok-sets.ensures.exact p) in
    let last : c.loop-place.place ≡ length records = omega (arith, c.loop-place-test.false, c.loop-place.auto.place-end, count) in
    let adds : Adds c.new-found.result found (FirstTell W sets (length records)) = subst (λ n. Adds c.new-found.result found (FirstTell W sets n)) last c.loop-place.invariant in
    let told : (x : OutsideShipment) → IsIn found x ↔ IsOutsideOf W (λ p. Contains pairs p) x = λ x.
    let outside = told_of_sets records places sets pairs among x in (
      λ at. outside.0 (⊎_elim (λ was. absurd (none_in c.new-found.result c.new-found.ensures.empty x was)) (λ tells. tells) ((adds x).0 at)),
      λ is. (adds x).1 (inr (outside.1 is)),
    ) in
    if_both (λ out. out.items ≡ found.keys) (λ out. IsStrictlySortedBy outside_cmp out.items) (λ out. AreOutsideOf W (λ p. Contains pairs p) out.items)
    (λ out keys up. all_outside W (λ p. Contains pairs p) found out.items keys up told)
    c.keys_in_order.result c.keys_in_order.ensures.keys c.keys_in_order.ensures.ascending
