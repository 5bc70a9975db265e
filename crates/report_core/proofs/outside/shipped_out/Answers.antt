use Rattle.std.proofs.Common.{◌≡◌, ◌↔◌, inr, Bor, ℕ, ◌<◌, length, ⊎_elim}
use Rattle.std.specs.List.Sorted.{IsStrictlySortedBy}
use Rattle.site_core.specs.Records.{Record}
use Rattle.site_recovery.specs.Checking.{records_at, world_at}
use Rattle.site_recovery.specs.Looks.{Held}
use Rattle.report_core.specs.Destinations.{outside_cmp}
use Rattle.report_core.specs.Gathering.{IsIn, RecordTells}
use Rattle.report_core.specs.Outside.{AreOutside, IsOutsideOf}
use Rattle.report_core.specs.declared.outside.OutsideShipment.{OutsideShipment}
use Rattle.report_core.proofs.Adding.{one_more, all_added}
use Rattle.report_core.proofs.Outgoing.{told_of_records, told_outside, all_outside, none_in}
use Rattle.report_core.proofs.Results.{if_both}
use Rattle.report_core.proofs.outside.shipped_out.Goals as goal

pub loop-state-preserved : goal.loop-state-preserved
loop-state-preserved c =
    one_more (λ (s : Bor Record). RecordTells c.args.recall s.now) c.args.sites.now c.loop-state.state-index c.state-item.result c.new-found.result c.loop-state.found c.add_of_site.new.found
    c.loop-state-test.true c.state-item.is c.loop-state.invariant c.in_ok-add_of_site.ensures

pub returns : goal.returns
returns c =
    let records = records_at c.args.sites.now in
    let tells = λ (s : Bor Record). RecordTells c.args.recall s.now in
    let found = c.loop-state.found in
    let places = λ (s : ℕ) (below : s < length records). (c.requires.all s below).place in
    let adds = all_added tells c.args.sites.now c.loop-state.state-index c.new-found.result found c.loop-state-test.false c.loop-state.invariant in
    let told : (x : OutsideShipment) → IsIn found x ↔ IsOutsideOf (world_at c.args.sites.now) (λ p. Held (world_at c.args.sites.now) p.site c.args.recall p.item) x = λ x.
    let outside = told_outside c.args.recall records places x in (
      λ at. outside.0 ((told_of_records c.args.recall c.args.sites.now x).0 (⊎_elim (λ was. absurd (none_in c.new-found.result c.new-found.ensures.empty x was)) (λ tells. tells) ((adds x).0 at))),
      λ is. (adds x).1 (inr ((told_of_records c.args.recall c.args.sites.now x).1 (outside.1 is))),
    ) in
    if_both (λ out. out.items ≡ found.keys) (λ out. IsStrictlySortedBy outside_cmp out.items) (λ out. AreOutside (world_at c.args.sites.now) c.args.recall out.items)
    (λ out keys up. all_outside (world_at c.args.sites.now) (λ p. Held (world_at c.args.sites.now) p.site c.args.recall p.item) found out.items keys up told)
    c.keys_in_order.result c.keys_in_order.ensures.keys c.keys_in_order.ensures.ascending
