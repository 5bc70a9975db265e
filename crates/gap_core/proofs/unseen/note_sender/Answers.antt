use Rattle.std.proofs.Common.{Bor}
use Rattle.std.specs.List.{Contains}
use Rattle.trace_core.specs.Chains.{sites_at}
use Rattle.trace_core.specs.Sites.{SiteEvents}
use Rattle.gap_core.specs.Adding.{ByOne}
use Rattle.gap_core.specs.Unseen.{IsUnseenBetween}
use Rattle.gap_core.proofs.Additions.{adds_alike, all_added, one_more}
use Rattle.gap_core.proofs.Turns.{by_sites}
use Rattle.gap_core.proofs.unseen.note_sender.Goals as goal

pub loop-to-preserved : goal.loop-to-preserved
loop-to-preserved c =
    one_more (λ (r : Bor SiteEvents). IsUnseenBetween c.args.from.now r.now) c.args.sites.now c.loop-to.to-index (Contains c.args.items.now.items) (Contains c.loop-to.items.items) (Contains c.note_between.new.items.items)
    c.to-item.result c.loop-to-test.true c.to-item.is c.loop-to.invariant c.in_ok-note_between.ensures

pub returns : goal.returns
returns c =
    let went = λ (r : Bor SiteEvents). IsUnseenBetween c.args.from.now r.now in
    adds_alike (Contains c.args.items.now.items) (Contains c.loop-to.items.items) (ByOne c.args.sites.now went) (ByOne (sites_at c.args.sites.now) (IsUnseenBetween c.args.from.now)) (by_sites c.args.sites.now (IsUnseenBetween c.args.from.now))
    (all_added went c.args.sites.now c.loop-to.to-index (Contains c.args.items.now.items) (Contains c.loop-to.items.items) c.loop-to-test.false c.loop-to.invariant)
