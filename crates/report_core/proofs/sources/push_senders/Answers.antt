use Rattle.std.proofs.Common.{Bor}
use Rattle.std.specs.List.{Contains}
use Rattle.trace_core.specs.Chains.{sites_at}
use Rattle.trace_core.specs.Sites.{SiteEvents}
use Rattle.report_core.specs.Sources.{ByOne, SendsTo}
use Rattle.report_core.proofs.Additions.{adds_alike, one_more, all_added}
use Rattle.report_core.proofs.SourcesFound.{by_sites}
use Rattle.report_core.proofs.sources.push_senders.Goals as goal

pub loop-site-preserved : goal.loop-site-preserved
loop-site-preserved c =
    one_more (λ (r : Bor SiteEvents). SendsTo c.args.pair.now r.now) c.args.sites.now c.loop-site.site-index (Contains c.args.found.now.items) (Contains c.loop-site.found.items) (Contains c.push_sender.new.found.items)
    c.site-item.result c.loop-site-test.true c.site-item.is c.loop-site.invariant c.in_ok-push_sender.ensures

pub returns : goal.returns
returns c =
    let sends = λ (r : Bor SiteEvents). SendsTo c.args.pair.now r.now in
    adds_alike (Contains c.args.found.now.items) (Contains c.loop-site.found.items) (ByOne c.args.sites.now sends) (ByOne (sites_at c.args.sites.now) (SendsTo c.args.pair.now)) (by_sites c.args.sites.now (SendsTo c.args.pair.now))
    (all_added sends c.args.sites.now c.loop-site.site-index (Contains c.args.found.now.items) (Contains c.loop-site.found.items) c.loop-site-test.false c.loop-site.invariant)
