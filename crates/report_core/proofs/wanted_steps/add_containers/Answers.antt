use Rattle.std.proofs.Common.{Bor}
use Rattle.trace_core.specs.Chains.{sites_at}
use Rattle.trace_core.specs.Searches.{IsFound}
use Rattle.trace_core.specs.Sites.{SiteEvents}
use Rattle.site_core.specs.ItemSets.{item_cmp}
use Rattle.report_core.specs.FirstPlaces.{IsContainerAt}
use Rattle.report_core.specs.Sources.{ByOne}
use Rattle.report_core.proofs.Additions.{adds_alike, one_more, all_added}
use Rattle.report_core.proofs.SourcesFound.{by_sites}
use Rattle.report_core.proofs.wanted_steps.add_containers.Goals as goal

pub loop-site-preserved : goal.loop-site-preserved
loop-site-preserved c =
    one_more (λ (r : Bor SiteEvents). IsContainerAt r.now) c.args.sites.now c.loop-site.site-index (IsFound item_cmp c.args.items.now) (IsFound item_cmp c.loop-site.items) (IsFound item_cmp c.add_containers_of.new.items)
    c.site-item.result c.loop-site-test.true c.site-item.is c.loop-site.invariant c.in_ok-add_containers_of.ensures

pub returns : goal.returns
returns c =
    adds_alike (IsFound item_cmp c.args.items.now) (IsFound item_cmp c.loop-site.items) (ByOne c.args.sites.now (λ (r : Bor SiteEvents). IsContainerAt r.now)) (ByOne (sites_at c.args.sites.now) IsContainerAt) (by_sites c.args.sites.now IsContainerAt)
    (all_added (λ (r : Bor SiteEvents). IsContainerAt r.now) c.args.sites.now c.loop-site.site-index (IsFound item_cmp c.args.items.now) (IsFound item_cmp c.loop-site.items) c.loop-site-test.false c.loop-site.invariant)
