use Rattle.std.proofs.Common.{◌≡◌, ℕ, List}
use Rattle.std.specs.List.{Contains}
use Rattle.trace_core.specs.declared.pairs.Pair.{Pair}
use Rattle.report_core.proofs.Additions.{one_more, all_added}
use Rattle.report_core.proofs.SourcesFound.{at_site, one_at_site}
use Rattle.report_core.proofs.sources.push_items.Goals as goal

pub loop-item-preserved : goal.loop-item-preserved
loop-item-preserved c =
    one_more (λ (i : List ℕ) (q : Pair). record { site = c.args.site; item = i } ≡ q) c.args.items.now c.loop-item.item-index (Contains c.args.found.now.items) (Contains c.loop-item.found.items) (Contains c.push.new.self.items)
    c.item-item.result c.loop-item-test.true c.item-item.is c.loop-item.invariant
    (one_at_site c.loop-item.found.items c.push.new.self.items c.args.site c.item-item.result c.in_ok-copy.field-0 c.in_ok-copy.ensures c.in_ok-push.ensures.items)

pub returns : goal.returns
returns c = at_site c.args.found.now.items c.loop-item.found.items c.args.site c.args.items.now
    (all_added (λ (i : List ℕ) (q : Pair). record { site = c.args.site; item = i } ≡ q) c.args.items.now c.loop-item.item-index (Contains c.args.found.now.items) (Contains c.loop-item.found.items) c.loop-item-test.false c.loop-item.invariant)
