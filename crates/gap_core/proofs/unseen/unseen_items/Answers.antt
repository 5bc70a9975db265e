use Rattle.std.proofs.Common.{◌↔◌, [], Bor}
use Rattle.std.specs.List.{Contains}
use Rattle.std.proofs.lemmas.Map.Lookups.{CmpEqualImpliesEq}
use Rattle.std.proofs.lemmas.Result.{IfOk-weaker}
use Rattle.trace_core.specs.Chains.{sites_at}
use Rattle.trace_core.specs.Sites.{SiteEvents}
use Rattle.gap_core.specs.Adding.{ByOne}
use Rattle.gap_core.specs.Unseen.{IsUnseen, IsUnseenBetween, unseen_item_cmp}
use Rattle.gap_core.specs.declared.unseen.UnseenItem.{UnseenItem}
use Rattle.gap_core.proofs.Additions.{adds_alike, all_added, one_more}
use Rattle.gap_core.proofs.Turns.{by_sites}
use Rattle.gap_core.proofs.UnseenSteps.{all_unseen, unseen_items_exact}
use Rattle.gap_core.proofs.unseen.unseen_items.Goals as goal

pub loop-from-preserved : goal.loop-from-preserved
loop-from-preserved c =
    one_more (λ (r : Bor SiteEvents). ByOne (sites_at c.args.sites.now) (IsUnseenBetween r.now)) c.args.sites.now c.loop-from.from-index (Contains []) (Contains c.loop-from.items.items) (Contains c.note_sender.new.items.items)
    c.from-item.result c.loop-from-test.true c.from-item.is c.loop-from.invariant c.in_ok-note_sender.ensures

pub returns-clause-exact : goal.returns-clause-exact
returns-clause-exact c =
    let sites = sites_at c.args.sites.now in
    let sends : Bor SiteEvents → UnseenItem → Type 0 = λ (r : Bor SiteEvents). ByOne sites (IsUnseenBetween r.now) in
    let all = adds_alike (Contains []) (Contains c.loop-from.items.items) (ByOne c.args.sites.now sends) (ByOne sites (λ s. ByOne sites (IsUnseenBetween s))) (by_sites c.args.sites.now (λ s. ByOne sites (IsUnseenBetween s)))
    (all_added sends c.args.sites.now c.loop-from.from-index (Contains []) (Contains c.loop-from.items.items) c.loop-from-test.false c.loop-from.invariant) in
    IfOk-weaker c.in_order.result
    (λ items. CmpEqualImpliesEq unseen_item_cmp → (u : UnseenItem) → Contains items.items u ↔ Contains c.loop-from.items.items u)
    (λ items. (u : UnseenItem) → Contains items.items u ↔ IsUnseen sites u)
    (λ items same. all_unseen sites c.loop-from.items.items items.items all (same unseen_items_exact))
    c.in_order.ensures.same
