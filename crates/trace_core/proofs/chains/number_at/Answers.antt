use Rattle.std.proofs.Common.{◌≡◌, List, Some, slice_get, sym, ap, ◌∙◌, arith}
use Rattle.std.specs.Borrow.{Bor}
use Rattle.event_json.specs.Events.{Content}
use Rattle.trace_core.specs.Chains.{sites_at}
use Rattle.trace_core.specs.Numbers.{number_in, numbered}
use Rattle.trace_core.specs.Sites.{SiteEvents}
use Rattle.trace_core.proofs.NumberLists.{some_is, none_is}
use Rattle.trace_core.proofs.ReachSteps.{number_of_node}
use Rattle.trace_core.proofs.Visiting.{site_stands}
use Rattle.trace_core.proofs.chains.number_at.Goals as goal

pub returns-then-node-number : goal.returns-then-node-number
returns-then-node-number c p stands s at = number_of_node (sites_at c.args.sites.now) c.args.node.now p s stands (ap (slice_get (sites_at c.args.sites.now)) c.if-node-number.true ∙ at)

pub returns-in_err-item_of : goal.returns-in_err-item_of
returns-in_err-item_of c p stands s at = none_is p.item (((c.in_err-item_of.ensures p).0 stands).0)

pub returns-in_ok-item_of : goal.returns-in_ok-item_of
returns-in_ok-item_of c p stands s at =
    let own : slice_get (sites_at c.args.sites.now) c.args.number ≡ Some c.index-sites-number.result.now = site_stands c.args.sites.now c.args.number c.index-sites-number.result (omega (arith, c.requires)) ∙ ap (λ (r : Bor SiteEvents). Some r.now) (sym c.index-sites-number.is) in
    c.number_of.ensures ∙ ap (λ i. number_in (numbered c.book.result.now) i) (some_is c.in_ok-item_of.field-0.now p.item (((c.in_ok-item_of.ensures p).0 stands).0))
    ∙ ap (λ (es : List Content). number_in (numbered es) p.item) (c.book.ensures ∙ ap (λ (u : SiteEvents). u.events) (some_is c.index-sites-number.result.now s (sym own ∙ at)))
