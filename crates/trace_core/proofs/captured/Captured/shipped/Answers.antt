use Rattle.std.proofs.Common.{◌≡◌, ◌↔◌, subst}
use Rattle.std.specs.List.{Contains}
use Rattle.std.proofs.lemmas.Result.{IfOk-weaker}
use Rattle.trace_core.specs.declared.pairs.Pair.{Pair}
use Rattle.trace_core.specs.Pairs.{IsShipped}
use Rattle.trace_core.specs.Sites.{SiteEvents}
use Rattle.trace_core.proofs.ShippedPlaces.{shipped_set}
use Rattle.trace_core.proofs.captured.Captured.shipped.Goals as goal

-- the set has the item at each other site that it was sent to
pub returns-clause-exact : goal.returns-clause-exact
returns-clause-exact c = IfOk-weaker c.keys_in_order.result
    (λ pairs. pairs.items ≡ c.gather_at_sites.new.pairs.keys)
    (λ pairs. (p : Pair) → Contains pairs.items p ↔ IsShipped c.args.self.now c.args.item.now p)
    (λ pairs keys p. subst (λ (s : SiteEvents). Contains pairs.items p ↔ IsShipped s c.args.item.now p) c.self.view_is
    (shipped_set (record { me = c.self.inside.me; events = c.self.inside.book }) c.args.item.now c.sites_of-sites.result c.sites_of-sites.ensures c.new-shipped.result c.gather_at_sites.new.pairs pairs.items c.new-shipped.ensures.empty keys c.in_ok-gather_at_sites.ensures p))
    c.keys_in_order.ensures.keys
