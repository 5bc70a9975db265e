use Rattle.std.proofs.Common.{◌≡◌, ◌↔◌, List, None, refl, sym, subst, arith}
use mathlib.Core.Logic.{◌⊎◌}
use Rattle.std.specs.List.{Contains}
use Rattle.std.proofs.lemmas.Map.Lookups.{exact_bytes}
use Rattle.event_json.specs.Events.{Content}
use Rattle.trace_core.specs.declared.nodes.Node.{Node}
use Rattle.trace_core.specs.Nodes.{HasItem, IsKnownNode}
use Rattle.trace_core.specs.Numbers.{number_in, numbered}
use Rattle.trace_core.proofs.SpreadSteps.{some_known, spread_exact, looks_spread}
use Rattle.trace_core.proofs.captured.Captured.spread_counted.Goals as goal

-- the starts stand for items at the site
pub closure-requires : goal.closure-requires
closure-requires c n there = some_known c.args.self.now c.args.items.now n ((c.in_ok-starts.ensures n).0 (subst (λ (ns : List Node). Contains ns n) c.deref.ensures.value there))

pub returns-clause-exact : goal.returns-clause-exact
returns-clause-exact c j =
    let all = spread_exact c.args.self.now c.args.items.now c.deref.result.now c.in_ok-nodes.nodes c.in_ok-nodes.nodes
    (λ n. subst (λ (ns : List Node). Contains ns n ↔ IsKnownNode c.args.self.now c.args.items.now n) (sym c.deref.ensures.value) (c.in_ok-starts.ensures n))
    c.in_ok-nodes.ensures.once c.in_ok-nodes.ensures.stand c.in_ok-nodes.ensures.reached refl c.in_ok-found.found.items c.push_items.new.found.items
    (λ i. subst (λ (es : List Content). Contains c.in_ok-found.found.items i ↔ (Contains c.args.items.now i × (number_in (numbered es) i ≡ None))) c.book.ensures (c.in_ok-found.ensures.unknown i))
    (λ i. subst (λ (es : List Content). Contains c.push_items.new.found.items i ↔ (Contains c.in_ok-found.found.items i ⊎ HasItem es c.in_ok-nodes.nodes i)) c.book-2.ensures (c.in_ok-push_items.ensures i)) j in
    let same = c.in_ok-items.ensures.same exact_bytes j in
    (λ h. all.0 (same.0 h), λ h. same.1 (all.1 h))

pub returns-clause-looks : goal.returns-clause-looks
returns-clause-looks c = looks_spread c.args.self.now c.args.items.now c.deref.result.now c.in_ok-nodes.nodes c.in_ok-nodes.nodes
    (λ n. subst (λ (ns : List Node). Contains ns n ↔ IsKnownNode c.args.self.now c.args.items.now n) (sym c.deref.ensures.value) (c.in_ok-starts.ensures n))
    c.in_ok-nodes.ensures.once c.in_ok-nodes.ensures.stand c.in_ok-nodes.ensures.reached refl c.in_ok-found.found.items c.push_items.new.found.items c.in_ok-items.items.items
    c.closure.new.looks c.unknown_items.new.looks
    (λ i there. ((subst (λ (es : List Content). Contains c.in_ok-found.found.items i ↔ (Contains c.args.items.now i × (number_in (numbered es) i ≡ None))) c.book.ensures (c.in_ok-found.ensures.unknown i)).0 there).1)
    (omega (arith, c.in_ok-items.items.ok, c.in_ok-items.items.small)) c.in_ok-items.ensures.ascending
    (λ i there. (subst (λ (es : List Content). Contains c.push_items.new.found.items i ↔ (Contains c.in_ok-found.found.items i ⊎ HasItem es c.in_ok-nodes.nodes i)) c.book-2.ensures (c.in_ok-push_items.ensures i)).0
    ((c.in_ok-items.ensures.same exact_bytes i).0 there))
    (omega (arith, c.in_ok-nodes.ensures.most tt)) (c.in_ok-nodes.ensures.all tt) c.in_ok-found.ensures.least c.in_ok-found.ensures.most
