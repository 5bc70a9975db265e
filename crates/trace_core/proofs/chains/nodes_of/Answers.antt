use Rattle.std.proofs.Common.{Some, sym, ap, ◌∙◌, arith}
use Rattle.std.specs.Borrow.{Bor}
use Rattle.trace_core.specs.Chains.{sites_at}
use Rattle.trace_core.specs.Sites.{SiteEvents}
use Rattle.trace_core.proofs.ReachSteps.{node_pushed, node_passed, nodes_begin, nodes_end, known_there}
use Rattle.trace_core.proofs.Visiting.{site_stands, as_many_sites}
use Rattle.trace_core.proofs.chains.nodes_of.Goals as goal
use Rattle.trace_core.proofs.chains.nodes_of.Goals.{in-Some+in_ok-push, in_default}

pub loop-number-init : goal.loop-number-init
loop-number-init c = nodes_begin (sites_at c.args.sites.now) c.args.pair.now c.new-nodes.result.items c.new-nodes.ensures.items

pub loop-number-preserved : goal.loop-number-preserved
loop-number-preserved c =
    let at = site_stands c.args.sites.now c.loop-number.number c.index-sites-number.result (omega (arith, c.loop-number-test.true)) ∙ ap (λ (r : Bor SiteEvents). Some r.now) (sym c.index-sites-number.is) in
    elim c.match-number_of.branch [
      | in-Some+in_ok-push w ↦ λ n. rw w.nodes-is (node_pushed (sites_at c.args.sites.now) c.args.pair.now c.loop-number.nodes.items w.push.new.self.items c.loop-number.number w.in-Some.item c.index-sites-number.result.now at
          (known_there _ c.args.pair.now.item c.book.result.now c.index-sites-number.result.now w.in-Some.ensures c.book.ensures) w.in_ok-push.ensures.items c.loop-number.invariant n)
      | in_default w ↦ λ n. rw w.nodes-is (node_passed (sites_at c.args.sites.now) c.args.pair.now c.loop-number.nodes.items c.loop-number.number c.index-sites-number.result.now at
          (known_there _ c.args.pair.now.item c.book.result.now c.index-sites-number.result.now w.in_default.ensures c.book.ensures) c.loop-number.invariant n)
    ]

pub returns : goal.returns
returns c = nodes_end (sites_at c.args.sites.now) c.args.pair.now c.loop-number.nodes.items c.loop-number.number (as_many_sites c.args.sites.now c.loop-number.number (omega (arith, c.loop-number-test.false))) c.loop-number.invariant
