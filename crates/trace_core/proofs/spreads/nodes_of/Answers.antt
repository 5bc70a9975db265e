use Rattle.std.proofs.Common.{subst, ◌↔◌, arith}
use Rattle.std.specs.List.{Contains}
use Rattle.std.proofs.lemmas.List.{take_all}
use Rattle.trace_core.specs.Nodes.{IsKnownNode}
use Rattle.trace_core.proofs.ReachSteps.{known_there}
use Rattle.trace_core.proofs.SpreadSteps.{known_pushed, known_passed}
use Rattle.trace_core.proofs.spreads.nodes_of.Goals as goal
use Rattle.trace_core.proofs.spreads.nodes_of.Goals.{in-Some+in_ok-push, in_default}

pub loop-item-preserved : goal.loop-item-preserved
loop-item-preserved c =
    elim c.match-number_of.branch [
      | in-Some+in_ok-push w ↦ λ n. rw w.nodes-is (known_pushed c.args.site.now c.args.items.now c.loop-item.nodes.items c.loop-item.item-index c.item-item.result (omega arith) c.item-item.is c.loop-item.invariant
          w.push.new.self.items w.me.result w.in-Some.number w.me.ensures (known_there _ c.item-item.result c.book.result.now c.args.site.now w.in-Some.ensures c.book.ensures) w.in_ok-push.ensures.items n)
      | in_default w ↦ λ n. rw w.nodes-is (known_passed c.args.site.now c.args.items.now c.loop-item.nodes.items c.loop-item.item-index c.item-item.result (omega arith) c.item-item.is c.loop-item.invariant
          (known_there _ c.item-item.result c.book.result.now c.args.site.now w.in_default.ensures c.book.ensures) n)
    ]

pub returns : goal.returns
returns c n = subst (λ xs. Contains c.loop-item.nodes.items n ↔ IsKnownNode c.args.site.now xs n) (take_all c.loop-item.item-index c.args.items.now (omega arith)) (c.loop-item.invariant n)
