use Rattle.std.proofs.Common.{rules, Some, subst}
use Rattle.std.specs.BTreeMap.{Updates}
use Rattle.std.proofs.lemmas.Result.{on_ok_weaker, on_err_weaker}
use Rattle.trace_core.specs.Found.{batch_cmp}
use Rattle.trace_core.proofs.FoundSteps.{batch_of, batch_marked, batch_begun, batch_same}
use Rattle.trace_core.proofs.nodes.mark_node.Goals as goal

pub returns-in-Some-clause-marked : goal.returns-in-Some-clause-marked
returns-in-Some-clause-marked c = on_ok_weaker c.mark.result
    (λ marked. batch_marked c.args.marks.now (c.get_mut.follows.lender c.mark.new.self) (record { site = c.args.site; item = c.args.item; at = c.args.at }) c.in-Some.own.now c.mark.new.self ((c.get_mut.follows.holds c.mark.new.self).3 (search rules)) c.in-Some.ensures.value marked)
    c.mark.ensures.marked

pub returns-in-Some-clause-err : goal.returns-in-Some-clause-err
returns-in-Some-clause-err c = on_err_weaker c.mark.result
    (λ same. batch_same c.args.marks.now (c.get_mut.follows.lender c.mark.new.self) (record { site = c.args.site; item = c.args.item; at = c.args.at }) c.in-Some.own.now c.mark.new.self ((c.get_mut.follows.holds c.mark.new.self).3 (search rules)) c.in-Some.ensures.value same)
    c.mark.ensures.err

pub returns-clause-marked : goal.returns-clause-marked
returns-clause-marked c = batch_begun c.args.marks.now c.insert.new.self (record { site = c.args.site; item = c.args.item; at = c.args.at }) c.new-own.result c.mark-2.new.self
    (subst (λ old. Updates batch_cmp old c.insert.new.self (batch_of (record { site = c.args.site; item = c.args.item; at = c.args.at })) (Some c.mark-2.new.self)) c.get_mut.follows.holds-at-none c.in_ok-insert.ensures.updates)
    c.in_default.ensures.value c.new-own.ensures c.in_ok-mark.ensures.marked
