use Rattle.std.proofs.Common.{List, true, sym, subst, arith}
use Rattle.gap_core.specs.WideReach.{FollowsOne}
use Rattle.gap_core.specs.declared.missed_steps.MissedStep.{MissedStep}
use Rattle.gap_core.proofs.WideSearch.{Following, followed_on, following_ends, left_on}
use Rattle.gap_core.proofs.wide_reach.follow.Goals as goal

pub loop-step-preserved-then-branch : goal.loop-step-preserved-then-branch
loop-step-preserved-then-branch c =
    let (found, same, pushed) = subst (FollowsOne c.args.reached.now c.in-Some.step c.loop-step.left.items c.loop-step.roots.items c.follow_one.new.left.items c.follow_one.new.roots.items) c.if-branch.true c.in_ok-follow_one.ensures in
    subst (λ (ms : List MissedStep). Following c.args.reached.now c.args.steps.now.items c.args.roots.now.items c.pop.new.self.items ms c.follow_one.new.roots.items true) (sym same)
    (followed_on c.args.reached.now c.args.steps.now.items c.args.roots.now.items c.loop-step.steps.items c.pop.new.self.items c.loop-step.left.items c.loop-step.roots.items c.loop-step.more c.in-Some.step c.in-Some.ensures.items
    c.loop-step.invariant c.follow_one.new.roots.items found pushed)

pub loop-step-preserved : goal.loop-step-preserved
loop-step-preserved c =
    let (unfound, pushed, same) = subst (FollowsOne c.args.reached.now c.in-Some.step c.loop-step.left.items c.loop-step.roots.items c.follow_one.new.left.items c.follow_one.new.roots.items) c.if-branch.false c.in_ok-follow_one.ensures in
    left_on c.args.reached.now c.args.steps.now.items c.args.roots.now.items c.loop-step.steps.items c.pop.new.self.items c.loop-step.left.items c.loop-step.roots.items c.loop-step.more c.in-Some.step c.in-Some.ensures.items
    c.loop-step.invariant c.follow_one.new.left.items c.follow_one.new.roots.items unfound pushed same

pub returns : goal.returns
returns c =
    following_ends c.args.reached.now c.args.steps.now.items c.args.roots.now.items c.loop-step.steps.items c.loop-step.left.items c.loop-step.roots.items c.loop-step.more
    (omega (arith, c.in_default.ensures.cases.0, c.loop-step.steps.ok.0)) c.loop-step.invariant
