use Rattle.std.proofs.Common.{rules, ◌≡◌, ◌+◌, true, false, take, ap, ◌∙◌}
use Rattle.std.specs.List.{filter}
use Rattle.std.proofs.lemmas.List.{take_all}
use Rattle.trace_core.specs.Chains.{Related, sites_at}
use Rattle.report_core.specs.Sources.{ByOne}
use Rattle.report_core.proofs.OriginsFound.{is_no_target, none_passes, one_passes, origins_ascend, origins_left}
use Rattle.report_core.proofs.origins.origins_of.Goals.{then-not-contains+in_ok-copy+in_ok-push, else-not-contains}
use Rattle.report_core.proofs.origins.origins_of.Goals as goal

pub loop-pair-preserved : goal.loop-pair-preserved
loop-pair-preserved c =
    let targets = c.in_ok-targets.targets in
    let pairs = c.args.pairs.now in
    let pair = c.pair-item.result in
    elim c.if-not-contains.branch as (λ _. c.if-not-contains.origins.items ≡ filter (is_no_target targets) (take (c.loop-pair.pair-index + 1) pairs)) [
      | then-not-contains+in_ok-copy+in_ok-push w ↦
          let left : is_no_target targets pair ≡ true = search rules in
          ap (λ v. v.items) w.origins-is
          ∙ one_passes (is_no_target targets) pairs c.loop-pair.pair-index pair c.loop-pair-test.true c.pair-item.is c.loop-pair.origins.items c.loop-pair.invariant w.push.new.self.items w.in_ok-copy.field-0 left w.in_ok-copy.ensures w.in_ok-push.ensures.items
      | else-not-contains w ↦
          let among : is_no_target targets pair ≡ false = search rules in
          ap (λ v. v.items) w.origins-is
          ∙ none_passes (is_no_target targets) pairs c.loop-pair.pair-index pair c.loop-pair-test.true c.pair-item.is c.loop-pair.origins.items c.loop-pair.invariant among
    ]

pub returns-clause-ascending : goal.returns-clause-ascending
returns-clause-ascending c = origins_ascend c.in_ok-targets.targets c.args.pairs.now c.loop-pair.origins.items
    (c.loop-pair.invariant ∙ ap (filter (is_no_target c.in_ok-targets.targets)) (take_all c.loop-pair.pair-index c.args.pairs.now c.loop-pair-test.false))

pub returns-clause-exact : goal.returns-clause-exact
returns-clause-exact c = origins_left c.in_ok-targets.targets c.args.pairs.now c.loop-pair.origins.items (ByOne c.args.pairs.now (Related (sites_at c.args.sites.now)))
    (c.loop-pair.invariant ∙ ap (filter (is_no_target c.in_ok-targets.targets)) (take_all c.loop-pair.pair-index c.args.pairs.now c.loop-pair-test.false)) c.in_ok-targets.ensures
