use Rattle.std.proofs.Common.{◌∙◌, Bor, ap}
use Rattle.std.specs.List.{flat_map}
use Rattle.std.proofs.lemmas.List.{take_all}
use Rattle.site_core.specs.Records.{Record}
use Rattle.folder_questions.specs.EachSitePlans.{started_at}
use Rattle.folder_questions.specs.Plans.{outlines}
use Rattle.folder_questions.proofs.PlanLemmas.{flat_more, flat_records}
use Rattle.folder_questions.proofs.each_site_plans.starts.Goals as goal

pub loop-state-preserved : goal.loop-state-preserved
loop-state-preserved c =
    flat_more (λ (r : Bor Record). started_at c.args.site c.args.item.now r.now) c.args.records.now c.loop-state.state-index c.state-item.result c.loop-state-test.true c.state-item.is (outlines c.loop-state.plan.items)
    (outlines c.note_start.new.plan.items) c.loop-state.invariant c.in_ok-note_start.ensures

pub returns : goal.returns
returns c =
    let at = started_at c.args.site c.args.item.now in
    c.loop-state.invariant ∙ ap (flat_map (λ (r : Bor Record). at r.now)) (take_all c.loop-state.state-index c.args.records.now c.loop-state-test.false) ∙ flat_records at c.args.records.now
