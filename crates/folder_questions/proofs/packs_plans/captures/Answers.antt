use Rattle.std.proofs.Common.{◌++◌, ◌∙◌, ℕ, Bor, ap}
use Rattle.std.specs.List.{flat_map}
use Rattle.std.proofs.lemmas.List.{take_all}
use Rattle.recall_outcomes.specs.declared.batches.Task.TheVariants.{Capture}
use Rattle.site_core.specs.Records.{Record}
use Rattle.folder_questions.specs.PacksPlans.{captured_at, texts_at}
use Rattle.folder_questions.specs.Plans.{outlined, outlines}
use Rattle.folder_questions.proofs.PlanLemmas.{flat_more, flat_records}
use Rattle.folder_questions.proofs.packs_plans.captures.Goals as goal

pub loop-state-preserved : goal.loop-state-preserved
loop-state-preserved c =
    let documents = c.args.documents.now in
    flat_more (λ (r : Bor Record). captured_at documents r.now) c.args.records.now c.loop-state.state-index c.state-item.result c.loop-state-test.true c.state-item.is (outlines c.loop-state.plan.items)
    (outlines c.note_captures.new.plan.items) c.loop-state.invariant
    (c.in_ok-note_captures.ensures ∙ ap (λ (s : ℕ). outlines c.loop-state.plan.items ++ outlined s Capture (texts_at s documents)) c.me.ensures.me)

pub returns : goal.returns
returns c =
    let at = λ (r : Bor Record). captured_at c.args.documents.now r.now in
    c.loop-state.invariant ∙ ap (flat_map at) (take_all c.loop-state.state-index c.args.records.now c.loop-state-test.false) ∙ flat_records (captured_at c.args.documents.now) c.args.records.now
