use Rattle.std.proofs.Common.{rules, ◌≡◌, ◌++◌, List, inl, inr, refl, sym, ap, ◌∙◌, subst, append-nil}
use Rattle.std.proofs.lemmas.List.{nil_from_length}
use Rattle.std.specs.Vec.Iter.{into_iter_items}
use Rattle.world_core.specs.KeptSteps.{StandsAfter}
use Rattle.folder_questions.specs.declared.plans.PlannedBatch.{PlannedBatch}
use Rattle.folder_commands.proofs.WordLemmas.{left_more}
use Rattle.command_line.specs.Ends.{TakesMore, TellsPart, progress}
use Rattle.command_line.proofs.Planning.{one_more_part}
use Rattle.command_line.proofs.plan_commands.take_plan.Goals as goal

pub loop-part-init : goal.loop-part-init
loop-part-init g c = (sym c.into_iter-part-iterator.ensures.into_iter_gives.0, refl)

pub loop-part-preserved : goal.loop-part-preserved
loop-part-preserved g c =
    let (left, so_far) = c.loop-part.invariant in (
      left_more (λ (p : PlannedBatch). p) c.args.plan.items c.loop-part.yielded (into_iter_items c.loop-part.part-iterator) _ c.in-Some.part left c.in-Some.ensures.steps.0,
      one_more_part g.F.Files.does g.K.SiteKeeper.shown g.K.SiteKeeper.may g.K.SiteKeeper.stored g.W.Write.contents c.args.asked.now.terms.form c.args.asked.now.folder.now c.args.sites.now
          c.loop-part.yielded c.in-Some.part _ _ _ _ _ _ _ _ so_far c.take_part-status.ensures (search rules) c.worse-worst.ensures,
    )

pub returns-then-status-eq-FAULT : goal.returns-then-status-eq-FAULT
returns-then-status-eq-FAULT g c =
    let (left, so_far) = c.loop-part.invariant in
    let three : c.take_part-status.result ≡ 3 = search rules in
    inr (
      c.loop-part.yielded,
      c.in-Some.part,
      _,
      left ∙ ap (λ (l : List PlannedBatch). c.loop-part.yielded ++ l) c.in-Some.ensures.steps.0,
      progress c.loop-part.files c.loop-part.output c.loop-part.worst,
      so_far,
      subst
          (λ s. TellsPart g.F.Files.does g.K.SiteKeeper.shown g.K.SiteKeeper.may g.K.SiteKeeper.stored g.W.Write.contents c.args.asked.now.terms.form c.args.asked.now.folder.now c.args.sites.now c.in-Some.part c.loop-part.files c.take_part-status.new.files c.loop-part.output c.take_part-status.new.output s)
          three c.take_part-status.ensures,
      refl,
    )

pub returns : goal.returns
returns g c =
    let (left, so_far) = c.loop-part.invariant in
    let rest = c.loop-part.part-iterator.rest in
    let none = nil_from_length rest.items (sym rest.ok.0 ∙ c.in-None.ensures.steps.0) in
    let all = left ∙ ap (λ ds. c.loop-part.yielded ++ ds) none ∙ append-nil c.loop-part.yielded in
    inl
    (subst
    (λ ps. StandsAfter (TakesMore g.F.Files.does g.K.SiteKeeper.shown g.K.SiteKeeper.may g.K.SiteKeeper.stored g.W.Write.contents c.args.asked.now.terms.form c.args.asked.now.folder.now c.args.sites.now) (progress c.args.files.now c.args.output.now 0) ps (progress c.loop-part.files c.loop-part.output c.loop-part.worst))
    (sym all) so_far)
