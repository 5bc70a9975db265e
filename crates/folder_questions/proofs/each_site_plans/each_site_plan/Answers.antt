use Rattle.std.proofs.Common.{List, sym, subst}
use Rattle.site_recovery.specs.Checking.{records_at}
use Rattle.folder_questions.specs.EachSitePlans.{ArePlannedStarts}
use Rattle.folder_questions.specs.Plans.{Outline}
use Rattle.folder_questions.proofs.EachSitePlanLemmas.{planned_starts}
use Rattle.folder_questions.proofs.each_site_plans.each_site_plan.Goals as goal

pub returns : goal.returns
returns c =
    let records = records_at c.args.records.now in
    let known = c.knows.ensures.0 c.if-not-knows.false in (
      known,
      subst (λ (os : List Outline). ArePlannedStarts records c.args.site c.args.item.now os) (sym c.in_ok-plan.ensures) (planned_starts records c.requires.all c.args.site c.args.item.now known),
    )
