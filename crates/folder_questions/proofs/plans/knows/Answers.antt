use mathlib.Core.Bool.{false≢true}
use Rattle.report_core.proofs.KnownItems.{none_known}
use Rattle.site_recovery.specs.Checking.{world_at}
use Rattle.folder_questions.proofs.plans.knows.Goals as goal

pub returns-in-None : goal.returns-in-None
returns-in-None c = (λ t. absurd (false≢true t), λ known. absurd (none_known (world_at c.args.records.now) c.args.site c.args.item.now c.in-None.ensures known))
