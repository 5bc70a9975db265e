use Rattle.std.proofs.Common.{ap}
use Rattle.site_core.specs.Records.{Record}
use Rattle.site_recovery.specs.Checking.{world_at}
use Rattle.folder_questions.proofs.MissedLemmas.{nothing_holds}
use Rattle.folder_questions.proofs.missed.holder.Goals as goal

pub returns-in-None : goal.returns-in-None
returns-in-None c = nothing_holds (world_at c.args.records.now c.args.pair.now.site).quarantine c.args.pair.now.item (ap (λ (r : Record). r.quarantine) c.in-None.ensures)
