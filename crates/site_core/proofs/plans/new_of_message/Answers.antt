use Rattle.std.specs.Prelude.{Ok, Err, IfOk}
use Rattle.site_core.specs.Quarantines.{with_items}
use Rattle.site_core.specs.Shortcuts.{TakeHeld}
use Rattle.site_core.proofs.Closed.{held_more}
use Rattle.site_core.proofs.plans.new_of_message.Goals as goal

pub returns-else-is_closed-clause-seen : goal.returns-else-is_closed-clause-seen
returns-else-is_closed-clause-seen c = elim c.newly_held.result as (λ answer. IfOk answer (λ items. TakeHeld c.args.captured.now (with_items c.args.quarantine.now c.args.recall items.items) c.args.recall c.args.seen.now)) [
  | Ok items ↦ held_more c.args.captured.now c.args.quarantine.now c.args.recall c.args.seen.now c.args.recall items.items c.requires.held
  | Err fault ↦ tt
]
