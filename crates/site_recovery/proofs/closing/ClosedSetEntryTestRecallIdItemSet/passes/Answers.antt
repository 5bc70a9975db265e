use Rattle.std.proofs.Common.{◌↔◌, IfOk, IsTrue, subst}
use Rattle.site_core.specs.Shortcuts.{IsClosedSet}
use Rattle.site_recovery.proofs.closing.ClosedSetEntryTestRecallIdItemSet.passes.Goals as goal

pub returns : goal.returns
returns c = subst (λ s. IfOk c.is_closed_set.result (λ b. IsTrue b ↔ IsClosedSet s c.args.items.now)) c.captured.ensures c.is_closed_set.ensures
