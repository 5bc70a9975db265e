use Rattle.site_core.proofs.Closed.{only_closed}
use Rattle.site_core.proofs.shortcuts.Shortcuts.begun.Goals as goal

pub returns : goal.returns
returns c s q closed = only_closed s q (record { is_closed = c.args.other.now.is_closed; seen = c.new.result }) c.new.ensures.empty closed
