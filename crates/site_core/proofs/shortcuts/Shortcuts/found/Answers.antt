use Rattle.site_core.proofs.Closed.{only_closed}
use Rattle.site_core.proofs.shortcuts.Shortcuts.found.Goals as goal

pub returns : goal.returns
returns c = only_closed c.args.captured.now c.args.quarantine.now (record { is_closed = c.is_found_closed.result; seen = c.new.result }) c.new.ensures.empty c.is_found_closed.ensures
