use Rattle.site_core.proofs.Closed.{only_closed, closed_where_empty}
use Rattle.site_core.proofs.shortcuts.Shortcuts.new.Goals as goal

pub returns : goal.returns
returns c s = only_closed s c.args.quarantine.now (record { is_closed = c.is_empty.result; seen = c.new.result }) c.new.ensures.empty (λ told. closed_where_empty s c.args.quarantine.now (c.is_empty.ensures.0 told))
