use Rattle.site_core.proofs.WaysFix.{opens_fixes, message_fixes, row_fixes, count_is_fixed}
use Rattle.site_core.proofs.step_laws.ways_fix_what_follows.Goals as goal

pub returns : goal.returns
returns c = record { opens = opens_fixes; takes = message_fixes; clears = row_fixes; count = count_is_fixed }
