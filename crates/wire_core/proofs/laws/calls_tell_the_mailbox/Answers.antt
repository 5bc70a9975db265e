use Rattle.wire_core.proofs.CallsTold.{calls_tell}
use Rattle.wire_core.proofs.laws.calls_tell_the_mailbox.Goals as goal

pub returns : goal.returns
returns c = calls_tell
