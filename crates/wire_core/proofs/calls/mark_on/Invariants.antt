use Rattle.wire_core.specs.Changes.{marks}
use Rattle.wire_core.proofs.calls.mark_on.Given as goal

abbrev pub ghosts-mark : goal.ghosts-mark
ghosts-mark a = record { site = a.new.now.engagement.me; change = marks a.input.now.value a.new.now }
