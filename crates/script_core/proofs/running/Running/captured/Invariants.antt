use Rattle.std.proofs.Common.{◌≡◌, None, map}
use Rattle.script_core.specs.Tasks.{first_down}
use Rattle.script_core.proofs.UpLemmas.{captured_by}
use Rattle.script_core.proofs.running.Running.captured.Given as goal

-- the events of the sites before it are listed
abbrev pub invariant-loop-number : goal.invariant-loop-number
invariant-loop-number l = first_down l.self ≡ None → map (λ c. c.now) l.captured.items ≡ captured_by l.self.world.sites l.number
