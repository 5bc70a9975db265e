use Rattle.std.proofs.Common.{◌≡◌}
use Rattle.script_core.proofs.OpenLemmas.{opened_to, with_standings}
use Rattle.script_core.proofs.running.Running.open_all.Given as goal

-- the sites so far are open
abbrev pub invariant-loop-number : goal.invariant-loop-number
invariant-loop-number l = l.self ≡ with_standings l.initial.self (opened_to l.initial.self.world.sites l.number)
