use Rattle.std.proofs.Common.{◌≡◌, ℕ, ◌<◌, true}
use Rattle.std.specs.Prelude.{is_some}
use Rattle.script_core.specs.State.{up_in}
use Rattle.script_core.proofs.running.Running.first_down.Given as goal

-- the sites before it are up
abbrev pub invariant-loop-number : goal.invariant-loop-number
invariant-loop-number l = (k : ℕ) → k < l.number → is_some (up_in l.self.world.sites k) ≡ true
