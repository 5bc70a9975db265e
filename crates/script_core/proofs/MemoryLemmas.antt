-- Which lines allocate.
use Rattle.std.proofs.Common.{◌≡◌, ◌≤◌, true, false, cond, length, subst, refl}
use Rattle.std.specs.Prelude.{nat_le}
use Rattle.std.proofs.lemmas.Bool.{leb-true}
use Rattle.recall_text.specs.Requests.{Task}
use Rattle.recall_text.specs.State.{State, gathering, running, World}
use Rattle.script_core.specs.Memory.{DoingTakesMemory, TaskTakesMemory}
use Rattle.script_core.specs.State.{begun, begun_world}

-- a task in the world that it may have begun
pub passing : (s : State) (w : World) (task : Task) → running w ≡ begun s → DoingTakesMemory w task → TaskTakesMemory s task
unfolding begun
passing (gathering sites) w task is takes = elim (nat_le 2 (length sites)) as (λ v. nat_le 2 (length sites) ≡ v → running w ≡ cond v (running (begun_world sites)) (gathering sites) → 2 ≤ length sites) [
  | true ↦ λ e _. leb-true 2 (length sites) e
  | false ↦ λ e same. cc
] refl is
passing (running x) w task is takes = let same : w ≡ x = cc in subst (λ v. DoingTakesMemory v task) same takes
