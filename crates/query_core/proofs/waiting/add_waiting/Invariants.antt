use Rattle.std.proofs.Common.{◌≡◌, ◌++◌, ℕ, map}
use Rattle.std.specs.Prelude.{filter}
use Rattle.frame_core.specs.Identifiers.{same_recall}
use Rattle.frame_core.specs.declared.rows.Row.{Row}
use Rattle.site_recovery.specs.Checking.{world_at}
use Rattle.query_core.specs.BySite.{waiting_as, waiting_from}
use Rattle.query_core.proofs.waiting.add_waiting.Given as goal

-- those so far and those of the rest are all of them
abbrev pub invariant-loop-number : goal.invariant-loop-number
invariant-loop-number l =
    l.waiting.items ++ map (waiting_as (world_at l.sites) l.site) (filter (λ (e : ℕ × Row). same_recall e.1.recall l.recall) l.number-iterator)
    ≡ l.fn.waiting.items ++ waiting_from (world_at l.sites) l.recall l.state
