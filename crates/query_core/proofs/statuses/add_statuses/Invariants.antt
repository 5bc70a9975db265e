use Rattle.std.proofs.Common.{◌≡◌, ◌++◌, ℕ, map}
use Rattle.scholten_core.specs.declared.own_recalls.Own.{Own}
use Rattle.site_recovery.specs.Checking.{records_at}
use Rattle.query_core.specs.BySite.{status_of, statuses_by}
use Rattle.query_core.proofs.statuses.add_statuses.Given as goal

-- those so far and those of the rest are all of them
abbrev pub invariant-loop-number : goal.invariant-loop-number
invariant-loop-number l =
    l.statuses.items ++ map (λ (e : ℕ × Own). status_of (records_at l.sites) (record { site = l.site; number = e.0 }) e.1) l.number-iterator
    ≡ l.fn.statuses.items ++ statuses_by (records_at l.sites) l.state
