use Rattle.std.proofs.Common.{◌≡◌, ◌++◌, ℕ, map}
use Rattle.std.specs.Prelude.{filter, not, ◌&&◌}
use Rattle.scholten_core.specs.declared.own_recalls.Own.{Own}
use Rattle.query_core.specs.Stuck.{awaits_none, own_of, stuck_as, stuck_own}
use Rattle.query_core.proofs.stuck.add_own.Given as goal

-- those so far and those of the rest are all of them
abbrev pub invariant-loop-number : goal.invariant-loop-number
invariant-loop-number l =
    l.stuck.items
    ++ map (λ (p : ℕ × Own). stuck_as l.state.engagement (own_of l.state.engagement p.0))
    (filter (λ (p : ℕ × Own). not p.1.ended && awaits_none l.state.engagement (own_of l.state.engagement p.0)) l.number-iterator)
    ≡ l.fn.stuck.items ++ stuck_own l.state.engagement
