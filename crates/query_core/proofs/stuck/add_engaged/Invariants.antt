use Rattle.std.proofs.Common.{◌≡◌, ◌++◌, map}
use Rattle.std.specs.Prelude.{filter}
use Rattle.frame_core.specs.Numbers.{Message, Recall}
use Rattle.query_core.specs.Stuck.{awaits_none, stuck_as, stuck_engaged}
use Rattle.query_core.proofs.stuck.add_engaged.Given as goal

-- those so far and those of the rest are all of them
abbrev pub invariant-loop-recall : goal.invariant-loop-recall
invariant-loop-recall l =
    l.stuck.items ++ map (λ (p : Recall × Message). stuck_as l.state.engagement p.0) (filter (λ (p : Recall × Message). awaits_none l.state.engagement p.0) l.recall-iterator)
    ≡ l.fn.stuck.items ++ stuck_engaged l.state.engagement
