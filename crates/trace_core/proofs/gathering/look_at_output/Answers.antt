use Rattle.std.proofs.Common.{◌==◌, ◌&&◌, ◌||◌, ℕ, List, ap, ◌∙◌}
use Rattle.trace_core.specs.Gathering.{is_in}
use Rattle.trace_core.specs.PairTests.{same_item}
use Rattle.trace_core.proofs.GatheringSteps.{is_in-insert}
use Rattle.trace_core.proofs.gathering.look_at_output.Goals as goal

pub returns-clause-added : goal.returns-clause-added
returns-clause-added c p = is_in-insert c.args.pairs.now c.insert.new.self (record { site = c.args.me; item = c.in_ok-copy.field-0 }) c.in_ok-insert.ensures.updates p
    ∙ ap (λ (z : List ℕ). is_in c.args.pairs.now p || (p.site == c.args.me && same_item z p.item)) c.in_ok-copy.ensures
