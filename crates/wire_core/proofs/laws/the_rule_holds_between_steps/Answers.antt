use Rattle.wire_core.proofs.Between.{rule_holds_between}
use Rattle.wire_core.proofs.laws.the_rule_holds_between_steps.Goals as goal

pub returns : goal.returns
returns c = rule_holds_between
