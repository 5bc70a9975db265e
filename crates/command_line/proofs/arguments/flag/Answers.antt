use Rattle.std.proofs.Common.{Some, ap, ◌∙◌}
use Rattle.clap.specs.Words.{Rule, rule_of}
use Rattle.clap.specs.declared.builder.action.ArgAction.TheVariants.{SetTrue}
use Rattle.command_line.proofs.arguments.flag.Goals as goal

pub returns-clause-rule : goal.returns-clause-rule
returns-clause-rule c =
    let name = c.args.name.now in
    ap rule_of c.help.ensures ∙ ap rule_of c.action.ensures ∙ ap (λ (r : Rule). record r { action = Some SetTrue }) (ap rule_of c.long.ensures)
    ∙ ap (λ (r : Rule). record r { long = Some name; action = Some SetTrue }) c.new.ensures.rule
