use Rattle.clap.specs.Words.{found_of}
use Rattle.clap.proofs.WalkLemmas.{first_value-rows}
use Rattle.command_line.proofs.Assembly.{mapped_some}
use Rattle.command_line.proofs.command_lines.argument.Goals as goal

pub returns : goal.returns
returns c = mapped_some (λ s. s.now) c.get_str.result _ _ c.get_str.ensures (first_value-rows (found_of c.args.given.now) c.args.name.now)
