use Rattle.std.proofs.Common.{codes, refl, sym, ◌∙◌, inr}
use Rattle.clap.specs.Words.{found_of}
use Rattle.clap.proofs.WalkLemmas.{first_value-rows}
use Rattle.command_line.proofs.command_lines.most_of.Goals as goal

pub returns-in-None : goal.returns-in-None
returns-in-None c = inr (sym (c.in-None.ensures ∙ first_value-rows (found_of c.args.given.now) (codes "max-bytes")), refl)
