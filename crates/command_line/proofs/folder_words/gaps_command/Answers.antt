use Rattle.std.proofs.Common.{codes, refl, sym, ◌∙◌}
use Rattle.clap.specs.Words.{found_of}
use Rattle.clap.proofs.WalkLemmas.{first_value-rows}
use Rattle.command_line.proofs.folder_words.gaps_command.Goals as goal

pub returns-in-Some : goal.returns-in-Some
returns-in-Some c = (refl, c.requires, sym (c.in-Some.ensures ∙ first_value-rows (found_of c.args.given.now) (codes "recall")), c.is_set-coded.ensures)

pub returns-in-None : goal.returns-in-None
returns-in-None c = (refl, c.requires, sym (c.in-None.ensures ∙ first_value-rows (found_of c.args.given.now) (codes "recall")), c.is_set.ensures, c.is_set-coded.ensures)
