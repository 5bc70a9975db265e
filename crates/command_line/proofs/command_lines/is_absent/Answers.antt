use Rattle.std.proofs.Common.{sym, ◌∙◌}
use Rattle.clap.specs.Words.{found_of, rows_of}
use Rattle.clap.proofs.WalkLemmas.{first_value-rows}
use Rattle.command_line.proofs.Words.{absent_where, there_where}
use Rattle.command_line.proofs.command_lines.is_absent.Goals as goal

pub returns-in-Some : goal.returns-in-Some
returns-in-Some c =
    let found = found_of c.args.given.now in
    there_where (rows_of found) c.args.name.now _ (sym (c.in-Some.ensures ∙ first_value-rows found c.args.name.now))

pub returns-in-None : goal.returns-in-None
returns-in-None c =
    let found = found_of c.args.given.now in
    absent_where (rows_of found) c.args.name.now (sym (c.in-None.ensures ∙ first_value-rows found c.args.name.now))
