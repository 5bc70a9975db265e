use Rattle.command_line.proofs.Several.{lint_looked}
use Rattle.command_line.proofs.lint_commands.look.Goals as goal

pub returns : goal.returns
returns g c =
    lint_looked g.F.Files.does g.W.Write.contents c.args.asked.now _ _ _ _ c.as_slice-paths.result.now c.lint_documents.result c.as_slice-paths.ensures.value c.lint_documents.ensures.all c.lint_documents.ensures.failed
