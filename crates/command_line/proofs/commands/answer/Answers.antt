use Rattle.std.proofs.Common.{rules, refl}
use Rattle.std.proofs.KnownBytes.{Keeps-refl}
use Rattle.command_line.specs.CommandLines.{texts_of}
use Rattle.command_line.proofs.Endings.{ends_batch, ends_files, ends_lint, ends_mistaken, ends_packs, ends_plan, ends_convert}
use Rattle.command_line.proofs.Turns.{has_turns}
use Rattle.command_line.proofs.commands.answer.Goals as goal

pub do_command-came-requires-after_bounds : goal.do_command-came-requires-after_bounds
do_command-came-requires-after_bounds g c κs within =
    has_turns (texts_of c.args.words.now) c.in-Ok-Files.command c.in-Ok-Files.terms (rw c.in-Ok-Files.field-0-is at c.in-Ok-Files.ensures)

pub returns-in-Ok-Mistake : goal.returns-in-Ok-Mistake
returns-in-Ok-Mistake g c =
    ends_mistaken g.F.Files.does g.F.Files.waits g.F.LimitsDocuments.limits g.F.Files.knows g.K.SiteKeeper.shown g.K.SiteKeeper.failed g.K.SiteKeeper.may g.K.SiteKeeper.reopens g.G.Gate.gives_up g.K.SiteKeeper.stored
    g.W.Write.contents
    c.args.words.now _ _ _ _ (rw c.in-Ok-Mistake.field-0-is at c.in-Ok-Mistake.ensures) refl (search rules) (search rules)

pub returns-in-Ok-Files : goal.returns-in-Ok-Files
returns-in-Ok-Files g c =
    ends_files g.F.Files.does g.F.Files.waits g.F.LimitsDocuments.limits g.F.Files.knows g.K.SiteKeeper.shown g.K.SiteKeeper.failed g.K.SiteKeeper.may g.K.SiteKeeper.reopens g.G.Gate.gives_up g.K.SiteKeeper.stored
    g.W.Write.contents
    c.args.words.now _ _ _ _ _ _ _ _ _ _ (rw c.in-Ok-Files.field-0-is at c.in-Ok-Files.ensures) c.wait_for.ensures c.limit_to.ensures c.do_command-came.ensures.led c.do_command-came.ensures.failed (Keeps-refl _)
    c.tell.ensures

pub returns-in-Ok-Batch : goal.returns-in-Ok-Batch
returns-in-Ok-Batch g c =
    ends_batch g.F.Files.does g.F.Files.waits g.F.LimitsDocuments.limits g.F.Files.knows g.K.SiteKeeper.shown g.K.SiteKeeper.failed g.K.SiteKeeper.may g.K.SiteKeeper.reopens g.G.Gate.gives_up g.K.SiteKeeper.stored
    g.W.Write.contents
    c.args.words.now _ _ _ _ _ _ (rw c.in-Ok-Batch.field-0-is at c.in-Ok-Batch.ensures) (search rules) c.take_batch.ensures

pub returns-in-Ok-Lint : goal.returns-in-Ok-Lint
returns-in-Ok-Lint g c =
    ends_lint g.F.Files.does g.F.Files.waits g.F.LimitsDocuments.limits g.F.Files.knows g.K.SiteKeeper.shown g.K.SiteKeeper.failed g.K.SiteKeeper.may g.K.SiteKeeper.reopens g.G.Gate.gives_up g.K.SiteKeeper.stored
    g.W.Write.contents
    c.args.words.now _ _ _ _ _ _ (rw c.in-Ok-Lint.field-0-is at c.in-Ok-Lint.ensures) (search rules) c.lint_files.ensures

pub returns-in-Ok-Packs : goal.returns-in-Ok-Packs
returns-in-Ok-Packs g c =
    ends_packs g.F.Files.does g.F.Files.waits g.F.LimitsDocuments.limits g.F.Files.knows g.K.SiteKeeper.shown g.K.SiteKeeper.failed g.K.SiteKeeper.may g.K.SiteKeeper.reopens g.G.Gate.gives_up g.K.SiteKeeper.stored
    g.W.Write.contents
    c.args.words.now _ _ _ _ _ _ (rw c.in-Ok-Packs.field-0-is at c.in-Ok-Packs.ensures) (search rules) c.pack_files.ensures

pub returns-in-Ok-Plan : goal.returns-in-Ok-Plan
returns-in-Ok-Plan g c =
    ends_plan g.F.Files.does g.F.Files.waits g.F.LimitsDocuments.limits g.F.Files.knows g.K.SiteKeeper.shown g.K.SiteKeeper.failed g.K.SiteKeeper.may g.K.SiteKeeper.reopens g.G.Gate.gives_up g.K.SiteKeeper.stored
    g.W.Write.contents
    c.args.words.now _ _ _ _ _ _ (rw c.in-Ok-Plan.field-0-is at c.in-Ok-Plan.ensures) (search rules) c.do_plan.ensures

pub returns-in-Ok-Convert : goal.returns-in-Ok-Convert
returns-in-Ok-Convert g c =
    ends_convert g.F.Files.does g.F.Files.waits g.F.LimitsDocuments.limits g.F.Files.knows g.K.SiteKeeper.shown g.K.SiteKeeper.failed g.K.SiteKeeper.may g.K.SiteKeeper.reopens g.G.Gate.gives_up g.K.SiteKeeper.stored
    g.W.Write.contents
    c.args.words.now _ _ _ _ _ _ (rw c.in-Ok-Convert.field-0-is at c.in-Ok-Convert.ensures) (search rules) c.convert_files.ensures
