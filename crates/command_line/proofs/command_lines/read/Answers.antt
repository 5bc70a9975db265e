use Rattle.std.proofs.Common.{◌≡◌, [], IfSome, ap, ◌∙◌, subst}
use Rattle.std.proofs.lemmas.Result.{IfOk-weaker}
use Rattle.clap.specs.Words.{HasKind, fault_of, is_simple, is_simple_and_free, kind_of, subcommand_of, subcommand_rows_of}
use Rattle.command_line.specs.CommandLines.{faults_of, named, texts_of, AsksNamed}
use Rattle.command_line.proofs.Words.{recall_is_told, recall_is_simple, asks_told, asks_some}
use Rattle.command_line.proofs.command_lines.read.Goals as goal

pub returns-in-Err : goal.returns-in-Err
returns-in-Err c =
    let is = c.in_ok-command.ensures in
    let has = subst (λ app. HasKind (fault_of app (texts_of c.args.words.now)) c.in-Err.error) is (c.in-Err.ensures.kinds (ap is_simple_and_free is ∙ recall_is_told)) in
    IfOk-weaker c.of_error.result _ _ (λ told_as told. asks_told (texts_of c.args.words.now) (kind_of c.in-Err.error) told_as has told) c.of_error.ensures

pub returns-in-Ok : goal.returns-in-Ok
returns-in-Ok c =
    let words = texts_of c.args.words.now in
    let is = c.in_ok-command.ensures in
    let met : subcommand_rows_of c.in-Ok.matches ≡ named words =
    (c.in-Ok.ensures.matches (ap is_simple is ∙ recall_is_simple)).1 ∙ ap (λ app. subcommand_of app words) is in
    let none : faults_of words ≡ [] =
    subst (λ app. fault_of app words ≡ []) is (c.in-Ok.ensures.kinds (ap is_simple_and_free is ∙ recall_is_told)) in
    asks_some words c.named.result c.ok_or.result _ c.ok_or.ensures.value none
    (subst (λ rows. IfSome c.named.result (AsksNamed rows)) met c.named.ensures)
