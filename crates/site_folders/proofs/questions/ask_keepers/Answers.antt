use Rattle.std.proofs.Common.{ap, sym, subst, ◌∙◌}
use Rattle.std.specs.Prelude.{IfOk}
use Rattle.site_recovery.specs.Checking.{records_at}
use Rattle.site_recovery.specs.FittingAt.{AreAllSites}
use Rattle.site_folders.proofs.CallsInTurn.{are_shown, shown_once, shown_open}
use Rattle.site_folders.proofs.questions.ask_keepers.Goals as goal

pub open_records-requires : goal.open_records-requires
open_records-requires g c = shown_open g.K.SiteKeeper.shown c.args.keepers.now c.requires.0 c.requires.1

pub answer-requires : goal.answer-requires
answer-requires g c =
    let shown = g.K.SiteKeeper.shown in
    let keepers = c.args.keepers.now in
    let (rs, shows, all) = c.requires in
    let records = records_at c.in_ok-records.records.items in
    let same = shown_once shown keepers rs records shows (are_shown shown keepers records c.in_ok-records.ensures) in
    record { all = subst AreAllSites (same ∙ ap records_at (sym c.as_slice.ensures.value)) all }

pub returns : goal.returns
returns g c = record {
  answered = λ rs shows.
      let shown = g.K.SiteKeeper.shown in
      let keepers = c.args.keepers.now in
      let records = records_at c.in_ok-records.records.items in
      let same = shown_once shown keepers rs records shows (are_shown shown keepers records c.in_ok-records.ensures) in
      subst (λ xs. IfOk c.answer.result (g.Q.Question.answers c.args.question.now c.args.asked xs)) (ap records_at c.as_slice.ensures.value ∙ sym same) c.answer.ensures.answered;
}
