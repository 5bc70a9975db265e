use Rattle.std.proofs.Common.{List, ap, sym, subst, ◌∙◌}
use Rattle.std.proofs.lemmas.Result.{IfOk-weaker}
use Rattle.site_core.specs.Records.{Record}
use Rattle.site_recovery.specs.Checking.{records_at}
use Rattle.site_recovery.specs.FittingAt.{AreAllSites}
use Rattle.site_folders.specs.Keepers.{AreShown}
use Rattle.site_folders.proofs.CallsInTurn.{are_shown, shown_once, shown_open}
use Rattle.folder_commands.specs.Missing.{AreMissed}
use Rattle.folder_commands.proofs.missing.missed_before.Goals as goal

pub open_records-requires : goal.open_records-requires
open_records-requires g c = shown_open g.K.SiteKeeper.shown c.args.keepers.now c.requires.0 c.requires.1

pub missed_of-requires : goal.missed_of-requires
missed_of-requires g c =
    let shown = g.K.SiteKeeper.shown in
    let keepers = c.args.keepers.now in
    let (rs, shows, all) = c.requires in
    let records = records_at c.in_ok-records.records.items in
    let same = shown_once shown keepers rs records shows (are_shown shown keepers records c.in_ok-records.ensures) in
    subst AreAllSites (same ∙ ap records_at (sym c.as_slice.ensures.value)) all

pub returns : goal.returns
returns g c =
    let shown = g.K.SiteKeeper.shown in
    let keepers = c.args.keepers.now in
    let records = records_at c.in_ok-records.records.items in
    let shows = are_shown shown keepers records c.in_ok-records.ensures in
    IfOk-weaker c.missed_of.result
    (λ missed. AreMissed (records_at c.as_slice.result.now) missed.items)
    (λ missed. (rs : List Record) → AreShown shown keepers rs → AreMissed rs missed.items)
    (λ missed are rs shown_too. subst (λ xs. AreMissed xs missed.items) (ap records_at c.as_slice.ensures.value ∙ sym (shown_once shown keepers rs records shown_too shows)) are)
    c.missed_of.ensures
