use Rattle.std.proofs.Common.{◌≡◌, ap, sym, ◌∙◌}
use Rattle.std.specs.List.{flat_map}
use Rattle.std.proofs.lemmas.Result.{IfOk-weaker}
use Rattle.site_recovery.specs.Checking.{records_at}
use Rattle.site_folders.proofs.CallsInTurn.{are_shown, shown_once, shown_open}
use Rattle.folder_commands.specs.Runs.{HaveTraffic, traffic_of}
use Rattle.folder_commands.proofs.rounds.traffic_of.Goals as goal

pub open_records-requires : goal.open_records-requires
open_records-requires g c = shown_open g.K.SiteKeeper.shown c.args.keepers.now c.requires.0 c.requires.1

pub returns : goal.returns
returns g c =
    let shown = g.K.SiteKeeper.shown in
    let keepers = c.args.keepers.now in
    let records = records_at c.in_ok-records.records.items in
    let shows = are_shown shown keepers records c.in_ok-records.ensures in
    IfOk-weaker c.traffic_in.result
    (λ traffic. traffic.items ≡ flat_map traffic_of (records_at c.as_slice.result.now))
    (λ traffic. HaveTraffic shown keepers traffic.items)
    (λ traffic are rs shown_too. are ∙ ap (λ refs. flat_map traffic_of (records_at refs)) c.as_slice.ensures.value ∙ ap (flat_map traffic_of) (sym (shown_once shown keepers rs records shown_too shows)))
    c.traffic_in.ensures
