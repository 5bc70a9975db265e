use Rattle.std.proofs.Common.{◌+◌, List, take, sym, ◌∙◌, ap, subst}
use Rattle.std.specs.Option.{option_map}
use Rattle.std.proofs.lemmas.List.{map_push}
use Rattle.site_core.specs.Records.{Record}
use Rattle.site_recovery.specs.Checking.{records_at}
use Rattle.world_core.specs.Keepers.{AllShow}
use Rattle.world_core.proofs.Showing.{zip_more}
use Rattle.site_folders.proofs.folders.open_records.Goals as goal

pub loop-keeper-preserved : goal.loop-keeper-preserved
loop-keeper-preserved g c =
    let keepers = c.args.keepers.now in
    let i = c.loop-keeper.keeper-index in
    let k = c.keeper-item.result in
    let state = c.in-Some.state in
    let shown = sym c.view.ensures ∙ ap (option_map (λ s. s.now)) c.in-Some.is in
    let states = ap records_at c.in_ok-push.ensures.items ∙ map_push (λ s. s.now) c.loop-keeper.records.items state in
    let P : List Record → Type 0 = λ rs. AllShow g.K.SiteKeeper.shown (take (i + 1) keepers) rs in
    subst P (sym states) (zip_more _ keepers i _ k state.now c.loop-keeper-test.true c.keeper-item.is c.loop-keeper.invariant shown)
