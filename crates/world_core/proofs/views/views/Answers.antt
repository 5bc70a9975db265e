use Rattle.std.proofs.Common.{◌+◌, List, length, take, map, refl, sym, ◌∙◌, ap, subst}
use Rattle.std.specs.Option.{option_map}
use Rattle.std.proofs.lemmas.List.{map_push}
use Rattle.std.proofs.lemmas.Option.{slice_get_read}
use Rattle.site_core.specs.Records.{Record}
use Rattle.world_core.specs.Keepers.{AllShow}
use Rattle.world_core.proofs.Showing.{zip_more, zip_before}
use Rattle.world_core.proofs.views.views.Goals as goal

pub returns-in-None-clause-closed : goal.returns-in-None-clause-closed
returns-in-None-clause-closed g c =
    let keepers = c.args.keepers.now in
    let k = c.index-keepers-place.result in (
      (k, slice_get_read keepers (length keepers) c.loop-place.place k refl c.loop-place-test.true c.index-keepers-place.is, sym c.view.ensures ∙ ap (option_map (λ s. s.now)) c.in-None.is),
      λ s x below at. zip_before _ keepers c.loop-place.place _ s x c.loop-place.invariant below at,
    )

pub loop-place-preserved : goal.loop-place-preserved
loop-place-preserved g c =
    let keepers = c.args.keepers.now in
    let i = c.loop-place.place in
    let k = c.index-keepers-place.result in
    let state = c.in-Some.state in
    let shown = sym c.view.ensures ∙ ap (option_map (λ s. s.now)) c.in-Some.is in
    let states = ap (map (λ s. s.now)) c.in_ok-push-in-Some.ensures.items ∙ map_push (λ s. s.now) c.loop-place.states.items state in
    let P : List Record → Type 0 = λ rs. AllShow g.K.SiteKeeper.shown (take (i + 1) keepers) rs in
    subst P (sym states) (zip_more _ keepers i _ k state.now c.loop-place-test.true c.index-keepers-place.is c.loop-place.invariant shown)
