use Rattle.std.proofs.Common.{ℕ, ◌<◌, length, sym, ap, ◌∙◌, subst}
use Rattle.std.specs.List.{flat_map}
use Rattle.std.proofs.lemmas.List.{take_all}
use Rattle.site_recovery.specs.Checking.{records_at}
use Rattle.query_core.specs.BySite.{statuses_by}
use Rattle.query_core.specs.Recalls.{AreStatuses}
use Rattle.query_core.proofs.SiteLists.{all_statuses}
use Rattle.query_core.proofs.recalls.recall_statuses.Goals as goal

pub returns : goal.returns
returns c =
    let records = records_at c.args.sites.now in
    let places = λ (s : ℕ) (below : s < length records). (c.requires.all s below).place in
    let all = c.loop-state.invariant ∙ ap (λ refs. flat_map (statuses_by records) (records_at refs)) (take_all c.loop-state.state-index c.args.sites.now c.loop-state-test.false) in
    subst (AreStatuses records) (sym all) (all_statuses records places)
