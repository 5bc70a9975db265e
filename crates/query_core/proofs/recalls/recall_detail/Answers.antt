use Rattle.std.proofs.Common.{◌≡◌, ℕ, ◌<◌, length, refl, sym, ap, ◌∙◌, subst}
use Rattle.std.specs.Option.{option_map}
use Rattle.site_recovery.specs.Checking.{records_at, world_at}
use Rattle.query_core.specs.Lists.{AreAllBy}
use Rattle.query_core.specs.BySite.{status_of}
use Rattle.query_core.specs.Recalls.{IsStatus, IsStanding, IsWaiting, standing_cmp, waiting_cmp}
use Rattle.query_core.specs.declared.recalls.RecallStatus.{RecallStatus}
use Rattle.query_core.proofs.SiteLists.{all_standings, all_waiting}
use Rattle.query_core.proofs.recalls.recall_detail.Goals as goal

pub returns-clause-ok : goal.returns-clause-ok
returns-clause-ok c =
    let records = records_at c.args.sites.now in
    let W = world_at c.args.sites.now in
    let recall = c.args.recall in
    let places = λ (s : ℕ) (below : s < length records). (c.requires.all s below).place in
    let status : c.in_ok-status.status ≡ status_of records recall c.in-Some.own.now = c.in_ok-status.ensures in
    record {
      of_recall = ap (λ (s : RecallStatus). s.recall) status;
      status = subst (IsStatus records) (sym status) (record {
        entry = c.in-Some.own.now;
        begun = sym (sym (ap (option_map (λ o. o.now)) c.in-Some.is) ∙ c.own_recall.ensures);
        root = refl;
        ended = refl;
        quarantined = refl;
        waiting = refl;
      });
      sites = subst (AreAllBy standing_cmp (IsStanding W recall)) (sym (c.from_vec.ensures ∙ c.in_ok-standings.ensures)) (all_standings recall records places);
      waiting = subst (AreAllBy waiting_cmp (IsWaiting W recall)) (sym (c.from_vec-2.ensures ∙ c.in_ok-waiting.ensures)) (all_waiting records recall places);
    }
