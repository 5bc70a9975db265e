use Rattle.std.proofs.Common.{All, IsSome, map, ap, sym, subst, ◌∙◌}
use Rattle.site_recovery.specs.Checking.{records_at}
use Rattle.world_core.specs.Keepers.{AllShow}
use Rattle.site_folders.specs.Begun.{begun}
use Rattle.folder_commands.specs.Notes.{AreOfSites, EndsSo}
use Rattle.site_folders.proofs.CallsInTurn.{are_shown}
use Rattle.folder_commands.proofs.RunLemmas.{shown_stand}
use Rattle.folder_commands.proofs.runs.tell_run.Goals as goal

pub open_records-requires : goal.open_records-requires
open_records-requires g c =
    let shown = g.K.SiteKeeper.shown in
    subst (λ ks. All (λ (k : g.row.K.Denot). IsSome (shown k)) ks) (sym c.as_slice-keepers.ensures.value) c.requires.open

pub end_of-requires : goal.end_of-requires
end_of-requires g c =
    let before = c.args.before.now in
    let after = c.as_slice-2.ensures.value ∙ (c.in_ok-after.ensures ∙ ap (map g.K.SiteKeeper.failed) c.as_slice-keepers.ensures.value) in
    let lists = c.as_slice-3.ensures.value in
    subst (λ ls. AreOfSites before c.as_slice-2.result.now ls) (sym lists) (subst (λ a. AreOfSites before a c.args.run.now.lists.items) (sym after) c.requires.all)

pub returns-clause-told : goal.returns-clause-told
returns-clause-told g c =
    let shown = g.K.SiteKeeper.shown in
    let keepers = c.args.run.now.keepers.items in
    let records = records_at c.in_ok-records.records.items in
    let shows = subst (λ ks. AllShow shown ks records) c.as_slice-keepers.ensures.value c.in_ok-records.ensures in
    record {
      records = records;
      shows = are_shown shown keepers records shows;
      together = shown_stand shown g.K.SiteKeeper.may keepers records c.requires.fit shows;
      all = c.in_ok-recalls.ensures ∙ ap (λ refs. begun (records_at refs)) c.as_slice.ensures.value;
    }

pub returns-clause-noted : goal.returns-clause-noted
returns-clause-noted g c =
    let failed = g.K.SiteKeeper.failed in
    let before = c.args.before.now in
    let keepers = c.args.run.now.keepers.items in
    let notes = c.in_ok-end.end in
    let recalls = c.in_ok-recalls.recalls.items in
    let after = c.as_slice-2.ensures.value ∙ (c.in_ok-after.ensures ∙ ap (map failed) c.as_slice-keepers.ensures.value) in
    subst (λ ls. EndsSo before (map failed keepers) ls recalls notes) c.as_slice-3.ensures.value
    (subst (λ rs. EndsSo before (map failed keepers) c.as_slice-3.result.now rs notes) c.as_slice-4.ensures.value
    (subst (λ a. EndsSo before a c.as_slice-3.result.now c.as_slice-4.result.now notes) after c.in_ok-end.ensures))
