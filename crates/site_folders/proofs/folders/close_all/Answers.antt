use Rattle.std.proofs.Common.{sym, subst}
use Rattle.std.proofs.lemmas.List.{map_push}
use Rattle.site_folders.specs.Keepers.{closes_all}
use Rattle.site_folders.specs.FileCalls.{Calls, ClosedSite}
use Rattle.site_folders.proofs.CallsInTurn.{call_more}
use Rattle.site_folders.proofs.folders.close_all.Goals as goal

pub loop-keeper-preserved : goal.loop-keeper-preserved
loop-keeper-preserved g c =
    let does = g.F.Files.does in
    let keepers = c.loop-keeper.yielded in
    let keeper = c.in-Some.keeper in
    let old = c.args.files.now in
    let new = c.close_site.new.self in
    subst (λ cs. Calls does old cs new) (sym (map_push (λ k. ClosedSite k) keepers keeper))
    (call_more does old c.loop-keeper.files new (closes_all keepers) (ClosedSite keeper) c.loop-keeper.invariant c.close_site.ensures)
