use Rattle.std.proofs.Common.{◌∙◌, length, ap, sym, subst}
use Rattle.std.specs.List.{AllZip}
use Rattle.site_threads.specs.Runs.{Ran}
use Rattle.site_threads.proofs.Starting.{written}
use Rattle.site_threads.proofs.Zips.{as_long}
use Rattle.site_threads.proofs.worlds.run_each.Goals as goal

pub returns : goal.returns
returns g c =
    let old = c.args.runs.now in
    let lent = c.as_mut_slice.result.now in
    let new = c.run_all.new.runs in
    let ran = Ran {G = g.row.G.Denot} g.K.SiteKeeper.shown g.K.SiteKeeper.reopens g.G.Gate.gives_up g.K.SiteKeeper.stored c.args.turns in
    let same = c.as_mut_slice.ensures.value in
    let each = c.run_all.ensures in
    let count = as_long ran lent new each in
    subst (AllZip ran old.items) (sym (written new old.items old.len (count ∙ ap length same) old.ok.0)) (subst (λ l. AllZip ran l new) same each)
