use Rattle.std.proofs.Common.{◌∙◌, Some, sym, ap, arith}
use Rattle.std.specs.Borrow.{Bor}
use Rattle.std.proofs.lemmas.Result.{on_ok_weaker}
use Rattle.trace_core.specs.Chains.{sites_at}
use Rattle.trace_core.specs.Sites.{SiteEvents}
use Rattle.trace_core.proofs.Visiting.{site_stands}
use Rattle.gap_core.proofs.UsedSteps.{group_used}
use Rattle.gap_core.proofs.used.note_group.Goals as goal

pub returns : goal.returns
returns c =
    let own = c.index-sites-at.result in
    let so = site_stands c.args.sites.now c.args.at own (omega (arith, c.requires.at)) ∙ ap (λ (r : Bor SiteEvents). Some r.now) (sym c.index-sites-at.is) in
    on_ok_weaker c.note_containers.result
    (group_used (sites_at c.args.sites.now) c.args.known.now c.requires.known c.args.at own.now so c.args.place c.in_ok-inputs.inputs c.args.used.now.items c.note_containers.new.used.items c.in_ok-inputs.ensures)
    c.note_containers.ensures
