use Rattle.std.proofs.Common.{◌≡◌, ◌∙◌, Some, sym, ap, arith}
use Rattle.std.specs.Borrow.{Bor}
use Rattle.std.proofs.lemmas.Result.{on_ok_weaker}
use Rattle.trace_core.specs.Chains.{sites_at}
use Rattle.trace_core.specs.Sites.{SiteEvents}
use Rattle.trace_core.proofs.Visiting.{site_stands}
use Rattle.gap_core.proofs.Notings.{noted_alone}
use Rattle.gap_core.proofs.UsedSteps.{container_left}
use Rattle.gap_core.proofs.used.note_left.Goals as goal

pub returns : goal.returns
returns c =
    let own = c.index-sites-at-2.result in
    let so = site_stands c.args.sites.now c.args.at own (omega (arith, c.requires.at)) ∙ ap (λ (r : Bor SiteEvents). Some r.now) (sym c.index-sites-at-2.is) in
    on_ok_weaker c.note_untaken.result
    (container_left (sites_at c.args.sites.now) c.args.known.now c.requires.known c.args.at own.now so c.me.result c.args.container.now c.args.inputs.now c.note.new.self c.in_ok-inside.inside c.args.used.now.items c.note_untaken.new.used.items
    c.me.ensures (noted_alone (λ i. c.args.container.now ≡ i) c.new-starts.result c.note.new.self c.new-starts.ensures c.in_ok-note.ensures) c.in_ok-inside.ensures)
    c.note_untaken.ensures
