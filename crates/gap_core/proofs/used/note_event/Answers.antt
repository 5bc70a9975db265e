use Rattle.std.proofs.Common.{◌∙◌, Some, sym, ap, arith}
use Rattle.std.specs.Borrow.{Bor}
use Rattle.std.proofs.lemmas.Result.{on_ok_weaker}
use Rattle.trace_core.specs.Chains.{sites_at}
use Rattle.trace_core.specs.Sites.{SiteEvents}
use Rattle.trace_core.proofs.Visiting.{site_stands}
use Rattle.gap_core.proofs.UsedSteps.{first_used, no_part, not_first, part_is}
use Rattle.gap_core.proofs.used.note_event.Goals as goal

pub returns-then-first-place : goal.returns-then-first-place
returns-then-first-place c =
    let own = c.index-sites-at.result in
    let so = site_stands c.args.sites.now c.args.at own (omega (arith, c.requires.at)) ∙ ap (λ (r : Bor SiteEvents). Some r.now) (sym c.index-sites-at.is) in
    on_ok_weaker c.note_group.result
    (first_used (sites_at c.args.sites.now) c.args.known.now c.requires.known c.args.at own.now so c.args.place c.args.used.now.items c.note_group.new.used.items
    ((part_is own.now.events c.args.place c.in-Some.first (sym c.in-Some.is ∙ c.first_part.ensures)).1 c.if-first-place.true))
    c.note_group.ensures

pub returns-else-first-place : goal.returns-else-first-place
returns-else-first-place c =
    let own = c.index-sites-at.result in
    let so = site_stands c.args.sites.now c.args.at own (omega (arith, c.requires.at)) ∙ ap (λ (r : Bor SiteEvents). Some r.now) (sym c.index-sites-at.is) in
    not_first (sites_at c.args.sites.now) c.args.known.now c.requires.known c.args.at own.now so c.args.place c.args.used.now.items
    (λ part. c.if-first-place.false ((part_is own.now.events c.args.place c.in-Some.first (sym c.in-Some.is ∙ c.first_part.ensures)).0 part))

pub returns-in-None : goal.returns-in-None
returns-in-None c =
    let own = c.index-sites-at.result in
    let so = site_stands c.args.sites.now c.args.at own (omega (arith, c.requires.at)) ∙ ap (λ (r : Bor SiteEvents). Some r.now) (sym c.index-sites-at.is) in
    not_first (sites_at c.args.sites.now) c.args.known.now c.requires.known c.args.at own.now so c.args.place c.args.used.now.items
    (no_part own.now.events c.args.place (sym c.in-None.is ∙ c.first_part.ensures))
