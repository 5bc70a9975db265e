use Rattle.std.proofs.Common.{◌∙◌, Some, sym, ap, arith}
use Rattle.std.specs.Borrow.{Bor}
use Rattle.trace_core.specs.Chains.{sites_at}
use Rattle.trace_core.specs.Sites.{SiteEvents}
use Rattle.trace_core.proofs.Visiting.{as_many_sites, site_stands}
use Rattle.gap_core.proofs.UnlinkedSteps.{no_packer}
use Rattle.gap_core.proofs.unlinked.note_from.Goals as goal

pub note_packer-requires-clause-at : goal.note_packer-requires-clause-at
note_packer-requires-clause-at c =
    site_stands c.args.sites.now c.args.at c.index-sites-at.result (omega (arith, c.requires.at)) ∙ ap (λ (r : Bor SiteEvents). Some r.now) (sym c.index-sites-at.is)

pub note_packer-requires-clause-from : goal.note_packer-requires-clause-from
note_packer-requires-clause-from c =
    site_stands c.args.sites.now c.args.from c.index-sites-from.result (omega (arith, c.if-from-sites.true)) ∙ ap (λ (r : Bor SiteEvents). Some r.now) (sym c.index-sites-from.is)

pub returns-else-from-sites : goal.returns-else-from-sites
returns-else-from-sites c =
    no_packer (sites_at c.args.sites.now) c.args.at c.args.from c.args.container.now c.args.found.now.items (as_many_sites c.args.sites.now c.args.from (omega (arith, c.if-from-sites.false)))
