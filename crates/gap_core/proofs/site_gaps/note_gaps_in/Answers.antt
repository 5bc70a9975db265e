use Rattle.std.proofs.Common.{◌∙◌, Some, sym, ap, arith}
use Rattle.std.specs.Borrow.{Bor}
use Rattle.trace_core.specs.Sites.{SiteEvents}
use Rattle.trace_core.proofs.Visiting.{site_stands}
use Rattle.gap_core.proofs.site_gaps.note_gaps_in.Goals as goal

pub note_own_gaps-requires-clause-stands : goal.note_own_gaps-requires-clause-stands
note_own_gaps-requires-clause-stands c =
    site_stands c.args.sites.now c.args.at c.index-sites-at.result (omega (arith, c.requires.at)) ∙ ap (λ (r : Bor SiteEvents). Some r.now) (sym c.index-sites-at.is)
