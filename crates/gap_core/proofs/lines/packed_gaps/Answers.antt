use Rattle.std.proofs.Common.{List, sym, subst}
use Rattle.std.specs.List.{Contains}
use Rattle.trace_core.specs.Chains.{sites_at}
use Rattle.gap_core.specs.GapLines.{IsGapChild}
use Rattle.gap_core.specs.Lines.{AreGapLines, AreLinesOf}
use Rattle.gap_core.specs.declared.gap_items.GapItem.{GapItem}
use Rattle.gap_core.proofs.LineSteps.{lines_alike}
use Rattle.gap_core.proofs.lines.packed_gaps.Goals as goal

pub returns-clause-lines : goal.returns-clause-lines
returns-clause-lines c =
    let of : AreLinesOf (Contains c.in_ok-items.items.items) c.in_ok-lines.lines.items = subst (λ (xs : List GapItem). AreLinesOf (Contains xs) c.in_ok-lines.lines.items) c.as_slice.ensures.value c.in_ok-lines.ensures.lines in
    subst (AreGapLines (sites_at c.args.sites.now)) (sym c.from_vec.ensures)
    (lines_alike (λ g. IsGapChild (sites_at c.args.sites.now) g.site g.by g.container g.child) c.in_ok-items.items.items c.in_ok-lines.lines.items c.in_ok-items.ensures.exact of)
