use Rattle.std.proofs.Common.{List, subst}
use Rattle.std.specs.List.{Contains}
use Rattle.std.proofs.lemmas.Result.{IfOk-weaker}
use Rattle.trace_core.specs.Chains.{sites_at}
use Rattle.gap_core.specs.Lines.{AreLinesOf}
use Rattle.gap_core.specs.Touched.{AreTouchedLines, IsTouchedChild}
use Rattle.gap_core.specs.declared.gap_items.GapItem.{GapItem}
use Rattle.gap_core.proofs.LineSteps.{lines_alike}
use Rattle.gap_core.proofs.touched.gap_lines_with.Goals as goal

pub returns : goal.returns
returns c = IfOk-weaker c.lines_of.result
    (λ lines. AreLinesOf (Contains c.as_slice.result.now) lines.items)
    (λ lines. AreTouchedLines (sites_at c.args.sites.now) c.args.missed.now lines.items)
    (λ lines are. lines_alike (IsTouchedChild (sites_at c.args.sites.now) c.args.missed.now) c.in_ok-items.items.items lines.items c.in_ok-items.ensures.exact
    (subst (λ (xs : List GapItem). AreLinesOf (Contains xs) lines.items) c.as_slice.ensures.value are))
    c.lines_of.ensures.lines
