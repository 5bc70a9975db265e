use Rattle.std.proofs.Common.{◌≡◌, ◌∙◌, ◌<◌, ◌++◌, ◌∷◌, [], ◌-◌, List, get_or, length, sym, ap, subst, arith}
use Rattle.std.proofs.lemmas.List.{get_or_default}
use Rattle.gap_core.specs.declared.gap_items.GapItem.{GapItem}
use Rattle.gap_core.specs.declared.lines.GapLine.{GapLine}
use Rattle.gap_core.proofs.LineSteps.{LinesTo, lines_begin, lines_count, lines_end, lines_go_on, none_item}
use Rattle.gap_core.proofs.lines.lines_of.Goals as goal

pub loop-start-init : goal.loop-start-init
loop-start-init c = subst (λ (ls : List GapLine). LinesTo c.args.items.now none_item ls 0) (sym c.new-lines.ensures.items) (lines_begin c.args.items.now c.requires none_item)

pub loop-start-preserved : goal.loop-start-preserved
loop-start-preserved c =
    let first = c.index-items-start.result in
    let below : c.loop-start.start < length c.args.items.now = omega (arith, c.loop-start-test.true) in
    let is : first ≡ get_or c.args.items.now c.loop-start.start none_item = c.index-items-start.is ∙ get_or_default c.args.items.now c.loop-start.start first none_item below in
    lines_go_on c.args.items.now c.requires none_item c.loop-start.lines.items c.push_line.new.lines.items c.loop-start.start c.end_of_run-end.result c.loop-start.invariant c.end_of_run-end.ensures
    (c.in_ok-push_line.ensures ∙ ap (λ (g : GapItem). c.loop-start.lines.items ++ record { site = g.site; container = g.container; by = g.by; items = c.end_of_run-end.result - c.loop-start.start } ∷ []) is)

pub returns-clause-lines : goal.returns-clause-lines
returns-clause-lines c = lines_end c.args.items.now c.requires none_item c.loop-start.lines.items c.loop-start.start (omega (arith, c.loop-start-test.false)) c.loop-start.invariant

pub returns-clause-items : goal.returns-clause-items
returns-clause-items c = lines_count c.args.items.now c.requires none_item c.loop-start.lines.items c.loop-start.start (omega (arith, c.loop-start-test.false)) c.loop-start.invariant
