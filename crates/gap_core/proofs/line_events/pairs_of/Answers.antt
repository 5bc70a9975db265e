use Rattle.std.proofs.Common.{[], inr, ⊎_elim}
use Rattle.std.specs.List.{Contains}
use Rattle.trace_core.proofs.Members.{contains_none}
use Rattle.gap_core.specs.LineEvents.{IsPairOf}
use Rattle.gap_core.proofs.Additions.{all_added, one_more}
use Rattle.gap_core.proofs.line_events.pairs_of.Goals as goal

pub loop-line-preserved : goal.loop-line-preserved
loop-line-preserved c =
    one_more (IsPairOf c.args.kind) c.args.lines.now c.loop-line.line-index (Contains []) (Contains c.loop-line.pairs.items) (Contains c.push_pair.new.pairs.items)
    c.line-item.result c.loop-line-test.true c.line-item.is c.loop-line.invariant c.in_ok-push_pair.ensures

pub returns : goal.returns
returns c p =
    let (there, back) = all_added (IsPairOf c.args.kind) c.args.lines.now c.loop-line.line-index (Contains []) (Contains c.loop-line.pairs.items) c.loop-line-test.false c.loop-line.invariant p in
    (λ h. ⊎_elim (λ none. absurd (contains_none p none)) (λ one. one) (there h), λ one. back (inr one))
