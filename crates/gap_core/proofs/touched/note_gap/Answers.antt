use Rattle.std.proofs.Common.{◌∙◌, sym}
use mathlib.Core.Bool.{false≢true}
use Rattle.std.proofs.lemmas.Result.{on_ok_weaker}
use Rattle.trace_core.specs.Chains.{sites_at}
use Rattle.gap_core.proofs.TouchedSteps.{gap_added, gap_left}
use Rattle.gap_core.proofs.touched.note_gap.Goals as goal

pub returns-then-not-is_so : goal.returns-then-not-is_so
returns-then-not-is_so c =
    gap_left (sites_at c.args.sites.now) c.args.at c.args.wanted.now c.args.gap.now c.args.touched.now.items (λ it. false≢true (sym c.if-not-is_so.true ∙ c.in_ok-is_so.ensures.1 it))

pub returns : goal.returns
returns c = on_ok_weaker c.push_gap.result
    (gap_added (sites_at c.args.sites.now) c.args.at c.args.wanted.now c.args.gap.now c.args.touched.now.items c.push_gap.new.gaps.items (c.in_ok-is_so.ensures.0 c.if-not-is_so.false))
    c.push_gap.ensures
