use Rattle.std.proofs.Common.{◌∙◌, ap, reverse, take}
use Rattle.trace_core.proofs.TrailEnds.{ending_back}
use Rattle.report_core.proofs.back_trails.BackTrail.beginning.Goals as goal

pub returns : goal.returns
returns c = c.reverse.ensures.items ∙ ap reverse c.in_ok-pairs.ensures ∙ ending_back c.self.inside.trail ∙ ap (take 2) c.self.view_is
