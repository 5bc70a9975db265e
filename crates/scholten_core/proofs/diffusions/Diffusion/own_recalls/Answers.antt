use Rattle.std.proofs.Common.{ap, ◌∙◌}
use Rattle.std.specs.Ordering.{nat_cmp}
use Rattle.std.specs.FinMap.{entries}
use Rattle.frame_core.proofs.Maps.{map_entries}
use Rattle.scholten_core.proofs.diffusions.Diffusion.own_recalls.Goals as goal

pub returns-clause-entries : goal.returns-clause-entries
returns-clause-entries c = map_entries nat_cmp c.self.inside.own c.len-length.ensures.ordered ∙ ap (λ e. entries e.own) c.self.view_is
