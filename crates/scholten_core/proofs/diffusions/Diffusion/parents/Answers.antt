use Rattle.std.proofs.Common.{ap, ◌∙◌}
use Rattle.std.specs.FinMap.{entries}
use Rattle.frame_core.specs.Identifiers.{recall_cmp}
use Rattle.frame_core.proofs.Maps.{map_entries}
use Rattle.scholten_core.proofs.diffusions.Diffusion.parents.Goals as goal

pub returns-clause-entries : goal.returns-clause-entries
returns-clause-entries c = map_entries recall_cmp c.self.inside.parents c.len-length.ensures.ordered ∙ ap (λ e. entries e.parents) c.self.view_is
