use Rattle.std.proofs.Common.{ap, ◌∙◌}
use Rattle.std.specs.FinMap.{entries}
use Rattle.frame_core.specs.Identifiers.{message_cmp}
use Rattle.frame_core.proofs.Maps.{map_entries}
use Rattle.frame_core.proofs.seen_messages.Seen.messages.Goals as goal

pub returns-clause-entries : goal.returns-clause-entries
returns-clause-entries c = map_entries message_cmp c.self.inside.messages c.len-length.ensures.ordered ∙ ap entries c.self.view_is
