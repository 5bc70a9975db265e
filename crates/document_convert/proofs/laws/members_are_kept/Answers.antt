use Rattle.document_convert.proofs.Members.{members_are_kept, types_are_kept}
use Rattle.document_convert.proofs.laws.members_are_kept.Goals as goal

pub returns-clause-members : goal.returns-clause-members
returns-clause-members c = members_are_kept

pub returns-clause-types : goal.returns-clause-types
returns-clause-types c = types_are_kept
