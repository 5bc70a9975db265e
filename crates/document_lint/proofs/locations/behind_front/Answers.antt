use Rattle.std.proofs.Common.{codes}
use Rattle.document_lint.proofs.Cuts.{strips}
use Rattle.document_lint.proofs.locations.behind_front.Goals as goal

pub returns : goal.returns
returns c = strips (codes "urn:epc:id:sgln:") _ c.strip_prefix.result c.strip_prefix.ensures.cases
