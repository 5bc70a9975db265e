use Rattle.document_convert.proofs.NoLots.{read_stays_with_lots, without_lots_stays}
use Rattle.document_convert.proofs.laws.read_stays_with_lots.Goals as goal

pub returns-clause-events : goal.returns-clause-events
returns-clause-events c = without_lots_stays

pub returns-clause-documents : goal.returns-clause-documents
returns-clause-documents c = read_stays_with_lots
