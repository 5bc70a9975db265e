use Rattle.document_convert.proofs.LotSpellings.{are_lots, become_one, stay_apart}
use Rattle.document_convert.proofs.laws.lots_have_one_spelling.Goals as goal

pub returns-clause-one : goal.returns-clause-one
returns-clause-one c = become_one

pub returns-clause-lots : goal.returns-clause-lots
returns-clause-lots c = are_lots

pub returns-clause-apart : goal.returns-clause-apart
returns-clause-apart c = stay_apart
