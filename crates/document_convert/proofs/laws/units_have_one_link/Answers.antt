use Rattle.document_convert.proofs.UnitLinks.{are_units, become_links, stay_apart}
use Rattle.document_convert.proofs.laws.units_have_one_link.Goals as goal

pub returns-clause-one : goal.returns-clause-one
returns-clause-one c = become_links

pub returns-clause-units : goal.returns-clause-units
returns-clause-units c = are_units

pub returns-clause-apart : goal.returns-clause-apart
returns-clause-apart c = stay_apart
