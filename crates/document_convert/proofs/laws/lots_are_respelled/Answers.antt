use Rattle.document_convert.proofs.RespelledLaws.{events_are_respelled, texts_are_respelled}
use Rattle.document_convert.proofs.laws.lots_are_respelled.Goals as goal

pub returns-clause-texts : goal.returns-clause-texts
returns-clause-texts c = texts_are_respelled

pub returns-clause-events : goal.returns-clause-events
returns-clause-events c = events_are_respelled
