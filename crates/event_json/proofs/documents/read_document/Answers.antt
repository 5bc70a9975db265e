use Rattle.event_json.proofs.Carried.{some_bytes}
use Rattle.event_json.proofs.documents.read_document.Goals as goal

pub returns-in-Ok-clause-memory : goal.returns-in-Ok-clause-memory
returns-in-Ok-clause-memory c = λ _. some_bytes c.args.bytes.now _ c.in-Ok.ensures.ok.1
