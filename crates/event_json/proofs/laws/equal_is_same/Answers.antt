use Rattle.event_json.proofs.ContentLaws.{body_decides, content_decides, lists_decide}
use Rattle.event_json.proofs.laws.equal_is_same.Goals as goal

pub returns : goal.returns
returns c = (body_decides, content_decides, lists_decide)
