use Rattle.std.proofs.Common.{List, subst}
use Rattle.event_json.specs.Events.{Content}
use Rattle.trace_core.specs.Sendings.{AreSent}
use Rattle.trace_core.proofs.SendingSteps.{sites_told}
use Rattle.trace_core.proofs.books.Book.sites_at.Goals as goal

pub returns : goal.returns
returns c i so t = sites_told c.args.self.now c.self.inside.index.sent (subst (λ (es : List Content). AreSent es c.self.inside.index.sent) c.self.view_is c.self.invariant.sent.all) c.args.number i so c.sites_of.result c.sites_of.ensures t
