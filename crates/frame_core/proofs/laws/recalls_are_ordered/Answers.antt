use Rattle.frame_core.specs.Orders.{recall_total, recall_exact}
use Rattle.frame_core.proofs.Sameness.{one_recall, equal_recalls, recalls_alike}
use Rattle.frame_core.proofs.laws.recalls_are_ordered.Goals as goal

pub returns : goal.returns
returns c = record { total = recall_total; exact = recall_exact; same = λ a b. (one_recall a b, equal_recalls a b); alike = recalls_alike }
