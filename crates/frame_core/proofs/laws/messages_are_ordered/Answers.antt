use Rattle.frame_core.specs.Orders.{message_total, message_exact}
use Rattle.frame_core.proofs.Sameness.{one_message, equal_messages, messages_alike}
use Rattle.frame_core.proofs.laws.messages_are_ordered.Goals as goal

pub returns : goal.returns
returns c = record { total = message_total; exact = message_exact; same = λ a b. (one_message a b, equal_messages a b); alike = messages_alike }
