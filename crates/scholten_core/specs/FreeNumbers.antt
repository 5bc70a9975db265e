-- Numbers that are free.
use Rattle.frame_core.specs.Tables.{AreBelow}
use Rattle.scholten_core.specs.Engagement.{Engagement}

-- no message and no own recall stands at a number that comes next, nor past it: so it is in every record that a run
-- leads to
pub record HasFreeNumbers (e : Engagement) : Type 0 where
  pub rows : AreBelow e.outbox e.next_message
  pub own : AreBelow e.own e.next_recall
