-- What the tests of runs say of the two ends of a site's desk.
use Rattle.site_threads.specs.declared.desks.Desk.{Desk}
use Rattle.site_threads.specs.declared.desks.DeskOut.{DeskOut}
use Rattle.site_threads.specs.declared.lists.RunLog.{RunLog}
use Rattle.site_threads.specs.Ends.{IsDesk, AreEnds}
use Rattle.site_threads.specs.Gathering.{FitsEnd}

-- a desk and its other end
pub record Serves (d : Desk) (o : DeskOut) : Type 0 where
  pub desk : IsDesk d
  pub ends : AreEnds d o

-- a desk and the list that its other end went to
pub record Settles (d : Desk) (l : RunLog) : Type 0 where
  pub desk : IsDesk d
  pub ends : AreEnds d l.out
  pub jobs : FitsEnd l
