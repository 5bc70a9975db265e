-- A site that has nothing left to do of its own.
use Rattle.std.specs.Prelude.{◌≡◌, ℕ, [], Option, Some, None, IsTrue, Contains}
use Rattle.std.specs.FinMap as map
use Rattle.scholten_core.specs.declared.own_recalls.Own.{Own}
use Rattle.site_core.specs.Records.{Record}
use Rattle.site_threads.specs.declared.desks.DeskOut.{DeskOut}
use Rattle.site_threads.specs.declared.jobs.Job.{Job}
use Rattle.site_threads.specs.Keepers.{shown_if}

-- each recall that the site began has ended
abbrev pub HaveEnded : Record → Type 0
HaveEnded r = (number : ℕ) (own : Own) → Contains (map.entries r.engagement.own) (number, own) → IsTrue own.ended

-- and no message waits for a signal
pub record IsAtRest (r : Record) : Type 0 where
  pub signalled : map.entries r.engagement.outbox ≡ []
  pub ended : HaveEnded r

-- the site's end counts its desk as gone, no job is in hand, and the keeper shows a record at rest
pub record IsDone {K : Type 0} (shown : K → Option Record) (keeper : Option K) (out : DeskOut) (pending : Option Job) : Type 0 where
  pub gone : IsTrue out.gone
  pub none : pending ≡ None
  pub record_is : Record
  pub stands : shown_if shown keeper ≡ Some record_is
  pub rests : IsAtRest record_is
