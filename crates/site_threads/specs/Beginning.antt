-- What clauses say of a site as its run begins.
use Rattle.std.specs.Prelude.{◌≡◌, Option, Some}
use Rattle.site_core.specs.Records.{Record}
use Rattle.site_threads.specs.declared.desks.DeskOut.{DeskOut}
use Rattle.site_threads.specs.Ends.{SameOut}
use Rattle.site_threads.specs.Sites.{Running}

-- it has the keeper, and begins in the record that the keeper shows
pub record BeganIn {K G : Type 0} (shown : K → Option Record) (k : K) (run : Running K G) : Type 0 where
  pub keeper : run.keeper ≡ Some k
  pub start : shown k ≡ Some run.start

-- it has the desk's end
abbrev pub TookEnd : {K G : Type 0} → DeskOut → Running K G → Type 0
TookEnd d run = SameOut d run.out
