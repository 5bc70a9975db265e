-- What clauses say of a site before its first turn.
use Rattle.std.specs.Prelude.{◌≡◌, ℕ, List, [], ◌∷◌}
use Rattle.site_core.specs.Records.{Record}
use Rattle.wire_core.specs.declared.views.Log.{Log}
use Rattle.site_threads.specs.Running.{IsOwn}

-- these are of the site alone, whose record last marked is r
pub record IsLastMarked (logs : List Log) (me : ℕ) (r : Record) : Type 0 where
  pub log : Log
  pub alone : logs ≡ log ∷ []
  pub own : IsOwn log me
  pub last : log.last ≡ r
