-- The keepers of the sites as a script begins.
use Rattle.std.specs.Prelude.{ℕ, true, List, length, map, None}
use Rattle.std.specs.List.{range_with_len}
use Rattle.event_json.specs.Sites.{Site}
use Rattle.keeper_core.specs.Memory.{InMemory}
use Rattle.site_core.specs.Records.{fresh}

-- nothing happened at the site
abbrev pub fresh_keeper : List Site → ℕ → InMemory
fresh_keeper sites n = record { state = fresh sites n; is_open = true; armed = None; failures = 0 }

abbrev pub fresh_keepers : List Site → List InMemory
fresh_keepers sites = map (fresh_keeper sites) (range_with_len 0 (length sites))
