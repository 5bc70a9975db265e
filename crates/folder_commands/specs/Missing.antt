-- What open recalls miss.
use Rattle.std.specs.Prelude.{false, List}
use Rattle.site_core.specs.Records.{Record}
use Rattle.site_folders.specs.Begun.{roots}
use Rattle.site_folders.specs.Missing.{AreMissedFrom}
use Rattle.trace_core.specs.declared.pairs.Pair.{Pair}

-- just what recalls miss that are open in these records
abbrev pub AreMissed : List Record → List Pair → Type 0
AreMissed records missed = AreMissedFrom records (roots false records) missed
