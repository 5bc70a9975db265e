-- The recalls that a site began.
use Rattle.std.specs.Prelude.{true, if◌then◌else◌, Option, Some, None}
use Rattle.scholten_core.specs.declared.own_recalls.Own.{Own}

-- the recall, where it is known and its end isn't recorded
abbrev pub unless_ended : Option Own → Option Own
unless_ended None = None
unless_ended (Some own) = if own.ended then None else Some own

-- the recall with its end recorded
abbrev pub with_end : Own → Own
with_end own = record { root = own.root; ended = true }
