-- The time of an event, as it is written.
use Rattle.std.specs.Prelude.{◌≡◌, ℤ, Option, Ok, MatchOption, String, string_bytes}
use Rattle.std.specs.declared.alloc.Global.{Global}
use Rattle.jiff.specs.Words.{IsTimestampNanos}
use Rattle.event_json.specs.Checks.{instant_of}

-- a text that is read as this instant; none only outside of the years that a time can name
abbrev pub NamesInstant : ℤ → Option (String Global) → Type 0
NamesInstant instant text = MatchOption text (¬ IsTimestampNanos instant) (λ t. instant_of (string_bytes t) ≡ Ok instant)
