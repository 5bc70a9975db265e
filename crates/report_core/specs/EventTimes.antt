-- The time of an event, as it is written (ISO 8601; RFC 3339, section 5.6): its date and its time of day in UTC, and a Z.
use Rattle.std.specs.Prelude.{◌≡◌, ◌++◌, ℕ, ℤ, List, Option, None, Some, Ok, codes}
use Rattle.jiff.specs.Words.{IsTimestampNanos, civil_nanos, iso_datetime_text}
use Rattle.jiff_core.specs.declared.civil.datetime.DateTime.{DateTime}
use Rattle.event_json.specs.Checks.{instant_of}

-- the text is `2024-05-01T13:20:00Z` for that instant, with as many decimals of the second as it has, and is read as this very instant
pub record IsTimeText (instant : ℤ) (text : List ℕ) : Type 0 where
  pub clock : DateTime
  pub shows : civil_nanos clock ≡ instant
  pub written : text ≡ iso_datetime_text clock ++ codes "Z"
  pub read : instant_of text ≡ Ok instant

-- an instant's time; none outside of the years that a time can name
abbrev pub TellsTime : ℤ → Option (List ℕ) → Type 0
TellsTime instant None = IsTimestampNanos instant → ⊥
TellsTime instant (Some text) = IsTimeText instant text
