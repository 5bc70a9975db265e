-- What each site captured, and from when to when.
use Rattle.std.specs.Prelude.{◌≡◌, ◌≤ℤ◌, ℕ, Bool, true, false, int_lt, if◌then◌else◌, List, [], length, Option, Some, None, Contains}
use Rattle.std.specs.List.{AllZip}
use Rattle.event_json.specs.Events.{Content}
use Rattle.query_core.specs.KnownItems.{AreKnownItems}
use Rattle.query_core.specs.declared.known_items.KnownItem.{KnownItem}
use Rattle.recall_outcomes.specs.declared.outcomes.Outcome.{Outcome}
use Rattle.recall_outcomes.specs.declared.outcomes.Outcome.TheVariants.{Covered}
use Rattle.recall_outcomes.specs.declared.outcomes.SiteCoverage.{SiteCoverage}
use Rattle.report_core.specs.EventTimes.{TellsTime}
use Rattle.site_core.specs.Records.{Record}

-- it didn't happen after the other; or, of the last, not before it
abbrev pub IsAtEnd : Bool → Content → Content → Type 0
IsAtEnd false e y = e.instant ≤ℤ y.instant
IsAtEnd true e y = y.instant ≤ℤ e.instant

-- the first of some events, or the last: none where there is none
abbrev pub IsEnd : Bool → List Content → Option Content → Type 0
IsEnd last events None = events ≡ []
IsEnd last events (Some e) = Contains events e × ((y : Content) → Contains events y → IsAtEnd last e y)

-- of two events the one that lies further towards that end
abbrev pub is_beyond : Bool → Content → Content → Bool
is_beyond false end e = int_lt e.instant end.instant
is_beyond true end e = int_lt end.instant e.instant

abbrev pub further : Bool → Option Content → Content → Content
further last None e = e
further last (Some end) e = if is_beyond last end e then e else end

-- when an event happened, if there is one
abbrev pub TellsWhen : Option Content → Option (List ℕ) → Type 0
TellsWhen None time = time ≡ None
TellsWhen (Some e) time = TellsTime e.instant time

-- when the first or the last of some events happened
abbrev pub TellsEnd : Bool → List Content → Option (List ℕ) → Type 0
TellsEnd last events time = (e : Option Content) × IsEnd last events e × TellsWhen e time

-- how many events a site captured and how many items it knows, and when the first and the last of the events happened
pub record Covers (r : Record) (c : SiteCoverage) : Type 0 where
  pub site : c.site ≡ r.engagement.me
  pub events : c.events ≡ length r.captured.events
  pub known : List KnownItem
  pub all : AreKnownItems r [] known
  pub items : c.items ≡ length known
  pub first : TellsEnd false r.captured.events c.first
  pub last : TellsEnd true r.captured.events c.last

-- so of each of the sites, in order
abbrev pub AnswersCoverage : List Record → Outcome → Type 0
AnswersCoverage records (Covered found) = AllZip Covers records found.items
AnswersCoverage records other = ⊥
