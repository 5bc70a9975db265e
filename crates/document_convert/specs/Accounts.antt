-- What a conversion found and changed, in numbers.
use Rattle.std.specs.Prelude.{ℕ, ◌+◌, ◌-◌, ◌^◌, Bool, true, false, List, [], ◌∷◌, Option, bytes_eq, codes, count_by, if◌then◌else◌, length, min, option_and_then, option_map, unwrap_or}
use Rattle.serde_json.specs.Data.{Data}
use Rattle.serde_json.specs.Find.{as_array}
use Rattle.event_json.specs.Checks.{type_text}
use Rattle.event_json.specs.Members.{count_of, member_named}
use Rattle.event_json.specs.Untraced.{listed_events}
use Rattle.document_convert.specs.Quantities.{has_quantities}
use Rattle.document_convert.specs.declared.accounts.Account.{Account}
use Rattle.document_convert.specs.declared.accounts.Counts.{Counts}

-- a count rises by so many, and stays at the greatest number
abbrev pub up : ℕ → ℕ → ℕ
up count more = min (count + more) (2 ^ 64 - 1)

-- ---- the quantities of a document

abbrev pub elements_in : Option Data → ℕ
elements_in list = unwrap_or (option_map count_of (option_and_then as_array list)) 0

-- the elements of the lists of quantities that an event of this type has
abbrev pub elements_by : Data → List ℕ → ℕ
elements_by d type =
    if bytes_eq type (codes "ObjectEvent") then elements_in (member_named (codes "quantityList") d) else
    if bytes_eq type (codes "AggregationEvent") then elements_in (member_named (codes "childQuantityList") d) else
    if bytes_eq type (codes "TransformationEvent")
    then up (elements_in (member_named (codes "inputQuantityList") d)) (elements_in (member_named (codes "outputQuantityList") d))
    else 0

abbrev pub elements_of : Data → ℕ
elements_of d = unwrap_or (option_map (elements_by d) (type_text d)) 0

-- so many, and those of some events
abbrev pub elements_from : ℕ → List Data → ℕ
elements_from count [] = count
elements_from count (d ∷ ds) = elements_from (up count (elements_of d)) ds

-- those of a document
abbrev pub quantities : Data → ℕ
quantities d = elements_from 0 (listed_events d)

-- ---- all documents

abbrev pub none_yet : Account
none_yet = record { written = 0; events = 0; links = 0; lots = 0; derived = 0; untied = 0; parted = 0; errors = 0; places = 0; places_of_several = 0; left = 0 }

-- how many events a document has
abbrev pub event_count : Data → ℕ
event_count d = length (listed_events d)

-- how many events of a document are so, where that is asked for
abbrev pub count_if : Bool → (Data → Bool) → Data → ℕ
count_if true p d = count_by p (listed_events d)
count_if false p d = 0

-- with a document of which this was counted, as it is before its long lists are parted: each of the quantities that it had and that isn't left
-- is a lot among the items, and each event more than it came with was derived
abbrev pub with_document : Account → Counts → Data → Account
with_document a counts d = record {
  written = a.written;
  events = a.events;
  links = up a.links counts.links;
  lots = up a.lots (counts.had - quantities d);
  derived = up a.derived (event_count d - counts.came);
  untied = up a.untied counts.untied;
  parted = up a.parted counts.parted;
  errors = up a.errors counts.errors;
  places = up a.places counts.places;
  places_of_several = up a.places_of_several counts.places_of_several;
  left = up a.left (count_by has_quantities (listed_events d));
}

-- with a line more
abbrev pub with_line : Account → Data → Account
with_line a d = record {
  written = up a.written 1;
  events = up a.events (event_count d);
  links = a.links;
  lots = a.lots;
  derived = a.derived;
  untied = a.untied;
  parted = a.parted;
  errors = a.errors;
  places = a.places;
  places_of_several = a.places_of_several;
  left = a.left;
}

-- with these lines more
abbrev pub with_lines : Account → List Data → Account
with_lines a [] = a
with_lines a (d ∷ ds) = with_lines (with_line a d) ds
