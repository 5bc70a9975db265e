-- Where long lists are parted: where their parts repeat little. Each part of an event has all that stands beside its lists, and each of
-- several documents all that stands beside its body, so that what is parted takes at most some ten times what was given.
use Rattle.std.specs.Prelude.{ℕ, ◌*◌, Bool, true, ◌&&◌, ◌||◌, if◌then◌else◌, List, bytes_eq, codes, is_some, length, nat_le, Option, Some, None}
use Rattle.std.specs.List.{flat_map, list_all}
use Rattle.serde_json.specs.Data.{Data, Items}
use Rattle.event_json.specs.Checks.{type_text}
use Rattle.event_json.specs.Documents.{listed}
use Rattle.event_json.specs.Untraced.{in_order, is_text}
use Rattle.document_convert.specs.Parted.{count_at, event_parts, has_parts, made_id}
use Rattle.document_convert.specs.Weights.{is_light}

-- ---- events

-- its parts are one transformation, or at most 10 where each thousand stands with each, so that no item is written more often
abbrev pub is_made_in_few : Data → Bool
is_made_in_few d = is_some (made_id d) || nat_le (count_at (codes "inputEPCList") d * count_at (codes "outputEPCList") d) 10

-- by its type: what stands beside the list, or the lists of a transformation, weighs at most 10,000
abbrev pub is_light_as : Data → List ℕ → Bool
is_light_as d type =
    if bytes_eq type (codes "ObjectEvent") then is_light 10000 (codes "epcList") (codes "epcList") d else
    if bytes_eq type (codes "AggregationEvent") then is_light 10000 (codes "childEPCs") (codes "childEPCs") d else
    is_light 10000 (codes "inputEPCList") (codes "outputEPCList") d && is_made_in_few d

-- an event has no parts, or they repeat little
unfoldable pub is_light_event : Data → Bool
is_light_event d = if has_parts d then is_text (is_light_as d) (type_text d) else true

-- ---- documents

-- so does each of these events, and so do the documents of their parts, or they are one
abbrev pub is_light_around : Data → List Data → Bool
is_light_around d events =
    list_all is_light_event events
    && (is_light 10000 (codes "epcisBody") (codes "epcisBody") d || nat_le (length (flat_map event_parts events)) 1000)

-- a document, or an event alone, has no parts, or they repeat little
unfoldable pub is_light_document : Data → Bool
is_light_document d = if is_text (λ text. bytes_eq text (codes "EPCISDocument")) (type_text d) then of_list (listed d) else is_light_event d where
  of_list : Option Items → Bool
  of_list None = true
  of_list (Some items) = is_light_around d (in_order items)
