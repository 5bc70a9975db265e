-- A document of which some events change, each in its place.
use Rattle.std.specs.Prelude.{if◌then◌else◌, Bool, codes, bytes_eq, map, Option, Some, None}
use Rattle.std.specs.List.{list_any}
use Rattle.serde_json.specs.Data.{Data, Items}
use Rattle.event_json.specs.Checks.{type_text}
use Rattle.event_json.specs.Documents.{listed}
use Rattle.event_json.specs.Untraced.{in_order, is_text}
use Rattle.document_convert.specs.Documents.{document_around}

-- each event of a document, or one that stands alone, as it changes; a document of which no event changes stays as it is
unfoldable pub with_each : (Data → Bool) → (Data → Data) → Data → Data
with_each changes change d = if is_text (λ text. bytes_eq text (codes "EPCISDocument")) (type_text d) then of_list (listed d) else change d where
  of_list : Option Items → Data
  of_list None = d
  of_list (Some items) = if list_any changes (in_order items) then document_around d (map change (in_order items)) else d
