-- The lists of an event: its items (an EPC is a text that epc_core reads) and its destinations.
use Rattle.std.specs.Prelude.{ℕ, nat_lt, if◌then◌else◌, List, codes, Result, Ok, Err, is_some, ⊤}
use Rattle.serde_json.specs.Data.{Data, Items}
use Rattle.serde_json.specs.Find.{as_str, as_object}
use Rattle.epc_core.specs.Reading.{reading}
use Rattle.event_json.specs.declared.doc_faults.DocField.{DocField}
use Rattle.event_json.specs.declared.doc_faults.DocField.TheVariants as fields
use Rattle.event_json.specs.declared.doc_faults.DocFaultKind.TheVariants as kinds
use Rattle.event_json.specs.declared.doc_faults.Flaw.{Flaw}
use Rattle.event_json.specs.Faults.{◌>>=◌}
use Rattle.event_json.specs.Members.{member_of, member_named, or_flaw, plain_of, list_of, count_of, each}

-- at most 1,000 members
unfoldable pub limit_checked : DocField → Items → Result ⊤ Flaw
limit_checked field items = if nat_lt 1000 (count_of items) then Err (record { field = field; kind = kinds.TooManyEpcs }) else Ok tt

-- the item that a member of a list names
unfoldable pub epc_of : DocField → Data → Result (List ℕ) Flaw
epc_of field d = do
  text ← or_flaw (record { field = field; kind = kinds.WrongShape }) (as_str d)
  named (reading text)
  where
    named : {E : Type 0} → Result (List ℕ) E → Result (List ℕ) Flaw
    named (Ok key) = Ok key
    named (Err e) = Err (record { field = field; kind = kinds.BadEpc })

-- the items of a list, in order
unfoldable pub epcs_of : DocField → Data → Result (List (List ℕ)) Flaw
epcs_of field d = do
  items ← list_of field (member_of field d)
  _ ← limit_checked field items
  each (λ _. epc_of field) 1 items

-- the text of a member of the destination list
unfoldable pub destination_of : Data → Result (List ℕ) Flaw
destination_of d =
    if is_some (as_object d)
    then (do
      destination ← or_flaw (record { field = fields.DestinationList; kind = kinds.Missing }) (member_named (codes "destination") d)
      plain_of fields.DestinationList destination)
    else Err (record { field = fields.DestinationList; kind = kinds.WrongShape })

-- the destinations, in order
unfoldable pub destinations_of : Data → Result (List (List ℕ)) Flaw
destinations_of d = do
  items ← list_of fields.DestinationList (member_of fields.DestinationList d)
  _ ← limit_checked fields.DestinationList items
  each (λ _. destination_of) 1 items
