-- What the kinds and fields of a document's faults and the faults of sites are called.
use Rattle.std.specs.Prelude.{ℕ, List, codes}
use Rattle.event_json.specs.declared.doc_faults.DocField.{DocField}
use Rattle.event_json.specs.declared.doc_faults.DocField.TheVariants as fields
use Rattle.event_json.specs.declared.doc_faults.DocFaultKind.{DocFaultKind}
use Rattle.event_json.specs.declared.doc_faults.DocFaultKind.TheVariants as kinds
use Rattle.event_json.specs.declared.site_lists.SitesFault.{SitesFault}
use Rattle.event_json.specs.declared.site_lists.SitesFault.TheVariants as faults

-- the kind of a document's fault
abbrev pub kind_name : DocFaultKind → List ℕ
kind_name kinds.Syntax = codes "Syntax"
kind_name kinds.NotDocument = codes "NotDocument"
kind_name kinds.TooManyEvents = codes "TooManyEvents"
kind_name kinds.NoType = codes "NoType"
kind_name kinds.Missing = codes "Missing"
kind_name kinds.WrongShape = codes "WrongShape"
kind_name kinds.Time = codes "Time"
kind_name kinds.Offset = codes "Offset"
kind_name kinds.Action = codes "Action"
kind_name kinds.BadEpc = codes "BadEpc"
kind_name kinds.TooManyEpcs = codes "TooManyEpcs"
kind_name kinds.Quantities = codes "Quantities"
kind_name kinds.ErrorDeclared = codes "ErrorDeclared"
kind_name kinds.HalfTransformation = codes "HalfTransformation"

-- a field as its member is spelled
abbrev pub field_name : DocField → List ℕ
field_name fields.Document = codes "document"
field_name fields.EventList = codes "eventList"
field_name fields.Event = codes "event"
field_name fields.Type = codes "type"
field_name fields.ErrorDeclaration = codes "errorDeclaration"
field_name fields.QuantityList = codes "quantityList"
field_name fields.InputQuantityList = codes "inputQuantityList"
field_name fields.OutputQuantityList = codes "outputQuantityList"
field_name fields.EventId = codes "eventID"
field_name fields.EventTime = codes "eventTime"
field_name fields.EventTimeZoneOffset = codes "eventTimeZoneOffset"
field_name fields.Action = codes "action"
field_name fields.EpcList = codes "epcList"
field_name fields.DestinationList = codes "destinationList"
field_name fields.InputEpcList = codes "inputEPCList"
field_name fields.OutputEpcList = codes "outputEPCList"
field_name fields.TransformationId = codes "transformationID"
field_name fields.ParentId = codes "parentID"
field_name fields.ChildEpcs = codes "childEPCs"
field_name fields.ChildQuantityList = codes "childQuantityList"

-- why a site isn't added
abbrev pub sites_fault_name : SitesFault → List ℕ
sites_fault_name faults.NoMemory = codes "NoMemory"
sites_fault_name faults.BadName = codes "BadName"
sites_fault_name faults.NameTaken = codes "NameTaken"
sites_fault_name faults.TooMany = codes "TooMany"
sites_fault_name faults.BadAddress = codes "BadAddress"
sites_fault_name faults.AddressTaken = codes "AddressTaken"
