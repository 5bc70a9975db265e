-- What became of a call that reads or adds: memory ran out here exactly where it did there.
use Rattle.std.specs.Prelude.{Option, Some, None, Result, Ok, Err, alloc_error}
use Rattle.std.specs.declared.alloc.AllocError.{AllocError}
use Rattle.epc_core.specs.declared.items.EpcFault.{EpcFault}
use Rattle.epc_core.specs.declared.items.EpcFault.TheVariants as epcs
use Rattle.event_json.specs.declared.site_lists.SitesFault.{SitesFault}
use Rattle.event_json.specs.declared.site_lists.SitesFault.TheVariants as sites

-- a fault, or out of memory where there is none
abbrev pub told : {X F : Type 0} → Option F → Result (Result X F) AllocError
told None = Err alloc_error
told (Some fault) = Ok (Err fault)

abbrev pub unless_memory : {X E F : Type 0} → (E → Option F) → Result X E → Result (Result X F) AllocError
unless_memory fault_of (Ok x) = Ok (Ok x)
unless_memory fault_of (Err e) = told (fault_of e)

-- each fault but out of memory
abbrev pub epc_fault : EpcFault → Option EpcFault
epc_fault epcs.NoMemory = None
epc_fault epcs.Empty = Some epcs.Empty
epc_fault epcs.TooLong = Some epcs.TooLong
epc_fault (epcs.BadByte place) = Some (epcs.BadByte place)

abbrev pub site_fault : SitesFault → Option SitesFault
site_fault sites.NoMemory = None
site_fault sites.BadName = Some sites.BadName
site_fault sites.NameTaken = Some sites.NameTaken
site_fault sites.TooMany = Some sites.TooMany
site_fault sites.BadAddress = Some sites.BadAddress
site_fault sites.AddressTaken = Some sites.AddressTaken
