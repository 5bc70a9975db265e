-- What an error of the database is to a keeper.
use Rattle.std.specs.Prelude.{◌≡◌, ◌⊎◌, ⊤, Bool, true, false, if◌then◌else◌, Result, Err}
use Rattle.sqlite_disk.specs.Disk.{MoreFaults}
use Rattle.sqlite.specs.State.{State}
use Rattle.site_core.specs.declared.outcomes.Effects.{Effects}
use Rattle.keeper_core.specs.declared.faults.KeepFault.{KeepFault}
use Rattle.keeper_core.specs.declared.faults.KeepFault.TheVariants.{NoMemory, Device, Store}
use Rattle.sqlite.specs.declared.error.Error.{Error}
use Rattle.sqlite.specs.declared.error.Error.TheVariants.{SqliteFailure}
use Rattle.sqlite.specs.declared.error.ErrorCode.{ErrorCode}
use Rattle.sqlite.specs.declared.error.ErrorCode.TheVariants.{OutOfMemory, SystemIoFailure, DiskFull, DatabaseCorrupt, Closed, CannotOpen, DatabaseBusy, TooBig}
use Rattle.site_tables.specs.Causes.{IsRefusal}

abbrev pub is_code_of_device : ErrorCode → Bool
is_code_of_device SystemIoFailure = true
is_code_of_device DiskFull = true
is_code_of_device DatabaseCorrupt = true
is_code_of_device Closed = true
is_code_of_device CannotOpen = true
is_code_of_device DatabaseBusy = true
is_code_of_device other = false

-- the device failed, now or earlier, or another holds the file
abbrev pub is_of_device : Error → Bool
is_of_device (SqliteFailure code) = is_code_of_device code
is_of_device other = false

abbrev pub is_code_of_memory : ErrorCode → Bool
is_code_of_memory OutOfMemory = true
is_code_of_memory other = false

-- memory ran out
abbrev pub is_of_memory : Error → Bool
is_of_memory (SqliteFailure code) = is_code_of_memory code
is_of_memory other = false

-- what an error is that closes the keeper
abbrev pub closing_fault : Error → KeepFault
closing_fault error = if is_of_device error then Device else Store

-- a step returned that memory ran out
abbrev pub lacks_memory : Result Effects KeepFault → Bool
lacks_memory (Err NoMemory) = true
lacks_memory other = false

-- the disk failed, as it counts itself, or the connection was shut already
abbrev pub IsFailedIn : State → State → Type 0
IsFailedIn old new = (old.is_open ≡ false) ⊎ MoreFaults old.faults new.faults

-- what isn't of the device: some database refuses some command that writes with this error, a row was too large to keep,
-- or memory ran out, and nobody could tell whether the connection is open still
abbrev pub IsOfStore : Error → Type 0
IsOfStore error = IsRefusal error ⊎ (error ≡ SqliteFailure TooBig) ⊎ (error ≡ SqliteFailure OutOfMemory)

-- why a step failed on an honest disk: it failed, as it counts itself; or the store refused for such a cause of its own
abbrev pub IsCaused : State → State → KeepFault → Type 0
IsCaused old new Device = MoreFaults old.faults new.faults
IsCaused old new Store = (error : Error) × IsOfStore error
IsCaused old new other = ⊤
