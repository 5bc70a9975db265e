-- What each call of a keeper may do with the record that it keeps.
--
-- A keeper shows its record while it is open. While it is closed it may be opened in some records, and nobody
-- knows yet in which.
use Rattle.std.specs.Prelude.{◌≡◌, ◌≢◌, ⊤, ℕ, ◌+◌, ◌<◌, ◌^◌, ◌⊎◌, Bool, true, false, Option, Some, None, Result, Ok, Err}
use Rattle.site_core.specs.Records.{Record}
use Rattle.site_core.specs.Steps.{Does, Refuses}
use Rattle.site_core.specs.declared.inputs.SiteInput.{SiteInput}
use Rattle.site_core.specs.declared.outcomes.Effects.{Effects}
use Rattle.site_core.specs.declared.outcomes.Refusal.{Refusal}
use Rattle.site_core.specs.declared.outcomes.Refusal.TheVariants as refusals
use Rattle.keeper_core.specs.declared.faults.Keep.{Keep}
use Rattle.keeper_core.specs.declared.faults.Keep.TheVariants.{Old, New}
use Rattle.keeper_core.specs.declared.faults.KeepFault.{KeepFault}
use Rattle.keeper_core.specs.declared.faults.KeepFault.TheVariants.{NoMemory, Refused, Device, Store}

-- the record after the input, where it has an effect
abbrev pub IsAfter : Record → SiteInput → Record → Type 0
IsAfter old input new = (effects : Effects) × Does old input effects new

-- the input is refused, for another reason than memory
abbrev pub IsRefusedFor : Record → SiteInput → Refusal → Type 0
IsRefusedFor old input why = (why ≢ refusals.NoMemory) × Refuses old input why

-- it may be opened in the old record or in the one after the input, and in no third
abbrev pub MayBeOldOrNew : Record → SiteInput → (Record → Type 0) → Type 0
MayBeOldOrNew old input may = (r : Record) → may r → (r ≡ old) ⊎ IsAfter old input r

-- what a step in the record old is answered, what is shown then, and what may be opened
abbrev pub Applies : Record → SiteInput → Result Effects KeepFault → Option Record → (Record → Type 0) → Type 0
Applies old input (Ok effects) (Some new) may = Does old input effects new
Applies old input (Err (Refused why)) (Some new) may = IsRefusedFor old input why × (new ≡ old)
Applies old input (Err NoMemory) (Some new) may = new ≡ old
Applies old input (Err Device) None may = MayBeOldOrNew old input may
Applies old input (Err Store) None may = MayBeOldOrNew old input may
-- no other answer is given
Applies old input answer shown may = ⊥

-- it may be opened in the record after the input; in the old one only where the input is refused, or the step failed
abbrev pub MayBeNew : Record → SiteInput → Type 0 → (Record → Type 0) → Type 0
MayBeNew old input failed may = (r : Record) → may r → IsAfter old input r ⊎ ((r ≡ old) × (((why : Refusal) × IsRefusedFor old input why) ⊎ failed))

-- the same for a stop, whether the device or the store failed in it, and whether there was memory
abbrev pub Stops : Record → SiteInput → Keep → Type 0 → Bool → Option Record → (Record → Type 0) → Type 0
Stops old input Old failed true None may = (r : Record) → may r → r ≡ old
Stops old input New failed true None may = MayBeNew old input failed may
Stops old input keep failed false (Some new) may = new ≡ old
Stops old input keep failed done shown may = ⊥

-- closed, to be opened in no other record than before
abbrev pub StaysClosed : (Record → Type 0) → Option Record → (Record → Type 0) → Type 0
StaysClosed was shown may = (shown ≡ None) × ((r : Record) → may r → was r)

-- what keeps a keeper from being opened
abbrev pub HindersOpening : KeepFault → Type 0
HindersOpening NoMemory = ⊤
HindersOpening Device = ⊤
HindersOpening Store = ⊤
HindersOpening fault = ⊥

-- the count of failures rises, or stays at the greatest number
abbrev pub Rises : ℕ → ℕ → Type 0
Rises before now = (before < now) ⊎ (now + 1 ≡ 2 ^ 64)

-- what a refusal of the step is returned as
abbrev pub fault_of : Refusal → KeepFault
fault_of refusals.NoMemory = NoMemory
fault_of why = Refused why
