-- What a step returns by a look at the record.
use Rattle.std.specs.Prelude.{◌≡◌, ◌≢◌, false, Option, Some, None, Result, Ok, Err}
use Rattle.site_core.specs.declared.inputs.SiteInput.{SiteInput}
use Rattle.site_core.specs.declared.outcomes.Effects.{Effects}
use Rattle.site_core.specs.declared.outcomes.Refusal.{Refusal}
use Rattle.site_core.specs.declared.outcomes.Refusal.TheVariants.{NoMemory}
use Rattle.site_core.specs.Records.{Record}
use Rattle.site_core.specs.Steps.{Does, Refuses, CopiesRecord, changes}

-- effects that leave the record, or a refusal with a cause; else the record has to be changed
abbrev pub IsAnsweredBy : Record → SiteInput → Option (Result Effects Refusal) → Type 0
IsAnsweredBy s input None = CopiesRecord s input
IsAnsweredBy s input (Some (Ok effects)) = Does s input effects s × (changes effects ≡ false)
IsAnsweredBy s input (Some (Err why)) = (why ≢ NoMemory) × Refuses s input why
