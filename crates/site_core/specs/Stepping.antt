-- What a step on a copy returns.
use Rattle.std.specs.Prelude.{◌≡◌, false, true}
use Rattle.std.specs.Prelude.{if◌then◌else◌}
use Rattle.site_core.specs.declared.inputs.SiteInput.{SiteInput}
use Rattle.site_core.specs.declared.steps.Stepped.{Stepped}
use Rattle.site_core.specs.declared.steps.Stepped.TheVariants.{Same, Next}
use Rattle.site_core.specs.declared.outcomes.Effects.{Effects}
use Rattle.site_core.specs.Records.{Record}
use Rattle.site_core.specs.Steps.{Does, changes}

-- the effects, with the record afterwards where they change it, and else alone
abbrev pub IsStepped : Record → SiteInput → Stepped → Type 0
IsStepped s input (Same effects) = Does s input effects s × (changes effects ≡ false)
IsStepped s input (Next t effects) = Does s input effects t × (changes effects ≡ true)

-- the record afterwards, with effects that change it
abbrev pub stepped_to : Record → Effects → Stepped
stepped_to t effects = if changes effects then Next t effects else Same effects
