-- Shipments between the sites by which items are missed.
use Rattle.std.specs.Prelude.{◌≡◌, ℕ, List, Some, Contains, slice_get}
use mathlib.Core.Logic.{inl}
use Rattle.trace_core.specs.declared.pairs.Pair.{Pair}
use Rattle.trace_core.specs.Gaps.{IsMissed, by_known}
use Rattle.trace_core.specs.Sites.{SiteEvents}
use Rattle.gap_core.specs.declared.missed_steps.MissedStep.{MissedStep}

-- the item is missed at the site, to the other one
pub record IsMissedStep (sites : List SiteEvents) (m : MissedStep) : Type 0 where
  pub site : SiteEvents
  pub there : Contains sites site
  pub number : site.me ≡ m.from.site
  pub missed : IsMissed (by_known sites) site m.from.item (inl m.to)

-- so at the site of a place
pub record IsMissedStepAt (sites : List SiteEvents) (at : ℕ) (m : MissedStep) : Type 0 where
  pub site : SiteEvents
  pub there : slice_get sites at ≡ Some site
  pub number : site.me ≡ m.from.site
  pub missed : IsMissed (by_known sites) site m.from.item (inl m.to)

-- so to this site
abbrev pub IsMissedStepTo : List SiteEvents → ℕ → ℕ → MissedStep → Type 0
IsMissedStepTo sites at to m = (to ≡ m.to) × IsMissedStepAt sites at m

-- a step from one of the pairs to this site
abbrev pub IsStepFrom : List Pair → ℕ → MissedStep → Type 0
IsStepFrom pairs to m = Contains pairs m.from × (to ≡ m.to)
