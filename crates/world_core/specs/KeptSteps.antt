-- A site stands as its kept steps: those that were answered, in order, with each one that it went down in, whole or
-- not at all.
use Rattle.std.specs.Prelude.{◌≡◌, ℕ, ◌==◌, ◌⊎◌, Option, Some, None, List, [], ◌∷◌, ◌++◌, length, slice_get, if◌then◌else◌}
use Rattle.frame_core.specs.declared.frames.Frame.{Frame}
use Rattle.site_core.specs.Records.{Record}
use Rattle.site_core.specs.Steps.{Does}
use Rattle.site_core.specs.declared.inputs.SiteInput.{SiteInput}
use Rattle.site_core.specs.declared.outcomes.Effects.{Effects}
use Rattle.keeper_core.specs.Keeping.{IsAfter}
use Rattle.keeper_core.specs.declared.faults.KeepFault.TheVariants.{Device, Store}
use Rattle.world_core.specs.declared.events.WorldEvent.{WorldEvent}
use Rattle.world_core.specs.declared.events.WorldEvent.TheVariants.{Step, Stop}
use Rattle.world_core.specs.declared.events.Answer.{Answer}
use Rattle.world_core.specs.declared.events.Answer.TheVariants.{Done, Fault, Stopped}
use Rattle.world_core.specs.Worlds.{WorldState, records}
use Rattle.world_core.specs.Turns.{input_at, site_of}

-- an input whose step was answered with effects, or one in which the site went down
pub data Handed : Type 0 where
  Answered : SiteInput → Effects → Handed
  Broken : SiteInput → Handed

-- new stands after these steps from old, one after another, each of which leads on so
abbrev pub StandsAfter : {R S : Type 0} → (R → S → R → Type 0) → R → List S → R → Type 0
StandsAfter step old [] new = new ≡ old
StandsAfter {R} step old (x ∷ xs) new = (mid : R) × step old x mid × StandsAfter step mid xs new

-- what an input leads to that was handed to a site
abbrev pub LeadsOn : Record → Handed → Record → Type 0
LeadsOn old (Answered input effects) new = Does old input effects new
LeadsOn old (Broken input) new = (new ≡ old) ⊎ IsAfter old input new

-- what an event gives to its site
abbrev pub input_told : List Frame → WorldEvent → Option SiteInput
input_told sent (Step site input) = input_at sent site input
input_told sent (Stop site input keep) = input_at sent site input
input_told sent event = None

-- a refused input, and one without memory, was not given
abbrev pub handed : Answer → Option SiteInput → List Handed
handed (Done effects) (Some input) = Answered input effects ∷ []
handed (Fault Device) (Some input) = Broken input ∷ []
handed (Fault Store) (Some input) = Broken input ∷ []
handed Stopped (Some input) = Broken input ∷ []
handed answer found = []

-- what a run gives to a site. A frame keeps its place among those sent, so all that were sent by the end serve
abbrev pub handed_to : ℕ → List Frame → List WorldEvent → List Answer → List Handed
handed_to site sent (event ∷ events) (answer ∷ answers) =
    (if site_of event == site then handed answer (input_told sent event) else []) ++ handed_to site sent events answers
handed_to site sent events answers = []

-- what a run made of a site that had the record old
pub record StandsAsKept (site : ℕ) (old : Record) (events : List WorldEvent) (answers : List Answer) (new : WorldState) : Type 0 where
  pub now : Record
  pub there : slice_get (records new) site ≡ Some now
  pub kept : StandsAfter LeadsOn old (handed_to site new.sent events answers) now

-- after a run there are the same sites, and each stands so
pub record SitesStand (old : WorldState) (events : List WorldEvent) (answers : List Answer) (new : WorldState) : Type 0 where
  pub count : length new.sites ≡ length old.sites
  pub each : (site : ℕ) (r : Record) → slice_get (records old) site ≡ Some r → StandsAsKept site r events answers new
