-- What an input makes of a site that is up: a step, or a stop where one is armed.
use Rattle.std.specs.Prelude.{◌≡◌, ℕ, ◌++◌, [], ◌∷◌, Option, Some, None, slice_set}
use Rattle.frame_core.specs.declared.frames.Frame.{Frame}
use Rattle.keeper_core.specs.Keeping.{IsRefusedFor}
use Rattle.keeper_core.specs.Memory.{Leaves}
use Rattle.keeper_core.specs.declared.faults.Keep.{Keep}
use Rattle.site_core.specs.Records.{Record}
use Rattle.site_core.specs.Steps.{Does}
use Rattle.site_core.specs.declared.inputs.SiteInput.{SiteInput}
use Rattle.world_core.specs.Worlds.{Standing, Up, Down, WorldState, record_of}
use Rattle.recall_text.specs.State.{World}
use Rattle.script_core.specs.declared.worlds.Outcome.{Outcome}
use Rattle.script_core.specs.declared.worlds.Outcome.TheVariants.{Did, Refused, Stopped}

-- The step is done, or refused, which changes nothing. A stop leaves the record that it is to keep, and the site down: the new
-- one is the old one where the input is refused.
abbrev pub Happens : Record → Option Keep → SiteInput → Outcome → Standing → Type 0
Happens old None input (Did effects) new = (r : Record) × Does old input effects r × (new ≡ Up r)
Happens old None input (Refused why) new = IsRefusedFor old input why × (new ≡ Up old)
Happens old (Some keep) input Stopped new = (r : Record) × Leaves old input keep r × (new ≡ Down r)
Happens old armed input outcome new = ⊥

-- how all sites stand once one stands so
abbrev pub with_site : WorldState → ℕ → Standing → WorldState
with_site world n standing = record world { sites = slice_set world.sites n standing }

-- a frame more was sent
abbrev pub with_sent : WorldState → Frame → WorldState
with_sent world frame = record world { sent = world.sent ++ frame ∷ [] }

-- the site had its step, and no stop is armed for its next
abbrev pub with_standing : World → ℕ → Standing → World
with_standing w n standing = record w { world = with_site w.world n standing; armed = slice_set w.armed n None }

abbrev pub with_frame : World → Frame → World
with_frame w frame = record w { world = with_sent w.world frame }

abbrev pub with_armed : World → ℕ → Keep → World
with_armed w n keep = record w { armed = slice_set w.armed n (Some keep) }

-- a site that is down is opened in the record that its stop left
abbrev pub opened : Standing → Standing
opened standing = Up (record_of standing)
