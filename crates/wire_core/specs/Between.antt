-- What holds between any two steps, said of what the seats know: the rule itself names a list of logs, and which seat holds
-- which site, and this is what that comes to.
use Rattle.std.specs.Prelude.{◌≡◌, ◌≢◌, ◌↔◌, ℕ, ◌+◌, ◌<◌, List, [], ◌∷◌, ◌++◌, map, length, Contains, Some, Option as Maybe}
use Rattle.std.specs.List.{range_with_len}
use mathlib.Core.Option.{Option, some}
use lib.ListN.{get_elem?}
use Rattle.atomic_table.specs.Table.{State}
use Rattle.frame_core.specs.declared.frames.Frame.{Frame}
use Rattle.site_core.specs.Records.{Record}
use Rattle.keeper_core.specs.Keeping.{IsAfter}
use Rattle.world_core.specs.KeptSteps.{StandsAfter}
use Rattle.world_core.specs.Turns.{addressee}
use Rattle.world_core.specs.Worlds.{WorldState, WorldFits}
use Rattle.wire_core.specs.declared.views.Log.{Log}
use Rattle.wire_core.specs.declared.views.View.{View}
use Rattle.wire_core.specs.Frames.{way}
use Rattle.wire_core.specs.Mailboxes.{word_of, slot_of}
use Rattle.wire_core.specs.Rule.{IsRun, frames, last_records, world_up}

-- some seat knows this of a site
abbrev pub IsKnown : List View → Log → Type 0
IsKnown views e = (id : ℕ) × (v : View) × (get_elem? views id ≡ some v) × Contains v.sites e

-- one seat holds the site, no other does, and one thing is known of it
pub record StandsInOneSeat (views : List View) (site : ℕ) : Type 0 where
  pub id : ℕ
  pub view : View
  pub log : Log
  pub there : get_elem? views id ≡ some view
  pub held : Contains view.sites log
  pub own : log.site ≡ site
  pub only : (j : ℕ) (v : View) (e : Log) → get_elem? views j ≡ some v → Contains v.sites e → e.site ≡ site → (j ≡ id) × (e ≡ log)

-- the mailbox between two sites: its word is FULL just where one frame more was sent that way than noted, and else as many
-- were; the frame in it is the last one sent, and what was noted is what was sent before it, in order
pub record ShowsTheWay (words : List ℕ) (homes : List (Option (Maybe Frame))) (a b : Log) : Type 0 where
  pub full : (get_elem? words (word_of a.site b.site) ≡ some 2) ↔ (length (way a.site b.site a.sent) ≡ length (way a.site b.site b.noted) + 1)
  pub level : get_elem? words (word_of a.site b.site) ≢ some 2 → way a.site b.site a.sent ≡ way a.site b.site b.noted
  pub frame : get_elem? words (word_of a.site b.site) ≡ some 2
      → (f : Frame) × (get_elem? homes (slot_of a.site b.site) ≡ some (some (Some f))) × (way a.site b.site a.sent ≡ way a.site b.site b.noted ++ f ∷ [])

-- some site sent the frame
abbrev pub WasSentBy : List View → Frame → Type 0
WasSentBy views f = (e : Log) × IsKnown views e × Contains e.sent f

-- the world that the logs of all sites show: each site is up with the record last marked, and all frames sent were sent
abbrev pub world_shown : List Log → WorldState
world_shown logs = world_up (last_records logs) (frames logs)

-- of sites that had these records at the start
pub record HoldsBetween (start : List Record) (s : State (Maybe Frame) View) : Type 0 where
  pub seats : (site : ℕ) → site < length start → StandsInOneSeat s.views site
  -- a site's progress word is the number of its marked inputs
  pub progress : (e : Log) → IsKnown s.views e → get_elem? s.words e.site ≡ some (length e.inputs)
  -- the record last marked stands as the steps marked
  pub stands : (e : Log) → IsKnown s.views e → StandsAfter IsAfter e.opening e.inputs e.last
  pub mailboxes : (a b : Log) → IsKnown s.views a → IsKnown s.views b → a.site ≢ b.site → ShowsTheWay s.words s.homes a b
  -- each noted frame was sent, to that site
  pub noted : (e : Log) (f : Frame) → IsKnown s.views e → Contains e.noted f → (addressee f ≡ e.site) × WasSentBy s.views f
  -- the seats together show where a run of the world leads, from the records at the start; there all fits
  pub world : (all : List Log) × (map (λ e. e.site) all ≡ range_with_len 0 (length start)) × ((e : Log) → Contains all e → IsKnown s.views e) × IsRun start all × WorldFits (world_shown all)
