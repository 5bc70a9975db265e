-- The rule: what holds between any two steps.
use Rattle.std.specs.Prelude.{◌≡◌, ◌≢◌, ⊤, ℕ, ◌+◌, ◌<◌, ◌≤◌, nat_eq, List, [], ◌∷◌, map, flat_map, filter, length, Contains, Option as Maybe}
use Rattle.std.specs.List.{AllZip}
use mathlib.Core.Option.{Option, some}
use lib.ListN.{get_elem?}
use Rattle.atomic_table.specs.Table.{State}
use Rattle.event_json.specs.declared.limits.TheConstants.{MAX_SITES}
use Rattle.frame_core.specs.declared.frames.Frame.{Frame}
use Rattle.site_core.specs.Records.{Record}
use Rattle.site_core.specs.declared.inputs.SiteInput.{SiteInput}
use Rattle.world_core.specs.declared.events.Answer.{Answer}
use Rattle.world_core.specs.declared.events.Answer.TheVariants.{Done, Sent as WasSent}
use Rattle.world_core.specs.declared.events.WorldEvent.{WorldEvent}
use Rattle.world_core.specs.declared.events.WorldEvent.TheVariants.{Step, Send}
use Rattle.world_core.specs.KeptSteps.{Handed, Answered, handed_to}
use Rattle.world_core.specs.Turns.{Runs, addressee}
use Rattle.world_core.specs.Worlds.{Up, WorldState}
use Rattle.wire_core.specs.declared.views.Doing.TheVariants.{Nothing}
use Rattle.wire_core.specs.declared.views.Log.{Log}
use Rattle.wire_core.specs.declared.views.View.{View}
use Rattle.wire_core.specs.Fitting.{RecordsFit}
use Rattle.wire_core.specs.Frames.{sender}
use Rattle.wire_core.specs.Mailboxes.{Mailbox}

-- the records last marked, by site, and all frames sent
abbrev pub last_records : List Log → List Record
last_records logs = map (λ e. e.last) logs

abbrev pub frames : List Log → List Frame
frames logs = flat_map (λ e. e.sent) logs

-- the view has the logs of just the sites that stand in this seat
abbrev pub Knows : (ℕ → ℕ) → List Log → ℕ → View → Type 0
Knows seat logs id v = (e : Log) → (Contains v.sites e → (seat e.site ≡ id) × (get_elem? logs e.site ≡ some e)) × (seat e.site ≡ id → get_elem? logs e.site ≡ some e → Contains v.sites e)

-- each site stands in one seat
pub record Shared (views : List View) (seat : ℕ → ℕ) (logs : List Log) : Type 0 where
  pub own : (i : ℕ) (e : Log) → get_elem? logs i ≡ some e → e.site ≡ i
  pub seated : (i : ℕ) → i < length logs → seat i < length views
  pub known : (id : ℕ) (v : View) → get_elem? views id ≡ some v → Knows seat logs id v

-- all sites are up in these records, and these frames were sent
abbrev pub world_up : List Record → List Frame → WorldState
world_up records sent = record { sites = map (λ r. Up r) records; sent = sent }

-- those of the frames that the site sent, in order
abbrev pub sent_from : ℕ → List Frame → List Frame
sent_from site frames = filter (λ f. nat_eq (sender f) site) frames

-- an event of threads: a step that was done, or a frame that was sent
abbrev pub Happened : WorldEvent → Answer → Type 0
Happened (Step site input) (Done effects) = ⊤
Happened (Send site place) (WasSent at) = ⊤
Happened event answer = ⊥

-- what was handed to a site are these inputs, in order, each answered with the effects of its step
abbrev pub AreAnswered : List Handed → List SiteInput → Type 0
AreAnswered [] [] = ⊤
AreAnswered (Answered given effects ∷ rest) (input ∷ inputs) = (given ≡ input) × AreAnswered rest inputs
AreAnswered handed inputs = ⊥

-- The logs of all sites are a run of the world: one event after another, each with its answer, lead from the records at
-- the start, which are consistent, with no frame sent, to the records last marked. What the run handed to a site are the
-- inputs marked of it, and the frames that the run sent from a site are those that it sent through the wire, in order.
pub record IsRun (start : List Record) (logs : List Log) : Type 0 where
  pub begun : RecordsFit start []
  pub openings : map (λ e. e.opening) logs ≡ start
  pub events : List WorldEvent
  pub answers : List Answer
  pub sent : List Frame
  pub happened : AllZip Happened events answers
  pub runs : Runs (world_up start []) events answers (world_up (last_records logs) sent)
  pub handed : (i : ℕ) (e : Log) → get_elem? logs i ≡ some e → AreAnswered (handed_to i sent events answers) e.inputs
  pub from : (i : ℕ) (e : Log) → get_elem? logs i ≡ some e → sent_from i sent ≡ e.sent
  pub senders : (f : Frame) → Contains sent f → sender f < length logs

-- the words and the slots show what is known of the sites, and the sites are where a run of the world leads
pub record Wired (start : List Record) (words : List ℕ) (homes : List (Option (Maybe Frame))) (logs : List Log) : Type 0 where
  pub progress : (i : ℕ) (e : Log) → get_elem? logs i ≡ some e → get_elem? words i ≡ some (length e.inputs)
  pub noted : (i : ℕ) (e : Log) (f : Frame) → get_elem? logs i ≡ some e → Contains e.noted f → (addressee f ≡ i) × Contains (frames logs) f
  pub mailbox : (i j : ℕ) (a b : Log) → get_elem? logs i ≡ some a → get_elem? logs j ≡ some b → i ≢ j → Mailbox words homes i j a b
  pub run : IsRun start logs

abbrev pub Ruled : List Record → State (Maybe Frame) View → Type 0
Ruled start s = (logs : List Log) × (seat : ℕ → ℕ) × (length logs ≡ length start) × (length logs ≤ MAX_SITES) × Shared s.views seat logs × Wired start s.words s.homes logs

-- at the start
abbrev pub opening_log : ℕ → Record → Log
opening_log site r = record { site = site; opening = r; inputs = []; last = r; sent = []; noted = []; asked = []; offered = []; doing = Nothing }

abbrev pub logs_from : ℕ → List Record → List Log
logs_from site [] = []
logs_from site (r ∷ rs) = opening_log site r ∷ logs_from (site + 1) rs

abbrev pub first_view : List Record → View
first_view rs = record { sites = logs_from 0 rs; cut = 0 }
