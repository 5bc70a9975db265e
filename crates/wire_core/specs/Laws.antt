-- What a step of one site and a frame that is sent leave consistent, and what the rule comes to.
use Rattle.std.specs.Prelude.{◌≡◌, ◌≢◌, ◌↔◌, ◌<◌, ℕ, List, [], ◌∷◌, ◌++◌, length, set, Contains, Some, Option as Maybe}
use mathlib.Core.Option.{Option, some}
use lib.ListN.{get_elem?}
use Rattle.atomic_table.specs.Table.{State}
use Rattle.frame_core.specs.declared.frames.Frame.{Frame}
use Rattle.site_core.specs.Emitting.{emittable}
use Rattle.site_core.specs.Records.{Record}
use Rattle.site_core.specs.declared.inputs.SiteInput.{SiteInput}
use Rattle.site_recovery.specs.Looks.{world_of}
use Rattle.keeper_core.specs.Keeping.{IsAfter}
use Rattle.world_core.specs.Faults.{AreOneWorld}
use Rattle.world_core.specs.KeptSteps.{StandsAfter}
use Rattle.world_core.specs.Laws.{ComesOut}
use Rattle.world_core.specs.Turns.{addressee}
use Rattle.wire_core.specs.declared.views.Log.{Log}
use Rattle.wire_core.specs.declared.views.View.{View}
use Rattle.wire_core.specs.Between.{HoldsBetween, IsKnown}
use Rattle.wire_core.specs.Changes.{AllBut, Level, OneMore, Sent as WasSent}
use Rattle.wire_core.specs.Fitting.{RecordsFit}
use Rattle.wire_core.specs.Frames.{DeliversOneOf, sender}
use Rattle.wire_core.specs.Mailboxes.{slot_of, word_of}
use Rattle.wire_core.specs.Rule.{IsRun, Ruled, frames, last_records, world_up}

-- A mark: one step of one site, by an input that may deliver a frame that was sent.
abbrev pub MarksKeepTheFit : Type 0
MarksKeepTheFit =
    (records : List Record) (sent : List Frame) (s : ℕ) (input : SiteInput) (next : Record)
    → RecordsFit records sent → s < length records → DeliversOneOf sent input → IsAfter (world_of records s) input next → RecordsFit (set records s next) sent

-- A post: a frame that a site's record makes emittable is sent.
abbrev pub PostsKeepTheFit : Type 0
PostsKeepTheFit =
    (records : List Record) (sent : List Frame) (s : ℕ) (f : Frame)
    → RecordsFit records sent → s < length records → Contains (emittable (world_of records s).engagement) f → RecordsFit records (sent ++ f ∷ [])

-- Frames count as a set: in which order and how often they were sent is not said, and fewer fit too.
abbrev pub FewerSentFit : Type 0
FewerSentFit =
    (records : List Record) (sent fewer : List Frame)
    → RecordsFit records sent → ((f : Frame) → Contains fewer f → Contains sent f) → RecordsFit records fewer

-- Where the logs are a run of the world, the records last marked are consistent with all frames sent.
abbrev pub RunsFit : Type 0
RunsFit = (start : List Record) (logs : List Log) → IsRun start logs → RecordsFit (last_records logs) (frames logs)

-- There each record last marked stands as the steps marked.
abbrev pub RunsStand : Type 0
RunsStand = (start : List Record) (logs : List Log) (e : Log) → IsRun start logs → Contains logs e → StandsAfter IsAfter e.opening e.inputs e.last

-- And what is proved of runs holds of them, at each moment: the headline.
abbrev pub RunsOfSeatsComeOut : Type 0
RunsOfSeatsComeOut =
    (start : List Record) (logs : List Log) (run : IsRun start logs) → AreOneWorld start
    → ComesOut (world_up start []) run.events run.answers (world_up (last_records logs) run.sent)

-- Between any two steps.
abbrev pub RuleHoldsBetween : Type 0
RuleHoldsBetween = (start : List Record) (s : State (Maybe Frame) View) → Ruled start s → HoldsBetween start s

-- What a call says of two sites that seats know, in terms of the mailbox between them: all was noted just where the mailbox
-- isn't full, one frame more was sent just where it is, all but this frame just where this one lies in it; and a frame was sent
-- that way just where the one site sent one to the other.
pub record TellTheMailbox (words : List ℕ) (homes : List (Option (Maybe Frame))) (a b : Log) : Type 0 where
  pub level : Level a.site b.site (a ∷ b ∷ []) ↔ (get_elem? words (word_of a.site b.site) ≢ some 2)
  pub more : OneMore a.site b.site (a ∷ b ∷ []) ↔ (get_elem? words (word_of a.site b.site) ≡ some 2)
  pub last : (f : Frame) → AllBut a.site b.site f (a ∷ b ∷ [])
      ↔ ((get_elem? words (word_of a.site b.site) ≡ some 2) × (get_elem? homes (slot_of a.site b.site) ≡ some (some (Some f))))
  pub sent : WasSent a.site b.site (a ∷ []) ↔ ((f : Frame) × Contains a.sent f × (sender f ≡ a.site) × (addressee f ≡ b.site))

abbrev pub CallsTellTheMailbox : Type 0
CallsTellTheMailbox =
    (start : List Record) (s : State (Maybe Frame) View) (a b : Log)
    → Ruled start s → IsKnown s.views a → IsKnown s.views b → a.site ≢ b.site → TellTheMailbox s.words s.homes a b
