-- What the rounds of `pump` do.
use Rattle.std.specs.Prelude.{◌≡◌, ℕ, ◌-◌, List, [], ◌∷◌, ◌++◌, length, map, Option, Some, None, option_map, option_and_then, unwrap_or, slice_get, slice_set}
use Rattle.std.specs.FinMap.{entries}
use Rattle.std.specs.List.{range_with_len}
use Rattle.event_json.specs.Sites.{Site}
use Rattle.frame_core.specs.declared.frames.Frame.{Frame}
use Rattle.frame_core.specs.declared.frames.Frame.TheVariants as frames
use Rattle.site_core.specs.Records.{Record}
use Rattle.site_core.specs.declared.inputs.SiteInput.TheVariants.{Deliver}
use Rattle.site_core.specs.declared.outcomes.Effects.TheVariants.{Ended}
use Rattle.world_core.specs.Turns.{addressee}
use Rattle.world_core.specs.Worlds.{Standing}
use Rattle.recall_text.specs.Answer.{Said, done}
use Rattle.recall_text.specs.State.{World}
use Rattle.recall_text.specs.Words.{ended_text, stopped_text, pumped_text}
use Rattle.script_core.specs.Happening.{Happens, with_standing, with_frame, opened}
use Rattle.script_core.specs.Sending.{row_frame, owed_signal}
use Rattle.script_core.specs.State.{up_at, armed_at}
use Rattle.script_core.specs.declared.worlds.Outcome.{Outcome}
use Rattle.script_core.specs.declared.worlds.Outcome.TheVariants.{Did, Stopped}

-- what is reported of an input while it runs: that a recall has ended, and that a site stopped
abbrev pub pump_text : List Site → ℕ → Outcome → List ℕ
pump_text sites n (Did (Ended r)) = ended_text sites r
pump_text sites n Stopped = stopped_text sites n
pump_text sites n other = []

-- a frame comes to its site, which is up with the record old
pub record Arrives (frame : Frame) (old : Record) (w : World) (text : List ℕ) (after : World) : Type 0 where
  pub outcome : Outcome
  pub standing : Standing
  pub happens : Happens old (armed_at w (addressee frame)) (Deliver frame) outcome standing
  pub told : text ≡ pump_text w.sites (addressee frame) outcome
  pub changed : after ≡ with_standing w (addressee frame) standing

-- nothing is reported, and nothing changes
abbrev pub Nothing : World → List ℕ → World → Type 0
Nothing w text after = (text ≡ []) × (after ≡ w)

-- a frame to a site that is down is not delivered
abbrev pub Comes : Frame → Option Record → World → List ℕ → World → Type 0
Comes frame None w text after = Nothing w text after
Comes frame (Some old) w text after = Arrives frame old w text after

-- a frame is sent, where there is one, and comes to the site that it is for
abbrev pub Carries : Option Frame → World → List ℕ → World → Type 0
Carries None w text after = Nothing w text after
Carries (Some frame) w text after = Comes frame (up_at w (addressee frame)) (with_frame w frame) text after

-- the message of the outbox row of a site that is up
abbrev pub message_from : World → ℕ → ℕ → Option Frame
message_from w site number = option_and_then (row_frame number) (up_at w site)

-- the signal that answers a message, where the site that it is for is up and may signal it
abbrev pub answer_to : World → Option Frame → Option Frame
answer_to w None = None
answer_to w (Some (frames.Recall m dest r i)) = option_and_then (owed_signal m) (up_at w dest)
answer_to w (Some (frames.Signal m by)) = None

-- the message of a row goes to its site, and then the signal comes back
pub record Exchanges (site number : ℕ) (w : World) (text : List ℕ) (after : World) : Type 0 where
  pub mid : World
  pub front : List ℕ
  pub back : List ℕ
  pub goes : Carries (message_from w site number) w front mid
  pub comes : Carries (answer_to mid (message_from w site number)) mid back after
  pub told : text ≡ front ++ back

-- this is done for each member of a list, in order
abbrev pub Each : (ℕ → World → List ℕ → World → Type 0) → List ℕ → World → List ℕ → World → Type 0
Each Do [] w text after = Nothing w text after
Each Do (x ∷ xs) w text after =
    (mid : World) × (front : List ℕ) × (back : List ℕ) × Do x w front mid × Each Do xs mid back after × (text ≡ front ++ back)

-- the numbers of the rows that stand in the outbox of a site that is up
abbrev pub numbers_at : World → ℕ → List ℕ
numbers_at w site = unwrap_or (option_map (λ r. map (λ e. e.0) (entries r.engagement.outbox)) (up_at w site)) []

-- a site's part: an exchange for each row that stands as it begins
abbrev pub TakesPart : ℕ → World → List ℕ → World → Type 0
TakesPart site w text after = Each (Exchanges site) (numbers_at w site) w text after

-- a site is opened where it is down
abbrev pub opened_at : List Standing → ℕ → Option Standing → List Standing
opened_at sites n None = sites
opened_at sites n (Some standing) = slice_set sites n (opened standing)

abbrev pub with_opened : World → ℕ → World
with_opened w n = record w { world = record w.world { sites = opened_at w.world.sites n (slice_get w.world.sites n) } }

-- every site that is down is opened
abbrev pub all_opened : World → World
all_opened w = record w { world = record w.world { sites = map opened w.world.sites } }

-- a round: every site is opened, and then each takes its part
abbrev pub TakesRound : World → List ℕ → World → Type 0
TakesRound w text after = Each TakesPart (range_with_len 0 (length w.sites)) (all_opened w) text after

-- so many rounds, and how many frames were sent in them
pub record Pumps (rounds : ℕ) (w : World) (said : Said) (after : World) : Type 0 where
  pub text : List ℕ
  pub run : Each (λ round. TakesRound) (range_with_len 0 rounds) w text after
  pub told : said ≡ done (text ++ pumped_text rounds (length after.world.sent - length w.world.sent))

-- what is done adds its text to one
abbrev pub AddsText : (World → List ℕ → World → Type 0) → World → World → List ℕ → List ℕ → Type 0
AddsText Does old new before after = (text : List ℕ) × Does old text new × (after ≡ before ++ text)
