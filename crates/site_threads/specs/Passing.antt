-- The frames that a site takes from the wire and posts to it, and what those add to its list of steps.
use Rattle.std.specs.Prelude.{◌≡◌, ◌≢◌, ℕ, ◌+◌, ◌-◌, ◌≤◌, nat_eq, fold, slice_index_or, Bool, true, false, not, if◌then◌else◌, List, [], ◌∷◌, ◌++◌, All, Contains, filter, flat_map, length, map, is_some, Option, Some, None, Result}
use Rattle.std.specs.List.{range_with_len}
use Rattle.frame_core.specs.Numbers.{Message}
use Rattle.frame_core.specs.declared.frames.Frame.{Frame}
use Rattle.site_core.specs.Emitting.{emittable}
use Rattle.site_core.specs.Records.{Record}
use Rattle.keeper_core.specs.declared.faults.KeepFault.{KeepFault}
use Rattle.keeper_core.specs.declared.faults.Unopened.{Unopened}
use Rattle.site_core.specs.declared.inputs.SiteInput.{SiteInput}
use Rattle.site_core.specs.declared.outcomes.Effects.{Effects}
use Rattle.wire_core.specs.declared.views.Log.{Log}
use Rattle.wire_core.specs.Frames.{sender}
use Rattle.world_core.specs.Turns.{addressee}
use Rattle.site_threads.specs.Answering.{Delivers, DoesJob, Opened}
use Rattle.site_threads.specs.Jobs.{AreOfFrames, ComesTo, entry_of, open_after, option_items}
use Rattle.site_threads.specs.Keepers.{shown_if}
use Rattle.site_threads.specs.Offers.{behind, owed_by, owes, round_at, wish}
use Rattle.site_threads.specs.declared.jobs.Entry.{Entry}
use Rattle.site_threads.specs.Sites.{Running}
use Rattle.site_threads.specs.declared.turns.TurnReport.{TurnReport}

-- what the sites of a seat have from the wire: the frames that they noted, and the sites that they asked for one
pub record Incoming : Type 0 where
  pub noted : List Frame
  pub asked : List ℕ

abbrev pub incoming : List Log → Incoming
incoming logs = record { noted = flat_map (λ e. e.noted) logs; asked = flat_map (λ e. e.asked) logs }

-- what they gave to it: the frames that they sent, and those that they offered, which were sent or found their mailbox
-- full
pub record Outgoing : Type 0 where
  pub sent : List Frame
  pub offered : List Frame

abbrev pub outgoing : List Log → Outgoing
outgoing logs = record { sent = flat_map (λ e. e.sent) logs; offered = flat_map (λ e. e.offered) logs }

module _ {K G : Type 0} where
  -- nothing was offered, and the places stay
  abbrev pub PostsNothing : Running K G → Running K G → Type 0
  PostsNothing old new = (outgoing new.seat.logs ≡ outgoing old.seat.logs) × (new.rounds ≡ old.rounds)

  -- and nobody was asked, and no frame noted
  abbrev pub PassNothing : Running K G → Running K G → Type 0
  PassNothing old new = (incoming new.seat.logs ≡ incoming old.seat.logs) × PostsNothing old new

  -- nobody was asked, no frame noted, and no step made
  abbrev pub TakesNothing : Running K G → Running K G → Type 0
  TakesNothing old new = (incoming new.seat.logs ≡ incoming old.seat.logs) × (new.entries ≡ old.entries) × (new.keeper ≡ old.keeper) × (new.owed ≡ old.owed)

-- the numbers that the frames have, of sites, rise from low and stay below high: so no two frames have the same
abbrev pub Rise : (Frame → ℕ) → ℕ → List Frame → ℕ → Type 0
Rise number low [] high = low ≤ high
Rise number low (f ∷ fs) high = (low ≤ number f) × Rise number (number f + 1) fs high

-- these frames were noted from the wire: they are for the site, and of each other site from low on and below high there
-- is at most one
pub record Notes (me low high : ℕ) (old new took : List Frame) : Type 0 where
  pub noted : new ≡ old ++ took
  pub rise : Rise sender low took high
  pub each : All (λ f. (addressee f ≡ me) × (sender f ≢ me)) took

-- the sites from low on and below high, without this one, ascending
abbrev pub others : ℕ → ℕ → ℕ → List ℕ
others me low high = filter (λ site. not (nat_eq site me)) (range_with_len low (high - low))

-- Each other site from low on and below high is asked once, ascending: all of them, where the site is open afterwards;
-- none, and no frame is taken, where it was closed before; and else all up to the one whose frame it stopped in.
pub record AsksEach (me low high : ℕ) (before after : Bool) (took : List Frame) (old new : List ℕ) : Type 0 where
  pub end : ℕ
  pub within : (low ≤ end) × (end ≤ high)
  pub asked : new ≡ old ++ others me low end
  pub all : after ≡ true → end ≡ high
  pub none : before ≡ false → (end ≡ low) × (took ≡ [])
  pub stopped : before ≡ true → after ≡ false → (earlier : List Frame) × (f : Frame) × (took ≡ earlier ++ f ∷ []) × (sender f + 1 ≡ end)

-- so many steps came, each of a frame, and so many of the frames were lost; before the steps the list is the
-- same; whether the site was open before them, and is afterwards
pub record EntersFrames (before after : Bool) (took : List Frame) (old new : List Entry) (count lost : ℕ) : Type 0 where
  pub frames : List Entry
  pub all : new ≡ old ++ frames
  pub each : AreOfFrames frames
  pub many : length frames ≡ count
  pub counts : length took ≡ count + lost
  pub comes : ComesTo before frames after

-- each such site was asked, and at most one frame of each was noted; so many of these were entered, and all others are
-- counted as lost
pub record TakesFrames (me low high : ℕ) (old new : Incoming) (before after : Bool) (steps steps' : List Entry) (count lost : ℕ) : Type 0 where
  pub took : List Frame
  pub asks : AsksEach me low high before after took old.asked new.asked
  pub notes : Notes me low high old.noted new.noted took
  pub enters : EntersFrames before after took steps steps' count lost

-- the site sends the frame, for another one, and the record that is shown makes it emittable
pub record IsSentBy (me : ℕ) (shown : Option Record) (f : Frame) : Type 0 where
  pub from : sender f ≡ me
  pub other : addressee f ≢ me
  pub record_is : Record
  pub stands : shown ≡ Some record_is
  pub emitted : Contains (emittable record_is.engagement) f

-- those of the frames that went
abbrev pub went_of : List Bool → List Frame → List Frame
went_of (went ∷ ws) (f ∷ fs) = (if went then f ∷ [] else []) ++ went_of ws fs
went_of ws fs = []

-- what the record that is shown has for each other site from low on and below high, ascending, by what is owed to it and
-- by its place; nothing while none is shown
abbrev pub wishes : ℕ → ℕ → ℕ → Option Record → (ℕ → Option Message) → (ℕ → ℕ) → List Frame
wishes me low high None owed place = []
wishes me low high (Some r) owed place = flat_map (λ to. option_items (wish r.engagement to (owed to) (place to))) (others me low high)

-- Each such frame was offered, but for so many of which memory for a copy ran out. Of those offered so many went and were
-- sent, and the places are behind them.
pub record PostsFrames (me low high : ℕ) (shown : Option Record) (owed : ℕ → Option Message) (old new : Outgoing) (place place' : ℕ → ℕ) (count uncopied : ℕ) : Type 0 where
  pub offers : List Frame
  pub copied : List Bool
  pub each : length copied ≡ length (wishes me low high shown owed place)
  pub of : offers ≡ went_of copied (wishes me low high shown owed place)
  pub others : length offers + uncopied ≡ length (wishes me low high shown owed place)
  pub offered : new.offered ≡ old.offered ++ offers
  pub rise : Rise addressee low offers high
  pub by : All (IsSentBy me shown) offers
  pub went : List Bool
  pub tells : length went ≡ length offers
  pub sent : new.sent ≡ old.sent ++ went_of went offers
  pub many : length (went_of went offers) ≡ count
  pub places : (to : ℕ) → place' to ≡ fold (behind to) (place to) (went_of went offers)

-- by site, the place of its messages, and the message that was taken from it in this turn
abbrev pub place_of : {K G : Type 0} → Running K G → ℕ → ℕ
place_of s to = (round_at s.rounds to).place

abbrev pub owed_in : {K G : Type 0} → Running K G → ℕ → Option Message
owed_in s to = slice_index_or s.owed to None

-- what is owed to each site, once the frames noted since were taken
abbrev pub OwesFor : List Frame → List Frame → List (Option Message) → List (Option Message) → Type 0
OwesFor old new owed owed' =
    (took : List Frame) → new ≡ old ++ took → (to : ℕ) → slice_index_or owed' to None ≡ fold (owes to) (slice_index_or owed to None) took

-- The frames of a running site, and of its turn.

abbrev pub OwesNoted : {K G : Type 0} → Running K G → Running K G → Type 0
OwesNoted old new = OwesFor (incoming old.seat.logs).noted (incoming new.seat.logs).noted old.owed new.owed

module _ {K G : Type 0} (shown : K → Option Record) where
  -- the frames noted since were delivered
  abbrev pub DeliversNoted : (K → Record → Type 0) → (K → SiteInput → Result Effects KeepFault → K → Type 0) → Running K G → Running K G → Type 0
  DeliversNoted may applies old new = Delivers shown may applies old.keeper new.keeper (incoming old.seat.logs).noted (incoming new.seat.logs).noted old.entries new.entries

  abbrev pub TakesOfEach : ℕ → ℕ → Running K G → Running K G → ℕ → ℕ → Type 0
  TakesOfEach low high old new count lost =
      TakesFrames old.me low high (incoming old.seat.logs) (incoming new.seat.logs) (is_some (shown_if shown old.keeper)) (is_some (shown_if shown new.keeper)) old.entries new.entries count lost

  abbrev pub PostsToEach : ℕ → ℕ → (ℕ → Option Message) → Running K G → Running K G → ℕ → ℕ → Type 0
  PostsToEach low high owed old new count uncopied =
      PostsFrames old.me low high (shown_if shown new.keeper) owed (outgoing old.seat.logs) (outgoing new.seat.logs) (place_of old) (place_of new) count uncopied

  -- after the step of its job, if it was given one, a site takes frames in its turn
  abbrev pub TakesAfterJob : Running K G → Running K G → TurnReport → Type 0
  TakesAfterJob old new report =
      TakesFrames old.me 0 old.wire.sites (incoming old.seat.logs) (incoming new.seat.logs) (open_after report.receipt) (is_some (shown_if shown new.keeper)) (old.entries ++ map entry_of (option_items report.receipt)) new.entries report.applied report.lost

  -- the keeper is open, or is opened again; it does the job, if the site was given one; and then the frames are delivered
  abbrev pub AnswersInTurn : (K → Record → Type 0) → (K → SiteInput → Result Effects KeepFault → K → Type 0) → (K → Result K (Unopened K) → Type 0) → Running K G → Running K G → TurnReport → Type 0
  AnswersInTurn may applies reopens old new report =
      (begun : Option K) × (left : Option K) × Opened shown reopens old.keeper begun × DoesJob shown may applies begun report.receipt left
      × Delivers shown may applies left new.keeper (incoming old.seat.logs).noted (incoming new.seat.logs).noted (old.entries ++ map entry_of (option_items report.receipt)) new.entries

  -- and then it posts frames, by those that it took
  abbrev pub PostsAfterTaking : Running K G → Running K G → TurnReport → Type 0
  PostsAfterTaking old new report =
      (took : List Frame) → (incoming new.seat.logs).noted ≡ (incoming old.seat.logs).noted ++ took
      → PostsToEach 0 old.wire.sites (owed_by took) old new report.posted report.uncopied
