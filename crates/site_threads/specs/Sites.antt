-- What contracts see of a running site, and what they say of it.
use Rattle.std.specs.Prelude.{◌≡◌, ℕ, ◌+◌, ◌-◌, ◌^◌, ◌≤◌, Bool, List, [], ◌∷◌, Option, IfSome, IsSome, min}
use Rattle.frame_core.specs.Numbers.{Message}
use Rattle.site_core.specs.Records.{Record}
use Rattle.wire_core.specs.Seats.{Line, SeatView, IsSeatOf}
use Rattle.wire_core.specs.declared.views.Log.{Log}
use Rattle.site_threads.specs.Jobs.{WithMarks, with_marks}
use Rattle.site_threads.specs.declared.desks.DeskOut.{DeskOut}
use Rattle.site_threads.specs.declared.jobs.Entry.{Entry}
use Rattle.site_threads.specs.declared.jobs.Job.{Job}
use Rattle.site_threads.specs.declared.rounds.Round.{Round}
use Rattle.site_threads.specs.declared.stamps.Stamp.{Stamp}
use Rattle.site_threads.specs.declared.turns.TurnCause.{TurnCause}
use Rattle.site_threads.specs.Ends.{IsOut}
use Rattle.site_threads.specs.Keepers.{shown_if, may_if}
use Rattle.site_threads.specs.Offers.{IsRound, round_at}
use Rattle.site_threads.specs.Running.{IsRunning, inputs_in, marks_in}

-- a running site
pub record Running (K G : Type 0) : Type 0 where
  -- the wire that it is at, and its seat there
  pub wire : Line
  pub seat : SeatView
  pub me : ℕ
  -- its keeper, and the stamp of the record last marked
  pub keeper : Option K
  pub stamp : Stamp
  -- the steps of its run, and for how many more there is room
  pub entries : List Entry
  pub room : ℕ
  -- the record, and the seat, that it began with
  pub start : Record
  pub first : SeatView
  -- by site, the message that was taken from it in this turn, and how far its messages were posted
  pub owed : List (Option Message)
  pub rounds : List Round
  -- its gate, and how often that was asked
  pub gate : G
  pub turns : ℕ
  -- its end of its desk, and the job that a turn gave back
  pub out : DeskOut
  pub pending : Option Job
  -- why it ended its run before its time, and whether it has ended it
  pub fault : Option TurnCause
  pub ended : Bool

-- the places are kept by the record last marked
abbrev pub AreRounds : List Log → List Round → Type 0
AreRounds logs rounds = (e : Log) → logs ≡ e ∷ [] → (to : ℕ) → IsRound e.last.engagement to (round_at rounds to)

-- before its first turn
abbrev pub start_of : {K G : Type 0} → Running K G → WithMarks
start_of s = with_marks s.start (inputs_in s.first.logs)

module _ {K G : Type 0} (shown : K → Option Record) (may : K → Record → Type 0) where
  -- the site is of its wire, has its keeper and its end of a desk, stands as its steps, and keeps its places by the record
  -- last marked
  pub record IsSite (s : Running K G) : Type 0 where
    pub seat : IsSeatOf s.wire s.seat
    pub there : IsSome s.keeper
    pub runs : IsRunning (shown_if shown s.keeper) (may_if may s.keeper) s.seat.logs s.me s.stamp s.entries (start_of s)
    pub rounds : AreRounds s.seat.logs s.rounds
    pub out : IsOut s.out

-- the same site of the same run, in the same turn, marked at most n times since, with room for all but n of the steps that
-- there was room for; what its keeper stores stays so
pub record Continues {K G : Type 0} (stored : K → Type 0) (n : ℕ) (old new : Running K G) : Type 0 where
  pub wire : new.wire ≡ old.wire
  pub me : new.me ≡ old.me
  pub start : new.start ≡ old.start
  pub first : new.first ≡ old.first
  pub marks : marks_in new.seat.logs ≤ marks_in old.seat.logs + n
  pub room : old.room ≤ new.room + n
  pub keeps : IfSome old.keeper stored → IfSome new.keeper stored
  pub turns : new.turns ≡ old.turns
  pub out : new.out ≡ old.out
  pub pending : new.pending ≡ old.pending
  pub fault : new.fault ≡ old.fault
  pub ended : new.ended ≡ old.ended

-- once its gate is asked for one turn more
abbrev pub at_next_turn : {K G : Type 0} → Running K G → Running K G
at_next_turn s = record s { turns = min (s.turns + 1) (2 ^ 64 - 1) }
