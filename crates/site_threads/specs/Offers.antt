-- What a site has for another one in a turn: the signal of the message that was taken from it in this turn, where the
-- record makes that signal emittable; else the next of the messages that wait for a signal of it. The next one has the
-- least number from a place on, which is behind the message that was posted last; where there is none, it has the least
-- number of all.
use Rattle.std.specs.Prelude.{◌≡◌, ◌≤◌, ℕ, zero, suc, ◌+◌, ◌-◌, ◌^◌, ◌==◌, nat_le, min, max, if◌then◌else◌, List, Contains, filter, map, Option, Some, None, option_and_then, slice_index_or}
use Rattle.std.specs.FinMap.{entries}
use Rattle.std.specs.List.{reduce, last_or}
use Rattle.std.specs.Option.{option_or}
use Rattle.frame_core.specs.Numbers.{Message}
use Rattle.frame_core.specs.declared.frames.Frame.{Frame}
use Rattle.frame_core.specs.declared.frames.Frame.TheVariants as frames
use Rattle.scholten_core.specs.Engagement.{Engagement}
use Rattle.site_core.specs.Emitting.{emittable}
use Rattle.site_core.specs.Naming.{frame_named}
use Rattle.site_core.specs.declared.naming.FrameName.TheVariants as names
use Rattle.world_core.specs.Turns.{addressee}
use Rattle.wire_core.specs.Frames.{sender}
use Rattle.site_threads.specs.declared.rounds.Round.{Round}

-- the site may send the frame to the other one
pub record IsFor (e : Engagement) (to : ℕ) (f : Frame) : Type 0 where
  pub emitted : Contains (emittable e) f
  pub from : sender f ≡ e.me
  pub there : addressee f ≡ to

-- The signal.

-- the message that a frame is
abbrev pub message_of : Frame → Option Message
message_of (frames.Recall m dest r i) = Some m
message_of (frames.Signal m by) = None

-- the message that was taken from a site, among the frames of a turn, of which at most one is from each
abbrev pub owed_by : List Frame → ℕ → Option Message
owed_by took to = option_and_then message_of (last_or None (filter (λ f. sender f == to) took))

-- the same of a site's own list of them, once a frame was taken
abbrev pub owes : ℕ → Option Message → Frame → Option Message
owes to owed f = if sender f == to then message_of f else owed

-- its signal
abbrev pub signal_of : Engagement → ℕ → Message → Option Frame
signal_of e to m = if m.site == to then frame_named e (names.Signal m) else None

-- The next message.

-- the numbers of the messages that wait for a signal of the site
abbrev pub waiting : Engagement → ℕ → List ℕ
waiting e to = map (λ row. row.0) (filter (λ row. row.1.dest == to) (entries e.outbox))

-- those from a place on, and the least of some
abbrev pub from_on : ℕ → List ℕ → List ℕ
from_on place numbers = filter (λ n. nat_le place n) numbers

abbrev pub least : List ℕ → Option ℕ
least numbers = reduce min numbers

abbrev pub next_to : Engagement → ℕ → ℕ → Option ℕ
next_to e to place = option_or (least (from_on place (waiting e to))) (least (waiting e to))

-- the message of a number, where it waits for a signal of the site
abbrev pub message_to : Engagement → ℕ → ℕ → Option Frame
message_to e to number = option_and_then (λ f. if addressee f == to then Some f else None) (frame_named e (names.Message number))

-- What is offered, by what is owed, and by the number of the next message or by the place.
abbrev pub offer_of : Engagement → ℕ → Option Message → Option ℕ → Option Frame
offer_of e to owed next = option_or (option_and_then (signal_of e to) owed) (option_and_then (message_to e to) next)

abbrev pub wish : Engagement → ℕ → Option Message → ℕ → Option Frame
wish e to owed place = offer_of e to owed (next_to e to place)

-- the place once a frame was posted: behind it, if it is a message to the site
abbrev pub behind : ℕ → ℕ → Frame → ℕ
behind to place (frames.Recall m dest r i) = if dest == to then min (m.number + 1) (2 ^ 64 - 1) else place
behind to place (frames.Signal m by) = place

-- the same of what a site keeps, once so many frames were posted, at most one, which is the message of this number
abbrev pub moved : Round → ℕ → Option ℕ → Round
moved round zero number = round
moved round (suc posted) None = round
moved round (suc posted) (Some number) = record { place = min (number + 1) (2 ^ 64 - 1); least = round.least; next = min (number + 1) (2 ^ 64 - 1) }

-- What a site keeps of its place for another one: from where on it looks for the next message, and for the least.
pub record IsRound (e : Engagement) (to : ℕ) (round : Round) : Type 0 where
  pub behind : round.place ≤ round.next
  pub next : (n : ℕ) → Contains (waiting e to) n → round.place ≤ n → round.next ≤ n
  pub least : (n : ℕ) → Contains (waiting e to) n → round.least ≤ n
  -- a message that comes has the number that is next, or one past it
  pub next_low : round.next ≤ max round.place e.next_message
  pub least_low : round.least ≤ e.next_message

-- the one for a site, among those for all sites
abbrev pub round_at : List Round → ℕ → Round
round_at rounds to = slice_index_or rounds to (record { place = 0; least = 0; next = 0 })
