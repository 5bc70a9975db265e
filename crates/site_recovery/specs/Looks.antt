-- What a look at the records of all sites finds.
--
-- The conditions under which sites are consistent, and the laws of what an event changes, look at records by
-- these alone.
use Rattle.std.specs.Prelude.{ℕ, List, [], Option, get_or}
use Rattle.std.specs.FinMap.{get}
use Rattle.frame_core.specs.Numbers.{Recall, Message}
use Rattle.frame_core.specs.declared.rows.Row.{Row}
use Rattle.scholten_core.specs.declared.own_recalls.Own.{Own}
use Rattle.trace_core.specs.Spreads.{Inside}
use Rattle.site_core.specs.Records.{Record, fresh}
use Rattle.site_core.specs.Ways.{Holds, ShipsTo}

-- the record of each site, by its number
abbrev pub World : Type 0
World = ℕ → Record

-- the records of a list, in order; past its end stand sites that keep nothing
abbrev pub world_of : List Record → World
world_of records s = get_or records s (fresh [] s)

-- the item j was made of i at the site
abbrev pub Makes : World → ℕ → List ℕ → List ℕ → Type 0
Makes W s i j = Inside (W s).captured i j

-- the item was shipped from the site s to the site t
abbrev pub Ships : World → ℕ → List ℕ → ℕ → Type 0
Ships W s i t = ShipsTo (W s) i t

-- the item is quarantined at the site under the recall
abbrev pub Held : World → ℕ → Recall → List ℕ → Type 0
Held W s r i = Holds (W s) r i

-- the row of the number in the site's outbox
abbrev pub row : World → ℕ → ℕ → Option Row
row W s n = get (W s).engagement.outbox n

-- the recall under which the site has seen the message
abbrev pub seen : World → ℕ → Message → Option Recall
seen W s m = get (W s).engagement.seen m

-- the message that engaged the site for the recall
abbrev pub parent : World → ℕ → Recall → Option Message
parent W s r = get (W s).engagement.parents r

-- the recall that the site began under the number
abbrev pub own : World → ℕ → ℕ → Option Own
own W s k = get (W s).engagement.own k

-- the numbers of the site's next message and of its next recall
abbrev pub next_message : World → ℕ → ℕ
next_message W s = (W s).engagement.next_message

abbrev pub next_recall : World → ℕ → ℕ
next_recall W s = (W s).engagement.next_recall
