-- How many messages a recall has.
use Rattle.std.specs.Prelude.{◌≡◌, ◌⊎◌, ℕ, List, [], Contains, Some}
use Rattle.frame_core.specs.Numbers.{Recall, Message}
use Rattle.frame_core.specs.declared.rows.Row.{Row}
use Rattle.site_recovery.specs.Looks.{World, world_of, Held, Ships, row, seen}
use Rattle.world_core.specs.declared.events.WorldEvent.{WorldEvent}
use Rattle.world_core.specs.declared.events.Answer.{Answer}
use Rattle.world_core.specs.Faults.{AreFresh, AreOneWorld}
use Rattle.world_core.specs.Turns.{Runs}
use Rattle.world_core.specs.Worlds.{WorldState, records}

-- a message of the recall waits under it in its sender's outbox, or was seen under it at some site
abbrev pub IsMessageOf : World → Recall → Message → Type 0
IsMessageOf W r m = ((x : Row) × (row W m.site m.number ≡ Some x) × (x.recall ≡ r)) ⊎ ((s : ℕ) × (seen W s m ≡ Some r))

-- an item, where it was shipped from and where to
pub record Shipment : Type 0 where
  pub from : ℕ
  pub item : List ℕ
  pub to : ℕ

-- the item was shipped so, and is quarantined under the recall where it was shipped from
abbrev pub LeavesQuarantine : World → Recall → Shipment → Type 0
LeavesQuarantine W r h = Held W h.from r h.item × Ships W h.from h.item h.to

-- there are as many of these as of those: a list pairs each of these with just one of those, and each of those with just
-- one of these
pub record AreAsMany {A B : Type 0} (These : A → Type 0) (Those : B → Type 0) : Type 0 where
  pub pairs : List (A × B)
  pub of_both : (a : A) (b : B) → Contains pairs (a, b) → These a × Those b
  pub each_of_these : (a : A) → These a → (b : B) × Contains pairs (a, b)
  pub each_of_those : (b : B) → Those b → (a : A) × Contains pairs (a, b)
  pub one_of_those : (a : A) (b c : B) → Contains pairs (a, b) → Contains pairs (a, c) → b ≡ c
  pub one_of_these : (a b : A) (c : B) → Contains pairs (a, c) → Contains pairs (b, c) → a ≡ b

-- After every run from sites at which nothing happened yet a recall has as many messages as there are shipments of what
-- is quarantined under it, however often frames were sent, lost or repeated.
abbrev pub MessagesAreCounted : Type 0
MessagesAreCounted =
    (old new : WorldState) (events : List WorldEvent) (answers : List Answer)
    → AreOneWorld (records old) → AreFresh (records old) → old.sent ≡ [] → Runs old events answers new
    → (recall : Recall) → AreAsMany (IsMessageOf (world_of (records new)) recall) (LeavesQuarantine (world_of (records new)) recall)
