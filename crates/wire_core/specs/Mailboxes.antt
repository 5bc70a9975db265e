-- One mailbox: its word, its slot, and the frames that went through it.
use Rattle.std.specs.Prelude.{◌≡◌, ℕ, ◌+◌, ◌*◌, ◌<◌, Bool, true, false, nat_eq, List, [], ◌∷◌, ◌++◌, length, Option as Maybe, Some, None}
use mathlib.Core.Option.{Option, some, none}
use lib.ListN.{get_elem?}
use Rattle.event_json.specs.declared.limits.TheConstants.{MAX_SITES}
use Rattle.frame_core.specs.declared.frames.Frame.{Frame}
use Rattle.wire_core.specs.declared.views.Doing.{Doing}
use Rattle.wire_core.specs.declared.views.Doing.TheVariants.{Nothing, Writes, Reads}
use Rattle.wire_core.specs.declared.views.Log.{Log}
use Rattle.wire_core.specs.Frames.{way}

-- what a mailbox goes through: its sender claims it and fills it, and its receiver claims it and empties it
pub data Phase : Type 0 where
  empty : Phase
  writing : Phase
  full : Frame → Phase
  reading : Phase

-- as its word shows it
abbrev pub number : Phase → ℕ
number empty = 0
number writing = 1
number (full f) = 2
number reading = 3

-- what lies in the slot; `none` while a seat holds it
abbrev pub home : Phase → Option (Maybe Frame)
home empty = some None
home writing = none
home (full f) = some (Some f)
home reading = none

-- what the sender sent that way, and what the receiver noted of it: all was noted but the frame in a full mailbox, which is
-- the last one sent
abbrev pub Between : Phase → List Frame → List Frame → Type 0
Between empty sent noted = sent ≡ noted
Between writing sent noted = sent ≡ noted
Between (full f) sent noted = sent ≡ noted ++ f ∷ []
Between reading sent noted = (sent ≡ noted) × (0 < length sent)

abbrev pub is_writing : Phase → Bool
is_writing empty = false
is_writing writing = true
is_writing (full f) = false
is_writing reading = false

abbrev pub is_reading : Phase → Bool
is_reading empty = false
is_reading writing = false
is_reading (full f) = false
is_reading reading = true

-- a site writes the mailbox to a site, or reads the one from it
abbrev pub writes : Doing → ℕ → Bool
writes Nothing to = false
writes (Writes site) to = nat_eq site to
writes (Reads site) to = false

abbrev pub reads : Doing → ℕ → Bool
reads Nothing from = false
reads (Writes site) from = false
reads (Reads site) from = nat_eq site from

-- mailboxes stand in rows, a row for each sender, with a place for each site that there can be; their words stand behind
-- those of progress
abbrev pub slot_of : ℕ → ℕ → ℕ
slot_of from to = MAX_SITES * from + to

abbrev pub word_of : ℕ → ℕ → ℕ
word_of from to = MAX_SITES + (MAX_SITES * from + to)

-- a mailbox with this word and slot, through which these frames went, and which its sender writes, or its receiver reads
pub record Box (word : Option ℕ) (slot : Option (Option (Maybe Frame))) (sent noted : List Frame) (written read : Bool) : Type 0 where
  pub phase : Phase
  pub word_is : word ≡ some (number phase)
  pub slot_is : slot ≡ some (home phase)
  pub frames : Between phase sent noted
  pub written_is : written ≡ is_writing phase
  pub read_is : read ≡ is_reading phase

-- the mailbox from the site i, of which a is known, to the site j, of which b is known
abbrev pub Mailbox : List ℕ → List (Option (Maybe Frame)) → ℕ → ℕ → Log → Log → Type 0
Mailbox words homes i j a b = Box (get_elem? words (word_of i j)) (get_elem? homes (slot_of i j)) (way i j a.sent) (way i j b.noted) (writes a.doing j) (reads b.doing i)
