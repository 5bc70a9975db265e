-- When the records of all sites are consistent, and a frame that was sent fits them.
--
-- The ten conditions are numbered as the answers of the check are. Numbers 7 and 8 are of one frame each; the others
-- are of the records alone, each stated at the site to which its failures are attributed.
use Rattle.std.specs.Prelude.{◌≡◌, ◌≢◌, ◌⊎◌, ℕ, zero, suc, ◌<◌, IsTrue, IsFalse, List, Contains, Some}
use Rattle.frame_core.specs.Numbers.{Recall, Message}
use Rattle.frame_core.specs.declared.frames.Frame.{Frame}
use Rattle.frame_core.specs.declared.frames.Frame.TheVariants as frames
use Rattle.frame_core.specs.declared.rows.Row.{Row}
use Rattle.scholten_core.specs.declared.own_recalls.Own.{Own}
use Rattle.trace_core.specs.Relations.{Reaches}
use Rattle.trace_core.specs.declared.pairs.Pair.{Pair}
use Rattle.site_core.specs.Records.{Record}
use Rattle.site_core.specs.Ways.{Holds, ShipsTo, Tells}
use Rattle.site_recovery.specs.Looks.{World, Makes, Ships, Held, row, seen, parent, own, next_message, next_recall}

-- The words of the conditions.

-- the pairs are related: the one's item was made of the other's at one site, or was shipped from site to site
abbrev pub LeadsTo : World → Pair → Pair → Type 0
LeadsTo W p q = ((p.site ≡ q.site) × Makes W p.site p.item q.item) ⊎ (Ships W p.site p.item q.site × (p.item ≡ q.item))

-- a chain of related pairs leads from the root at its initiator to the item at the site
abbrev pub Reached : World → ℕ → List ℕ → ℕ → List ℕ → Type 0
Reached W initiator root s i = Reaches (LeadsTo W) (record { site = initiator; item = root }) (record { site = s; item = i })

-- the recall was begun, and the item at the site is in reach of its root
abbrev pub IsInReach : World → Recall → ℕ → List ℕ → Type 0
IsInReach W r s i = (o : Own) × (own W r.site r.number ≡ Some o) × Reached W r.site o.root s i

-- an outbox row of the site s announces to the site t that the item is recalled
abbrev pub Announces : World → ℕ → ℕ → Recall → List ℕ → Type 0
Announces W s t r i = Tells (W s) t r i

-- the recall of the item is passed on from the site s to t: a row announces it there, or the item is quarantined there
abbrev pub IsPassedOn : World → ℕ → ℕ → Recall → List ℕ → Type 0
IsPassedOn W s t r i = Announces W s t r i ⊎ Held W t r i

-- what the row of the message announces is quarantined at the site, if it goes there and the message was seen there
abbrev pub IsTaken : World → ℕ → Message → Row → Type 0
IsTaken W t m x = (q : Recall) → x.dest ≡ t → seen W t m ≡ Some q → Held W t x.recall x.item

-- the row announces an item that is quarantined at the record's site, and was shipped from there to where the row goes
abbrev pub IsJust : Record → Row → Type 0
IsJust site x = Holds site x.recall x.item × ShipsTo site x.item x.dest

-- the recall's initiator began it, and hasn't recorded its end
abbrev pub IsLive : World → Recall → Type 0
IsLive W r = (o : Own) × (own W r.site r.number ≡ Some o) × IsFalse o.ended

-- the recall's initiator began it, and has recorded its end
abbrev pub IsEnded : World → Recall → Type 0
IsEnded W r = (o : Own) × (own W r.site r.number ≡ Some o) × IsTrue o.ended

-- the site is engaged for the recall
abbrev pub IsEngaged : World → ℕ → Recall → Type 0
IsEngaged W s r = (m : Message) × (parent W s r ≡ Some m)

-- the site's outbox has no row of the recall
abbrev pub NoRows : World → ℕ → Recall → Type 0
NoRows W s r = (n : ℕ) (x : Row) → row W s n ≡ Some x → x.recall ≢ r

-- the site may wait for messages of the recall: it is engaged for it, or it began it and the recall is live
abbrev pub MayWait : World → ℕ → Recall → Type 0
MayWait W s r = IsEngaged W s r ⊎ ((s ≡ r.site) × IsLive W r)

-- the message's row stands where it was sent, goes to the site and is of the recall
abbrev pub HasRow : World → Message → ℕ → Recall → Type 0
HasRow W m s r = (x : Row) × (row W m.site m.number ≡ Some x) × (x.dest ≡ s) × (x.recall ≡ r)

-- the parent was seen at the site under the recall, and its row stands where it was sent
abbrev pub ParentStands : World → ℕ → Recall → Message → Type 0
ParentStands W s r m = (seen W s m ≡ Some r) × HasRow W m s r

-- from the site, so many steps from a site to the sender of its parent lead to the recall's initiator, and end at the
-- first that comes there; since the number of steps is fixed, no site is met twice
abbrev pub Climbs : World → Recall → ℕ → ℕ → Type 0
Climbs W r zero s = s ≡ r.site
Climbs W r (suc k) s = (m : Message) × (parent W s r ≡ Some m) × Climbs W r k m.site × (s ≢ r.site)

-- from the site, parents lead to the recall's initiator
abbrev pub LeadsHome : World → Recall → ℕ → Type 0
LeadsHome W r s = (k : ℕ) × Climbs W r k s

-- the site isn't the recall's initiator, and from it parents lead there
abbrev pub IsOnTheWay : World → ℕ → Recall → Type 0
IsOnTheWay W s r = (s ≢ r.site) × LeadsHome W r s

-- the site has seen the message, which is the parent of no recall there
abbrev pub IsAnswered : World → ℕ → Message → Type 0
IsAnswered W s m = ((q : Recall) × (seen W s m ≡ Some q)) × ((q : Recall) → parent W s q ≢ Some m)

-- The conditions of the records.

-- 1: what is made at the site of an item that is quarantined there is quarantined there
abbrev pub IsClosedAt : World → ℕ → Type 0
IsClosedAt W s = (r : Recall) (i j : List ℕ) → Held W s r i → Makes W s i j → Held W s r j

-- 2: what was shipped to the site from a quarantine is quarantined here, or a message announces it;
abbrev pub ShipmentsAreTold : World → ℕ → Type 0
ShipmentsAreTold W t = (s : ℕ) (r : Recall) (i : List ℕ) → Held W s r i → Ships W s i t → IsPassedOn W s t r i

-- and what a message announced to the site is quarantined here once it was seen, under whatever recall
abbrev pub MessagesAreTaken : World → ℕ → Type 0
MessagesAreTaken W t = (s n : ℕ) (x : Row) → row W s n ≡ Some x → IsTaken W t (record { site = s; number = n }) x

pub record IsToldAt (W : World) (t : ℕ) : Type 0 where
  pub told : ShipmentsAreTold W t
  pub taken : MessagesAreTaken W t

-- 3: the roots of the site's recalls are quarantined here;
abbrev pub RootsAreHeld : World → ℕ → Type 0
RootsAreHeld W s = (k : ℕ) (o : Own) → own W s k ≡ Some o → Held W s (record { site = s; number = k }) o.root

-- what its messages announce is quarantined here, and was shipped to where they go;
abbrev pub RowsAreJust : World → ℕ → Type 0
RowsAreJust W s = (n : ℕ) (x : Row) → row W s n ≡ Some x → IsJust (W s) x

-- and what is quarantined at the site is in reach of the root of its recall, which was begun
pub record IsJustifiedAt (W : World) (s : ℕ) : Type 0 where
  pub reached : (r : Recall) (i : List ℕ) → Held W s r i → IsInReach W r s i
  pub rooted : RootsAreHeld W s
  pub rows : RowsAreJust W s

-- 4: the site's messages are of recalls for which it may wait
abbrev pub WaitsRightlyAt : World → ℕ → Type 0
WaitsRightlyAt W s = (n : ℕ) (x : Row) → row W s n ≡ Some x → MayWait W s x.recall

-- 5: the site has seen each of its parents under the parent's recall, and its row stands where it was sent
abbrev pub ParentsStandAt : World → ℕ → Type 0
ParentsStandAt W s = (r : Recall) (m : Message) → parent W s r ≡ Some m → ParentStands W s r m

-- 6: the site isn't engaged for its own recalls, and where it is engaged parents lead from it to the initiator
abbrev pub ParentsLeadHomeFrom : World → ℕ → Type 0
ParentsLeadHomeFrom W s = (r : Recall) (m : Message) → parent W s r ≡ Some m → IsOnTheWay W s r

-- 9: the site has no messages left of a recall that it began and that has ended
abbrev pub EndsAreQuietAt : World → ℕ → Type 0
EndsAreQuietAt W s = (r : Recall) → r.site ≡ s → IsEnded W r → NoRows W s r

-- 10: the site's message and recall numbers are below its next ones, wherever they are kept: in its rows,
abbrev pub RowsAreBelow : World → ℕ → Type 0
RowsAreBelow W q = (n : ℕ) (x : Row) → row W q n ≡ Some x → n < next_message W q

-- among the messages that were seen,
abbrev pub SeenAreBelow : World → ℕ → Type 0
SeenAreBelow W q = (s : ℕ) (m : Message) (r : Recall) → seen W s m ≡ Some r → m.site ≡ q → m.number < next_message W q

-- among its own recalls,
abbrev pub OwnAreBelow : World → ℕ → Type 0
OwnAreBelow W q = (k : ℕ) (o : Own) → own W q k ≡ Some o → k < next_recall W q

-- and in quarantines
abbrev pub HeldAreBelow : World → ℕ → Type 0
HeldAreBelow W q = (s : ℕ) (r : Recall) (i : List ℕ) → Held W s r i → r.site ≡ q → r.number < next_recall W q

pub record NumbersAreBelowOf (W : World) (q : ℕ) : Type 0 where
  pub rows : RowsAreBelow W q
  pub seen : SeenAreBelow W q
  pub own : OwnAreBelow W q
  pub held : HeldAreBelow W q

-- the records are consistent where each condition holds at every site
pub record Fit (W : World) : Type 0 where
  pub closed : (s : ℕ) → IsClosedAt W s
  pub told : (s : ℕ) → IsToldAt W s
  pub justified : (s : ℕ) → IsJustifiedAt W s
  pub waiting : (s : ℕ) → WaitsRightlyAt W s
  pub parents_stand : (s : ℕ) → ParentsStandAt W s
  pub parents_lead_home : (s : ℕ) → ParentsLeadHomeFrom W s
  pub ends_are_quiet : (s : ℕ) → EndsAreQuietAt W s
  pub numbers_are_below : (s : ℕ) → NumbersAreBelowOf W s

-- The conditions of a frame that was sent.

-- 7: a message's row stands, or it was seen where it goes, and is no parent there
-- 8: a signalled message was seen at the site that signals it, and is no parent there
abbrev pub FrameFits : World → Frame → Type 0
FrameFits W (frames.Recall m dest r i) = (row W m.site m.number ≡ Some (record { dest = dest; recall = r; item = i })) ⊎ IsAnswered W dest m
FrameFits W (frames.Signal m by) = IsAnswered W by m

-- the records and the frames that were ever sent are consistent
pub record Fits (W : World) (sent : List Frame) : Type 0 where
  pub records_fit : Fit W
  pub frames_fit : (f : Frame) → Contains sent f → FrameFits W f
