-- What clauses say of the two ends of a desk.
use Rattle.std.specs.Prelude.{◌≡◌, ◌≤◌, true, IsTrue, IsFalse, List, [], ◌∷◌, ◌++◌, length}
use Rattle.crossbeam_channel.specs.Claims.{view, IsSeatAt}
use Rattle.crossbeam_channel.specs.Ends.{sends_on, receives_on}
use Rattle.site_threads.specs.declared.jobs.Job.{Job}
use Rattle.site_threads.specs.declared.jobs.Receipt.{Receipt}
use Rattle.site_threads.specs.declared.desks.Desk.{Desk}
use Rattle.site_threads.specs.declared.desks.DeskOut.{DeskOut}

-- the jobs put at a desk, and the jobs taken from it, in order
abbrev pub puts : Desk → List Job
puts d = (view d.pass).put

abbrev pub takes : DeskOut → List Job
takes o = (view o.pass).taken

-- the receipts that came from a desk, and those that were sent to it, in order
abbrev pub hears : Desk → List Receipt
hears d = (view d.listener).taken

abbrev pub tells : DeskOut → List Receipt
tells o = (view o.teller).put

-- these are the first ones of those
abbrev pub AreFirst : {X : Type 0} → List X → List X → Type 0
AreFirst {X} xs all = (rest : List X) × (all ≡ xs ++ rest)

-- the end that puts
pub record IsDesk (d : Desk) : Type 0 where
  pub seat : IsSeatAt (sends_on d.to) d.pass
  pub may : (view d.pass).puts ≡ true
  pub listens : IsSeatAt (receives_on d.receipts) d.listener
  pub may_listen : (view d.listener).takes ≡ true
  pub count : d.count ≡ length (view d.pass).put
  pub within : d.count ≤ d.limit
  pub few : d.limit ≤ 1000

-- the end that takes, which counts the desk as gone once it took as many jobs as there can be
pub record IsOut (o : DeskOut) : Type 0 where
  pub seat : IsSeatAt (receives_on o.from) o.pass
  pub may : (view o.pass).takes ≡ true
  pub tells_at : IsSeatAt (sends_on o.receipts) o.teller
  pub may_tell : (view o.teller).puts ≡ true
  pub count : o.count ≡ length (view o.pass).taken
  pub within : o.count ≤ o.limit
  pub few : o.limit ≤ 1000
  pub spent : o.count ≡ o.limit → IsTrue o.gone

-- the two ends of one desk
pub record AreEnds (d : Desk) (o : DeskOut) : Type 0 where
  pub jobs : receives_on o.from ≡ sends_on d.to
  pub receipts : sends_on o.receipts ≡ receives_on d.receipts

-- the same desk, which takes no more jobs in its life, and the same end of one
pub record SameDesk (old new : Desk) : Type 0 where
  pub jobs : sends_on new.to ≡ sends_on old.to
  pub receipts : receives_on new.receipts ≡ receives_on old.receipts
  pub limit : new.limit ≡ old.limit

pub record SameOut (old new : DeskOut) : Type 0 where
  pub jobs : receives_on new.from ≡ receives_on old.from
  pub receipts : sends_on new.receipts ≡ sends_on old.receipts
  pub limit : new.limit ≡ old.limit

-- an end from which nothing was taken, and through which no receipt was sent
pub record IsUnused (o : DeskOut) : Type 0 where
  pub out : IsOut o
  pub untouched : takes o ≡ []
  pub untold : tells o ≡ []

-- the receipt was sent, unless the channel reported that the other end was dropped, now or before
pub record SendsReceipt (old : DeskOut) (x : Receipt) (new : DeskOut) : Type 0 where
  pub sent : IsFalse new.dropped → tells new ≡ tells old ++ x ∷ []
  pub kept : IsTrue new.dropped → tells new ≡ tells old
  pub stays : IsTrue old.dropped → IsTrue new.dropped

-- These receipts were sent, in order; only the first ones, where the channel reported that the other end was dropped.
pub record HasTold (o : DeskOut) (receipts : List Receipt) : Type 0 where
  pub all : IsFalse o.dropped → tells o ≡ receipts
  pub first : AreFirst (tells o) receipts
