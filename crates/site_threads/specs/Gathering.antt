-- What is said of the sites once their run has ended.
use Rattle.std.specs.Prelude.{◌≡◌, ⊤, ◌⊎◌, ◌<◌, ◌≤◌, ℕ, ◌+◌, ◌++◌, List, [], ◌∷◌, All, length, map, Option, Some, None, Result, Ok, Err, slice_get}
use Rattle.std.specs.List.{AllZip, range_with_len}
use Rattle.frame_core.specs.declared.frames.Frame.{Frame}
use Rattle.frame_core.specs.Numbers.{Recall}
use Rattle.keeper_core.specs.Keeping.{MayBeOldOrNew}
use Rattle.keeper_core.specs.declared.faults.Unopened.{Unopened}
use Rattle.site_core.specs.Records.{Record}
use Rattle.world_core.specs.Faults.{HindersKeepers, MakeAWorld}
use Rattle.world_core.specs.Keepers.{AllShow, IsFirstClosed, MayBe, StandsAs, sites_of}
use Rattle.world_core.specs.Laws.{ComesOut}
use Rattle.world_core.specs.Recalls.{AreExactOnceEnded, quarantined}
use Rattle.world_core.specs.KeptSteps.{Handed, StandsAfter, handed_to}
use Rattle.world_core.specs.Parts.{IsCarried, came_in}
use Rattle.world_core.specs.Restarting.{MakeAWorldAgain}
use Rattle.world_core.specs.Turns.{GoesDown}
use Rattle.world_core.specs.Worlds.{Standing, Up, WorldState, records}
use Rattle.world_core.specs.declared.events.Answer.{Answer}
use Rattle.world_core.specs.declared.events.WorldEvent.{WorldEvent}
use Rattle.site_core.specs.declared.inputs.SiteInput.{SiteInput}
use Rattle.wire_core.specs.Rule.{AreAnswered, Happened, world_up}
use Rattle.site_threads.specs.declared.desks.DeskOut.{DeskOut}
use Rattle.site_threads.specs.declared.gathered.Gathered.{Gathered}
use Rattle.site_threads.specs.declared.gather.GatherCause.{GatherCause}
use Rattle.site_threads.specs.declared.gather.GatherCause.TheVariants.{NotAWorld, NoMemory, SiteLost, GaveUp}
use Rattle.site_threads.specs.declared.gathered.GatherFault.{GatherFault}
use Rattle.site_threads.specs.declared.lists.RunLog.{RunLog}
use Rattle.site_threads.specs.declared.jobs.Entry.{Entry}
use Rattle.site_threads.specs.declared.jobs.Receipt.{Receipt}
use Rattle.site_threads.specs.declared.jobs.Reply.TheVariants.{Stopped}
use Rattle.site_threads.specs.Ends.{takes, HasTold, IsOut, SameOut}
use Rattle.site_threads.specs.Jobs.{Enters, EntersMarked, IsEntered, jobs_in, option_items, receipts_in, with_marks}
use Rattle.site_threads.specs.Parting.{cause_of}
use Rattle.site_threads.specs.Resting.{IsDone}

-- what is quarantined under each recall that has ended is what its root reaches, neither more nor less
abbrev pub EndedAreExact : List Record → Type 0
EndedAreExact records = (recall : Recall) → AreExactOnceEnded recall records (quarantined recall records)

-- the sites stand together: started again, with no frame in flight, they make a world
pub record StandTogether (records : List Record) : Type 0 where
  pub world : MakeAWorld records
  pub exact : EndedAreExact records

-- Steps that were done, and frames that were sent, lead one after another from these records, with no frame sent, to
-- those; and what comes out of them is what the headline says, at each of their moments.
pub record WorldLeadsTo (start last : List Record) : Type 0 where
  pub events : List WorldEvent
  pub answers : List Answer
  pub sent : List Frame
  pub happened : AllZip Happened events answers
  pub out : ComesOut (world_up start []) events answers (world_up last sent)

-- The keeper is closed since the last of these steps, in which the site stopped. The steps before it lead to a record, and
-- the keeper may be opened in that one or in the one after the last step, and in no other.
pub record LeadToAStop (may : Record → Type 0) (start : Record) (entries : List Entry) (changes : List SiteInput) (last : Record) : Type 0 where
  pub earlier : List Entry
  pub stop : Entry
  pub all : entries ≡ earlier ++ stop ∷ []
  pub reply : stop.reply ≡ Stopped
  pub steps : StandsAfter EntersMarked (with_marks start []) earlier (with_marks last changes)
  pub old_or_new : MayBeOldOrNew last stop.input may

-- the steps lead to the record that the keeper shows, or to a stop
abbrev pub Lead : Option Record → (Record → Type 0) → Record → List Entry → List SiteInput → Record → Type 0
Lead (Some r) may start entries changes last = (r ≡ last) × StandsAfter EntersMarked (with_marks start []) entries (with_marks last changes)
Lead None may start entries changes last = LeadToAStop may start entries changes last

-- A site stands where its steps lead; or it went down within one step more, of a frame, if of any, that is for it and was sent.
abbrev pub StandsThere : List Frame → ℕ → Record → Standing → Type 0
StandsThere sent site last standing = (standing ≡ Up last) ⊎ ((input : SiteInput) × IsCarried site sent (came_in input) × GoesDown last input standing)

module _ {K : Type 0} (shown : K → Option Record) (may : K → Record → Type 0) where
  -- the sites of these keepers, from this one on, stand so, whichever records the keepers show, or may be opened in
  abbrev pub AllStandThere : List Frame → ℕ → List K → List Record → Type 0
  AllStandThere sent site [] [] = ⊤
  AllStandThere sent site (k ∷ ks) (r ∷ rs) =
      ((standing : Standing) → StandsAs (shown k) (may k) standing → StandsThere sent site r standing) × AllStandThere sent (site + 1) ks rs
  AllStandThere sent site ks rs = ⊥

  -- What was handed to the site are the inputs of those steps of its list in which its record changed, in order.
  pub record AreStepsOf (handed : List Handed) (k : K) (l : RunLog) (last : Record) : Type 0 where
    pub changes : List SiteInput
    pub lead : Lead (shown k) (may k) l.start.value l.entries.items changes last
    pub answered : AreAnswered handed changes

  -- so it is of each of the sites from this one on, with its list and with the record to which it leads
  abbrev pub AreTheirSteps : (ℕ → List Handed) → ℕ → List K → List RunLog → List Record → Type 0
  AreTheirSteps handed site [] [] [] = ⊤
  AreTheirSteps handed site (k ∷ ks) (l ∷ ls) (r ∷ rs) = AreStepsOf (handed site) k l r × AreTheirSteps handed (site + 1) ks ls rs
  AreTheirSteps handed site ks ls rs = ⊥

  -- What the sites did is a run of the world, from these records to those to which their lists lead, and what the run
  -- handed to each site are the steps of its list.
  pub record RanFrom (before : List Record) (keepers : List K) (lists : List RunLog) : Type 0 where
    pub after : List Record
    pub leads : WorldLeadsTo before after
    pub steps : AreTheirSteps (λ site. handed_to site leads.sent leads.events leads.answers) 0 keepers lists after
    pub stand : AllStandThere leads.sent 0 keepers after

  -- it leads from the records that the keepers showed
  pub record RanAsAWorld (old new : List K) (lists : List RunLog) : Type 0 where
    pub before : List Record
    pub began : AllShow shown old before
    pub ran : RanFrom before new lists

module _ {K : Type 0} (shown : K → Option Record) (may : K → Record → Type 0) where
  -- in whichever records the keepers are open, or may be opened, the sites stand together
  pub record KeepersFit (keepers : List K) : Type 0 where
    pub again : MakeAWorldAgain shown may (sites_of keepers [])
    pub exact : (world : WorldState) → MayBe shown may (sites_of keepers []) world → EndedAreExact (records world)

-- The jobs of the list, and then the one that was taken and not done, are those that were taken from the desk, in order;
-- and the receipts of its jobs were sent.
pub record FitsEnd (l : RunLog) : Type 0 where
  pub out : IsOut l.out
  pub jobs : jobs_in l.entries.items ++ option_items l.pending ≡ takes l.out
  pub told : HasTold l.out (receipts_in l.site l.entries.items)

-- the keeper is open in the record to which the list leads, step by step
pub record IsKept {K : Type 0} (shown : K → Option Record) (k : K) (l : RunLog) : Type 0 where
  pub last : Record
  pub stands : shown k ≡ Some last
  pub steps : StandsAfter Enters l.start.value l.entries.items last
  pub jobs : FitsEnd l

-- The gate of the keeper's site was asked for all these turns; or for fewer, and the site is done.
pub record HasTurned {K : Type 0} (shown : K → Option Record) (turns : ℕ) (k : K) (l : RunLog) : Type 0 where
  pub asked : l.turns ≤ turns
  pub all : (l.turns ≡ turns) ⊎ IsDone shown (Some k) l.out l.pending

-- the list is of a site that began in the record that the keeper showed
abbrev pub Began : {K : Type 0} → (K → Option Record) → K → RunLog → Type 0
Began shown k l = shown k ≡ Some l.start.value

-- the list has the desk's end
abbrev pub HasEnd : DeskOut → RunLog → Type 0
HasEnd d l = SameOut d l.out

-- the lists are those of all sites, in order
abbrev pub AreInOrder : List RunLog → Type 0
AreInOrder lists = map (λ l. l.site) lists ≡ range_with_len 0 (length lists)

-- What a run leaves that has an answer.

-- All sites have run: each keeper is open in the record to which its site's list leads, step by step, from the one that it
-- began with; the jobs of the list are those that were taken from its desk, and their receipts were sent there; its gate
-- was asked for all turns, unless the site is done. The lists are in the order of the sites, which stand together; what they
-- did is a run of the world, and none ended its run before its time.
pub record HaveRun {K : Type 0} (shown : K → Option Record) (may : K → Record → Type 0) (most : ℕ) (keepers : List K) (desks : List DeskOut) (g : Gathered K) : Type 0 where
  pub kept : AllZip (IsKept shown) g.keepers.items g.lists.items
  pub began : AllZip (Began shown) keepers g.lists.items
  pub ends : AllZip HasEnd desks g.lists.items
  pub turns : AllZip (HasTurned shown most) g.keepers.items g.lists.items
  pub order : AreInOrder g.lists.items
  pub fit : KeepersFit shown may g.keepers.items
  pub run : RanAsAWorld shown may keepers g.keepers.items g.lists.items
  pub none : All (λ l. l.fault ≡ None) g.lists.items

-- What a run leaves that has no answer.

-- what the list of a site says, whether the site ended its run or not
pub record IsLeft (turns : ℕ) (l : RunLog) : Type 0 where
  pub jobs : FitsEnd l
  pub asked : l.turns ≤ turns

-- each site of these keepers and ends of desks has its list
pub record HasLists {K : Type 0} (shown : K → Option Record) (may : K → Record → Type 0) (turns : ℕ) (keepers : List K) (desks : List DeskOut) (e : GatherFault K) : Type 0 where
  pub began : AllZip (Began shown) keepers e.lists.items
  pub ends : AllZip HasEnd desks e.lists.items
  pub order : AreInOrder e.lists.items
  pub left : All (IsLeft turns) e.lists.items
  pub run : RanAsAWorld shown may keepers e.keepers.items e.lists.items

-- no site began a turn: there is no list, and the keepers are as they were; or each site has its list
abbrev pub GivesListsBack : {K : Type 0} → (K → Option Record) → (K → Record → Type 0) → ℕ → List K → List DeskOut → GatherFault K → Type 0
GivesListsBack shown may turns keepers desks e = ((e.lists.items ≡ []) × (e.keepers.items ≡ keepers)) ⊎ HasLists shown may turns keepers desks e

-- no site before this one ended its run
abbrev pub NoneEndedBefore : List RunLog → ℕ → Type 0
NoneEndedBefore lists site = (s : ℕ) (l : RunLog) → s < site → slice_get lists s ≡ Some l → l.fault ≡ None

-- the least site that ended its run did so for this cause
pub record IsFirstCause (lists : List RunLog) (cause : GatherCause) : Type 0 where
  pub site : ℕ
  pub list : RunLog
  pub there : slice_get lists site ≡ Some list
  pub is : cause_of site list.fault ≡ Some cause
  pub least : NoneEndedBefore lists site

-- the cause is that of the least site that ended its run; or no site began a turn
abbrev pub IsCauseOf : List RunLog → GatherCause → Type 0
IsCauseOf lists (NotAWorld fault) = lists ≡ []
IsCauseOf lists NoMemory = (lists ≡ []) ⊎ IsFirstCause lists NoMemory
IsCauseOf lists (SiteLost site) = IsFirstCause lists (SiteLost site)
IsCauseOf lists (GaveUp site) = IsFirstCause lists (GaveUp site)

-- The keepers that are given back, and why the run has no answer.

abbrev pub keepers_of : {K : Type 0} → Result (Gathered K) (GatherFault K) → List K
keepers_of (Ok g) = g.keepers.items
keepers_of (Err e) = e.keepers.items

-- the keepers before this place are open
abbrev pub AreOpenBefore : {K : Type 0} → (K → Option Record) → List K → ℕ → Type 0
AreOpenBefore {K} shown keepers place = (s : ℕ) (k : K) → s < place → slice_get keepers s ≡ Some k → (r : Record) × (shown k ≡ Some r)

abbrev pub HindersRun : {K : Type 0} → (K → Option Record) → List K → GatherCause → Type 0
HindersRun shown keepers (NotAWorld fault) = HindersKeepers shown keepers fault
HindersRun shown keepers NoMemory = ⊤
HindersRun shown keepers (SiteLost site) = IsFirstClosed shown keepers site
HindersRun shown keepers (GaveUp site) = AreOpenBefore shown keepers site

-- the keepers are as they were, where they make no world, and else fit
abbrev pub FitAfter : {K : Type 0} → (K → Option Record) → (K → Record → Type 0) → List K → GatherCause → List K → Type 0
FitAfter shown may old (NotAWorld fault) new = new ≡ old
FitAfter shown may old cause new = KeepersFit shown may new

-- an opening of this keeper, which was closed, was refused
pub record WasRefused {K : Type 0} (shown : K → Option Record) (reopens : K → Result K (Unopened K) → Type 0) (k : K) : Type 0 where
  pub was : K
  pub left : Unopened K
  pub closed : shown was ≡ None
  pub refused : reopens was (Err left)
  pub is : k ≡ left.keeper

-- what stands behind the cause: the site's gate, asked for one of so many turns, gave up, or the opening was refused
abbrev pub Explains : {K G : Type 0} → (K → Option Record) → (K → Result K (Unopened K) → Type 0) → (G → ℕ → ℕ → Type 0) → ℕ → List K → GatherCause → Type 0
Explains shown reopens gives_up turns keepers (NotAWorld fault) = ⊤
Explains shown reopens gives_up turns keepers NoMemory = ⊤
Explains {K} shown reopens gives_up turns keepers (SiteLost site) = (k : K) × (slice_get keepers site ≡ Some k) × WasRefused shown reopens k
Explains {K} {G} shown reopens gives_up turns keepers (GaveUp site) = (gate : G) × (turn : ℕ) × (turn ≤ turns) × gives_up gate site turn

-- The run has no answer: its cause is one that hinders a run of these keepers, stands behind them, and is that of the least
-- site that ended its run. The keepers fit as they are given back, and each has its site's list, unless no site began a turn.
pub record WereHindered {K G : Type 0} (shown : K → Option Record) (may : K → Record → Type 0) (reopens : K → Result K (Unopened K) → Type 0) (gives_up : G → ℕ → ℕ → Type 0) (most : ℕ) (keepers : List K) (desks : List DeskOut) (e : GatherFault K) : Type 0 where
  pub err : HindersRun shown e.keepers.items e.cause × FitAfter shown may keepers e.cause e.keepers.items
  pub why : Explains shown reopens gives_up most e.keepers.items e.cause
  pub named : IsCauseOf e.lists.items e.cause
  pub left : GivesListsBack shown may most keepers desks e

-- the receipt's step stands in its site's list
abbrev pub IsConfirmed : List RunLog → Receipt → Type 0
IsConfirmed lists x = (l : RunLog) × (slice_get lists x.site ≡ Some l) × IsEntered l.entries.items x
