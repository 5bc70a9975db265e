-- The life of a folder: commands on its sites, one after another, each of which ended as its contract says, or was
-- killed. What the sites did then is a run of the world, which comes out as the headline says.
--
-- Commands that go on at the same time have different sites' files open, or wait for each other's, so that one of two
-- can be put first.
use Rattle.std.specs.Prelude.{◌≡◌, ◌⊎◌, ⊤, ℕ, zero, suc, ◌+◌, List, [], ◌∷◌, Contains, length, map, Option, None, Some, slice_get, slice_set}
use Rattle.std.specs.List.{AllByRecursion}
use Rattle.event_json.specs.Sites.{Site}
use Rattle.frame_core.specs.declared.frames.Frame.{Frame}
use Rattle.keeper_core.specs.Keeping.{IsAfter}
use Rattle.site_core.specs.Records.{Record}
use Rattle.site_core.specs.declared.inputs.SiteInput.{SiteInput}
use Rattle.world_core.specs.Faults.{AreAllOf, AreFresh, AreOneWorld}
use Rattle.world_core.specs.Keepers.{StandsAs}
use Rattle.world_core.specs.KeptSteps.{StandsAfter}
use Rattle.world_core.specs.Laws.{ComesOut}
use Rattle.world_core.specs.Parts.{AreActs, CameAfter, Deed, came_in, world_after}
use Rattle.world_core.specs.Turns.{GoesDown}
use Rattle.world_core.specs.Worlds.{Standing, Up, record_of}
use Rattle.world_core.specs.declared.events.Answer.{Answer}
use Rattle.world_core.specs.declared.events.WorldEvent.{WorldEvent}
use Rattle.wire_core.specs.Rule.{world_up}
use Rattle.site_threads.specs.Gathering.{StandsThere, WorldLeadsTo}
use Rattle.site_folders.specs.FileCalls.{FileCall, ClosedSite, Led, OpenedSite, ReadFile}
use Rattle.site_folders.specs.Lists.{Lists}
use Rattle.site_folders.specs.Paths.{list_path}

-- ---- what a command did at the sites

-- acts of single sites lead from how they stood to how they stand, by frames that they gave each other
pub record ActTogether (old new : List Standing) : Type 0 where
  pub deeds : List Deed
  pub are : AreActs old deeds new
  pub came : CameAfter [] deeds

module _ {K : Type 0} (shown : K → Option Record) (may : K → Record → Type 0) where
  -- it shows a record of this site, or may be opened in one
  abbrev pub IsOfSite : ℕ → K → Type 0
  IsOfSite site keeper = (standing : Standing) × StandsAs (shown keeper) (may keeper) standing × ((record_of standing).engagement.me ≡ site)

  -- THE PREMISE ON FILES: each list of sites that was read lists these, and a site's file that was opened shows what stood
  -- there.
  pub record FilesAreContinued (sites : List Site) (old : List Standing) (calls : List (FileCall K)) : Type 0 where
    pub lists : (folder text : List ℕ) (listed : List Site) → Contains calls (ReadFile (list_path folder) text) → Lists text listed → listed ≡ sites
    pub shows : (path name : List ℕ) (keeper : K) (site : ℕ) (stood : Standing)
        → Contains calls (OpenedSite path name keeper) → IsOfSite site keeper → slice_get old site ≡ Some stood → shown keeper ≡ Some (record_of stood)

  -- in a file that was closed stands what its last keeper showed, or may be opened in; in any other what stood there
  pub record FilesAreLeft (old new : List Standing) (calls : List (FileCall K)) : Type 0 where
    pub count : length new ≡ length old
    pub closed : (keeper : K) (site : ℕ) (stands : Standing)
        → Contains calls (ClosedSite keeper) → IsOfSite site keeper → slice_get new site ≡ Some stands → StandsAs (shown keeper) (may keeper) stands
    pub others : (site : ℕ) → ((keeper : K) → Contains calls (ClosedSite keeper) → IsOfSite site keeper → ⊥) → slice_get new site ≡ slice_get old site

  -- what these calls of the files say of the sites is that these acted together, wherever the files go on
  abbrev pub AreActsOfSites : List (FileCall K) → Type 0
  AreActsOfSites calls =
      (sites : List Site) (old new : List Standing) → length old ≡ length sites
      → FilesAreContinued sites old calls → FilesAreLeft old new calls → ActTogether old new

  module _ {F : Type 0} (does : F → FileCall K → F → Type 0) where
    -- such calls led from old files by these to new ones, in parts: a command that is planned asks the records first, and then one
    -- site after another takes its part. Each part is as a command of its own.
    abbrev pub LedInParts : List F → F → F → Type 0
    LedInParts [] old new = Led does old new AreActsOfSites
    LedInParts (mid ∷ between) old new = Led does old mid AreActsOfSites × LedInParts between mid new

    -- and so from old files on, once they were told how long to wait and how long a document may be
    abbrev pub LeadByActs : F → F → Type 0
    LeadByActs old new = (first : F) × (between : List F) × LedInParts between first new

-- ---- a command that was killed

-- a capture, or a start: it delivers no frame
abbrev pub IsOwn : SiteInput → Type 0
IsOwn input = came_in input ≡ None

-- THE PREMISE ON COMMANDS THAT ARE KILLED, of which no contract speaks: a capture or a start, of one input or of several,
-- had taken inputs one after another, and of the one in which it was killed all or nothing stands;
pub record WasKilledAt (site : ℕ) (old new : List Standing) : Type 0 where
  pub stood : Standing
  pub there : slice_get old site ≡ Some stood
  pub taken : List SiteInput
  pub own : AllByRecursion IsOwn taken
  pub mid : Record
  pub steps : StandsAfter IsAfter (record_of stood) taken mid
  pub stands : Standing
  pub last : (stands ≡ Up mid) ⊎ ((input : SiteInput) × IsOwn input × GoesDown mid input stands)
  pub new_is : new ≡ slice_set old site stands

-- the sites of these records, from this one on, stand where a run led, each with all or nothing of its last step
abbrev pub AllStandWhereLed : List Frame → ℕ → List Record → List Standing → Type 0
AllStandWhereLed sent site [] [] = ⊤
AllStandWhereLed sent site (r ∷ rs) (s ∷ ss) = StandsThere sent site r s × AllStandWhereLed sent (site + 1) rs ss
AllStandWhereLed sent site rs ss = ⊥

-- a run had come so far, as the rule of its mailboxes has it at each moment, and of each site's last step all or nothing
-- stands;
pub record RunWasKilled (old new : List Standing) : Type 0 where
  pub last : List Record
  pub leads : WorldLeadsTo (map record_of old) last
  pub stand : AllStandWhereLed leads.sent 0 last new

-- and a question had changed nothing.
abbrev pub WasKilled : List Standing → List Standing → Type 0
WasKilled old new = (new ≡ old) ⊎ (((site : ℕ) × WasKilledAt site old new) ⊎ RunWasKilled old new)

-- ---- the life of a folder

module _ {K : Type 0} (shown : K → Option Record) (may : K → Record → Type 0) (sites : List Site) where
  -- one command, or one part of it: it ended, and its calls are acts of the sites, as its contract says; or it was killed
  abbrev pub WasGiven : List Standing → List Standing → Type 0
  WasGiven old new =
      ((calls : List (FileCall K)) × AreActsOfSites shown may calls × FilesAreContinued shown may sites old calls × FilesAreLeft shown may old new calls)
      ⊎ WasKilled old new

  -- so many, one after another
  abbrev pub Lives : ℕ → List Standing → List Standing → Type 0
  Lives zero old new = new ≡ old
  Lives (suc more) old new = (mid : List Standing) × WasGiven old mid × Lives more mid new

  -- THE THEOREM OF THE PROGRAM. Whatever commands the sites' files saw since they were made, in whatever order, and
  -- however each came to its end: what the sites did is a run of the world, from sites at which nothing had happened, and
  -- comes out as the headline says.
  abbrev pub FoldersComeOut : Type 0
  FoldersComeOut =
      (start : List Record) (commands : ℕ) (new : List Standing)
      → AreOneWorld start → AreAllOf sites start → AreFresh start → Lives commands (map (λ r. Up r) start) new
      → (deeds : List Deed) × (events : List WorldEvent) × (answers : List Answer)
      × ComesOut (world_up start []) events answers (world_after (world_up start []) deeds new)
