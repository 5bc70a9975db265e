-- What a run leaves of each site.
use Rattle.std.specs.Prelude.{◌≡◌, ◌≤◌, ℕ, List, [], ◌∷◌, Option, Some, None, vec_capacity}
use Rattle.std.specs.Option.{option_or}
use Rattle.site_threads.specs.declared.gather.GatherCause.{GatherCause}
use Rattle.site_threads.specs.declared.gather.GatherCause.TheVariants.{NoMemory, SiteLost, GaveUp}
use Rattle.site_threads.specs.declared.gather.Ended.{Ended}
use Rattle.site_threads.specs.declared.lists.RunLog.{RunLog}
use Rattle.site_threads.specs.Sites.{Running}
use Rattle.site_threads.specs.declared.turns.TurnCause.{TurnCause}
use Rattle.site_threads.specs.declared.turns.TurnCause.TheVariants as turns

module _ {K G : Type 0} where
  -- this is the keeper of the site
  abbrev pub HasKeeper : Running K G → K → Type 0
  HasKeeper run k = run.keeper ≡ Some k

  -- the list has the steps of the site, its end of its desk, the job in hand, how often the gate was asked, and why the
  -- site ended its run
  pub record LeavesList (run : Running K G) (l : RunLog) : Type 0 where
    pub site : l.site ≡ run.me
    pub entries : l.entries.items ≡ run.entries
    pub start : l.start.value ≡ run.start
    pub out : l.out ≡ run.out
    pub pending : l.pending ≡ run.pending
    pub turns : l.turns ≡ run.turns
    pub fault : l.fault ≡ run.fault

-- nothing stands there yet, and there is room for so many sites
pub record IsRoomFor {K : Type 0} (count : ℕ) (room : Ended K) : Type 0 where
  pub no_keepers : room.keepers.items ≡ []
  pub no_lists : room.lists.items ≡ []
  pub no_cause : room.cause ≡ None
  pub for_keepers : count ≤ vec_capacity room.keepers
  pub for_lists : count ≤ vec_capacity room.lists

-- why a site that ended its run so leaves the run of all sites without an answer
abbrev pub cause_of : ℕ → Option TurnCause → Option GatherCause
cause_of site None = None
cause_of site (Some turns.NoMemory) = Some NoMemory
cause_of site (Some turns.GaveUp) = Some (GaveUp site)
cause_of site (Some (turns.Lost fault)) = Some (SiteLost site)

-- the one of the first site that has one
abbrev pub first_cause : {K G : Type 0} → List (Running K G) → Option GatherCause
first_cause [] = None
first_cause (run ∷ runs) = option_or (cause_of run.me run.fault) (first_cause runs)
