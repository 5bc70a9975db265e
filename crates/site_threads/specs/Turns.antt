-- Why a turn isn't made.
use Rattle.std.specs.Prelude.{◌≡◌, ◌≢◌, ⊤, ℕ, Option, Some, None, Result, Err}
use Rattle.keeper_core.specs.Keeping.{HindersOpening}
use Rattle.keeper_core.specs.declared.faults.KeepFault.{KeepFault}
use Rattle.keeper_core.specs.declared.faults.KeepFault.TheVariants as faults
use Rattle.keeper_core.specs.declared.faults.Unopened.{Unopened}
use Rattle.site_core.specs.Records.{Record}
use Rattle.site_threads.specs.Keepers.{shown_if}
use Rattle.site_threads.specs.declared.turns.TurnCause.{TurnCause}
use Rattle.site_threads.specs.declared.turns.TurnCause.TheVariants.{NoMemory, GaveUp, Lost}

-- the keeper couldn't be opened
abbrev pub lost : KeepFault → TurnCause
lost faults.NoMemory = NoMemory
lost fault = Lost fault

module _ {K : Type 0} (shown : K → Option Record) (reopens : K → Result K (Unopened K) → Type 0) where
  -- the keeper was closed, was to be opened again, and was refused that, as its kind promises: it stays closed
  pub record IsRefused (fault : KeepFault) (old new : Option K) : Type 0 where
    pub was : K
    pub left : Unopened K
    pub old_is : old ≡ Some was
    pub closed : shown was ≡ None
    pub refused : reopens was (Err left)
    pub fault_is : left.fault ≡ fault
    pub new_is : new ≡ Some left.keeper
    pub stays : shown_if shown new ≡ None

  -- a lost site was refused that by something else than out of memory
  pub record IsLost (fault : KeepFault) (old new : Option K) : Type 0 where
    pub hinders : HindersOpening fault
    pub other : fault ≢ faults.NoMemory
    pub refused : IsRefused fault old new

-- what kept a site from a turn: its gate, asked for that turn, gave up, or its keeper was not to be opened
abbrev pub HindersTurn : {K G : Type 0} → (K → Option Record) → (K → Result K (Unopened K) → Type 0) → (G → ℕ → ℕ → Type 0) → TurnCause → G → ℕ → ℕ → Option K → Option K → Type 0
HindersTurn shown reopens gives_up NoMemory gate site turn old new = ⊤
HindersTurn shown reopens gives_up GaveUp gate site turn old new = gives_up gate site turn
HindersTurn shown reopens gives_up (Lost fault) gate site turn old new = IsLost shown reopens fault old new
