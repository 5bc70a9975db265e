-- What clauses say of the sites of a run.
use Rattle.std.specs.Prelude.{◌≡◌, ◌⊎◌, ℕ, ◌*◌, ◌<◌, ◌≤◌, ◌++◌, [], Bool, true, false, Option, None, Result, IsSome, IfSome}
use Rattle.keeper_core.specs.declared.faults.Unopened.{Unopened}
use Rattle.site_core.specs.Records.{Record}
use Rattle.site_threads.specs.declared.runs.Turned.{Turned}
use Rattle.site_threads.specs.declared.runs.Turned.TheVariants.{Changed, Idle, Ended}
use Rattle.site_threads.specs.declared.turns.TurnCause.{TurnCause}
use Rattle.site_threads.specs.Ends.{takes, HasTold, SameOut}
use Rattle.site_threads.specs.Jobs.{jobs_in, option_items, receipts_in}
use Rattle.site_threads.specs.Keepers.{shown_if}
use Rattle.site_threads.specs.Resting.{IsDone}
use Rattle.site_threads.specs.Running.{inputs_in, marks_in}
use Rattle.site_threads.specs.Sites.{Running}
use Rattle.site_threads.specs.Turns.{HindersTurn}

-- the jobs of its list, and the one in hand, are those that it took from its desk, in order, and their receipts were sent
pub record FitsDesk {K G : Type 0} (s : Running K G) : Type 0 where
  pub jobs : jobs_in s.entries ++ option_items s.pending ≡ takes s.out
  pub told : HasTold s.out (receipts_in s.me s.entries)

-- the same site of the same run, with the same desk, which it fits still; what its keeper stores stays so
pub record SameRun {K G : Type 0} (stored : K → Type 0) (old new : Running K G) : Type 0 where
  pub wire : new.wire ≡ old.wire
  pub me : new.me ≡ old.me
  pub start : new.start ≡ old.start
  pub first : new.first ≡ old.first
  pub desk : SameOut old.out new.out
  pub fits : FitsDesk old → FitsDesk new
  pub keeps : IfSome old.keeper stored → IfSome new.keeper stored

-- the site continues after the turn
abbrev pub goes_on : Turned → Bool
goes_on Changed = true
goes_on Idle = true
goes_on Ended = false

-- no input was marked of the site before its first turn
abbrev pub IsFresh : {K G : Type 0} → Running K G → Type 0
IsFresh s = inputs_in s.first.logs ≡ []

-- a site whose run has not begun
pub record IsReady {K G : Type 0} (s : Running K G) : Type 0 where
  pub fits : FitsDesk s
  pub unmarked : marks_in s.seat.logs ≡ 0
  pub fresh : IsFresh s
  pub going : s.fault ≡ None
  pub unasked : s.turns ≡ 0
  pub begins : s.ended ≡ false

module _ {K G : Type 0} (shown : K → Option Record) (reopens : K → Result K (Unopened K) → Type 0) (gives_up : G → ℕ → ℕ → Type 0) where
  -- why the site ended its run: what kept it from a turn that its gate was asked for, or from being open at the end
  pub record EndedBy (s : Running K G) (cause : TurnCause) : Type 0 where
    pub gate : G
    pub turn : ℕ
    pub before : Option K
    pub asked : turn ≤ s.turns
    pub hinders : HindersTurn shown reopens gives_up cause gate s.me turn before s.keeper

  -- A site that has ended its run of at most so many turns: without a fault it is open, and made all of them unless it is
  -- done.
  pub record HasFinished (turns : ℕ) (s : Running K G) : Type 0 where
    pub asked : s.turns ≤ turns
    pub all : s.fault ≡ None → (s.turns ≡ turns) ⊎ IsDone shown s.keeper s.out s.pending
    pub is_open : s.fault ≡ None → IsSome (shown_if shown s.keeper)
    pub why : IfSome s.fault (EndedBy s)

  -- so a site ran
  pub record Ran (stored : K → Type 0) (turns : ℕ) (old new : Running K G) : Type 0 where
    pub same : SameRun stored old new
    pub over : HasFinished turns new

-- Between two slices of its turns.

-- a site that goes on in a run of at most so many turns was marked at most 18 times in each
pub record TakesTurns {K G : Type 0} (turns : ℕ) (s : Running K G) : Type 0 where
  pub marks : marks_in s.seat.logs ≤ 18 * s.turns
  pub fine : s.fault ≡ None
  pub asked : s.turns ≤ turns

module _ {K G : Type 0} (shown : K → Option Record) (reopens : K → Result K (Unopened K) → Type 0) (gives_up : G → ℕ → ℕ → Type 0) (turns : ℕ) where
  -- it goes on, or has ended its run
  pub record IsBetween (s : Running K G) : Type 0 where
    pub on : s.ended ≡ false → TakesTurns turns s
    pub over : s.ended ≡ true → HasFinished shown reopens gives_up turns s

  -- after a slice of its turns: where the site goes on, it went on before, and made a turn at least
  pub record IsSliced (stored : K → Type 0) (old new : Running K G) : Type 0 where
    pub same : SameRun stored old new
    pub between : IsBetween new
    pub turned : new.ended ≡ false → (old.ended ≡ false) × (old.turns < new.turns)
