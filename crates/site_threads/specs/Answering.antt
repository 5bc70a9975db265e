-- What a site's keeper was asked, and what is reported of its answer.
use Rattle.std.specs.Prelude.{◌≡◌, ◌⊎◌, List, [], ◌∷◌, ◌++◌, Option, Some, None, Result, Ok, Err, IsSome}
use Rattle.frame_core.specs.declared.frames.Frame.{Frame}
use Rattle.keeper_core.specs.Keeping.{Applies}
use Rattle.keeper_core.specs.declared.faults.KeepFault.{KeepFault}
use Rattle.keeper_core.specs.declared.faults.KeepFault.TheVariants as faults
use Rattle.keeper_core.specs.declared.faults.Unopened.{Unopened}
use Rattle.site_core.specs.Records.{Record}
use Rattle.site_core.specs.Steps.{CopiesRecord}
use Rattle.site_core.specs.declared.inputs.SiteInput.{SiteInput}
use Rattle.site_core.specs.declared.inputs.SiteInput.TheVariants as inputs
use Rattle.site_core.specs.declared.outcomes.Effects.{Effects}
use Rattle.site_threads.specs.Inputs.{input_of, is_delivery}
use Rattle.site_threads.specs.Jobs.{reply_to}
use Rattle.site_threads.specs.Keepers.{shown_if}
use Rattle.site_threads.specs.declared.jobs.Entry.{Entry}
use Rattle.site_threads.specs.declared.jobs.Receipt.{Receipt}
use Rattle.site_threads.specs.declared.jobs.Reply.{Reply}

-- the keeper was opened again, as its kind promises
pub record OpenedAgain {K : Type 0} (reopens : K → Result K (Unopened K) → Type 0) (old new : Option K) : Type 0 where
  pub was : K
  pub left : K
  pub old_is : old ≡ Some was
  pub new_is : new ≡ Some left
  pub reopened : reopens was (Ok left)

-- an open keeper is left as it was, and another was opened again
abbrev pub Opened : {K : Type 0} → (K → Option Record) → (K → Result K (Unopened K) → Type 0) → Option K → Option K → Type 0
Opened shown reopens old new = (IsSome (shown_if shown old) × (new ≡ old)) ⊎ OpenedAgain reopens old new

module _ {K : Type 0} (shown : K → Option Record) (may : K → Record → Type 0) (applies : K → SiteInput → Result Effects KeepFault → K → Type 0) where
  -- the keeper was asked for the step, answered as its kind promises, and the reply is what is reported of that answer
  pub record AnsweredStep (old : Option K) (input : SiteInput) (reply : Reply) (new : Option K) : Type 0 where
    pub was : K
    pub left : K
    pub answer : Result Effects KeepFault
    pub old_is : old ≡ Some was
    pub new_is : new ≡ Some left
    pub applied : applies was input answer left
    pub stands : (r : Record) → shown was ≡ Some r → Applies r input answer (shown left) (may left)
    pub reply_is : reply_to (is_delivery input) answer ≡ Some reply

  -- the keeper was asked for the step, and answered that memory ran out; so it may for inputs for which a record is copied
  pub record IsShort (old : Option K) (input : SiteInput) (new : Option K) : Type 0 where
    pub was : K
    pub left : K
    pub old_is : old ≡ Some was
    pub new_is : new ≡ Some left
    pub applied : applies was input (Err faults.NoMemory) left
    pub copies : (r : Record) → shown was ≡ Some r → CopiesRecord r input

  -- Frames were delivered one after another, which leads from the one keeper to the other: for each the keeper was asked
  -- for its step, which was entered with the reply; or memory ran out in it, and the frame was lost.
  abbrev pub Deliveries : Option K → List Frame → List Entry → Option K → Type 0
  Deliveries old [] steps new = (steps ≡ []) × (new ≡ old)
  Deliveries old (f ∷ fs) steps new = (mid : Option K) × ((IsShort old (inputs.Deliver f) mid × Deliveries mid fs steps new) ⊎ ((x : Entry) × (rest : List Entry) × (steps ≡ x ∷ rest) × (x.input ≡ inputs.Deliver f) × AnsweredStep old (inputs.Deliver f) x.reply mid × Deliveries mid fs rest new))

  -- So the frames that were noted were delivered: one after another, the keeper was asked for the step of each, and the
  -- list of steps has just those in which memory didn't run out.
  pub record Delivers (old new : Option K) (before after : List Frame) (steps steps' : List Entry) : Type 0 where
    pub took : List Frame
    pub frames : List Entry
    pub noted : after ≡ before ++ took
    pub entered : steps' ≡ steps ++ frames
    pub deliveries : Deliveries old took frames new

  -- the keeper did the receipt's job, if there is one
  abbrev pub DoesJob : Option K → Option Receipt → Option K → Type 0
  DoesJob old None new = new ≡ old
  DoesJob old (Some x) new = AnsweredStep old (input_of x.job) x.reply new
