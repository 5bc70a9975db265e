-- What is returned for a job, and what is said of a site's list of steps.
use Rattle.std.specs.Prelude.{◌≡◌, ◌≢◌, ◌⊎◌, ℕ, Bool, true, false, IsTrue, IsFalse, if◌then◌else◌, not, List, [], ◌∷◌, ◌++◌, All, map, flat_map, length, Contains, Option, Some, None, Result, Ok, Err}
use Rattle.std.specs.List.{range_with_len, count_by}
use Rattle.keeper_core.specs.declared.faults.KeepFault.{KeepFault}
use Rattle.keeper_core.specs.declared.faults.KeepFault.TheVariants as faults
use Rattle.keeper_core.specs.Keeping.{IsAfter, IsRefusedFor}
use Rattle.site_core.specs.Records.{Record}
use Rattle.site_core.specs.Steps.{Does}
use Rattle.site_core.specs.declared.inputs.SiteInput.{SiteInput}
use Rattle.site_core.specs.declared.inputs.SiteInput.TheVariants as inputs
use Rattle.site_core.specs.declared.outcomes.Effects.{Effects}
use Rattle.site_core.specs.declared.outcomes.Effects.TheVariants as effects
use Rattle.site_core.specs.declared.outcomes.Refusal.{Refusal}
use Rattle.site_core.specs.declared.outcomes.Refusal.TheVariants as refusals
use Rattle.site_threads.specs.Inputs.{input_of, is_delivery}
use Rattle.site_threads.specs.declared.jobs.Job.{Job}
use Rattle.site_threads.specs.declared.jobs.Job.TheVariants as jobs
use Rattle.site_threads.specs.declared.jobs.Reply.{Reply}
use Rattle.site_threads.specs.declared.jobs.Reply.TheVariants.{Captured, Started, Frame, Refused, Stopped}
use Rattle.site_threads.specs.declared.jobs.Entry.{Entry}
use Rattle.site_threads.specs.declared.jobs.Receipt.{Receipt}

-- What is returned.

-- the numbers of the reasons for which a step is refused
abbrev pub refusal_number : Refusal → ℕ
refusal_number refusals.NoMemory = 0
refusal_number (refusals.Blocked r i event) = 1
refusal_number (refusals.IdTaken event) = 2
refusal_number refusals.UnknownItem = 3
refusal_number refusals.NotMine = 4
refusal_number refusals.NumbersSpent = 5
refusal_number (refusals.Doc fault) = 6

-- a step that had these effects
abbrev pub told : Effects → Reply
told (effects.Captured fresh known skipped) = Captured fresh known skipped
told (effects.Started recall quarantined numbered ended) = Started recall ended
told other = Frame

-- a step that the keeper answered so; whether it was the step of a frame. Without memory nothing is entered
abbrev pub reply_to : Bool → Result Effects KeepFault → Option Reply
reply_to frame (Ok e) = Some (told e)
reply_to frame (Err faults.NoMemory) = None
reply_to frame (Err (faults.Refused why)) = if frame then Some Frame else Some (Refused (refusal_number why))
reply_to frame (Err other) = Some Stopped

-- the site stopped in the step
abbrev pub is_stop : Reply → Bool
is_stop Stopped = true
is_stop other = false

-- What a reply says of the record after the step.

-- it is the one after the input, or the old one where the input is refused
abbrev pub AfterFrame : Record → SiteInput → Record → Type 0
AfterFrame old input new = IsAfter old input new ⊎ (((why : Refusal) × IsRefusedFor old input why) × (new ≡ old))

abbrev pub Keeps : Reply → Record → SiteInput → Record → Type 0
Keeps (Captured fresh known skipped) old input new = Does old input (effects.Captured fresh known skipped) new
Keeps (Started recall ended) old input new = (quarantined numbered : ℕ) × Does old input (effects.Started recall quarantined numbered ended) new
Keeps Frame old input new = IsTrue (is_delivery input) × AfterFrame old input new
Keeps (Refused number) old input new = IsFalse (is_delivery input) × ((why : Refusal) × IsRefusedFor old input why × (number ≡ refusal_number why)) × (new ≡ old)
Keeps Stopped old input new = (new ≡ old) ⊎ IsAfter old input new

-- what a step of the list leads to, as its reply says
abbrev pub Enters : Record → Entry → Record → Type 0
Enters old x new = Keeps x.reply old x.input new

-- the input of the step, where the record changed in it, and else none
abbrev pub IsChange : Record → SiteInput → Record → List SiteInput → Type 0
IsChange old input new changes = ((new ≡ old) × (changes ≡ [])) ⊎ ((new ≢ old) × (changes ≡ input ∷ []))

-- a record, and the inputs that were marked of its site
pub record WithMarks : Type 0 where
  pub stood : Record
  pub marked : List SiteInput

abbrev pub with_marks : Record → List SiteInput → WithMarks
with_marks r inputs = record { stood = r; marked = inputs }

-- what a step of the list leads to, of which the input is marked just where the record changed
abbrev pub EntersMarked : WithMarks → Entry → WithMarks → Type 0
EntersMarked old x new = Enters old.stood x new.stood × (more : List SiteInput) × IsChange old.stood x.input new.stood more × (new.marked ≡ old.marked ++ more)

-- What a list of steps has.

-- the steps are numbered from 1
abbrev pub AreNumbered : List Entry → Type 0
AreNumbered entries = map (λ x. x.number) entries ≡ range_with_len 1 (length entries)

-- the jobs of a list of steps, in order
abbrev pub job_of : SiteInput → List Job
job_of (inputs.Capture bytes) = jobs.Capture bytes ∷ []
job_of (inputs.Start item) = jobs.Start item ∷ []
job_of (inputs.Deliver frame) = []

abbrev pub jobs_in : List Entry → List Job
jobs_in entries = flat_map (λ x. job_of x.input) entries

-- the receipt of a step of a site, where a job was done in it
abbrev pub receipts_of : ℕ → Entry → List Receipt
receipts_of site x = map (λ job. record { site = site; number = x.number; job = job; reply = x.reply }) (job_of x.input)

-- the receipts of a site's list of steps, in order
abbrev pub receipts_in : ℕ → List Entry → List Receipt
receipts_in site entries = flat_map (λ x. receipts_of site x) entries

-- A site that is open or not comes, by these steps, to be open or not: only an open site makes a step, and it is open
-- afterwards unless it stopped in it.
abbrev pub ComesTo : Bool → List Entry → Bool → Type 0
ComesTo before [] after = after ≡ before
ComesTo before (x ∷ xs) after = IsTrue before × ComesTo (not (is_stop x.reply)) xs after

-- each step is that of a frame
abbrev pub AreOfFrames : List Entry → Type 0
AreOfFrames entries = All (λ x. IsTrue (is_delivery x.input)) entries

-- in how many steps the site stopped
abbrev pub stops_in : List Entry → ℕ
stops_in entries = count_by (λ x. is_stop x.reply) entries

abbrev pub option_items : {X : Type 0} → Option X → List X
option_items None = []
option_items (Some x) = x ∷ []

-- the step that a receipt reports
abbrev pub entry_of : Receipt → Entry
entry_of x = record { number = x.number; input = input_of x.job; reply = x.reply }

-- the site is open after the step that a receipt reports, and where there was no job
abbrev pub open_after : Option Receipt → Bool
open_after None = true
open_after (Some x) = not (is_stop x.reply)

-- the list has the job of the receipt with its reply at its number
abbrev pub IsEntered : List Entry → Receipt → Type 0
IsEntered entries x = Contains entries (entry_of x)
