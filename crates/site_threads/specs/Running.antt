-- What is known of a running site, between any two of its calls.
use Rattle.std.specs.Prelude.{◌≡◌, ◌⊎◌, ℕ, ◌+◌, ◌<◌, ◌≤◌, ◌^◌, List, [], ◌∷◌, ◌++◌, flat_map, length, Option, Some, None}
use Rattle.keeper_core.specs.Keeping.{IsAfter, MayBeOldOrNew}
use Rattle.site_core.specs.Records.{Record}
use Rattle.site_core.specs.declared.inputs.SiteInput.{SiteInput}
use Rattle.world_core.specs.KeptSteps.{StandsAfter}
use Rattle.wire_core.specs.declared.views.Log.{Log}
use Rattle.wire_core.specs.Frames.{DeliversOneOf}
use Rattle.site_threads.specs.Jobs.{AreNumbered, EntersMarked, IsChange, WithMarks, with_marks}
use Rattle.site_threads.specs.Stamps.{stamp}
use Rattle.site_threads.specs.declared.jobs.Entry.{Entry}
use Rattle.site_threads.specs.declared.jobs.Reply.TheVariants.{Stopped}
use Rattle.site_threads.specs.declared.stamps.Stamp.{Stamp}

-- Of a site that began its first turn with this record and these marks: the record last marked is the one that the keeper
-- shows, and the steps lead to it, of which those are marked in which the record changed.
pub record StandsOpen (r : Record) (start : WithMarks) (entries : List Entry) (log : Log) : Type 0 where
  pub marked : r ≡ log.last
  pub steps : StandsAfter EntersMarked start entries (with_marks r log.inputs)

-- The keeper is closed since the last step of the list, and the steps before it lead to the record last marked. It may
-- be opened in that record, or in the one after the last step.
pub record StandsClosed (may : Record → Type 0) (start : WithMarks) (entries : List Entry) (log : Log) : Type 0 where
  pub earlier : List Entry
  pub last : Entry
  pub all : entries ≡ earlier ++ last ∷ []
  pub reply : last.reply ≡ Stopped
  pub steps : StandsAfter EntersMarked start earlier (with_marks log.last log.inputs)
  pub old_or_new : MayBeOldOrNew log.last last.input may
  pub noted : DeliversOneOf log.noted last.input

abbrev pub Holding : Option Record → (Record → Type 0) → WithMarks → List Entry → Log → Type 0
Holding (Some r) may start entries log = StandsOpen r start entries log
Holding None may start entries log = StandsClosed may start entries log

-- the log is of the site that its record names
pub record IsOwn (log : Log) (me : ℕ) : Type 0 where
  pub site : log.site ≡ me
  pub last : log.last.engagement.me ≡ me

-- the seat holds this site alone
pub record IsRunning (shown : Option Record) (may : Record → Type 0) (logs : List Log) (me : ℕ) (kept : Stamp) (entries : List Entry) (start : WithMarks) : Type 0 where
  pub log : Log
  pub alone : logs ≡ log ∷ []
  pub own : IsOwn log me
  pub stamped : kept ≡ stamp log.last
  pub numbered : AreNumbered entries
  pub holding : Holding shown may start entries log

-- how often the sites of a seat were marked
abbrev pub marks_in : List Log → ℕ
marks_in [] = 0
marks_in (e ∷ es) = length e.inputs + marks_in es

-- the inputs that were marked of them
abbrev pub inputs_in : List Log → List SiteInput
inputs_in logs = flat_map (λ e. e.inputs) logs

-- the one site of the seat stands in this record, which is the one last marked or the one after the input
pub record MayFollow (logs : List Log) (kept : Stamp) (input : SiteInput) (r : Record) : Type 0 where
  pub log : Log
  pub alone : logs ≡ log ∷ []
  pub own : log.site ≡ log.last.engagement.me
  pub stamped : kept ≡ stamp log.last
  pub room : length log.inputs < 2 ^ 62
  pub next : (r ≡ log.last) ⊎ IsAfter log.last input r
  pub noted : DeliversOneOf log.noted input

-- the record last marked is r now, and nothing else changed but the inputs marked
pub record Followed (e f : Log) (r : Record) : Type 0 where
  pub site : f.site ≡ e.site
  pub last : f.last ≡ r
  pub noted : f.noted ≡ e.noted
  pub sent : f.sent ≡ e.sent
  pub asked : f.asked ≡ e.asked
  pub offered : f.offered ≡ e.offered
  pub marks : length f.inputs ≤ length e.inputs + 1

abbrev pub Follows : List Log → Record → List Log → Type 0
Follows old r new = (e : Log) → old ≡ e ∷ [] → (f : Log) × (new ≡ f ∷ []) × Followed e f r

-- the input was marked where the record changed, and else none
abbrev pub MarksChange : List Log → SiteInput → Record → List Log → Type 0
MarksChange old input r new = (e f : Log) → old ≡ e ∷ [] → new ≡ f ∷ [] → (more : List SiteInput) × IsChange e.last input r more × (f.inputs ≡ e.inputs ++ more)

-- a frame that the input delivers was noted
abbrev pub MayDeliver : SiteInput → List Log → Type 0
MayDeliver input logs = (e : Log) → logs ≡ e ∷ [] → DeliversOneOf e.noted input
