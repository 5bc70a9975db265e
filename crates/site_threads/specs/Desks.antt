-- What was put into a channel of a desk is what was taken, and then what the channel holds. One pass at most may put, and
-- it has the list of what was put. The same for taking.
use Rattle.std.specs.Prelude.{◌≡◌, ℕ, Bool, true, false, List, ◌++◌}
use mathlib.Core.Option.{some}
use lib.ListN.{get_elem?}
use Rattle.site_threads.specs.declared.jobs.Job.{Job}
use Rattle.site_threads.specs.declared.desks.Hand.{Hand}
use Rattle.site_threads.specs.declared.desks.DeskFault.{DeskFault}
use Rattle.site_threads.specs.declared.desks.DeskFault.TheVariants.{Spent, Gone}

module _ {T : Type 0} where
  -- a pass that may put, may take, has put these, has taken these
  abbrev pub hand : Bool → Bool → List T → List T → Hand T
  hand a b put taken = record { puts = a; takes = b; put = put; taken = taken }

  -- the pass at this port, where these are the ports that may put and take
  abbrev pub IsHandOf : ℕ → ℕ → List T → List T → ℕ → Hand T → Type 0
  IsHandOf writer reader put taken port v = (v.puts ≡ true → (port ≡ writer) × (v.put ≡ put)) × (v.takes ≡ true → (port ≡ reader) × (v.taken ≡ taken))

  abbrev pub WasHandedOn : List T → List (Hand T) → Type 0
  WasHandedOn items views = (writer : ℕ) × (reader : ℕ) × (put : List T) × (taken : List T) × (put ≡ taken ++ items)
      × ((port : ℕ) (v : Hand T) → get_elem? views port ≡ some v → IsHandOf writer reader put taken port v)

-- the job that a fault gives back
abbrev pub fault_job : DeskFault → Job
fault_job (Spent job) = job
fault_job (Gone job) = job

-- the desk takes no more, or its other end is gone
abbrev pub is_spent : DeskFault → Bool
is_spent (Spent job) = true
is_spent (Gone job) = false
