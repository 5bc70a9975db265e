-- What keeps a site from its turns.
use Rattle.std.proofs.Common.{◌≡◌, ℕ, Option, Some, None, Result, sym, subst}
use Rattle.std.specs.Prelude.{IfSome}
use Rattle.keeper_core.specs.Keeping.{HindersOpening}
use Rattle.keeper_core.specs.declared.faults.KeepFault.{KeepFault}
use Rattle.keeper_core.specs.declared.faults.KeepFault.TheVariants as faults
use Rattle.keeper_core.specs.declared.faults.Unopened.{Unopened}
use Rattle.site_core.specs.Records.{Record}
use Rattle.site_threads.specs.Turns.{HindersTurn, IsRefused, lost}

module _ {K G : Type 0} (shown : K → Option Record) (reopens : K → Result K (Unopened K) → Type 0) (gives_up : G → ℕ → ℕ → Type 0) (gate : G) (site turn : ℕ) (old new : Option K) where
  pub lost_hinders : (fault : KeepFault) → HindersOpening fault → IsRefused shown reopens fault old new → HindersTurn shown reopens gives_up (lost fault) gate site turn old new
  lost_hinders faults.NoMemory h r = tt
  lost_hinders faults.Device h r = record { hinders = tt; other = λ e. let n : faults.Device ≡ faults.NoMemory = e in cc; refused = r }
  lost_hinders faults.Store h r = record { hinders = tt; other = λ e. let n : faults.Store ≡ faults.NoMemory = e in cc; refused = r }
  lost_hinders (faults.Refused why) h r = absurd h
  lost_hinders faults.Closed h r = absurd h

-- what holds of a value holds of the one that is there
pub if_same : {A : Type 0} (P : A → Type 0) (o : Option A) (x : A) → IfSome o (λ y. y ≡ x) → P x → IfSome o P
if_same P None x is p = tt
if_same P (Some y) x is p = subst P (sym is) p

pub if_none : {A : Type 0} (P : A → Type 0) (o : Option A) → o ≡ None → IfSome o P
if_none P o is = subst (λ z. IfSome z P) (sym is) tt
