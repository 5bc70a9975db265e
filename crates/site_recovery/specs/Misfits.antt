-- What a check of the records returns where they aren't consistent.
use Rattle.std.specs.Prelude.{◌≡◌, ⊤, ℕ, ◌<◌, Some}
use Rattle.site_recovery.specs.Checking.{IsLeastUnmet}
use Rattle.site_recovery.specs.FittingAt.{Condition, number_of, FitAt}
use Rattle.site_recovery.specs.Looks.{World}
use Rattle.site_recovery.specs.declared.checking.CheckFault.{CheckFault}
use Rattle.site_recovery.specs.declared.checking.CheckFault.TheVariants.{NoMemory, Misfit}

-- the least condition that fails at one of n sites has the number, and the site is the least at which it fails
pub record IsMisfit (n : ℕ) (W : World) (number site : ℕ) : Type 0 where
  pub condition : Condition
  pub numbered : number ≡ number_of condition
  pub below : site < n
  pub fails : FitAt W condition site → ⊥
  pub least_condition : (c : Condition) (s : ℕ) → number_of c < number → s < n → FitAt W c s
  pub least_site : (s : ℕ) → s < site → FitAt W condition s

-- memory may always run out
abbrev pub TellsMisfit : ℕ → World → CheckFault → Type 0
TellsMisfit n W NoMemory = ⊤
TellsMisfit n W (Misfit m) = IsMisfit n W m.condition m.site

-- something of the number doesn't hold at each of n sites
abbrev pub TellsUnmet : ℕ → ℕ → (ℕ → Type 0) → CheckFault → Type 0
TellsUnmet number n P NoMemory = ⊤
TellsUnmet number n P (Misfit m) = (m.condition ≡ number) × IsLeastUnmet n P (Some m.site)
