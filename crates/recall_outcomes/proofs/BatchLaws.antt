-- the law of inputs that are counted
use Rattle.std.proofs.Common.{◌<◌, ◌≡◌, ℕ, if◌then◌else◌, refl, ap, arith}
use Rattle.std.proofs.lemmas.Bool.{ne_eqb}
use Rattle.recall_outcomes.specs.Batches.{totals_status, up, with_one}
use Rattle.recall_outcomes.specs.Laws.{RefusedInputsAreCounted}
use Rattle.recall_outcomes.specs.declared.batches.InputOutcome.TheVariants as inputs
use Rattle.recall_outcomes.specs.declared.batches.InputOutcome.{InputOutcome}
use Rattle.recall_outcomes.specs.declared.outcomes.CommandRefusal.{CommandRefusal}

-- a count that rose isn't 0
some_up : (n : ℕ) → 0 < up n 1
some_up n = grind arith

pub are_counted : RefusedInputsAreCounted
are_counted totals = (
  λ why.
      let some = some_up totals.refused in
      ap (λ none. if none then 0 else 1) (ne_eqb (up totals.refused 1) 0 (λ e. let no : ⊥ = omega (arith, some, e) in no)),
  others,
)
  where
    others : (came : InputOutcome) → ((why : CommandRefusal) → came ≡ inputs.Refused why → ⊥) → totals_status (with_one totals came) ≡ totals_status totals
    others (inputs.Captured fresh known skipped) other = refl
    others (inputs.Started r new messages ended) other = refl
    others (inputs.Refused why) other = absurd (other why refl)
