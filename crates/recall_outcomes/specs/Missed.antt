-- What is missed where nothing is.
use Rattle.std.specs.Prelude.{◌≡◌, []}
use Rattle.recall_outcomes.specs.declared.outcomes.MissedReach.{MissedReach}

-- no pair, and nothing that left
abbrev pub IsNoReach : MissedReach → Type 0
IsNoReach reach = (reach.pairs.items ≡ []) × (reach.outside.items ≡ [])
