-- What a command refuses.
use Rattle.std.specs.Prelude.{◌≡◌, ℕ, List, [], ◌∷◌, string_bytes}
use Rattle.std.specs.Global.{Global}
use Rattle.std.specs.declared.string.String.{String}
use Rattle.item_spellings.specs.declared.faults.SpellingFault.{SpellingFault}
use Rattle.item_spellings.specs.declared.faults.SpellingFault.TheVariants.{NoEpc, NoKey, NoScan}
use Rattle.recall_outcomes.specs.declared.outcomes.CommandRefusal.{CommandRefusal}
use Rattle.recall_outcomes.specs.declared.outcomes.CommandRefusal.TheVariants as refusals
use Rattle.recall_outcomes.specs.declared.outcomes.Outcome.{Outcome}
use Rattle.recall_outcomes.specs.declared.outcomes.Outcome.TheVariants as outcomes

-- the command was refused for these reasons
abbrev pub AreRefused : List CommandRefusal → Outcome → Type 0
AreRefused whys (outcomes.Refused given) = given.items ≡ whys
AreRefused whys other = ⊥

-- it was refused for this reason alone
abbrev pub IsRefusal : CommandRefusal → Outcome → Type 0
IsRefusal why outcome = AreRefused (why ∷ []) outcome

-- the reason why a text spells no item
abbrev pub refusal_of : SpellingFault → CommandRefusal
refusal_of NoEpc = refusals.BadEpc
refusal_of NoKey = refusals.BadKey
refusal_of (NoScan fault) = refusals.BadScan fault

-- it was refused since the folder lists no site of this name
abbrev pub IsNoSite : List ℕ → Outcome → Type 0
IsNoSite name outcome = (given : String Global) × (string_bytes given ≡ name) × IsRefusal (refusals.NoSite given) outcome

-- there is a file of this name already
abbrev pub IsExists : List ℕ → CommandRefusal → Type 0
IsExists name (refusals.Exists given) = string_bytes given ≡ name
IsExists name other = ⊥
