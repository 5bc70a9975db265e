-- Events, one place after another.
use Rattle.std.proofs.Common.{◌≡◌, ◌<◌, ◌∙◌, ℕ, List, [], ◌∷◌, Some, None, length, get_or, slice_get, arith}
use Rattle.std.proofs.lemmas.Option.{slice_get-get_or}
use Rattle.event_json.specs.Events.{Content}

-- before the end there is one
pub not_past : (events : List Content) (place : ℕ) → place < length events → None ≡ slice_get events place → ⊥
not_past [] place below none = omega arith
not_past (e ∷ events) place below none = let clash : None ≡ Some (get_or (e ∷ events) place e) = none ∙ slice_get-get_or (e ∷ events) place e below in cc
