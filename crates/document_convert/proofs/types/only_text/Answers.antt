use Rattle.std.proofs.Common.{◌≡◌, List, [], ◌∷◌, length, None, refl}
use Rattle.serde_json.specs.View.{items_view}
use Rattle.serde_json.specs.declared.value.Value.{Value}
use Rattle.document_convert.specs.Types.{only_text}
use Rattle.document_convert.proofs.types.only_text.Goals as goal

-- a list of none or of several has no only text
not_one : (vs : List Value) → (length vs ≡ 1 → ⊥) → None ≡ only_text (items_view vs)
not_one [] other = refl
not_one (v ∷ []) other = absurd (other refl)
not_one (v ∷ w ∷ vs) other = refl

pub returns-else-list-eq1 : goal.returns-else-list-eq1
returns-else-list-eq1 c = not_one c.args.list.now c.if-list-eq1.false
