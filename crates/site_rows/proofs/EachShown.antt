-- What is so of each member of a list is so of all.
use Rattle.std.proofs.Common.{List, [], ◌∷◌, All, get_or, arith}
use Rattle.std.specs.List.{Contains}
use Rattle.std.proofs.lemmas.List.{get_or_default}
use Rattle.std.proofs.lemmas.List.Elements.{All-from_get_or}

pub all_of_members : {X : Type 0} (P : X → Type 0) (xs : List X) → ((x : X) → Contains xs x → P x) → All P xs
all_of_members P [] each = λ k d low. absurd (omega (arith, low))
all_of_members P (x ∷ xs) each =
    All-from_get_or P (x ∷ xs) x (λ i within. each (get_or (x ∷ xs) i x) (i, within, get_or_default (x ∷ xs) i (get_or (x ∷ xs) i x) x within))
