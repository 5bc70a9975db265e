use Rattle.std.specs.Prelude.{ℕ, List, map}
use Rattle.std.specs.Borrow.{Bor}
use Rattle.item_spellings.specs.Elements.{Element}

-- an AI and its value, to which references point
abbrev pub seen_element : Bor (List ℕ) × Bor (List ℕ) → Element
seen_element e = (e.0.now, e.1.now)

abbrev pub seen : List (Bor (List ℕ) × Bor (List ℕ)) → List Element
seen refs = map seen_element refs
