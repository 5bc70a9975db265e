-- Looking for something in what was read.
use Rattle.std.specs.Prelude.{Option, Some, None}

-- what was looked for was found, or there is none
abbrev pub Finds : {X : Type 0} → (X → Type 0) → Option X → Type 0
Finds {X} IsSought None = (x : X) → ¬ IsSought x
Finds IsSought (Some x) = IsSought x
