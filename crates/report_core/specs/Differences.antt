-- Where two lists of pairs part.
use Rattle.std.specs.Prelude.{Bool, true, false, List, [], ◌∷◌, Option, Some, None}
use Rattle.std.specs.declared.cmp.Ordering.{Ordering}
use Rattle.std.specs.declared.cmp.Ordering.TheVariants.{Less, Equal, Greater}
use Rattle.trace_core.specs.Pairs.{pair_cmp}
use Rattle.trace_core.specs.declared.pairs.Pair.{Pair}

-- of two pairs the less one; of tied ones what comes after them
abbrev pub parted : Ordering → Pair → Pair → Option (Pair × Bool) → Option (Pair × Bool)
parted Less p q later = Some (p, false)
parted Greater p q later = Some (q, true)
parted Equal p q later = later

-- the less one of the first two pairs that aren't tied, and whether the second list has it
abbrev pub difference : List Pair → List Pair → Option (Pair × Bool)
difference [] [] = None
difference (p ∷ ps) [] = Some (p, false)
difference [] (q ∷ qs) = Some (q, true)
difference (p ∷ ps) (q ∷ qs) = parted (pair_cmp p q) p q (difference ps qs)
