-- What an audit of a recall returns: the quarantine against what the root reaches.
use Rattle.std.specs.Prelude.{◌≡◌, ◌↔◌, Bool, true, false, List, length}
use Rattle.std.specs.declared.cmp.Ordering.TheVariants.{Less}
use Rattle.frame_core.specs.Numbers.{Recall}
use Rattle.trace_core.specs.Pairs.{pair_cmp}
use Rattle.trace_core.specs.declared.pairs.Pair.{Pair}
use Rattle.site_core.specs.Records.{Record}
use Rattle.site_recovery.specs.Checking.{IsReachedBy}
use Rattle.site_recovery.specs.Looks.{world_of, Held}
use Rattle.site_recovery.specs.Recalls.{quarantined}
use Rattle.report_core.specs.declared.audits.Verdict.{Verdict}
use Rattle.report_core.specs.declared.audits.Verdict.TheVariants.{Equal, Differs}

-- the pair's item is quarantined at its site under the recall
abbrev pub IsHeld : List Record → Recall → Pair → Type 0
IsHeld records recall p = Held (world_of records) p.site recall p.item

-- the pair is missing, in reach of the root and not quarantined; or it is the other way round
abbrev pub DiffersAt : List Record → Recall → Pair → Bool → Type 0
DiffersAt records recall p true = IsReachedBy records recall p × (IsHeld records recall p → ⊥)
DiffersAt records recall p false = IsHeld records recall p × (IsReachedBy records recall p → ⊥)

-- just the pairs in reach are quarantined, and so many; or the least pair in one of the sets and not in the other
abbrev pub IsVerdict : List Record → Recall → Verdict → Type 0
IsVerdict records recall (Equal count) = ((p : Pair) → IsHeld records recall p ↔ IsReachedBy records recall p) × (count ≡ length (quarantined recall records))
IsVerdict records recall (Differs pair missing) = DiffersAt records recall pair missing × ((p : Pair) → pair_cmp p pair ≡ Less → IsHeld records recall p ↔ IsReachedBy records recall p)
