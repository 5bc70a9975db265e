use Rattle.std.proofs.Common.{ℕ, ◌<◌, List, length}
use Rattle.site_recovery.specs.Checking.{HeldIn, Narrows, world_at}
use Rattle.site_recovery.specs.Looks.{Held}
use Rattle.site_recovery.proofs.narrowing.narrow.Given as goal

-- the sites so far
abbrev pub invariant-loop-place : goal.invariant-loop-place
invariant-loop-place l =
    Narrows (length l.sites) (λ s. s < l.place → (i : List ℕ) → Held (world_at l.sites) s l.recall i → HeldIn l.reached l.recall (record { site = s; item = i })) l.fn.within.items l.within.items
