-- Which items are known.
use Rattle.std.proofs.Common.{◌≡◌, inl, inr, ℕ, List, [], ap, ◌∙◌, arith, length}
use mathlib.Core.Bool.{false≢true}
use Rattle.site_core.specs.Records.{fresh}
use Rattle.site_recovery.specs.Looks.{World}
use Rattle.site_recovery.proofs.Absent.{no_item}
use Rattle.report_core.specs.Traces.{IsKnownAt}

-- a site that keeps nothing knows no item
pub none_known : (W : World) (site : ℕ) (item : List ℕ) → W site ≡ fresh [] site → IsKnownAt W site item → ⊥
none_known W site item nothing (inl named) = absurd (omega (arith, ap (λ z. length z.captured.events) nothing, named.2))
none_known W site item nothing (inr (r, is)) = false≢true (no_item W site nothing r item ∙ is)
