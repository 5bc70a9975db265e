-- Related pairs of several sites, and what is reached by them.
use Rattle.std.specs.Prelude.{◌≡◌, List, Any, map}
use Rattle.std.specs.Borrow.{Bor}
use Rattle.trace_core.specs.declared.pairs.Pair.{Pair}
use Rattle.trace_core.specs.Pairs.{IsRelated}
use Rattle.trace_core.specs.Sites.{SiteEvents}

-- the site is that of p, and relates p's item to q
abbrev pub RelatesFrom : SiteEvents → Pair → Pair → Type 0
RelatesFrom s p q = (s.me ≡ p.site) × IsRelated s p.item q

-- one of the sites is that of p, and relates p's item to q
abbrev pub Related : List SiteEvents → Pair → Pair → Type 0
Related sites p q = Any (λ s. RelatesFrom s p q) sites

-- the sites that references point to
abbrev pub sites_at : List (Bor SiteEvents) → List SiteEvents
sites_at refs = map (λ r. r.now) refs
