-- In what items lay, by the places of the packings that stand under them.
use Rattle.std.specs.Prelude.{◌≡◌, ℕ, List, Some}
use Rattle.std.specs.BTreeMap.{get}
use Rattle.event_json.specs.Events.{Content}
use Rattle.trace_core.specs.PutIn.{filled}
use Rattle.trace_core.specs.declared.pairs.Pair.{Pair}
use Rattle.site_core.specs.ItemSets.{item_cmp}
use Rattle.report_core.specs.Sources.{ByOne, Index, or_no_places}
use Rattle.report_core.specs.TrailEvents.{StandsAt}
use Rattle.report_core.specs.declared.makers.EventPlace.{EventPlace}

-- at the place stands an event of the site, which puts something into the item of the pair; and the pair is at that site
abbrev pub IsFilledAt : List Content → ℕ → ℕ → EventPlace → Pair → Type 0
IsFilledAt events number at place q = (q.site ≡ at) × ((number ≡ place.site) × StandsAt events (λ b. filled b ≡ Some q.item) place.event)

-- the item of the one pair was put into that of the other one, by a packing that stands under it
abbrev pub LiesIn : List Content → ℕ → Index → Pair → Pair → Type 0
LiesIn events number packings p = ByOne (or_no_places (get item_cmp packings p.item)) (IsFilledAt events number p.site)
