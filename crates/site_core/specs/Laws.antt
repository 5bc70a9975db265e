-- Laws of what is quarantined, and of the step.
use Rattle.std.specs.Prelude.{◌≡◌, ◌⊎◌, ◌↔◌, ℕ, IsTrue, List, Contains}
use Rattle.frame_core.specs.Numbers.{Recall}
use Rattle.site_core.specs.declared.inputs.SiteInput.{SiteInput}
use Rattle.site_core.specs.declared.outcomes.Effects.{Effects}
use Rattle.site_core.specs.Quarantines.{Quarantine, held, with_item, with_items, HasNoEmptySet}
use Rattle.site_core.specs.Records.{Record, IsSound}
use Rattle.site_core.specs.Steps.{Does}

-- with one more item under a recall, that item is held there, and what was held before
abbrev pub OneItemMoreIsHeld : Type 0
OneItemMoreIsHeld =
    (q : Quarantine) (r : Recall) (i : List ℕ) (s : Recall) (j : List ℕ)
    → IsTrue (held (with_item q r i) s j) ↔ (((s ≡ r) × (j ≡ i)) ⊎ IsTrue (held q s j))

-- with more items, each of them
abbrev pub MoreItemsAreHeld : Type 0
MoreItemsAreHeld =
    (q : Quarantine) (r : Recall) (items : List (List ℕ)) (s : Recall) (j : List ℕ)
    → IsTrue (held (with_items q r items) s j) ↔ (((s ≡ r) × Contains items j) ⊎ IsTrue (held q s j))

-- a recall with an item more is kept with items
abbrev pub MoreItemsLeaveNoEmptySet : Type 0
MoreItemsLeaveNoEmptySet = (q : Quarantine) (r : Recall) (items : List (List ℕ)) → HasNoEmptySet q → HasNoEmptySet (with_items q r items)

-- two quarantines without empty sets are equal where they hold the same
abbrev pub WhatIsHeldIsAll : Type 0
WhatIsHeldIsAll =
    (p q : Quarantine) → HasNoEmptySet p → HasNoEmptySet q
    → ((r : Recall) (i : List ℕ) → IsTrue (held p r i) ↔ IsTrue (held q r i)) → p ≡ q

-- a record that is sound stays so, whatever a step does
abbrev pub StepsStaySound : Type 0
StepsStaySound = (s : Record) (input : SiteInput) (effects : Effects) (t : Record) → IsSound s → Does s input effects t → IsSound t
