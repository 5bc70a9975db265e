-- What it comes to when a site is asked for the items that it knows.
use Rattle.std.specs.Prelude.{◌≡◌, ℕ, List}
use Rattle.query_core.specs.KnownItems.{AreKnownItems}
use Rattle.recall_outcomes.specs.declared.outcomes.Outcome.{Outcome}
use Rattle.recall_outcomes.specs.declared.outcomes.Outcome.TheVariants.{Known}
use Rattle.site_core.specs.Records.{Record}

-- the items of the site of this record whose key contains the text
abbrev pub AnswersItems : List ℕ → Record → Outcome → Type 0
AnswersItems text r (Known site items) = (site ≡ r.engagement.me) × AreKnownItems r text items.items
AnswersItems text r other = ⊥
