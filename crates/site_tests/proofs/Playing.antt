-- What the tests rest on, of two sites before their first turns.
use Rattle.std.proofs.Common.{◌≡◌, ℕ, List, [], ◌∷◌, refl, sym, ap, ◌∙◌}
use Rattle.site_core.specs.Records.{Record}
use Rattle.wire_core.specs.declared.views.Log.{Log}
use Rattle.wire_core.specs.Changes.{below, from}
use Rattle.wire_core.specs.Rule.{logs_from}
use Rattle.site_threads.specs.Running.{marks_in}
use Rattle.site_threads.specs.Starting.{IsLastMarked}

module _ (a b : Record) (logs part : List Log) (at me : ℕ) (all : logs ≡ logs_from 0 (a ∷ b ∷ [])) (one : at ≡ 1) where
  pub first_marked : part ≡ below at logs → a.engagement.me ≡ 0 → me ≡ 0 → IsLastMarked part me a
  first_marked is mine same = record { log = _; alone = is ∙ (λ k. below (one k) (all k)); own = record { site = sym same; last = mine ∙ sym same }; last = refl }

  pub second_marked : part ≡ from at logs → b.engagement.me ≡ 1 → me ≡ 1 → IsLastMarked part me b
  second_marked is mine same = record { log = _; alone = is ∙ (λ k. from (one k) (all k)); own = record { site = sym same; last = mine ∙ sym same }; last = refl }

  pub first_unmarked : part ≡ below at logs → marks_in part ≡ 0
  first_unmarked is = ap marks_in (is ∙ (λ k. below (one k) (all k)))

  pub second_unmarked : part ≡ from at logs → marks_in part ≡ 0
  second_unmarked is = ap marks_in (is ∙ (λ k. from (one k) (all k)))
