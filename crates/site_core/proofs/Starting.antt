-- A start that was planned, and done or refused.
use Rattle.std.proofs.Common.{◌≡◌, ◌⊎◌, ◌<◌, ◌≤◌, ◌^◌, ℕ, List, length, refl, ap, subst, ◌∙◌}
use Rattle.frame_core.specs.declared.outboxes.NumberFault.{NumberFault}
use Rattle.frame_core.specs.declared.outboxes.NumberFault.TheVariants.{NoMemory, NumbersSpent}
use Rattle.frame_core.specs.Numbers.{Recall}
use Rattle.scholten_core.specs.declared.outcomes.Began.{Began}
use Rattle.scholten_core.specs.Changes.{next_own, began, begun}
use Rattle.scholten_core.specs.Engagement.{Engagement}
use Rattle.site_core.specs.declared.inputs.SiteInput.TheVariants.{Start}
use Rattle.site_core.specs.Plans.{IsStartPlanned}
use Rattle.site_core.specs.Quarantines.{Quarantine, with_items}
use Rattle.site_core.specs.Records.{Record}
use Rattle.site_core.specs.Spreading.{AreNewlyHeld, IsKnownItem}
use Rattle.site_core.specs.Steps.{HaveNumbers, AreTooMany, MayStart, Starts, StartsPastNumbers, Refuses}
use Rattle.site_core.specs.Told.{told_numbers}

may_start : (s : Record) (root : List ℕ) (r : Recall) (new : List (List ℕ)) (out : List (ℕ × List ℕ))
    → IsKnownItem s.captured s.quarantine root → r ≡ next_own s.engagement → (p : IsStartPlanned s.captured s.quarantine r root new out) → MayStart s root p.spread new out
may_start s root r new out known next p = record {
  known = known;
  ascending = p.ascending;
  exact = p.exact;
  newly = subst (λ r. AreNewlyHeld s.captured s.quarantine r root new) next p.newly;
  shipped = p.shipped;
}

pub started : (s : Record) (root copy : List ℕ) (r : Recall) (new : List (List ℕ)) (out : List (ℕ × List ℕ)) (q : Quarantine) (e : Engagement) (quarantined : ℕ) (answer : Began)
    → IsKnownItem s.captured s.quarantine root → r ≡ next_own s.engagement → copy ≡ root → IsStartPlanned s.captured s.quarantine r root new out
    → q ≡ with_items s.quarantine r new → e ≡ begun s.engagement copy out → (s.engagement.next_recall ≤ 2 ^ 62) × HaveNumbers s.engagement out
    → quarantined ≡ length new → answer ≡ began s.engagement out
    → Starts s root r quarantined answer.numbered answer.ended (record s { quarantine = q; engagement = e })
started s root copy r new out q e quarantined answer known next same planned held begins enough count told = record {
  spread = planned.spread;
  new = new;
  out = out;
  may = may_start s root r new out known next planned;
  enough = enough;
  next = next;
  held = count;
  told = ap (λ b. b.numbered) told;
  at_once = ap (λ b. b.ended) told;
  after = ap (λ q. record s { quarantine = q; engagement = e }) held
      ∙ ap (λ e. record s { quarantine = with_items s.quarantine r new; engagement = e }) (begins ∙ ap (λ i. begun s.engagement i out) same);
}

pub started_past : (s : Record) (root : List ℕ) (r : Recall) (new : List (List ℕ)) (out : List (ℕ × List ℕ))
    → IsKnownItem s.captured s.quarantine root → r ≡ next_own s.engagement → IsStartPlanned s.captured s.quarantine r root new out
    → (2 ^ 62 < s.engagement.next_recall) ⊎ AreTooMany s.engagement out → StartsPastNumbers s root
started_past s root r new out known next planned spent = record {
  spread = planned.spread;
  new = new;
  out = out;
  may = may_start s root r new out known next planned;
  spent = spent;
}

pub refused : (s : Record) (root : List ℕ) (fault : NumberFault) → (fault ≡ NumbersSpent → StartsPastNumbers s root) → Refuses s (Start root) (told_numbers fault)
refused s root NoMemory past = tt
refused s root NumbersSpent past = past refl
