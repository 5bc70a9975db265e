-- what lies in an item, at a site that knows it
use Rattle.std.proofs.Common.{◌≡◌, ◌↔◌, ℕ, List, sym, subst}
use Rattle.recall_outcomes.specs.declared.outcomes.CommandRefusal.TheVariants.{Step}
use Rattle.recall_outcomes.specs.declared.outcomes.Outcome.{Outcome}
use Rattle.report_core.specs.Traces.{IsKnownAt}
use Rattle.site_core.specs.Quarantines.{Quarantine}
use Rattle.site_core.specs.Records.{Record}
use Rattle.site_core.specs.Spreading.{IsKnownItem}
use Rattle.site_core.specs.declared.outcomes.Refusal.TheVariants.{UnknownItem}
use Rattle.site_recovery.specs.Looks.{World, world_of}
use Rattle.site_folders.specs.Refusals.{IsRefusal}
use Rattle.trace_core.specs.Sites.{SiteEvents}
use Rattle.folder_questions.specs.Contents.{AnswersContents}
use Rattle.folder_questions.proofs.RefusalLemmas.{only_refused}

pub unknown_told : (records : List Record) (site : ℕ) (item text : List ℕ) (o : Outcome) → (IsKnownAt (world_of records) site item → ⊥) → IsRefusal (Step UnknownItem) o → AnswersContents records site item text o
unknown_told records site item text o none is = let (whys, same, refused) = only_refused (Step UnknownItem) o is in subst (AnswersContents records site item text) (sym same) (none, refused)

-- what a site knows, by its record
pub known_here : (W : World) (site : ℕ) (item : List ℕ) (r : Record) (captured : SiteEvents) (quarantine : Quarantine) → captured ≡ r.captured → quarantine ≡ r.quarantine → r ≡ W site
    → IsKnownItem captured quarantine item ↔ IsKnownAt W site item
known_here W site item r captured quarantine its held here = (
  λ h. subst (λ (x : Record). IsKnownItem x.captured x.quarantine item) here (subst (λ (q : Quarantine). IsKnownItem r.captured q item) held (subst (λ (s : SiteEvents). IsKnownItem s quarantine item) its h)),
  λ h. subst (λ (s : SiteEvents). IsKnownItem s quarantine item) (sym its) (subst (λ (q : Quarantine). IsKnownItem r.captured q item) (sym held) (subst (λ (x : Record). IsKnownItem x.captured x.quarantine item) (sym here) h)),
)
