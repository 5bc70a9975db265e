use Rattle.std.proofs.Common.{◌⊎◌, ◌↔◌, inl, inr, ℕ, List, Bor, ◌∙◌}
use Rattle.std.specs.List.{Contains}
use Rattle.std.specs.Prelude.{IsTrue, length}
use Rattle.std.proofs.lemmas.Result.{IfOk-weaker}
use mathlib.Core.Bool.{false≢true}
use Rattle.frame_core.specs.Numbers.{Recall}
use Rattle.site_core.specs.Records.{Record}
use Rattle.site_core.specs.Ways as ways
use Rattle.site_recovery.specs.Checking.{world_at}
use Rattle.site_recovery.specs.Fit.{IsPassedOn, ShipmentsAreTold}
use Rattle.site_recovery.specs.Looks.{Held}
use Rattle.site_recovery.proofs.Absent.{no_item}
use Rattle.site_recovery.proofs.Exact.{within_or_past}
use Rattle.site_recovery.proofs.SitesInTurn.{each_site, past_end}
use Rattle.site_recovery.proofs.telling.ToldCondition.holds_at.Goals as goal

pub returns : goal.returns
returns c =
    let refs = c.args.sites.now in
    let W = world_at refs in
    let t = c.args.site in
    IfOk-weaker c.each_element.result
    (λ b. IsTrue b ↔ ((x : Bor Record) → Contains refs x → (r : Recall) (i : List ℕ) → ways.Holds x.now r i → ways.ShipsTo x.now i t → ways.Tells x.now t r i ⊎ Held W t r i))
    (λ b. IsTrue b ↔ ShipmentsAreTold W t)
    (λ b decides.
    let each = each_site refs (λ z. (r : Recall) (i : List ℕ) → ways.Holds z r i → ways.ShipsTo z i t → ways.Tells z t r i ⊎ Held W t r i) b decides in (
      λ h s r i is ships. elim (within_or_past s (length refs)) as (λ _. IsPassedOn W s t r i) [
        | inl below ↦ each.0 h s below r i is ships
        | inr past ↦ absurd (false≢true (no_item W s (past_end refs s past) r i ∙ is))
      ],
      λ all. each.1 (λ s _. all s),
    ))
    c.each_element.ensures
