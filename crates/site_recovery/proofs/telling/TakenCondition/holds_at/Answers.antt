use Rattle.std.proofs.Common.{◌≡◌, ◌↔◌, inl, inr, ℕ, Bor, Some, None, sym, ◌∙◌, subst}
use Rattle.std.specs.FinMap.{get}
use Rattle.std.specs.List.{Contains}
use Rattle.std.specs.Prelude.{IsTrue, length}
use Rattle.std.proofs.lemmas.Result.{IfOk-weaker}
use Rattle.frame_core.specs.declared.rows.Row.{Row}
use Rattle.site_core.specs.Records.{Record}
use Rattle.site_recovery.specs.Checking.{world_at}
use Rattle.site_recovery.specs.Fit.{IsTaken, MessagesAreTaken}
use Rattle.site_recovery.proofs.Absent.{no_row}
use Rattle.site_recovery.proofs.Exact.{within_or_past}
use Rattle.site_recovery.proofs.SitesInTurn.{each_site, past_end, place_of}
use Rattle.site_recovery.proofs.telling.TakenCondition.holds_at.Goals as goal

pub returns : goal.returns
returns c =
    let refs = c.args.sites.now in
    let W = world_at refs in
    let t = c.args.site in
    IfOk-weaker c.each_element.result
    (λ b. IsTrue b ↔ ((x : Bor Record) → Contains refs x → (n : ℕ) (y : Row) → get x.now.engagement.outbox n ≡ Some y → IsTaken W t (record { site = x.now.engagement.me; number = n }) y))
    (λ b. IsTrue b ↔ MessagesAreTaken W t)
    (λ b decides.
    let each = each_site refs (λ z. (n : ℕ) (y : Row) → get z.engagement.outbox n ≡ Some y → IsTaken W t (record { site = z.engagement.me; number = n }) y) b decides in (
      λ h s n x is. elim (within_or_past s (length refs)) as (λ _. IsTaken W t (record { site = s; number = n }) x) [
        | inl below ↦ subst (λ z. IsTaken W t (record { site = z; number = n }) x) (place_of refs c.requires.all s below) (each.0 h s below n x is)
        | inr past ↦ absurd (let none : None ≡ Some x = no_row W s (past_end refs s past) n ∙ is in cc)
      ],
      λ all. each.1 (λ s below n y is. subst (λ z. IsTaken W t (record { site = z; number = n }) y) (sym (place_of refs c.requires.all s below)) (all s n y is)),
    ))
    c.each_element.ensures
