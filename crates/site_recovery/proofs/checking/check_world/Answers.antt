use Rattle.std.proofs.Common.{◌↔◌, ◌<◌, ℕ, length, subst}
use Rattle.std.proofs.lemmas.List.{length-map}
use Rattle.trace_core.proofs.Members.{contains_none}
use Rattle.site_recovery.specs.Checking.{records_at, world_at}
use Rattle.site_recovery.specs.FittingAt.{Condition, Closed, Told, Justified, Waiting, ParentsStand, ParentsLeadHome, EndsAreQuiet, NumbersAreBelow, FitAt}
use Rattle.site_recovery.specs.Looks.{World}
use Rattle.site_recovery.specs.Misfits.{TellsMisfit}
use Rattle.site_recovery.proofs.Joined.{fit_by_conditions}
use Rattle.site_recovery.proofs.LeastMisfit.{none_before, before_2, before_3, before_4, before_5, before_6, before_9, before_10, before_11, all_hold, least_misfit, ToldParts, told_parts, BelowParts, below_parts, handed_on}
use Rattle.site_recovery.proofs.checking.check_world.Goals as goal

same_as : (W : World) (c : Condition) (s : ℕ) → FitAt W c s ↔ FitAt W c s
same_as W c s = (λ h. h, λ h. h)

pub returns-in_err-check-clause-fault : goal.returns-in_err-check-clause-fault
returns-in_err-check-clause-fault c =
    let n = length c.args.sites.now in
    let W = world_at c.args.sites.now in
    handed_on c.from_residual.result c.in_err-check.field-0.0 (TellsMisfit n W) c.from_residual.ensures.1
    (least_misfit n W Closed (λ s. FitAt W Closed s) (same_as W Closed) (none_before n W) c.in_err-check.field-0.0 c.in_err-check.ensures.fault)

pub returns-in_err-check-2-clause-fault : goal.returns-in_err-check-2-clause-fault
returns-in_err-check-2-clause-fault c =
    let n = length c.args.sites.now in
    let W = world_at c.args.sites.now in
    let b = before_2 n W c.in_ok-check.ensures.ok in
    handed_on c.from_residual-in_err-check-2.result c.in_err-check-2.field-0.0 (TellsMisfit n W) c.from_residual-in_err-check-2.ensures.1
    (least_misfit n W Told (ToldParts W) (told_parts W) b c.in_err-check-2.field-0.0 c.in_err-check-2.ensures.fault)

pub returns-in_err-check_justified-clause-fault : goal.returns-in_err-check_justified-clause-fault
returns-in_err-check_justified-clause-fault c =
    let n = length c.args.sites.now in
    let W = world_at c.args.sites.now in
    let b = before_3 n W c.in_ok-check.ensures.ok c.in_ok-check-2.ensures.ok in
    handed_on c.from_residual-in_err-check_justified.result c.in_err-check_justified.field-0.0 (TellsMisfit n W) c.from_residual-in_err-check_justified.ensures.1
    (least_misfit n W Justified (λ s. FitAt W Justified s) (same_as W Justified) b c.in_err-check_justified.field-0.0 c.in_err-check_justified.ensures.fault)

pub returns-in_err-check-3-clause-fault : goal.returns-in_err-check-3-clause-fault
returns-in_err-check-3-clause-fault c =
    let n = length c.args.sites.now in
    let W = world_at c.args.sites.now in
    let b = before_4 n W c.in_ok-check.ensures.ok c.in_ok-check-2.ensures.ok c.in_ok-check_justified.ensures.ok in
    handed_on c.from_residual-in_err-check-3.result c.in_err-check-3.field-0.0 (TellsMisfit n W) c.from_residual-in_err-check-3.ensures.1
    (least_misfit n W Waiting (λ s. FitAt W Waiting s) (same_as W Waiting) b c.in_err-check-3.field-0.0 c.in_err-check-3.ensures.fault)

pub returns-in_err-check-4-clause-fault : goal.returns-in_err-check-4-clause-fault
returns-in_err-check-4-clause-fault c =
    let n = length c.args.sites.now in
    let W = world_at c.args.sites.now in
    let b4 = before_4 n W c.in_ok-check.ensures.ok c.in_ok-check-2.ensures.ok c.in_ok-check_justified.ensures.ok in
    let b = before_5 n W b4 c.in_ok-check-3.ensures.ok in
    handed_on c.from_residual-in_err-check-4.result c.in_err-check-4.field-0.0 (TellsMisfit n W) c.from_residual-in_err-check-4.ensures.1
    (least_misfit n W ParentsStand (λ s. FitAt W ParentsStand s) (same_as W ParentsStand) b c.in_err-check-4.field-0.0 c.in_err-check-4.ensures.fault)

pub returns-in_err-check-5-clause-fault : goal.returns-in_err-check-5-clause-fault
returns-in_err-check-5-clause-fault c =
    let n = length c.args.sites.now in
    let W = world_at c.args.sites.now in
    let b4 = before_4 n W c.in_ok-check.ensures.ok c.in_ok-check-2.ensures.ok c.in_ok-check_justified.ensures.ok in
    let b = before_6 n W b4 c.in_ok-check-3.ensures.ok c.in_ok-check-4.ensures.ok in
    handed_on c.from_residual-in_err-check-5.result c.in_err-check-5.field-0.0 (TellsMisfit n W) c.from_residual-in_err-check-5.ensures.1
    (least_misfit n W ParentsLeadHome (λ s. FitAt W ParentsLeadHome s) (same_as W ParentsLeadHome) b c.in_err-check-5.field-0.0 c.in_err-check-5.ensures.fault)

pub returns-in_err-check-6-clause-fault : goal.returns-in_err-check-6-clause-fault
returns-in_err-check-6-clause-fault c =
    let n = length c.args.sites.now in
    let W = world_at c.args.sites.now in
    let b4 = before_4 n W c.in_ok-check.ensures.ok c.in_ok-check-2.ensures.ok c.in_ok-check_justified.ensures.ok in
    let b = before_9 n W b4 c.in_ok-check-3.ensures.ok c.in_ok-check-4.ensures.ok c.in_ok-check-5.ensures.ok in
    handed_on c.from_residual-in_err-check-6.result c.in_err-check-6.field-0.0 (TellsMisfit n W) c.from_residual-in_err-check-6.ensures.1
    (least_misfit n W EndsAreQuiet (λ s. FitAt W EndsAreQuiet s) (same_as W EndsAreQuiet) b c.in_err-check-6.field-0.0 c.in_err-check-6.ensures.fault)

pub returns-in_err-check-7-clause-fault : goal.returns-in_err-check-7-clause-fault
returns-in_err-check-7-clause-fault c =
    let n = length c.args.sites.now in
    let W = world_at c.args.sites.now in
    let b4 = before_4 n W c.in_ok-check.ensures.ok c.in_ok-check-2.ensures.ok c.in_ok-check_justified.ensures.ok in
    let b9 = before_9 n W b4 c.in_ok-check-3.ensures.ok c.in_ok-check-4.ensures.ok c.in_ok-check-5.ensures.ok in
    let b = before_10 n W b9 c.in_ok-check-6.ensures.ok in
    handed_on c.from_residual-in_err-check-7.result c.in_err-check-7.field-0.0 (TellsMisfit n W) c.from_residual-in_err-check-7.ensures.1
    (least_misfit n W NumbersAreBelow (BelowParts W) (below_parts W) b c.in_err-check-7.field-0.0 c.in_err-check-7.ensures.fault)

pub returns-clause-ok : goal.returns-clause-ok
returns-clause-ok c =
    let n = length c.args.sites.now in
    let W = world_at c.args.sites.now in
    let b4 = before_4 n W c.in_ok-check.ensures.ok c.in_ok-check-2.ensures.ok c.in_ok-check_justified.ensures.ok in
    let b9 = before_9 n W b4 c.in_ok-check-3.ensures.ok c.in_ok-check-4.ensures.ok c.in_ok-check-5.ensures.ok in
    let b = before_11 n W (before_10 n W b9 c.in_ok-check-6.ensures.ok) c.in_ok-check-7.ensures.ok in
    let records = records_at c.args.sites.now in
    record {
      records_fit = (fit_by_conditions records c.requires.all).1 (λ d s below. all_hold n W b d s (subst (λ k. s < k) (length-map c.args.sites.now (λ r. r.now)) below));
      frames_fit = λ f at. absurd (contains_none f at);
    }
