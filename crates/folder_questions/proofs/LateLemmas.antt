-- Audits of copies that were taken one after another, from the end of a recall on.
use Rattle.std.proofs.Common.{◌≡◌, ◌↔◌, ◌∙◌, ℕ, Bool, true, false, Option, None, Some, List, [], length, refl, sym, ap, subst}
use mathlib.Core.Bool.{false≢true}
use Rattle.std.specs.Cmp.{nat_cmp_total}
use Rattle.std.specs.FinMap.{entries, get}
use Rattle.std.specs.List.{Contains}
use Rattle.std.proofs.lemmas.Option.{get_or_from_slice_get, same_Some, slice_get_read}
use Rattle.frame_core.specs.Numbers.{Recall}
use Rattle.recall_outcomes.specs.declared.outcomes.AuditedRecall.{AuditedRecall}
use Rattle.recall_outcomes.specs.declared.outcomes.StartedRecall.{StartedRecall}
use Rattle.query_core.proofs.SiteLists.{of_map}
use Rattle.report_core.specs.Verdicts.{IsHeld, IsVerdict}
use Rattle.report_core.specs.declared.audits.Verdict.{Verdict}
use Rattle.report_core.specs.declared.audits.Verdict.TheVariants.{Equal, Differs}
use Rattle.report_core.proofs.Zips.{zip_member}
use Rattle.scholten_core.specs.declared.own_recalls.Own.{Own}
use Rattle.site_core.specs.Records.{Record, fresh}
use Rattle.site_core.proofs.Entries.{entry_found}
use Rattle.site_folders.specs.Begun.{begun, begun_as, begun_by}
use Rattle.site_recovery.specs.Checking.{IsReachedBy}
use Rattle.site_recovery.specs.Laws.{AreInPlace, captured_of}
use Rattle.site_recovery.specs.Looks.{own, world_of}
use Rattle.site_recovery.proofs.HeldPairs.{pairs_held}
use Rattle.trace_core.specs.Chains.{Related}
use Rattle.trace_core.specs.Relations.{Reaches}
use Rattle.trace_core.proofs.SetMembers.{contains-from_flat_map}
use Rattle.trace_core.specs.declared.pairs.Pair.{Pair}
use Rattle.world_core.proofs.Copies.{in_place, late_copies_are_exact}
use Rattle.world_core.specs.Recalls.{AreReached, HasEnded, quarantined}
use Rattle.folder_questions.specs.Audits.{AuditsRecall, HasVerdict}
use Rattle.folder_questions.specs.Laws.{LateAuditsAreEqual}

-- a recall that a copy says ended is audited as one that did
module _ (copies : List Record) (places : AreInPlace copies) (recall : Recall) (root : List ℕ) (ended : HasEnded recall root copies) where
  abbrev there : own (world_of copies) recall.site recall.number ≡ Some ended.own
  there = ap (λ (r : Record). get r.engagement.own recall.number) (get_or_from_slice_get copies recall.site ended.initiator (fresh [] recall.site) ended.there) ∙ ended.begun

  told_ended : (b : StartedRecall) → Contains (begun copies) b → b.recall ≡ recall → b.ended ≡ true
  told_ended b among is =
      let (r, (k, below, at), from) = contains-from_flat_map begun_by copies b among in
      let ((number, o), entry, same) = of_map (begun_as r.engagement.me) (entries r.engagement.own) b from in
      let r_is : r ≡ world_of copies k = sym (get_or_from_slice_get copies k r (fresh [] k) (slice_get_read copies (length copies) k r refl below (sym at))) in
      let me : k ≡ recall.site = sym (ap (λ (z : Record). z.engagement.me) r_is ∙ (places k below).engagement) ∙ ap (λ (x : Recall). x.site) (ap (λ (x : StartedRecall). x.recall) same ∙ is) in
      let number_is : number ≡ recall.number = ap (λ (x : Recall). x.number) (ap (λ (x : StartedRecall). x.recall) same ∙ is) in
      let found : get r.engagement.own number ≡ Some o = entry_found nat_cmp_total r.engagement.own number o entry in
      let here : own (world_of copies) recall.site recall.number ≡ Some o =
      subst (λ n. own (world_of copies) recall.site n ≡ Some o) number_is (subst (λ i. get (world_of copies i).engagement.own number ≡ Some o) me (subst (λ (z : Record). get z.engagement.own number ≡ Some o) r_is found)) in
      sym (ap (λ (x : StartedRecall). x.ended) same) ∙ (ap (λ (x : Own). x.ended) (same_Some o ended.own (sym here ∙ there)) ∙ ended.ended)

  reached_is : (p : Pair) → IsReachedBy copies recall p ↔ Reaches (Related (captured_of copies)) (record { site = recall.site; item = root }) p
  reached_is p = (
    λ (o, is, reaches).
        let same : o.root ≡ root = ap (λ (x : Own). x.root) (same_Some o ended.own (sym is ∙ there)) ∙ ended.from in
        subst (λ i. Reaches (Related (captured_of copies)) (record { site = recall.site; item = i }) p) same reaches,
    λ reaches. (ended.own, there, subst (λ i. Reaches (Related (captured_of copies)) (record { site = recall.site; item = i }) p) (sym ended.from) reaches),
  )

  module _ (exact : AreReached copies (record { site = recall.site; item = root }) (quarantined recall copies)) where
    agree : (p : Pair) → IsHeld copies recall p ↔ IsReachedBy copies recall p
    agree p =
        let held = pairs_held recall copies places p in (
          λ h. (reached_is p).1 ((exact p).0 (held.1 h)),
          λ h. held.0 ((exact p).1 ((reached_is p).0 h)),
        )

    verdict_is : (v : Verdict) → IsVerdict copies recall v → v ≡ Equal (length (quarantined recall copies))
    verdict_is (Equal count) so = ap (λ n. Equal n) so.1
    verdict_is (Differs p true) so = absurd (so.0.1 ((agree p).1 so.0.0))
    verdict_is (Differs p false) so = absurd (so.0.1 ((agree p).0 so.0.0))

    has_verdict : (over : Bool) (found : Option Verdict) → over ≡ true → HasVerdict copies recall over found → found ≡ Some (Equal (length (quarantined recall copies)))
    has_verdict false found over so = absurd (false≢true over)
    has_verdict true None over so = absurd so
    has_verdict true (Some v) over so = ap (λ w. Some w) (verdict_is v so)

    audited_is : (audited : AuditedRecall) (b : StartedRecall) → Contains (begun copies) b → AuditsRecall copies b audited → audited.recall ≡ recall
        → audited.verdict ≡ Some (Equal (length (quarantined recall copies)))
    audited_is audited b among (same, so) is =
        let begun_is : b.recall ≡ recall = sym same ∙ is in
        has_verdict b.ended audited.verdict (told_ended b among begun_is) (subst (λ r. HasVerdict copies r b.ended audited.verdict) begun_is so)

pub late_audits : LateAuditsAreEqual
late_audits mid new events answers recall root copies recalls coded told notes audited fits run ended count late answered among is =
    let (over, exact) = late_copies_are_exact mid new events answers recall root copies fits run ended count late in
    let (b, there, so) = zip_member (AuditsRecall copies) (begun copies) recalls.items answered.0.1 audited among in
    audited_is copies (in_place mid new events answers recall root copies fits run ended count late) recall root over exact audited b there so is
