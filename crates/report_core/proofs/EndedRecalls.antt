-- What a report and an audit say once a recall has ended, and that there is one verdict.
use Rattle.std.proofs.Common.{◌≡◌, ◌↔◌, Bool, true, false, List, Some, None, refl, sym, ap, ◌∙◌, subst}
use Rattle.std.specs.Ordering.{ordering_reverse}
use Rattle.std.specs.declared.cmp.Ordering.TheVariants.{Less, Equal, Greater}
use Rattle.frame_core.specs.Numbers.{Recall}
use Rattle.scholten_core.specs.declared.own_recalls.Own.{Own}
use Rattle.trace_core.specs.Chains.{Related}
use Rattle.trace_core.specs.Pairs.{pair_cmp}
use Rattle.trace_core.specs.Relations.{Reaches}
use Rattle.trace_core.specs.Trails.{TellsTrail}
use Rattle.trace_core.specs.declared.pairs.Pair.{Pair}
use Rattle.trace_core.proofs.PairOrder.{pairs_exact, pairs_total}
use Rattle.site_core.specs.Records.{Record}
use Rattle.site_recovery.specs.Checking.{IsReachedBy}
use Rattle.site_recovery.specs.Fit.{Fit, IsEnded}
use Rattle.site_recovery.specs.Laws.{AreInPlace, captured_of}
use Rattle.site_recovery.specs.Looks.{world_of, own}
use Rattle.site_recovery.proofs.Worlds.{ends_are_exact}
use Rattle.report_core.specs.Laws.{EndsAreEqual, EndsHaveTrails, OneVerdict}
use Rattle.report_core.specs.Verdicts.{IsHeld, DiffersAt}
use Rattle.report_core.specs.declared.audits.Verdict.TheVariants as verdicts
use Rattle.report_core.proofs.Zips.{zip_member}

pub one_own : (records : List Record) (recall : Recall) (a b : Own) → own (world_of records) recall.site recall.number ≡ Some a → own (world_of records) recall.site recall.number ≡ Some b → a ≡ b
one_own records recall a b is is' = let same : Some a ≡ Some b = sym is ∙ is' in cc

pub alike_once_ended : (records : List Record) (recall : Recall) → AreInPlace records → Fit (world_of records) → IsEnded (world_of records) recall → (p : Pair) → IsHeld records recall p ↔ IsReachedBy records recall p
alike_once_ended records recall places fit (o, is, ended) p =
    let exact = ends_are_exact records places fit recall o is ended p.site p.item in (
      λ has. (o, is, exact.0 has),
      λ (q, begun, reach). exact.1 (subst (λ (z : Own). Reaches (Related (captured_of records)) (record { site = recall.site; item = z.root }) p) (one_own records recall q o begun is) reach),
    )

not_alike : (records : List Record) (recall : Recall) (p : Pair) (missing : Bool) → DiffersAt records recall p missing → (IsHeld records recall p ↔ IsReachedBy records recall p) → ⊥
not_alike records recall p true (reached, lacks) alike = lacks (alike.1 reached)
not_alike records recall p false (has, unreached) alike = unreached (alike.0 has)

pub ends_are_equal : EndsAreEqual
ends_are_equal records recall (verdicts.Equal count) places fit ended (alike, counted) = ap verdicts.Equal counted
ends_are_equal records recall (verdicts.Differs p missing) places fit ended (differs, below) = absurd (not_alike records recall p missing differs (alike_once_ended records recall places fit ended p))

pub ends_have_trails : EndsHaveTrails
ends_have_trails records recall report places fit ended is (Some trail) at = refl
ends_have_trails records recall report places fit ended is None at =
    let (p, among, none) = zip_member (TellsTrail (captured_of records) report.root) report.pairs report.trails is.trails None at in
    let (o, begun, reach) = (alike_once_ended records recall places fit ended p).0 ((is.pairs.exact p).0 among) in
    let root : record { site = recall.site; item = o.root } ≡ report.root = ap (λ (z : Own). record { site = recall.site; item = z.root }) (one_own records recall o is.entry begun is.begun) ∙ sym is.root in
    absurd (none (subst (λ z. Reaches (Related (captured_of records)) z p) root reach))

one_way : (records : List Record) (recall : Recall) (p : Pair) (a b : Bool) → DiffersAt records recall p a → DiffersAt records recall p b → a ≡ b
one_way records recall p true true x y = refl
one_way records recall p false false x y = refl
one_way records recall p true false (reached, lacks) (has, unreached) = absurd (lacks has)
one_way records recall p false true (has, unreached) (reached, lacks) = absurd (lacks has)

pub one_verdict : OneVerdict
one_verdict records recall (verdicts.Equal m) (verdicts.Equal n) (_, counted) (_, counted') = ap verdicts.Equal (counted ∙ sym counted')
one_verdict records recall (verdicts.Equal m) (verdicts.Differs q b) (alike, _) (differs, _) = absurd (not_alike records recall q b differs (alike q))
one_verdict records recall (verdicts.Differs p a) (verdicts.Equal n) (differs, _) (alike, _) = absurd (not_alike records recall p a differs (alike p))
one_verdict records recall (verdicts.Differs p a) (verdicts.Differs q b) (differs, below) (differs', below') = elim (pair_cmp p q) as (λ o. pair_cmp p q ≡ o → verdicts.Differs p a ≡ verdicts.Differs q b) [
  | Less ↦ λ low. absurd (not_alike records recall p a differs (below' p low))
  | Greater ↦ λ high. absurd (not_alike records recall q b differs' (below q (pairs_total.antisymm q p ∙ ap ordering_reverse high)))
  | Equal ↦ λ tied.
      let same : p ≡ q = pairs_exact p q tied in
      let way : a ≡ b = one_way records recall q a b (subst (λ z. DiffersAt records recall z a) same differs) differs' in
      ap (λ z. verdicts.Differs z a) same ∙ ap (verdicts.Differs q) way
] refl
