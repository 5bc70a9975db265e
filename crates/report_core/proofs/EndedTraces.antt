-- What a trace says of a recall's root once the recall has ended, that there is one trace, and that traces go on.
use Rattle.std.proofs.Common.{Some, ◌≡◌, ◌↔◌, inr, List, [], refl, sym, ap, ◌∙◌, subst}
use Rattle.std.specs.List.{AllZip}
use Rattle.frame_core.specs.Numbers.{Recall}
use Rattle.scholten_core.specs.declared.own_recalls.Own.{Own}
use Rattle.trace_core.specs.Chains.{Related}
use Rattle.trace_core.specs.Pairs.{pair_cmp}
use Rattle.trace_core.specs.Relations.{Reaches}
use Rattle.trace_core.specs.Trails.{TellsTrail}
use Rattle.trace_core.specs.declared.pairs.Pair.{Pair}
use Rattle.trace_core.proofs.Carrying.{reaches_then}
use Rattle.trace_core.proofs.PairOrder.{pairs_exact, pairs_total}
use Rattle.site_core.specs.Records.{Record}
use Rattle.site_core.proofs.Ascending.{same_ascending}
use Rattle.site_recovery.specs.Fit.{Fit, IsEnded}
use Rattle.site_recovery.specs.Laws.{AreInPlace, captured_of}
use Rattle.site_recovery.specs.Looks.{World, world_of, Held}
use Rattle.report_core.specs.Destinations.{outside_cmp}
use Rattle.report_core.specs.Laws.{EndsAreTraced, EndedRootsAreKnown, OneTrace, RefusedAlike, TracesGoOn}
use Rattle.report_core.specs.Outside.{AreOutsideOf}
use Rattle.report_core.specs.Reports.{IsReport}
use Rattle.report_core.specs.Traces.{IsReachedFrom}
use Rattle.report_core.specs.Verdicts.{IsHeld}
use Rattle.report_core.specs.declared.outside.OutsideShipment.{OutsideShipment}
use Rattle.report_core.specs.declared.reports.RecallReport.{RecallReport}
use Rattle.report_core.proofs.Adding.{outside_total, outside_exact}
use Rattle.report_core.proofs.EndedRecalls.{one_own, alike_once_ended}
use Rattle.report_core.proofs.Outgoing.{outside_alike}
use Rattle.report_core.proofs.TrailLengths.{same_lengths, told_lengths}

-- the shipments of the same pairs are one list
one_outside : (W : World) (P : Pair → Type 0) (out other : List OutsideShipment) → AreOutsideOf W P out → AreOutsideOf W P other → out ≡ other
one_outside W P out other a b = same_ascending outside_cmp outside_total outside_exact out other a.ascending b.ascending
    (λ x. (λ at. (b.exact x).1 ((a.exact x).0 at), λ at. (a.exact x).1 ((b.exact x).0 at)))

module _ (records : List Record) (recall : Recall) (report : RecallReport) (places : AreInPlace records) (fit : Fit (world_of records)) (ended : IsEnded (world_of records) recall) (is : IsReport records recall report) where
  -- what the root reaches is what is held
  reached_once_ended : (root : Pair) → root ≡ report.root → (p : Pair) → IsReachedFrom records root p ↔ IsHeld records recall p
  reached_once_ended root same p =
      let alike = alike_once_ended records recall places fit ended p in
      let at : root ≡ record { site = recall.site; item = is.entry.root } = same ∙ is.root in (
        λ reach. alike.1 (is.entry, is.begun, subst (λ z. Reaches (Related (captured_of records)) z p) at reach),
        λ has.
            let (o, begun, reach) = alike.0 has in
            let own_root : record { site = recall.site; item = o.root } ≡ root = ap (λ (z : Own). record { site = recall.site; item = z.root }) (one_own records recall o is.entry begun is.begun) ∙ sym at in
            subst (λ z. Reaches (Related (captured_of records)) z p) own_root reach,
      )

pub ends_are_traced : EndsAreTraced
ends_are_traced records recall report trace places fit ended is traces =
    let reached = reached_once_ended records recall report places fit ended is trace.root traces.root in
    let pairs : trace.pairs ≡ report.pairs = same_ascending pair_cmp pairs_total pairs_exact trace.pairs report.pairs traces.ascending is.pairs.ascending
    (λ p. (λ at. (is.pairs.exact p).1 ((reached p).0 ((traces.exact p).0 at)), λ at. (traces.exact p).1 ((reached p).1 ((is.pairs.exact p).0 at)))) in
    let sites = captured_of records in
    let told : AllZip (λ p t. TellsTrail sites report.root p (Some t)) report.pairs trace.trails = subst (λ z. AllZip (λ p t. TellsTrail sites z p (Some t)) report.pairs trace.trails) traces.root
    (subst (λ ps. AllZip (λ p t. TellsTrail sites trace.root p (Some t)) ps trace.trails) pairs traces.trails) in (
      pairs,
      told_lengths sites report.root report.pairs trace.trails report.trails told is.trails,
      one_outside (world_of records) (λ p. Held (world_of records) p.site recall p.item) trace.outside report.outside
          (outside_alike (world_of records) (IsReachedFrom records trace.root) (λ p. Held (world_of records) p.site recall p.item) trace.outside reached traces.outside)
          is.outside,
    )

pub ended_roots_are_known : EndedRootsAreKnown
ended_roots_are_known records recall report places fit ended is =
    inr (recall, (reached_once_ended records recall report places fit ended is report.root refl report.root).0 ([], tt, refl))

pub one_trace : OneTrace
one_trace records site item t u is is' =
    let same : t.root ≡ u.root = is.root ∙ sym is'.root in
    let pairs : t.pairs ≡ u.pairs = same_ascending pair_cmp pairs_total pairs_exact t.pairs u.pairs is.ascending is'.ascending
    (λ p. (
      λ at. (is'.exact p).1 (subst (λ z. IsReachedFrom records z p) same ((is.exact p).0 at)),
      λ at. (is.exact p).1 (subst (λ z. IsReachedFrom records z p) (sym same) ((is'.exact p).0 at)),
    )) in
    let sites = captured_of records in
    let told : AllZip (λ p trail. TellsTrail sites u.root p (Some trail)) u.pairs t.trails = subst (λ z. AllZip (λ p trail. TellsTrail sites z p (Some trail)) u.pairs t.trails) same
    (subst (λ ps. AllZip (λ p trail. TellsTrail sites t.root p (Some trail)) ps t.trails) pairs is.trails) in (
      same,
      pairs,
      same_lengths sites u.root u.pairs t.trails u.trails told is'.trails,
      one_outside (world_of records) (IsReachedFrom records u.root) t.outside u.outside (subst (λ z. AreOutsideOf (world_of records) (IsReachedFrom records z) t.outside) same is.outside) is'.outside,
    )

pub traces_go_on : TracesGoOn
traces_go_on records site item p t u is at is' =
    let further : (q : Pair) → IsReachedFrom records u.root q → IsReachedFrom records t.root q = λ q reach.
    reaches_then (Related (captured_of records)) t.root p q ((is.exact p).0 at) (subst (λ z. IsReachedFrom records z q) is'.root reach) in (
      λ q there. (is.exact q).1 (further q ((is'.exact q).0 there)),
      λ x there.
          let out = (is'.outside.exact x).0 there in
          (is.outside.exact x).1 (further (record { site = x.site; item = x.item }) out.0, out.1),
    )

pub refused_alike : RefusedAlike
refused_alike W site item = (λ unknown. unknown, λ refused. refused)
