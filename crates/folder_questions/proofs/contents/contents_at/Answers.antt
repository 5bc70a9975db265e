use Rattle.std.proofs.Common.{◌∙◌, List, refl, sym, ap, subst}
use mathlib.Core.Bool.{false≢true}
use Rattle.std.proofs.lemmas.Result.{IfOk-weaker}
use Rattle.gap_core.specs.Inside.{AreInside}
use Rattle.query_core.specs.Counted.{counted_items}
use Rattle.recall_outcomes.specs.declared.outcomes.CommandRefusal.TheVariants.{Step}
use Rattle.report_core.specs.Traces.{IsKnownAt}
use Rattle.report_core.proofs.KnownItems.{none_known}
use Rattle.site_core.specs.Records.{Record}
use Rattle.site_core.specs.declared.outcomes.Refusal.TheVariants.{UnknownItem}
use Rattle.site_folders.specs.Refusals.{IsRefusal}
use Rattle.site_recovery.specs.Checking.{records_at, world_at}
use Rattle.trace_core.specs.Chains.{sites_at}
use Rattle.trace_core.specs.Sites.{SiteEvents}
use Rattle.folder_questions.specs.Contents.{AnswersContents}
use Rattle.folder_questions.proofs.ContentsLemmas.{known_here, unknown_told}
use Rattle.folder_questions.proofs.contents.contents_at.Goals as goal

pub returns-in_default : goal.returns-in_default
returns-in_default c =
    let W = world_at c.args.records.now in
    IfOk-weaker c.unknown.result (IsRefusal (Step UnknownItem)) (AnswersContents (records_at c.args.records.now) c.args.site c.args.item.now c.args.text.now)
    (λ o is. unknown_told (records_at c.args.records.now) c.args.site c.args.item.now c.args.text.now o (none_known W c.args.site c.args.item.now c.in_default.ensures) is) c.unknown.ensures

pub returns-then-not-is_known : goal.returns-then-not-is_known
returns-then-not-is_known c =
    let known = known_here (world_at c.args.records.now) c.args.site c.args.item.now c.in-Some.state.now c.captured.result.now c.quarantine.result.now c.captured.ensures c.quarantine.ensures c.in-Some.ensures in
    let unknown : IsKnownAt (world_at c.args.records.now) c.args.site c.args.item.now → ⊥ = λ at. false≢true (sym c.if-not-is_known.true ∙ c.is_known.ensures.1 (known.1 at)) in
    IfOk-weaker c.unknown-then-not-is_known.result (IsRefusal (Step UnknownItem)) (AnswersContents (records_at c.args.records.now) c.args.site c.args.item.now c.args.text.now)
    (λ o is. unknown_told (records_at c.args.records.now) c.args.site c.args.item.now c.args.text.now o unknown is) c.unknown-then-not-is_known.ensures

pub returns : goal.returns
returns c =
    let known = known_here (world_at c.args.records.now) c.args.site c.args.item.now c.in-Some.state.now c.captured.result.now c.quarantine.result.now c.captured.ensures c.quarantine.ensures c.in-Some.ensures in
    let inside = c.in_ok-inside.inside.items in (
      refl,
      known.0 (c.is_known.ensures.0 c.if-not-is_known.false),
      inside,
      subst (λ (ss : List SiteEvents). AreInside ss c.args.item.now inside) (ap sites_at c.as_slice.ensures.value ∙ c.in_ok-captured.ensures) c.in_ok-inside.ensures,
      c.in_ok-counted_items.ensures ∙ ap (λ (r : Record). counted_items r.captured.events c.args.text.now inside) c.in-Some.ensures,
    )
