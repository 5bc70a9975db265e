use Rattle.std.proofs.Common.{rules, ◌≡◌, ◌∙◌, ◌++◌, ℕ, List, option_map, sym, ap, subst}
use Rattle.recall_outcomes.specs.declared.batches.Task.TheVariants.{Capture, Start}
use Rattle.site_recovery.specs.Checking.{records_at}
use Rattle.site_recovery.specs.Laws.{captured_of}
use Rattle.folder_questions.specs.Missed.{AreMissedBy}
use Rattle.folder_questions.specs.GapsPlans.{AreItemDocuments, AreUnknownAt, unheld_at}
use Rattle.folder_questions.specs.PacksPlans.{texts_at}
use Rattle.folder_questions.specs.Plans.{outlined, outlines, texts_of}
use Rattle.folder_questions.proofs.gaps_plans.gaps_plan.Goals as goal

pub returns : goal.returns
returns c =
    let records = records_at c.args.records.now in
    let site = c.args.site in
    let missed = c.in_ok-missed.missed in
    let its : c.recall.inside.site ≡ c.args.recall.site = search rules in
    let pairs = c.in_ok-items.ensures ∙ ap (unheld_at site) c.as_slice.ensures.value in
    let captures = c.in_ok-note_captures.ensures ∙ ap (λ xs. outlines xs ++ outlined site Capture (texts_at site c.as_slice-4.result.now)) c.new-plan.ensures.items
    ∙ ap (λ ds. outlined site Capture (texts_at site ds)) c.as_slice-4.ensures.value in (
      c.in-Some.own.now,
      sym c.own_recall.ensures ∙ ap (option_map (λ o. o.now)) c.in-Some.is,
      missed,
      subst (λ (n : ℕ). AreMissedBy records (record { site = n; item = c.in-Some.own.now.root }) missed) its
          (subst (λ (i : List ℕ). AreMissedBy records (record { site = c.recall.inside.site; item = i }) missed) c.in_ok-copy.ensures c.in_ok-missed.ensures),
      c.in_ok-unknown.unknown.items,
      subst (λ (items : List (List ℕ)). AreUnknownAt records site items c.in_ok-unknown.unknown.items) (c.as_slice-2.ensures.value ∙ pairs) c.in_ok-unknown.ensures,
      c.in_ok-documents.documents.items,
      subst (λ (items : List (List ℕ)). AreItemDocuments (captured_of records) site items c.in_ok-documents.documents.items) c.as_slice-3.ensures.value c.in_ok-documents.ensures,
      c.in_ok-note_batch.ensures ∙ ap (λ o. o ++ outlined site Start (texts_of c.in_ok-inputs.inputs.items)) captures
          ∙ ap (λ ts. outlined site Capture (texts_at site c.in_ok-documents.documents.items) ++ outlined site Start ts) (c.in_ok-inputs.ensures ∙ pairs),
    )
