use Rattle.std.proofs.Common.{◌≡◌, ◌∙◌, sym, subst}
use mathlib.Core.Bool.{false≢true}
use Rattle.std.specs.List.{Contains}
use Rattle.report_core.specs.Traces.{IsKnownAt}
use Rattle.site_recovery.specs.Checking.{records_at}
use Rattle.site_recovery.specs.Looks.{world_of}
use Rattle.gap_core.proofs.Additions.{adds_alike, adds_one}
use Rattle.folder_questions.proofs.gaps_plans.push_unknown.Goals as goal

pub returns : goal.returns
returns c =
    let W = world_of (records_at c.args.records.now) in
    let unknown : IsKnownAt W c.args.site c.args.item.now → ⊥ = λ known. false≢true (sym c.if-knows.false ∙ c.knows.ensures.1 known) in
    let same = c.in_ok-copy.ensures in
    adds_alike (Contains c.args.unknown.now.items) (Contains c.push.new.self.items) (λ i. c.in_ok-copy.copy ≡ i) (λ i. (c.args.item.now ≡ i) × (IsKnownAt W c.args.site i → ⊥))
    (λ i. (
      λ is. let its = sym same ∙ is in (its, subst (λ x. IsKnownAt W c.args.site x → ⊥) its unknown),
      λ (is, none). same ∙ is,
    ))
    (adds_one c.args.unknown.now.items c.push.new.self.items c.in_ok-copy.copy c.in_ok-push.ensures.items)
