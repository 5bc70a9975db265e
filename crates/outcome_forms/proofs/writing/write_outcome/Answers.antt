use Rattle.std.proofs.Common.{◌≡◌, All, false, subst, sym}
use Rattle.serde_json.specs.Data.{Data}
use Rattle.serde_json.specs.View.{view}
use Rattle.serde_json.specs.Written.{has_float}
use Rattle.outcome_forms.proofs.Lines.{all_back}
use Rattle.outcome_forms.proofs.Trees.{outcome_free}
use Rattle.outcome_forms.proofs.writing.write_outcome.Goals as goal

pub value_lines-requires : goal.value_lines-requires
value_lines-requires g c =
    let free : Data → Type 0 = λ d. has_float d ≡ false in
    subst (λ vs. All (λ v. has_float (view v) ≡ false) vs) (sym c.as_slice.ensures.value)
    (all_back view free c.in_ok-values-in-Json-form.values.items (subst (All free) (sym (c.in_ok-values-in-Json-form.ensures (sym c.in-None.ensures))) (outcome_free c.args.sites.now c.args.outcome.now)))
