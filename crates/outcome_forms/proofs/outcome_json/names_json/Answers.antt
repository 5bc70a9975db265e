use Rattle.std.proofs.Common.{◌≡◌, ◌<◌, ◌++◌, ℕ, [], ◌∷◌, length, map, sym, ap, ap₂, ◌∙◌, arith}
use Rattle.std.proofs.lemmas.List.{map-append}
use Rattle.recall_text.specs.Words.{name_at}
use Rattle.serde_json.specs.Data.{Data, string}
use Rattle.serde_json.specs.View.{view}
use Rattle.outcome_forms.proofs.JsonLists.{names_more}
use Rattle.outcome_forms.proofs.outcome_json.names_json.Goals as goal

pub loop-number-preserved : goal.loop-number-preserved
loop-number-preserved c =
    let sites = c.args.sites.now in
    let number = c.loop-number.number in
    let value = c.in_ok-try_from_str.field-0 in
    let below : number < length sites = omega (arith, c.loop-number-test.true, c.len-number-end.ensures.count) in
    let name : view value ≡ string (name_at sites number) = c.in_ok-try_from_str.ensures ∙ ap string (c.name_of.ensures ∙ ap (λ (n : ℕ). name_at sites n) c.in-Some.ensures.value) in (
      ap (map view) c.in_ok-push.ensures.items ∙ map-append view c.loop-number.list.items (value ∷ [])
          ∙ ap₂ (λ ds (d : Data). ds ++ d ∷ []) c.loop-number.invariant.0 name ∙ sym (names_more sites number below),
      omega (arith, c.loop-number-test.true),
    )
