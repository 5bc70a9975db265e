use Rattle.std.proofs.Common.{◌≡◌, ◌↔◌, ◌∷◌, ◌++◌, [], ℕ, List, IfOk, Contains, subst, ap, ◌∙◌}
use Rattle.trace_core.specs.Spreads.{IsSpread}
use Rattle.site_core.proofs.spreading.spread_of.Goals as goal

pub returns-clause-exact : goal.returns-clause-exact
returns-clause-exact c =
    let one : c.deref.result.now ≡ c.args.item.now ∷ [] = c.deref.ensures.value ∙ c.in_ok-push.ensures.items ∙ ap (λ xs. xs ++ c.in_ok-copy.field-0 ∷ []) c.new-starts.ensures.items ∙ ap (λ i. i ∷ []) c.in_ok-copy.ensures in
    subst (λ xs. IfOk c.spread.result (λ items. (j : List ℕ) → Contains items.items j ↔ IsSpread c.args.captured.now xs j)) one c.spread.ensures.exact
