use Rattle.std.proofs.Common.{◌≡◌, ℕ, refl, sym, ap, subst, IsTrue, nat_eq, ◌∙◌, arith}
use Rattle.std.specs.FinMap.{empty_of_len, len-empty}
use Rattle.std.proofs.lemmas.Bool.Decides.{nat_tests}
use Rattle.site_core.specs.ItemSets.{item_cmp, len}
use Rattle.site_core.proofs.item_sets.ItemSet.is_empty.Goals as goal

no_length : (n : ℕ) → IsTrue (nat_eq n 0) → n ≡ 0
no_length n h = grind (arith, nat_tests)

pub returns-clause-empty : goal.returns-clause-empty
returns-clause-empty c = (
  λ none. empty_of_len c.args.self.now (sym c.len.ensures ∙ no_length c.len.result none),
  λ is. subst (λ n. IsTrue (nat_eq n 0)) (sym (c.len.ensures ∙ ap len is ∙ len-empty item_cmp (Unit {0}))) refl,
)
