use Rattle.std.proofs.Common.{◌≡◌, ◌++◌, [], ◌∷◌, arith, length, rules}
use Rattle.std.proofs.lemmas.Bool.Decides.{nat_tests}
use Rattle.document_lint.specs.declared.findings.What.TheVariants.{Outside}
use Rattle.document_lint.proofs.SiteLists.{none_spelled, some_spelled}
use Rattle.document_lint.proofs.unlisted.or_outside.Goals as goal
use Rattle.document_lint.proofs.unlisted.or_outside.Goals.{then-is_empty+in_ok-copy+in_ok-push, else-is_empty}

pub returns : goal.returns
returns c =
    elim c.if-is_empty.branch [
      | then-is_empty+in_ok-copy+in_ok-push w ↦
          (let none : length c.args.spellings.items ≡ 0 = grind (arith, nat_tests) in
          let told : c.if-is_empty.told.items ≡ c.args.spellings.items ++ Outside w.in_ok-copy.field-0 ∷ [] = search rules in
          none_spelled c.args.place.now _ c.args.spellings.items _ none w.in_ok-copy.ensures told)
      | else-is_empty w ↦
          (let told : c.if-is_empty.told.items ≡ c.args.spellings.items = search rules in
          some_spelled c.args.place.now c.args.spellings.items _ (λ none. grind (arith, nat_tests)) told)
    ]
