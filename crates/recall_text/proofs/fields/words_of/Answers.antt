use Rattle.std.proofs.Common.{◌≡◌, ◌<◌, ◌∷◌, length, ap, sym, ◌∙◌, arith, rules}
use Rattle.recall_text.specs.Steps.{past_spaces}
use Rattle.recall_text.proofs.FieldLemmas.{none_of, one_of, past_fields, some_fields}
use Rattle.recall_text.proofs.fields.words_of.Goals as goal

pub returns-then-is_empty : goal.returns-then-is_empty
returns-then-is_empty c =
    let none : length c.split_field.result.0.now ≡ 0 = search rules in none_of c.args.text.now c.split_field.result.0.now c.split_field.ensures.field none

pub returns-then-is_empty-2 : goal.returns-then-is_empty-2
returns-then-is_empty-2 c =
    let text = c.args.text.now in
    let one = c.split_field.result.0.now in
    let rest = c.split_field.result.1.now in
    let some : 0 < length one = search rules in
    let first = one_of text one rest c.split_field.ensures.field c.split_field.ensures.rest some in
    let none : length c.split_field-2.result.0.now ≡ 0 = search rules in
    first ∙ ap (λ xs. one ∷ xs) (none_of rest c.split_field-2.result.0.now c.split_field-2.ensures.field none)

pub returns-then-is_empty-3 : goal.returns-then-is_empty-3
returns-then-is_empty-3 c =
    let text = c.args.text.now in
    let one = c.split_field.result.0.now in
    let rest = c.split_field.result.1.now in
    let two = c.split_field-2.result.0.now in
    let after = c.split_field-2.result.1.now in
    let some : 0 < length one = search rules in
    let first = one_of text one rest c.split_field.ensures.field c.split_field.ensures.rest some in
    let more : 0 < length two = search rules in
    let second = one_of rest two after c.split_field-2.ensures.field c.split_field-2.ensures.rest more in
    let none : length c.split_field-3.result.0.now ≡ 0 = search rules in
    first ∙ ap (λ xs. one ∷ xs) (second ∙ ap (λ xs. two ∷ xs) (none_of after c.split_field-3.result.0.now c.split_field-3.ensures.field none))

pub returns-then-is_empty-4 : goal.returns-then-is_empty-4
returns-then-is_empty-4 c =
    let text = c.args.text.now in
    let one = c.split_field.result.0.now in
    let rest = c.split_field.result.1.now in
    let two = c.split_field-2.result.0.now in
    let after = c.split_field-2.result.1.now in
    let three = c.split_field-3.result.0.now in
    let last = c.split_field-3.result.1.now in
    let some : 0 < length one = search rules in
    let first = one_of text one rest c.split_field.ensures.field c.split_field.ensures.rest some in
    let more : 0 < length two = search rules in
    let second = one_of rest two after c.split_field-2.ensures.field c.split_field-2.ensures.rest more in
    let most : 0 < length three = search rules in
    let third = one_of after three last c.split_field-3.ensures.field c.split_field-3.ensures.rest most in
    let none : length c.past_spaces.result.now ≡ 0 = search rules in
    first ∙ ap (λ xs. one ∷ xs) (second ∙ ap (λ xs. two ∷ xs) (third ∙ ap (λ xs. three ∷ xs) (past_fields last (ap length (sym c.past_spaces.ensures) ∙ none))))

pub returns-else-is_empty-4 : goal.returns-else-is_empty-4
returns-else-is_empty-4 c =
    let text = c.args.text.now in
    let one = c.split_field.result.0.now in
    let rest = c.split_field.result.1.now in
    let two = c.split_field-2.result.0.now in
    let after = c.split_field-2.result.1.now in
    let three = c.split_field-3.result.0.now in
    let last = c.split_field-3.result.1.now in
    let some : 0 < length one = search rules in
    let first = one_of text one rest c.split_field.ensures.field c.split_field.ensures.rest some in
    let more : 0 < length two = search rules in
    let second = one_of rest two after c.split_field-2.ensures.field c.split_field-2.ensures.rest more in
    let most : 0 < length three = search rules in
    let third = one_of after three last c.split_field-3.ensures.field c.split_field-3.ensures.rest most in
    let some_left : 0 < length c.past_spaces.result.now = search rules in
    let past = ap length c.past_spaces.ensures in
    let left : 0 < length (past_spaces last) = omega (arith, some_left, past) in
    let all = ap length (first ∙ ap (λ xs. one ∷ xs) (second ∙ ap (λ xs. two ∷ xs) third)) in
    let behind = some_fields last left in
    omega (arith, all, behind)
