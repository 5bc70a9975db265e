use Rattle.std.proofs.Common.{◌≡◌, ◌-◌, ◌+◌, suc, ◌++◌, length, option_map, refl, sym, ap, ◌∙◌, arith}
use Rattle.item_spellings.specs.Reading.{elements_in}
use Rattle.item_spellings.specs.Seen.{seen}
use Rattle.item_spellings.proofs.Steps.{one_more, no_more, no_turn, seen_more, not_empty}
use Rattle.item_spellings.proofs.elements.all_elements.Goals as goal
use Rattle.item_spellings.proofs.elements.all_elements.Goals.{else-loop-test, then-loop-test+then-is_empty}

pub returns-in_default : goal.returns-in_default
returns-in_default c =
    sym (no_more c.args.form (length c.args.text.now - c.loop.counter) (seen c.loop.elements.items) c.loop.rest.now (not_empty c.loop.rest.now c.if-is_empty.ensures) (sym c.in_default.ensures))
    ∙ c.loop.invariant.all

pub loop-preserved : goal.loop-preserved
loop-preserved c =
    let low = c.loop-test.true in
    let left : length c.args.text.now - c.loop.counter ≡ suc (length c.args.text.now - (c.loop.counter + 1)) = omega arith in
    let more = one_more c.args.form (length c.args.text.now - c.loop.counter) (length c.args.text.now - (c.loop.counter + 1)) (seen c.loop.elements.items) c.loop.rest.now
    c.in-Some.behind.now (c.in-Some.ai.now, c.in-Some.value.now) (not_empty c.loop.rest.now c.if-is_empty.ensures) left (sym c.in-Some.ensures) in
    let items = ap seen c.in_ok-push.ensures.items ∙ seen_more c.loop.elements.items (c.in-Some.ai, c.in-Some.value) in record {
      all = ap (λ xs. option_map (λ es. xs ++ es) (elements_in c.args.form (length c.args.text.now - (c.loop.counter + 1)) c.in-Some.behind.now)) items ∙ (sym more ∙ c.loop.invariant.all);
      within = omega arith;
      ended = refl;
    }

pub returns : goal.returns
returns c =
    let some = not_empty c.loop.rest.now c.if-is_empty-2.ensures in
    elim c.loop-test.branch [
      | else-loop-test w ↦
          sym (no_turn c.args.form (length c.args.text.now - c.loop.counter) (seen c.loop.elements.items) c.loop.rest.now some (let over = w.loop-test.false in omega arith))
          ∙ c.loop.invariant.all
      | then-loop-test+then-is_empty w ↦ absurd (let no : ⊥ = grind (arith, w.if-is_empty.ensures, c.if-is_empty-2.ensures) in no)
    ]
