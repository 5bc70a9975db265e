use Rattle.std.proofs.Common.{[], ◌∷◌, ◌++◌, ap, sym, ◌∙◌}
use Rattle.folder_questions.specs.Knowers.{FindsIn}
use Rattle.folder_questions.proofs.KnowerLemmas.{joined_more, site_more}
use Rattle.folder_questions.proofs.knowers.found_in_all.Goals as goal

pub loop-state-preserved : goal.loop-state-preserved
loop-state-preserved c =
    let so_far = c.loop-state.invariant in
    let part = c.in_ok-part.part.items in
    record {
      parts = so_far.parts ++ part ∷ [];
      of_each = site_more (FindsIn c.args.asked c.args.item.now c.args.text.now) c.args.records.now c.loop-state.state-index c.state-item.result so_far.parts part c.loop-state-test.true c.state-item.is so_far.of_each c.in_ok-part.ensures;
      found_is = c.in_ok-append.ensures.items ∙ ap (λ xs. xs ++ part) so_far.found_is ∙ sym (joined_more so_far.parts part);
    }
