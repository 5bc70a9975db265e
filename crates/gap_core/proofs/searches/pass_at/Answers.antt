use Rattle.std.proofs.Common.{◌∙◌, sym, ap}
use Rattle.std.specs.Option.{option_map}
use Rattle.std.proofs.lemmas.Result.{on_ok_weaker}
use Rattle.gap_core.proofs.SourceLists.{passed_there}
use Rattle.gap_core.proofs.searches.pass_at.Goals as goal

pub returns-in-Some-clause-added : goal.returns-in-Some-clause-added
returns-in-Some-clause-added c = on_ok_weaker c.pass_item.result
    (passed_there c.args.index.now c.pass_item.new.index c.args.sent.now c.args.at c.args.to c.args.place c.in-Some.item.now
    (sym (sym (ap (option_map (λ i. i.now)) c.in-Some.is) ∙ c.get.ensures)))
    c.pass_item.ensures.added
