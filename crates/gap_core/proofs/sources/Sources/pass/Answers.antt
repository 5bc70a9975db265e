use Rattle.std.proofs.Common.{List, rules, subst}
use Rattle.std.specs.List.{Contains}
use Rattle.std.proofs.lemmas.Result.{on_ok_weaker}
use Rattle.gap_core.specs.Adding.{AddsToList, ByOne}
use Rattle.gap_core.specs.Sources.{IsPassed, IsPassedBy}
use Rattle.gap_core.specs.declared.sources.Source.{Source}
use Rattle.gap_core.proofs.Additions.{adds_alike}
use Rattle.gap_core.proofs.SourceLists.{passed_each}
use Rattle.gap_core.proofs.sources.Sources.pass.Goals as goal

pub returns-clause-added : goal.returns-clause-added
returns-clause-added c = on_ok_weaker c.pass_each.result
    (λ adds. adds_alike (Contains c.args.self.now) (Contains c.pass_each.new.self) (ByOne c.args.self.now (IsPassedBy c.args.at c.args.to)) (IsPassed c.args.at c.args.to c.args.self.now)
    (passed_each c.args.at c.args.to c.args.self.now)
    (subst (λ (xs : List Source). AddsToList c.args.self.now c.pass_each.new.self (ByOne xs (IsPassedBy c.args.at c.args.to))) (search rules) adds))
    c.pass_each.ensures.added
