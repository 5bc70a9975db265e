use Rattle.std.proofs.Common.{List, ℕ, [], ◌∷◌, ◌++◌, ap, ◌∙◌}
use Rattle.std.proofs.lemmas.Result.{on_ok_weaker}
use Rattle.trace_core.proofs.NamedLists.{number_told, knew, learnt}
use Rattle.trace_core.proofs.items.Items.know.Goals as goal

pub returns-in-Some-clause-ok : goal.returns-in-Some-clause-ok
returns-in-Some-clause-ok c = knew c.args.item.now c.in-Some.number c.args.self.now c.in-Some.ensures

pub returns-in-None-clause-ok : goal.returns-in-None-clause-ok
returns-in-None-clause-ok c = on_ok_weaker c.add.result
    (λ is. is ∙ ap (λ (ps : List ℕ). c.args.self.now ++ (c.args.item.now, ps) ∷ []) c.new.ensures ∙ learnt c.args.item.now c.args.self.now c.in-None.ensures)
    c.add.ensures.ok

pub returns-in-None-clause-number : goal.returns-in-None-clause-number
returns-in-None-clause-number c = number_told c.add.result c.args.self.now c.add.new.self c.args.item.now _ c.in-None.ensures c.add.ensures.ok c.add.ensures.number
