use Rattle.std.proofs.Common.{◌↔◌, IsTrue, true, false, length, slice_get, refl, sym, ap, ◌∙◌, subst, arith}
use Rattle.std.proofs.lemmas.Option.{slice_get_read}
use Rattle.site_threads.specs.Jobs.{IsEntered}
use Rattle.site_threads.proofs.Confirming.{list_there}
use Rattle.site_threads.proofs.gathered.Gathered.confirm.Goals as goal

pub returns-then-has : goal.returns-then-has
returns-then-has g c =
    let all = c.deref.result.now in
    let at = c.in-Some.ensures.lookup in
    let there = sym (ap (λ l. slice_get l c.number.result) c.deref.ensures.value) ∙ slice_get_read all (length all) c.number.result c.in-Some.list.now refl at.3.0 (at.4 (omega arith) c.in-Some.list.now) in
    list_there c.args.self.now.lists.items c.number.result c.in-Some.list.now c.args.receipt.now true (sym c.number.ensures.value) there (subst (λ b. IsTrue b ↔ IsEntered c.in-Some.list.now.entries.items c.args.receipt.now) c.if-has.true c.has.ensures)

pub returns-else-has : goal.returns-else-has
returns-else-has g c =
    let all = c.deref.result.now in
    let at = c.in-Some.ensures.lookup in
    let there = sym (ap (λ l. slice_get l c.number.result) c.deref.ensures.value) ∙ slice_get_read all (length all) c.number.result c.in-Some.list.now refl at.3.0 (at.4 (omega arith) c.in-Some.list.now) in
    list_there c.args.self.now.lists.items c.number.result c.in-Some.list.now c.args.receipt.now false (sym c.number.ensures.value) there (subst (λ b. IsTrue b ↔ IsEntered c.in-Some.list.now.entries.items c.args.receipt.now) c.if-has.false c.has.ensures)
