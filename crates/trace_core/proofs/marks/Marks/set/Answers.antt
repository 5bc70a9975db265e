use Rattle.std.proofs.Common.{◌≡◌, true, false, not, ◌↔◌, List, ℕ, ◌++◌, refl, subst, arith}
use mathlib.Core.Logic.{◌⊎◌}
use Rattle.std.proofs.Math.ListN.{set}
use Rattle.std.specs.List.{Contains}
use Rattle.trace_core.specs.Marks.{set_marks}
use Rattle.trace_core.proofs.MarkSteps.{mark_added, marks_stay, mark_new, few_added, few_stay, few_new}
use Rattle.trace_core.proofs.marks.Marks.set.Goals as goal

pub invariant_of-self : goal.invariant_of-self
invariant_of-self c = marks_stay c.self.inside.many.items _ c.self.inside.few.keys c.args.number (omega (arith, c.if-number-len.true, c.len.ensures, c.self.inside.many.ok)) refl c.self.invariant

pub returns-then-number-len-clause-marked : goal.returns-then-number-len-clause-marked
returns-then-number-len-clause-marked c =
    let marks = set c.self.inside.many.items c.args.number true in
    subst (λ (old : List ℕ). (n : ℕ) → Contains (set_marks marks ++ c.self.inside.few.keys) n ↔ (Contains old n ⊎ (c.args.number ≡ n))) c.self.view_is
    (mark_added c.self.inside.many.items marks c.self.inside.few.keys c.args.number (omega (arith, c.if-number-len.true, c.len.ensures, c.self.inside.many.ok)) refl)

pub returns-then-number-len-clause-new : goal.returns-then-number-len-clause-new
returns-then-number-len-clause-new c = subst (λ (old : List ℕ). not c.index.result.now ≡ false ↔ Contains old c.args.number) c.self.view_is
    (mark_new c.self.inside.many.items c.self.inside.few.keys c.args.number c.index.result.now (not c.index.result.now) (omega (arith, c.if-number-len.true, c.len.ensures, c.self.inside.many.ok)) c.index.ensures refl c.self.invariant)

pub invariant_of-self-2 : goal.invariant_of-self-2
invariant_of-self-2 c = few_stay c.self.inside.many.items c.self.inside.few c.insert.new.self c.args.number (omega (arith, c.if-number-len.false, c.len.ensures, c.self.inside.many.ok)) c.in_ok-insert.ensures.updates c.self.invariant

pub returns-clause-marked : goal.returns-clause-marked
returns-clause-marked c = subst (λ (old : List ℕ). (n : ℕ) → Contains (set_marks c.self.inside.many.items ++ c.insert.new.self.keys) n ↔ (Contains old n ⊎ (c.args.number ≡ n))) c.self.view_is
    (few_added c.self.inside.many.items c.self.inside.few c.insert.new.self c.args.number (omega (arith, c.if-number-len.false, c.len.ensures, c.self.inside.many.ok)) c.in_ok-insert.ensures.updates)

pub returns-clause-new : goal.returns-clause-new
returns-clause-new c = subst (λ (old : List ℕ). c.in_ok-insert.field-0 ≡ false ↔ Contains old c.args.number) c.self.view_is
    (few_new c.self.inside.many.items c.self.inside.few c.args.number c.in_ok-insert.field-0 (omega (arith, c.if-number-len.false, c.len.ensures, c.self.inside.many.ok)) c.in_ok-insert.ensures.added)
