use Rattle.std.proofs.Common.{◌↔◌, List, ℕ, ◌++◌, subst, arith}
use Rattle.std.specs.List.{Contains}
use Rattle.trace_core.specs.Marks.{set_marks}
use Rattle.trace_core.proofs.MarkSteps.{marks_given, all_set}
use Rattle.trace_core.proofs.marks.Marks.give_marks.Goals as goal

pub invariant_of-self : goal.invariant_of-self
invariant_of-self c = all_set c.self.inside.many.items c.in_ok-self-inside.field-0.items c.self.inside.few.keys c.args.all (omega (arith, c.if-len-gt0.false, c.len.ensures, c.self.inside.many.ok)) c.in_ok-self-inside.ensures.len c.in_ok-self-inside.ensures.set

pub returns : goal.returns
returns c = subst (λ (old : List ℕ). (n : ℕ) → Contains (set_marks c.in_ok-self-inside.field-0.items ++ c.self.inside.few.keys) n ↔ Contains old n) c.self.view_is
    (marks_given c.self.inside.many.items c.in_ok-self-inside.field-0.items c.self.inside.few.keys c.args.all (omega (arith, c.if-len-gt0.false, c.len.ensures, c.self.inside.many.ok)) c.in_ok-self-inside.ensures.len c.in_ok-self-inside.ensures.set)
