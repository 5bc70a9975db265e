use Rattle.std.proofs.Common.{◌≡◌, ◌++◌, Bool, true, ◌↔◌, List, ℕ, sym, subst, arith}
use Rattle.std.specs.List.{Contains}
use Rattle.trace_core.specs.Marks.{set_marks}
use Rattle.trace_core.proofs.MarkSteps.{mark_told, few_told}
use Rattle.trace_core.proofs.marks.Marks.has.Goals as goal

pub returns-then-number-len : goal.returns-then-number-len
returns-then-number-len c = subst (λ (ns : List ℕ). c.index.result.now ≡ true ↔ Contains ns c.args.number) c.self.view_is
    (mark_told c.self.inside.many.items c.self.inside.few.keys c.args.number c.index.result.now (omega (arith, c.if-number-len.true, c.len.ensures, c.self.inside.many.ok)) c.index.ensures c.self.invariant)

pub returns : goal.returns
returns c = subst (λ (ns : List ℕ). c.contains.result ≡ true ↔ Contains ns c.args.number) c.self.view_is
    (subst (λ (b : Bool). b ≡ true ↔ Contains (set_marks c.self.inside.many.items ++ c.self.inside.few.keys) c.args.number) (sym c.contains.ensures) (few_told c.self.inside.many.items c.self.inside.few c.args.number (omega (arith, c.if-number-len.false, c.len.ensures, c.self.inside.many.ok))))
