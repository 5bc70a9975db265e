use Rattle.std.proofs.lemmas.Result.{on_ok_weaker}
use Rattle.std.proofs.Common.{ℕ, subst}
use Rattle.trace_core.specs.PutIn.{children_in}
use Rattle.trace_core.specs.Sendings.{Follows}
use Rattle.trace_core.proofs.sendings.Sent.note_event.Goals as goal

pub returns-clause-ok : goal.returns-clause-ok
returns-clause-ok c = on_ok_weaker c.follow.result
    (λ follows. record {
      between = c.note_starts.new.self;
      starts = c.in_ok-note_starts.ensures.ok;
      follows = subst (λ (n : ℕ). Follows (children_in c.args.packed.now) n c.note_starts.new.self c.follow.new.self) c.len-from.ensures follows;
    })
    c.follow.ensures.ok
