use Rattle.std.proofs.Common.{subst}
use mathlib.Core.Logic.{inl}
use Rattle.std.proofs.lemmas.Result.{on_ok_weaker}
use Rattle.gap_core.specs.Batches.{AddsBatch}
use Rattle.gap_core.proofs.batches.note_number.Goals as goal

pub returns-in-Some : goal.returns-in-Some
returns-in-Some c = on_ok_weaker c.note_site.result
    (subst (λ n. AddsBatch c.args.site.now (inl n) c.args.batches.now.items c.note_site.new.batches.items) c.in-Some.ensures.value)
    c.note_site.ensures
