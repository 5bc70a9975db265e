use Rattle.std.proofs.Common.{◌∙◌, sym}
use mathlib.Core.Bool.{false≢true}
use Rattle.std.proofs.lemmas.Result.{on_ok_weaker}
use Rattle.gap_core.proofs.TouchedSteps.{other_pair, pair_noted}
use Rattle.gap_core.proofs.touched.note_pair.Goals as goal

pub returns-then-is_same : goal.returns-then-is_same
returns-then-is_same c = on_ok_weaker c.note.result (pair_noted c.args.site c.args.pair.now c.args.items.now c.note.new.self (c.is_same.ensures.0 c.if-is_same.true)) c.note.ensures

pub returns-else-is_same : goal.returns-else-is_same
returns-else-is_same c = other_pair c.args.site c.args.pair.now c.args.items.now (λ same. false≢true (sym c.if-is_same.false ∙ c.is_same.ensures.1 same))
