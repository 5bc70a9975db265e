use Rattle.std.proofs.lemmas.Result.{on_ok_weaker}
use Rattle.gap_core.proofs.batches.note_outside.Goals as goal

pub returns : goal.returns
returns c = on_ok_weaker c.note_lists.result (λ adds. adds c.args.site.now.events c.in_ok-outside.ensures) c.note_lists.ensures
