use Rattle.std.proofs.Common.{◌∙◌, ◌++◌, ◌∷◌, [], List, ℕ, ap}
use Rattle.gap_core.proofs.Additions.{adds_one}
use Rattle.gap_core.proofs.batches.push_copy.Goals as goal

pub returns : goal.returns
returns c = adds_one c.args.batches.now.items c.push.new.self.items c.args.places.now (c.in_ok-push.ensures.items ∙ ap (λ (x : List ℕ). c.args.batches.now.items ++ x ∷ []) c.in_ok-copy.ensures)
