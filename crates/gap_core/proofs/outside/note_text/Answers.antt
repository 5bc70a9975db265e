use Rattle.std.proofs.Common.{◌≡◌, ◌∙◌, ℕ, List, subst}
use Rattle.std.proofs.lemmas.Result.{on_ok_weaker}
use Rattle.gap_core.specs.Adding.{AddsTo}
use Rattle.gap_core.specs.Batches.{KeepsPlace}
use Rattle.gap_core.proofs.outside.note_text.Goals as goal

pub returns : goal.returns
returns c = on_ok_weaker c.note.result
    (subst (λ (text : List ℕ). AddsTo (KeepsPlace c.args.outside.now) (KeepsPlace c.note.new.outside) (λ m. (text ≡ m.0) × (c.args.place ≡ m.1))) (c.of-destination.ensures ∙ c.in_ok-copy.ensures))
    c.note.ensures
