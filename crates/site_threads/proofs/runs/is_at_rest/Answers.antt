use Rattle.std.proofs.Common.{◌∙◌, ◌≡◌, List, [], ◌∷◌, length, refl, sym}
use Rattle.site_threads.proofs.runs.is_at_rest.Goals as goal

none_left : {X : Type 0} (xs : List X) → length xs ≡ 0 → xs ≡ []
none_left [] e = refl
none_left (x ∷ xs) e = cc

pub returns-then-is_empty : goal.returns-then-is_empty
returns-then-is_empty c ended = record {
  signalled = sym c.outbox.ensures.entries ∙ none_left c.outbox.result.now.entries (c.is_empty.ensures.0 c.if-is_empty.true);
  ended = c.have_ended.ensures.0 ended;
}
