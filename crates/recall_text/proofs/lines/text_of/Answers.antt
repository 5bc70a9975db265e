use Rattle.std.proofs.Common.{◌≡◌, ℕ, true, false, List, refl, IsUtf8}
use Rattle.std.specs.Str.{is_utf8}
use Rattle.std.proofs.lemmas.Str.{IsUtf8-from_is_utf8, is_utf8-from_IsUtf8}
use Rattle.recall_text.proofs.lines.text_of.Goals as goal

not_text : (bytes : List ℕ) → (IsUtf8 bytes → ⊥) → is_utf8 bytes ≡ false
not_text bytes never = elim (is_utf8 bytes) as (λ v. is_utf8 bytes ≡ v → v ≡ false) [
  | true ↦ λ e. absurd (never (IsUtf8-from_is_utf8 bytes e))
  | false ↦ λ e. refl
] refl

pub returns-in-Ok : goal.returns-in-Ok
returns-in-Ok c = (is_utf8-from_IsUtf8 c.args.line.now c.in-Ok.ensures.cases.1, c.in-Ok.ensures.cases.0)

pub returns-in-Err : goal.returns-in-Err
returns-in-Err c = not_text c.args.line.now c.in-Err.ensures.cases.0
