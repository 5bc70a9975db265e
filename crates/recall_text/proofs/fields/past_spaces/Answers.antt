use Rattle.std.proofs.Common.{◌≡◌, ◌≢◌, ℕ, ◌+◌, true, false, cond, List, [], ◌∷◌, drop, refl, sym, ap, ◌∙◌, eqb-true, lit<, Option, Some, None, MatchOption}
use Rattle.std.specs.Borrow.{Bor}
use Rattle.std.specs.List.{prefix_len}
use Rattle.std.proofs.lemmas.Str.Pattern.{strip_prefix_char}
use Rattle.recall_text.specs.Fields.{is_space}
use Rattle.recall_text.specs.Steps.{past_spaces}
use Rattle.recall_text.proofs.fields.past_spaces.Goals as goal

-- a text that begins with no space has nothing to skip
no_space_first : (bs : List ℕ) → ((rest : List ℕ) → bs ≢ 32 ∷ rest) → past_spaces bs ≡ bs
no_space_first [] h = refl
no_space_first (b ∷ bs) h =
    elim (is_space b) as (λ v. is_space b ≡ v → drop (cond v (1 + prefix_len is_space bs) 0) (b ∷ bs) ≡ b ∷ bs) [
      | true ↦ λ e. absurd (h bs (ap (λ x. x ∷ bs) (eqb-true b 32 e)))
      | false ↦ λ e. refl
    ] refl

at_none : (bs : List ℕ) (r : Option (Bor (List ℕ))) → ((x : Bor (List ℕ)) → r ≡ Some x → ⊥)
    → MatchOption r ((rest : List ℕ) → bs ≢ 32 ∷ rest) (λ x. bs ≡ 32 ∷ x.now) → (rest : List ℕ) → bs ≢ 32 ∷ rest
at_none bs None other h = h
at_none bs (Some x) other h = absurd (other x refl)

pub returns : goal.returns
returns c =
    let rest = c.loop-behind.rest.now in
    let stops = strip_prefix_char 32 rest c.strip_prefix.result c.strip_prefix.ensures.cases (lit< tt) in
    sym (no_space_first rest (at_none rest c.strip_prefix.result c.in_default.not-Some stops)) ∙ c.loop-behind.invariant.same
