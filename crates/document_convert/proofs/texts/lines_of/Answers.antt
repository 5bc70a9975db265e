use Rattle.std.proofs.Common.{ℕ, List, ◌∷◌, [], ◌++◌, Bor, ap, sym, ◌∙◌, append_assoc, map}
use Rattle.std.specs.Prelude.{◌==◌}
use Rattle.std.specs.List.{slice_split}
use Rattle.std.proofs.lemmas.List.{map_push}
use Rattle.document_convert.proofs.LineLemmas.{shorter, split_at, split_none}
use Rattle.document_convert.proofs.texts.lines_of.Goals as goal

pub loop-line-smaller : goal.loop-line-smaller
loop-line-smaller c = shorter c.loop-line.rest.now c.in-Some.line.now c.in-Some.more.now c.in-Some.ensures

pub loop-line-preserved : goal.loop-line-preserved
loop-line-preserved c =
    let now : Bor (List ℕ) → List ℕ = λ x. x.now in
    let so_far = map now c.loop-line.lines.items in
    let rest = slice_split (λ b. b == 10) c.in-Some.more.now in
    ap (λ xs. map now xs ++ rest) c.in_ok-push.ensures.items
    ∙ ap (λ xs. xs ++ rest) (map_push now c.loop-line.lines.items c.in-Some.line)
    ∙ append_assoc so_far (c.in-Some.line.now ∷ []) rest
    ∙ ap (λ r. so_far ++ r) (sym (split_at c.loop-line.rest.now c.in-Some.line.now c.in-Some.more.now c.in-Some.ensures))
    ∙ c.loop-line.invariant

pub returns : goal.returns
returns c =
    let now : Bor (List ℕ) → List ℕ = λ x. x.now in
    ap (map now) c.in_ok-push-2.ensures.items
    ∙ map_push now c.loop-line.lines.items c.loop-line.rest
    ∙ ap (λ r. map now c.loop-line.lines.items ++ r) (sym (split_none c.loop-line.rest.now (rw c.in_default.is at c.first_line.ensures)))
    ∙ c.loop-line.invariant
