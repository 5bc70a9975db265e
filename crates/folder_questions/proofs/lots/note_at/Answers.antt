use Rattle.std.proofs.Common.{◌≡◌, ◌∙◌, ℕ, List, sym, ap₂}
use Rattle.std.specs.List.{Contains}
use Rattle.gap_core.proofs.Additions.{adds_alike, adds_one}
use Rattle.trace_core.specs.declared.pairs.Pair.{Pair}
use Rattle.folder_questions.specs.Lots.{IsFreeAt}
use Rattle.folder_questions.proofs.lots.note_at.Goals as goal

pub returns-in_ok-push : goal.returns-in_ok-push
returns-in_ok-push c =
    let (named, free) = c.is_gap.ensures.0 c.if-is_gap.true in
    let of : ℕ → List ℕ → Pair = λ n i. record { site = n; item = i } in
    let its : of c.args.state.now.engagement.me c.args.lot.now ≡ of c.me.result c.in_ok-copy.field-0 = ap₂ of (sym c.me.ensures.me) (sym c.in_ok-copy.ensures) in
    adds_alike (Contains c.args.found.now.items) (Contains c.push.new.self.items) (λ p. of c.me.result c.in_ok-copy.field-0 ≡ p) (IsFreeAt c.args.lot.now c.args.state.now)
    (λ p. (λ is. (named, free, its ∙ is), λ (n, f, is). sym its ∙ is))
    (adds_one c.args.found.now.items c.push.new.self.items (of c.me.result c.in_ok-copy.field-0) c.in_ok-push.ensures.items)
