use Rattle.std.proofs.Common.{◌≡◌, ℕ, ◌++◌, List, [], ◌∷◌, map, ap, sym, ◌∙◌, append_assoc, append-nil, rules}
use Rattle.std.specs.FinMap.{entries}
use Rattle.frame_core.specs.declared.rows.Row.{Row}
use Rattle.script_core.proofs.pumping.numbers_of.Goals as goal

pub loop-number-init : goal.loop-number-init
loop-number-init c =
    let all : List (ℕ × Row) = c.into_iter-number-iterator.result in
    let is : all ≡ entries c.args.state.now.engagement.outbox = search rules in
    let none : c.new-numbers.result.items ≡ [] = search rules in
    ap (λ (xs : List ℕ). xs ++ map (λ e. e.0) all) none ∙ ap (map (λ e. e.0)) is

pub loop-number-preserved : goal.loop-number-preserved
loop-number-preserved c =
    let left : List (ℕ × Row) = c.loop-number.number-iterator in
    let after : List (ℕ × Row) = c.next.new.self in
    let n = c.in-Some.number.now in
    let is : left ≡ (n, c.in-Some.field-0-1.now) ∷ after = search rules in
    let old = c.loop-number.numbers.items in
    ap (λ (xs : List ℕ). xs ++ map (λ e. e.0) after) c.in_ok-push.ensures.items ∙ append_assoc old (n ∷ []) (map (λ e. e.0) after)
    ∙ ap (λ (xs : List (ℕ × Row)). old ++ map (λ e. e.0) xs) (sym is) ∙ c.loop-number.invariant

pub returns : goal.returns
returns c =
    let left : List (ℕ × Row) = c.loop-number.number-iterator in
    let none : left ≡ [] = search rules in
    sym (append-nil c.loop-number.numbers.items) ∙ ap (λ (xs : List (ℕ × Row)). c.loop-number.numbers.items ++ map (λ e. e.0) xs) (sym none) ∙ c.loop-number.invariant
