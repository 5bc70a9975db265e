use Rattle.std.proofs.Common.{◌≡◌, ℕ, List, [], Bor, false, map, refl, sym, ap, ◌∙◌, rules}
use Rattle.document_convert.specs.Texts.{begins, lines_of}
use Rattle.document_convert.proofs.ConvertLemmas.{none_begins}
use Rattle.document_convert.proofs.converting.by_lines.Goals as goal

pub returns-then-not-branch : goal.returns-then-not-branch
returns-then-not-branch c =
    let now : Bor (List ℕ) → List ℕ = λ x. x.now in
    let all : map now c.as_slice-lines.result.now ≡ lines_of c.args.text.now = ap (map now) c.as_slice-lines.ensures.value ∙ c.in_ok-lines.ensures in
    let none : c.in_ok-begins.field-0 ≡ false = search rules in
    none_begins c.args.ways c.args.sites.now (lines_of c.args.text.now) c.no_value.result c.push_refused.new.self (sym (ap begins all) ∙ sym c.in_ok-begins.ensures ∙ none) c.no_value.ensures
    (c.in_ok-push_refused.ensures c.args.ways c.args.sites.now [] (c.new-converted.ensures c.args.ways c.args.sites.now))

pub loop-place-init : goal.loop-place-init
loop-place-init c = record { done = []; are = c.new-converted.ensures c.args.ways c.args.sites.now; all = refl }
