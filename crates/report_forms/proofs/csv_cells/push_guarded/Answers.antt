use Rattle.std.proofs.Common.{◌≡◌, ◌++◌, ◌∙◌, [], ◌∷◌, List, ℕ, ap, append_assoc, string_bytes, sym}
use Rattle.std.proofs.lemmas.Result.{on_ok_weaker}
use Rattle.csv.specs.Writing.{default_writer, escaped}
use Rattle.report_forms.proofs.Guarding.{quoted_behind}
use Rattle.report_forms.proofs.Replacing.{appended}
use Rattle.report_forms.proofs.csv_cells.push_guarded.Goals as goal

pub returns-in_ok-push_doubled : goal.returns-in_ok-push_doubled
unfolding lib.Utf8.encode
returns-in_ok-push_doubled c =
    let text = string_bytes c.args.text.now in
    let field = c.args.field.now in
    let doubled = escaped default_writer field in
    let so_far = string_bytes c.push_doubled.new.text in
    let before : so_far ≡ (text ++ 34 ∷ 39 ∷ []) ++ doubled = c.in_ok-push_doubled.ensures ∙ ap (λ (t : List ℕ). t ++ doubled) c.in_ok-push_str.ensures.bytes in
    let whole = ap (λ (t : List ℕ). t ++ 34 ∷ []) before ∙ append_assoc (text ++ 34 ∷ 39 ∷ []) doubled (34 ∷ []) ∙ append_assoc text (34 ∷ 39 ∷ []) (doubled ++ 34 ∷ []) in
    on_ok_weaker c.push.result (λ (written : string_bytes c.push.new.self ≡ so_far ++ 34 ∷ []). written ∙ whole ∙ ap (λ (t : List ℕ). text ++ t) (sym (quoted_behind field (sym c.needs_quotes.ensures ∙ c.if-needs_quotes.true))))
    (appended c.push.result (string_bytes c.push.new.self) so_far (34 ∷ []) c.push.ensures.bytes)
