use Rattle.std.proofs.Common.{[], ◌∷◌, map, sym, ap, ◌∙◌}
use Rattle.site_folders.proofs.CallsInTurn.{ok_so}
use Rattle.folder_commands.specs.Inputs.{input_of}
use Rattle.folder_commands.specs.Words.{is_blank}
use Rattle.folder_commands.proofs.WordLemmas.{blank_line, other_line}
use Rattle.folder_commands.proofs.words.line_input.Goals as goal

pub returns-then-is_blank : goal.returns-then-is_blank
returns-then-is_blank c =
    let blank = ap is_blank (sym c.as_slice.ensures.value) ∙ sym c.is_blank.ensures ∙ c.if-is_blank.true in
    ap (map input_of) c.new.ensures.items ∙ sym (blank_line c.args.doing c.args.path.now c.args.number c.args.line.items blank)

pub returns : goal.returns
returns c =
    let other = ap is_blank (sym c.as_slice.ensures.value) ∙ sym c.is_blank.ensures ∙ c.if-is_blank.false in
    let source = c.as_str.ensures.value ∙ c.in_ok-source.ensures.ok in
    ok_so c.one_input.result
    (λ all is. is ∙ (λ j. record { doing = c.args.doing; source = source j; bytes = c.line_bytes.ensures j } ∷ []) ∙ sym (other_line c.args.doing c.args.path.now c.args.number c.args.line.items other))
    c.one_input.ensures
