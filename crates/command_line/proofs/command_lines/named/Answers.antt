use Rattle.std.proofs.Common.{rules, ◌≡◌, IfSome, Some, codes, inl, subst, sym}
use Rattle.clap.specs.Words.{found_of, rows_of, subcommand_rows_of}
use Rattle.command_line.specs.CommandLines.{AsksTwoForms, IsContradiction, IsMistake}
use Rattle.command_line.proofs.Words.{convert_named, found_named, lint_named, mistake_named, where_none}
use Rattle.command_line.proofs.command_lines.named.Goals as goal

pub returns-then-eq-2 : goal.returns-then-eq-2
returns-then-eq-2 c =
    let name = c.in_ok-name.name.now in
    let rows = rows_of (found_of c.in_ok-name.given.now) in
    let is_lint : name ≡ codes "lint" = search rules in
    let found : subcommand_rows_of c.args.matches.now ≡ Some (name, rows) = search rules in
    found_named _ name rows c.lint_command.result found (lint_named name rows c.lint_command.result is_lint c.lint_command.ensures)

pub returns-then-eq-3 : goal.returns-then-eq-3
returns-then-eq-3 c =
    let name = c.in_ok-name.name.now in
    let rows = rows_of (found_of c.in_ok-name.given.now) in
    let is_convert : name ≡ codes "convert" = search rules in
    let found : subcommand_rows_of c.args.matches.now ≡ Some (name, rows) = search rules in
    found_named _ name rows c.convert_command.result found (convert_named name rows c.convert_command.result is_convert c.convert_command.ensures)

pub returns-in_default : goal.returns-in_default
returns-in_default c =
    let name = c.in_ok-name.name.now in
    let rows = rows_of (found_of c.in_ok-name.given.now) in
    let found : subcommand_rows_of c.args.matches.now ≡ Some (name, rows) = search rules in
    let two : AsksTwoForms rows = where_none c.form_of.result _ c.form_of.ensures.two c.in_default.not-Some in
    let wrong : IfSome c.ok.result IsMistake = search rules in
    mistake_named _ c.ok.result (subst IsContradiction (sym found) (inl (inl two))) wrong
