use Rattle.std.proofs.Common.{◌≡◌, codes, ap, ◌∙◌, refl}
use Rattle.std.proofs.lemmas.Result.{IfOk-weaker}
use Rattle.clap.specs.Words.{app_of, new_app}
use Rattle.clap.specs.Simple.{app_of_fields}
use Rattle.command_line.specs.CommandLines.{needing, versioned}
use Rattle.command_line.proofs.Assembly.{adds_command}
use Rattle.command_line.proofs.grammar.recall.Goals as goal

pub returns : goal.returns
returns c =
    let named : app_of c.about.result ≡ new_app (codes "recall") =
    ap app_of_fields c.about.ensures ∙ ap app_of_fields c.in_ok-bin_name.ensures.0 ∙ c.new.ensures.app in
    let told : app_of c.after_help.result ≡ versioned (new_app (codes "recall")) =
    ap app_of_fields c.after_help.ensures ∙ ap app_of_fields c.version.ensures ∙ ap versioned named in
    let needs : app_of c.subcommand_required.result ≡ needing (versioned (new_app (codes "recall"))) =
    ap app_of_fields c.subcommand_required.ensures ∙ ap needing told in
    let first = adds_command _ _ _ _ _ c.in_ok-subcommand.ensures needs c.sim.ensures refl in
    let second = adds_command _ _ _ _ _ c.in_ok-subcommand-2.ensures first c.in_ok-init.ensures refl in
    let third = adds_command _ _ _ _ _ c.in_ok-program.ensures second c.in_ok-capture.ensures refl in
    let fourth = adds_command _ _ _ _ _ c.in_ok-subcommand-3.ensures third c.in_ok-start.ensures refl in
    let fifth = adds_command _ _ _ _ _ c.in_ok-subcommand-4.ensures fourth c.in_ok-run.ensures refl in
    let sixth = adds_command _ _ _ _ _ c.in_ok-subcommand-5.ensures fifth c.in_ok-report.ensures refl in
    let seventh = adds_command _ _ _ _ _ c.in_ok-subcommand-6.ensures sixth c.in_ok-audit.ensures refl in
    let eighth = adds_command _ _ _ _ _ c.in_ok-subcommand-7.ensures seventh c.in_ok-trace.ensures refl in
    let ninth = adds_command _ _ _ _ _ c.in_ok-subcommand-8.ensures eighth c.in_ok-status.ensures refl in
    let tenth = adds_command _ _ _ _ _ c.in_ok-subcommand-9.ensures ninth c.in_ok-items.ensures refl in
    let eleventh = adds_command _ _ _ _ _ c.in_ok-subcommand-10.ensures tenth c.in_ok-lint.ensures refl in
    let twelfth = adds_command _ _ _ _ _ c.in_ok-subcommand-11.ensures eleventh c.in_ok-gaps.ensures refl in
    let thirteenth = adds_command _ _ _ _ _ c.in_ok-subcommand-12.ensures twelfth c.in_ok-packs.ensures refl in
    let fourteenth = adds_command _ _ _ _ _ c.in_ok-subcommand-13.ensures thirteenth c.in_ok-convert.ensures refl in
    let fifteenth = adds_command _ _ _ _ _ c.in_ok-subcommand-14.ensures fourteenth c.in_ok-coverage.ensures refl in
    IfOk-weaker c.subcommand-16.result _ _ (λ command adds. adds_command _ _ command _ _ adds fifteenth c.in_ok-copy.ensures refl) c.subcommand-16.ensures
