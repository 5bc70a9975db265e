use Rattle.std.proofs.Common.{◌∙◌, Bor, [], List, ℕ, sym}
use mathlib.Core.Bool.{false≢true}
use Rattle.clap.specs.Words.{found_of, rows_of}
use Rattle.command_line.proofs.Words.{is_unset, lone_given, one_given}
use Rattle.command_line.proofs.plan_commands.is_lone.Goals as goal

pub returns : goal.returns
returns c =
    let rows = rows_of (found_of c.args.given.now) in
    let none : Bor (List ℕ) = record { ref_ptr = (0, 0); now = [] } in (
      λ t.
          let (lines, dry, one) = c.is_alone.ensures.0 t in
          (_, lone_given rows c.args.words.now none c.requires one (λ set. false≢true (sym lines ∙ c.is_set-by_lines.ensures.1 set)) (λ set. false≢true (sym dry ∙ c.is_set-dry.ensures.1 set))),
      λ (text, lone).
          c.is_alone.ensures.1
          (is_unset c.is_set-by_lines.result c.is_set-by_lines.ensures (λ set. false≢true (lone.0.1.1 set)), is_unset c.is_set-dry.result c.is_set-dry.ensures lone.1, one_given rows c.args.words.now text c.requires lone),
    )
