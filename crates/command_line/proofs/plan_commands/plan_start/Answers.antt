use Rattle.std.proofs.Common.{codes, sym, ◌∙◌}
use Rattle.clap.specs.Words.{found_of}
use Rattle.clap.proofs.WalkLemmas.{raw_values-rows}
use Rattle.command_line.proofs.plan_commands.plan_start.Goals as goal

pub start_aim-requires-clause-words : goal.start_aim-requires-clause-words
start_aim-requires-clause-words c = sym (c.in_ok-words.ensures ∙ raw_values-rows (found_of c.args.given.now) (codes "epc"))
