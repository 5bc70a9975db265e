use Rattle.std.specs.Str.Parse.{ParsesUnsigned, ExplainsUnsignedError, HasUnsignedDigitsIfOk}
use Rattle.clap.specs.Words.{found_of}
use Rattle.clap.proofs.WalkLemmas.{one_text-rows}
use Rattle.command_line.proofs.Numbers.{gives_number}
use Rattle.command_line.proofs.command_lines.number.Goals as goal

pub returns : goal.returns
returns c =
    gives_number (λ text r. ParsesUnsigned 64 10 text r × ExplainsUnsignedError 10 text r × HasUnsignedDigitsIfOk text r) _ c.args.name.now _ c.get_one.result
    (one_text-rows (found_of c.args.given.now) c.args.name.now) c.get_one.ensures.none c.get_one.ensures.value
    (λ text n parsed. parsed.0.1)
