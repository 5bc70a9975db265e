use Rattle.std.proofs.Common.{◌∙◌}
use Rattle.folder_commands.proofs.WordLemmas.{trimmed_line}
use Rattle.folder_commands.proofs.words.line_bytes.Goals as goal

pub returns-in-Start : goal.returns-in-Start
returns-in-Start c =
    rw c.in-Start.is (c.truncate.ensures.items ∙ trimmed_line c.args.line.items c.as_slice.result.now c.trim_ascii_end-length.result.now c.as_slice.ensures.value c.trim_ascii_end-length.ensures.value)
