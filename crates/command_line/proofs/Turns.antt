-- the turns of a run that is asked for
use Rattle.std.proofs.Common.{ℕ, List, Option, Some, None}
use Rattle.clap.specs.Words.{Row, Text}
use Rattle.command_line.specs.CommandLines.{AsksFiles, AsksNamed, HasTurns, named}
use Rattle.command_line.specs.declared.asked.Asked.TheVariants as asked
use Rattle.command_line.specs.declared.asked.FileCommand.{FileCommand}
use Rattle.command_line.specs.declared.asked.FileCommand.TheVariants.{Init, Copy, Capture, Start, Run, Report, Audit, Trace, TraceContents, Recalls, Recall, Items, Inside, Coverage, Gaps, Missed}
use Rattle.command_line.specs.declared.asked.Terms.{Terms}

in_range : (found : Option (Text × List Row)) (command : FileCommand) (terms : Terms) → AsksNamed found (asked.Files command terms) → HasTurns command
in_range None command terms is = absurd is
in_range (Some (name, rows)) (Run folder run) terms ((named_so, folder_is, turns_are, least, most, until_ended, unless_gaps, coded), others) = most
in_range (Some entry) (Init folder list) terms is = tt
in_range (Some entry) (Copy folder to) terms is = tt
in_range (Some entry) (Capture folder site file) terms is = tt
in_range (Some entry) (Start folder site item dry) terms is = tt
in_range (Some entry) (Report folder recall ways events) terms is = tt
in_range (Some entry) (Audit folder ended coded) terms is = tt
in_range (Some entry) (Trace folder site item back ways events) terms is = tt
in_range (Some entry) (TraceContents folder site item ways) terms is = tt
in_range (Some entry) (Recalls folder coded) terms is = tt
in_range (Some entry) (Recall folder recall coded) terms is = tt
in_range (Some entry) (Items folder site text) terms is = tt
in_range (Some entry) (Inside folder site item text) terms is = tt
in_range (Some entry) (Coverage folder) terms is = tt
in_range (Some entry) (Gaps folder all coded) terms is = tt
in_range (Some entry) (Missed folder recall coded) terms is = tt

pub has_turns : (words : List (List ℕ)) (command : FileCommand) (terms : Terms) → AsksFiles words command terms → HasTurns command
has_turns words command terms asks = in_range (named words) command terms asks.1
