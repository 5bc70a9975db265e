-- What the notes of inputs name.
use Rattle.std.specs.Prelude.{ℕ, List}
use Rattle.recall_outcomes.specs.declared.batches.InputOutcome.{InputOutcome}
use Rattle.site_core.specs.Records.{Record}
use Rattle.folder_commands.specs.Batches.{no_notes}
use Rattle.folder_commands.specs.Inputs.{AreNoted}
use Rattle.folder_commands.specs.Untraced.{AreFew}
use Rattle.folder_commands.specs.declared.inputs.Doing.{Doing}
use Rattle.folder_commands.specs.declared.inputs.InputNotes.{InputNotes}

-- However many inputs are taken, each destination is named once, and at most five are: so it is before the first input, and each
-- one leaves it so.
abbrev pub FewAreNamed : Type 0
FewAreNamed =
    AreFew no_notes.places
    × ((doing : Doing) (old : Record) (bytes : List ℕ) (came : InputOutcome) (before after : InputNotes) → AreNoted doing old bytes came before after → AreFew before.places → AreFew after.places)
