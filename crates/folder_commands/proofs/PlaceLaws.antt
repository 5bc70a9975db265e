-- the laws of the destinations that notes name
use Rattle.std.proofs.Common.{ℕ, List, sym, subst, arith}
use Rattle.recall_outcomes.specs.declared.batches.InputOutcome.{InputOutcome}
use Rattle.recall_outcomes.specs.declared.batches.InputOutcome.TheVariants.{Captured, Started, Refused}
use Rattle.site_core.specs.Records.{Record}
use Rattle.folder_commands.specs.Inputs.{AreNoted}
use Rattle.folder_commands.specs.PlaceLaws.{FewAreNamed}
use Rattle.folder_commands.specs.Untraced.{AreFew}
use Rattle.folder_commands.specs.declared.inputs.Doing.{Doing}
use Rattle.folder_commands.specs.declared.inputs.Doing.TheVariants as doings
use Rattle.folder_commands.specs.declared.inputs.InputNotes.{InputNotes}

abbrev Few : InputNotes → Type 0
Few notes = AreFew notes.places

stays_few : (doing : Doing) (old : Record) (bytes : List ℕ) (came : InputOutcome) (before after : InputNotes) → AreNoted doing old bytes came before after → Few before → Few after
stays_few doings.Capture old bytes (Captured fresh known skipped) before after (untraced, places, tells, is) few = subst Few (sym is) (tells.1.few few)
stays_few doings.Capture old bytes (Started r new messages ended) before after is few = subst Few (sym is) few
stays_few doings.Capture old bytes (Refused why) before after is few = subst Few (sym is) few
stays_few (doings.Start spelling) old bytes (Captured fresh known skipped) before after is few = subst Few (sym is) few
stays_few (doings.Start spelling) old bytes (Started r new messages ended) before after (item, reads, (n, counts, is)) few = subst Few (sym is) few
stays_few (doings.Start spelling) old bytes (Refused why) before after is few = subst Few (sym is) few

pub few_named : FewAreNamed
few_named = ((λ i j d below within. absurd (omega (arith, within)), omega arith), stays_few)
