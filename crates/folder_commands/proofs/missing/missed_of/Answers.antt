use Rattle.std.proofs.Common.{List, ◌∙◌, subst}
use Rattle.std.proofs.lemmas.Result.{IfOk-weaker}
use Rattle.site_folders.specs.Missing.{AreMissedFrom}
use Rattle.site_recovery.specs.Checking.{records_at}
use Rattle.trace_core.specs.declared.pairs.Pair.{Pair}
use Rattle.folder_commands.specs.Missing.{AreMissed}
use Rattle.folder_commands.proofs.missing.missed_of.Goals as goal

pub returns : goal.returns
returns c =
    IfOk-weaker c.missed_from.result
    (λ missed. AreMissedFrom (records_at c.args.records.now) c.as_slice.result.now missed.items)
    (λ missed. AreMissed (records_at c.args.records.now) missed.items)
    (λ missed are. subst (λ (rs : List Pair). AreMissedFrom (records_at c.args.records.now) rs missed.items) (c.as_slice.ensures.value ∙ c.in_ok-roots.ensures) are)
    c.missed_from.ensures
