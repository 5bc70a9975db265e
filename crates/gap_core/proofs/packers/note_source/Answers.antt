use Rattle.std.proofs.Common.{◌≡◌, arith}
use Rattle.std.proofs.lemmas.Result.{on_ok_weaker}
use Rattle.trace_core.specs.Chains.{sites_at}
use Rattle.gap_core.proofs.PackerSteps.{source_from}
use Rattle.gap_core.proofs.packers.note_source.Goals as goal

pub returns-then-source-at : goal.returns-then-source-at
returns-then-source-at c =
    let here : c.args.source.at ≡ c.args.at = omega (arith, c.if-source-at.true) in
    on_ok_weaker c.note_place.result (source_from c.args.packers.now c.note_place.new.packers (sites_at c.args.sites.now) c.args.at c.args.container.now c.args.source here) c.note_place.ensures
