use Rattle.std.proofs.lemmas.Result.{on_ok_weaker}
use Rattle.site_core.proofs.SourcesFound.{joined_held}
use Rattle.site_core.proofs.sources.add_joined.Goals as goal

pub returns-in-Some : goal.returns-in-Some
returns-in-Some c =
    on_ok_weaker c.add_held_inputs.result
    (joined_held c.args.captured.now.events c.args.quarantine.now c.args.body.now c.args.found.now c.in-Some.id.now c.add_held_inputs.new.found c.in-Some.ensures)
    c.add_held_inputs.ensures
