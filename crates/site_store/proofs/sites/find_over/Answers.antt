use Rattle.std.proofs.Common.{Err, ap, arith, ◌∙◌}
use Rattle.sqlite.specs.Files.{file_state}
use Rattle.site_store.proofs.Caused.{failed_in}
use Rattle.site_store.proofs.Findings.{no_limit}
use Rattle.site_store.proofs.Found.{found_kept}
use Rattle.site_store.proofs.KeptSteps.{opened}
use Rattle.site_store.proofs.sites.find_over.Goals as goal

pub returns-in-Ok-clause-opened : goal.returns-in-Ok-clause-opened
returns-in-Ok-clause-opened g c =
    let kept = c.find-found.new.self in
    let it = c.in-Ok.ensures in
    (it.count, kept.standing.state, it.opened.1, opened kept it.opened.0, found_kept kept.standing.state c.args.conn c.find-found.new.conn c.requires.stores it.crash it.listed c.settled.ensures)

pub returns-in-Err-clause-unfound : goal.returns-in-Err-clause-unfound
returns-in-Err-clause-unfound g c clean is r may it =
    let some = c.find-found.ensures.finds clean (c.in-Err.is ∙ ap Err is) r may it in
    no_limit c.find-found.new.conn.step_limit (c.find-found.ensures.crash.limit ∙ c.requires.unlimited) some

pub returns-in-Err-clause-failed : goal.returns-in-Err-clause-failed
returns-in-Err-clause-failed g c is clean =
    let was_open = c.requires.is_open (omega (arith, c.find-found.ensures.crash.clean, clean)) in
    failed_in (file_state c.args.conn) (file_state c.find-found.new.conn) was_open (c.find-found.ensures.cause clean (c.in-Err.is ∙ ap Err is))
