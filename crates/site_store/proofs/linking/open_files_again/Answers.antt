use Rattle.std.proofs.Common.{◌∙◌, inr}
use Rattle.sqlite.specs.Files.{file_state}
use Rattle.site_store.proofs.InOrder.{stored_as_read}
use Rattle.site_store.proofs.linking.open_files_again.Goals as goal

pub returns-in-Ok-clause-stores : goal.returns-in-Ok-clause-stores
returns-in-Ok-clause-stores g c clean v has rows listed =
    let it = c.in-Ok.ensures in
    let opened = it.opened clean in
    stored_as_read v _ (file_state c.in-Ok.conn) opened.0 opened.1 (it.found clean).reads c.settled.ensures has rows listed

pub returns-in-Ok-clause-made : goal.returns-in-Ok-clause-made
returns-in-Ok-clause-made g c clean =
    let it = c.in-Ok.ensures in
    let found = it.found clean in
    (found.honest, λ db holds left may. c.settled.ensures left (it.opened clean).0.is_open may ∙ found.holds db holds)

pub returns-in-Err-clause-left : goal.returns-in-Err-clause-left
returns-in-Err-clause-left g c = inr (c.in-Err.left, c.into_files.ensures, c.in-Err.ensures.unharmed)

pub returns-in-Ok-clause-is_open : goal.returns-in-Ok-clause-is_open
returns-in-Ok-clause-is_open g c clean = (c.in-Ok.ensures.opened clean).0.is_open

pub returns-in-Err-clause-failed : goal.returns-in-Err-clause-failed
returns-in-Err-clause-failed g c is = inr (c.in-Err.left, c.in-Err.error, c.into_files.ensures, is, c.in-Err.ensures.cause)
