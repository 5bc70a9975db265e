use Rattle.std.proofs.Common.{◌∙◌, sym}
use Rattle.site_store.proofs.Caused.{blamed_device}
use Rattle.site_store.proofs.Reopenings.{reopened_of, failed_over}
use Rattle.site_store.proofs.sites.StoredSite.open_again.Goals as goal

pub returns-in-Ok-clause-reopened : goal.returns-in-Ok-clause-reopened
returns-in-Ok-clause-reopened g c = reopened_of c.args.self.link c.in-Ok.conn c.find_over.result c.in-Ok.ensures.again c.find_over.ensures.read

pub returns-in-Ok-clause-failed : goal.returns-in-Ok-clause-failed
returns-in-Ok-clause-failed g c = failed_over c.args.self.link c.in-Ok.conn c.find_over.result c.in-Ok.ensures.again c.find_over.ensures.failed

pub returns-in-Err-clause-failed : goal.returns-in-Err-clause-failed
returns-in-Err-clause-failed g c is = c.in-Err.ensures.failed (blamed_device c.in-Err.error (sym c.hindered-fault.ensures.is ∙ is))
