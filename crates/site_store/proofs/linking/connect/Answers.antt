use Rattle.site_store.proofs.Reopenings.{made_again, left_again, failed_again}
use Rattle.site_store.proofs.linking.connect.Goals as goal

pub returns-clause-again : goal.returns-clause-again
returns-clause-again g c = made_again c.args.link c.files_behind-files.result c.open_files_again.result c.files_behind-files.ensures c.open_files_again.ensures.made

pub returns-clause-left : goal.returns-clause-left
returns-clause-left g c = left_again c.args.link c.files_behind-files.result c.open_files_again.result c.files_behind-files.ensures c.open_files_again.ensures.left

pub returns-clause-failed : goal.returns-clause-failed
returns-clause-failed g c = failed_again c.args.link c.files_behind-files.result c.open_files_again.result c.files_behind-files.ensures c.open_files_again.ensures.failed
