use Rattle.site_store.proofs.Crashes.{stands_may}
use Rattle.site_store.proofs.laws.records_of_sites_may_be_found.Goals as goal

pub returns : goal.returns
returns g c = λ r stands. c.show_records.ensures r (stands_may c.args.site.now.link c.args.site.now.kept r stands)
