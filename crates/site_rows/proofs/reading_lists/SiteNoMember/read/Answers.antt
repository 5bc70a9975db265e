use Rattle.site_rows.proofs.NamesOfSites.{name_found, none_named}
use Rattle.site_rows.proofs.reading_lists.SiteNoMember.read.Goals as goal

pub returns-in-Some : goal.returns-in-Some
returns-in-Some c = name_found c.args.sites.now c.args.text.now c.find.result (rw c.in-Some.ensures.0 at c.find.ensures)

pub returns-in-None : goal.returns-in-None
returns-in-None c = none_named c.args.sites.now c.args.text.now c.len-count.ensures.in_order c.in-None.ensures
