use Rattle.site_store.proofs.Crashes.{opens_after}
use Rattle.site_store.proofs.laws.a_crash_leaves_the_old_or_the_new.Goals as goal

pub returns : goal.returns
returns g c = opens_after c.args.lost.now c.args.conn c.args.name.now c.open_site.result c.show_records.ensures c.open_site.ensures.opened c.open_site.ensures.refused c.open_site.ensures.left
