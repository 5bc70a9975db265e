use Rattle.std.proofs.Common.{refl}
use Rattle.site_store.proofs.SiteSteps.{took_at}
use Rattle.site_store.proofs.sites.StoredSite.take.Goals as goal

pub returns-in-Connected : goal.returns-in-Connected
returns-in-Connected g c =
    let it = c.apply.ensures in
    (took_at c.args.self.now.link c.in-Connected.conn c.apply.new.conn c.args.input c.apply.result c.args.self.now.kept c.apply.new.self c.in-Connected.is it.steps it.calls it.disk it.cause it.clean, refl)
