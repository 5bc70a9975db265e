use Rattle.std.proofs.Common.{refl}
use Rattle.std.specs.Prelude.{is_ok}
use Rattle.site_store.proofs.SiteSteps.{stopped_in}
use Rattle.site_store.proofs.sites.StoredSite.stop_in.Goals as goal

pub returns-in-Connected : goal.returns-in-Connected
returns-in-Connected g c =
    let it = c.stop.ensures in
    (stopped_in c.args.self.now.link c.in-Connected.conn c.stop.new.conn c.args.input c.args.keep (is_ok c.stop.result) c.args.self.now.kept c.stop.new.self c.in-Connected.is it.stops it.calls it.disk it.clean, refl)
