use Rattle.std.proofs.Common.{sym, subst}
use Rattle.sqlite.specs.Held.{state}
use Rattle.site_store.specs.Kept.{LeavesAny}
use Rattle.site_store.specs.Standing.{Standing, StandsIn}
use Rattle.site_store.proofs.KeptStops.{old_keeps}
use Rattle.site_store.proofs.kept.Kept.stop.Goals as goal

pub returns-in-Old-clause-disk : goal.returns-in-Old-clause-disk
returns-in-Old-clause-disk g c clean is it =
    let s = state g.S.Store c.args.conn.now in
    subst (λ (standing : Standing). LeavesAny (StandsIn standing) s) (sym c.settle.ensures) (old_keeps c.args.self.now s it)
