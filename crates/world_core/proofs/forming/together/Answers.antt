use Rattle.std.proofs.Common.{subst, sym}
use Rattle.world_core.specs.Faults.{IfClosed}
use Rattle.world_core.specs.Keepers.{IsFirstClosed}
use Rattle.world_core.proofs.forming.together.Goals as goal

pub returns-in-Err-Closed-clause-err : goal.returns-in-Err-Closed-clause-err
returns-in-Err-Closed-clause-err g c =
    let closed = IsFirstClosed g.K.SiteKeeper.shown c.args.keepers.now in
    subst closed (sym c.in-Err-Closed.place-is) (subst (λ f. IfClosed f closed) c.in-Err-Closed.field-0-is c.in-Err-Closed.ensures.closed)
