use Rattle.std.proofs.Common.{List, sym, subst}
use Rattle.wire_core.specs.Seats.{Line, SeatView, HoldsAll, AreAllLogs, Gathered}
use Rattle.wire_core.specs.declared.views.Log.{Log}
use Rattle.wire_core.proofs.Closing.{gathered_at}
use Rattle.wire_core.proofs.wires.Wire.close.Goals as goal

pub returns : goal.returns
returns c =
    let all = subst (λ (t : Line × SeatView). HoldsAll t.0.sites t.1.logs) (λ k. (sym c.self.view_is k, sym c.seat.view_is k)) c.requires.1 in
    let got = gathered_at _ _ _ _ _ _ c.close_with.ensures.values.2 all in
    subst (λ (t : Line × SeatView). (logs : List Log) × AreAllLogs t.0.sites t.1.logs logs × Gathered t.0.start logs) (λ k. (c.self.view_is k, c.seat.view_is k)) got
