use Rattle.std.proofs.Common.{refl, sym, ap, ◌∙◌}
use Rattle.std.specs.Prelude.{Some}
use Rattle.wire_core.specs.Seats.{SeatView}
use Rattle.site_threads.specs.Running.{inputs_in}
use Rattle.site_threads.specs.Stamps.{stamp}
use Rattle.site_threads.proofs.Beginning.{begins}
use Rattle.site_threads.proofs.Rounding.{fresh_rounds}
use Rattle.site_threads.proofs.sites.RunningSite.new.Goals as goal

pub invariant_of-result : goal.invariant_of-result
invariant_of-result g c =
    let s = c.requires.start in
    let first = c.of-start.ensures in
    let before = ap (λ (s : SeatView). inputs_in s.logs) c.of-first.ensures in
    record {
      seat = c.requires.seat;
      there = refl;
      runs = begins _ (g.K.SiteKeeper.may c.args.keeper) c.args.seat.logs c.args.me c.stamp_of-stamp.result (record { stood = c.of-start.result.value; marked = inputs_in c.of-first.result.value.logs }) s.0 s.1 s.2 (c.stamp_of-stamp.ensures ∙ ap stamp (sym first)) (ap (λ r. Some r) first ∙ c.in-Some.ensures) before c.new.result.items c.new.ensures.items;
      rounds = fresh_rounds _ c.new-2.result c.new-2.ensures;
      out = c.requires.desk;
    }
