use Rattle.std.proofs.Common.{◌≡◌, ◌≤◌, ◌++◌, All, flat_map, length, vec_capacity}
use Rattle.std.specs.List.{AllZip}
use Rattle.std.specs.Vec.Iter.{into_iter_items}
use Rattle.wire_core.specs.Seats.{IsSeatOf}
use Rattle.site_threads.specs.Parting.{HasKeeper, LeavesList, first_cause}
use Rattle.site_threads.specs.Sites.{IsSite, Running}
use Rattle.site_threads.proofs.gather.part.Given as goal

abbrev pub invariant-loop-run : goal.invariant-loop-run
invariant-loop-run g l = record {
  sites : All (IsSite g.K.SiteKeeper.shown g.K.SiteKeeper.may) l.yielded;
  seat : IsSeatOf l.wire l.seat;
  logs : l.seat.logs ≡ flat_map (λ (r : Running g.row.K.Denot g.row.G.Denot). r.seat.logs) l.yielded;
  left : l.fn.runs.items ≡ l.yielded ++ into_iter_items l.run-iterator;
  keepers : AllZip HasKeeper l.yielded l.keepers.items;
  lists : AllZip LeavesList l.yielded l.lists.items;
  cause : l.cause ≡ first_cause l.yielded;
  room_keepers : length l.fn.runs.items ≤ vec_capacity l.keepers;
  room_lists : length l.fn.runs.items ≤ vec_capacity l.lists;
}
