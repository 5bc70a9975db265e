use Rattle.std.proofs.Common.{◌≡◌, ◌+◌, ◌≤◌, ◌++◌, List, Some, All, map, length, vec_capacity}
use Rattle.std.specs.List.{range_with_len, AllZip}
use Rattle.std.specs.Vec.Iter.{into_iter_items}
use Rattle.site_core.specs.Records.{Record}
use Rattle.wire_core.specs.Rule.{logs_from}
use Rattle.wire_core.specs.Seats.{IsSeatOf}
use Rattle.site_threads.specs.declared.desks.DeskOut.{DeskOut}
use Rattle.site_threads.specs.Sites.{Running}
use Rattle.site_threads.specs.Beginning.{BeganIn, TookEnd}
use Rattle.site_threads.specs.Runs.{IsReady}
use Rattle.site_threads.proofs.Starting.{NumberedFrom}
use Rattle.site_threads.proofs.starts.begin_all.Given as goal

-- the sites so far have their runs, and the seat holds the others
abbrev pub invariant-loop-keeper : goal.invariant-loop-keeper
invariant-loop-keeper g l = record {
  seat : IsSeatOf l.wire l.rest;
  left : l.fn.keepers.items ≡ l.yielded ++ into_iter_items l.keeper-iterator;
  ends : (taken : List DeskOut) × (l.fn.desks.items ≡ taken ++ into_iter_items l.ends) × AllZip TookEnd taken l.runs.items;
  many : length (into_iter_items l.ends) ≡ length (into_iter_items l.keeper-iterator);
  few : length l.runs.items + length (into_iter_items l.keeper-iterator) ≤ 16;
  gates : length (into_iter_items l.asked) ≡ length (into_iter_items l.keeper-iterator);
  sites : (rs : List Record) × (l.rest.logs ≡ logs_from (length l.runs.items) rs) × AllZip (λ k r. g.K.SiteKeeper.shown k ≡ Some r) (into_iter_items l.keeper-iterator) rs × NumberedFrom (length l.runs.items) rs;
  ready : All IsReady l.runs.items;
  wires : All (λ (r : Running g.row.K.Denot g.row.G.Denot). r.wire ≡ l.wire) l.runs.items;
  order : map (λ (r : Running g.row.K.Denot g.row.G.Denot). r.me) l.runs.items ≡ range_with_len 0 (length l.runs.items);
  start : AllZip (BeganIn g.K.SiteKeeper.shown) l.yielded l.runs.items;
  room : length l.fn.keepers.items ≤ vec_capacity l.runs;
}
