use Rattle.std.proofs.Common.{◌≡◌, ◌≤◌, take}
use Rattle.site_threads.specs.Jobs.{stops_in}
use Rattle.site_threads.proofs.gathered.stops_among.Given as goal

-- the stops among the steps so far
abbrev pub invariant-loop-entry : goal.invariant-loop-entry
invariant-loop-entry l = record {
  counted : l.stops ≡ stops_in (take l.entry-index l.entries);
  few : l.stops ≤ l.entry-index;
}
