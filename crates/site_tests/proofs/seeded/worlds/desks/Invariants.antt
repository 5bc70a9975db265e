use Rattle.std.proofs.Common.{◌≤◌, All, vec_len, vec_capacity}
use Rattle.site_threads.specs.Ends.{IsUnused}
use Rattle.site_tests.proofs.seeded.worlds.desks.Given as goal

abbrev pub invariant-loop-place : goal.invariant-loop-place
invariant-loop-place g l = record {
  unused : All IsUnused l.outs.items;
  desks : vec_len l.desks ≤ l.place;
  outs : vec_len l.outs ≤ l.place;
  room_desks : 16 ≤ vec_capacity l.desks;
  room_outs : 16 ≤ vec_capacity l.outs;
}
