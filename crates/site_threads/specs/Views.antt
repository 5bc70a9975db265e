-- How contracts see a running site.
use Rattle.std.specs.Prelude.{◌-◌, vec_len, vec_capacity}
use Rattle.site_threads.specs.Sites.{Running}
use Rattle.site_threads.specs.declared.sites.RunningSite.TheInside.{Inside}

abbrev pub running : {K G : Type 0} → Inside K G → Running K G
running s = record {
  wire = s.wire.now;
  seat = s.seat;
  me = s.me;
  keeper = s.keeper;
  stamp = s.stamp;
  entries = s.entries.items;
  room = vec_capacity s.entries - vec_len s.entries;
  start = s.start.value;
  first = s.first.value;
  owed = s.owed;
  rounds = s.rounds;
  gate = s.gate;
  turns = s.turns;
  out = s.out;
  pending = s.pending;
  fault = s.fault;
  ended = s.ended;
}
