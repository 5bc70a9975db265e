use Rattle.std.proofs.Common.{List, All, length, ap, sym, subst, arith}
use Rattle.std.proofs.lemmas.List.{length_push}
use Rattle.std.proofs.lemmas.List.Elements.{All-push}
use Rattle.site_threads.specs.declared.desks.DeskOut.{DeskOut}
use Rattle.site_threads.specs.Ends.{IsUnused}
use Rattle.site_tests.proofs.seeded.worlds.desks.Goals as goal

pub loop-place-preserved : goal.loop-place-preserved
loop-place-preserved g c =
    let i = c.loop-place.invariant in
    record {
      unused = subst (All IsUnused) (sym {A = List DeskOut} c.add-in-loop-place.ensures.items) (All-push IsUnused c.loop-place.outs.items c.in_ok-desk.out i.unused c.in_ok-desk.ensures);
      desks = omega (arith, i.desks, ap length c.add.ensures.items, length_push c.loop-place.desks.items c.in_ok-desk.desk, c.loop-place.desks.ok.0, c.add.new.items.ok.0);
      outs = omega (arith, i.outs, ap length c.add-in-loop-place.ensures.items, length_push c.loop-place.outs.items c.in_ok-desk.out, c.loop-place.outs.ok.0, c.add-in-loop-place.new.items.ok.0);
      room_desks = omega (arith, i.room_desks, c.add.ensures.room);
      room_outs = omega (arith, i.room_outs, c.add-in-loop-place.ensures.room);
    }
