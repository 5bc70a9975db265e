use Rattle.std.proofs.Common.{◌≡◌, ◌++◌, map}
use Rattle.std.specs.Vec.Iter.{into_iter_items}
use Rattle.folder_commands.specs.Batches.{Standing, Stands, Takes}
use Rattle.folder_commands.specs.Inputs.{input_of}
use Rattle.folder_commands.proofs.batches.take_each.Given as goal

-- the inputs so far were taken; a crash leaves what is shown
abbrev pub invariant-loop-input : goal.invariant-loop-input
invariant-loop-input g l =
    (l.fn.inputs.items ≡ l.yielded ++ into_iter_items l.input-iterator)
    × (g.K.SiteKeeper.stored l.initial.run.keeper → g.K.SiteKeeper.stored l.run.keeper)
    × ((start : Standing g.row.W.Denot) → Stands g.K.SiteKeeper.shown l.initial.run.sites l.initial.run l.initial.output start
    → (mid : Standing g.row.W.Denot) × Stands g.K.SiteKeeper.shown l.initial.run.sites l.run l.output mid
    × Takes (g.S.InputSink.takes l.fn.sink) l.initial.run.sites start (map input_of l.yielded) mid)
