use Rattle.std.proofs.Common.{map, take}
use Rattle.site_folders.specs.FileCalls.{Led}
use Rattle.folder_commands.specs.Batches.{Standing, Stands, TakesThose}
use Rattle.folder_commands.specs.Words.{ReadsWords}
use Rattle.folder_commands.proofs.batches.take_all.Given as goal

-- the inputs of the words so far were read and taken; a crash leaves what is shown
abbrev pub invariant-loop-word : goal.invariant-loop-word
invariant-loop-word g l =
    (g.K.SiteKeeper.stored l.initial.run.keeper → g.K.SiteKeeper.stored l.run.keeper)
    × ((start : Standing g.row.W.Denot) → Stands g.K.SiteKeeper.shown l.initial.run.sites l.initial.run l.initial.output start
    → (mid : Standing g.row.W.Denot) × Stands g.K.SiteKeeper.shown l.initial.run.sites l.run l.output mid
    × Led g.F.Files.does l.initial.files l.files (TakesThose (g.S.InputSink.takes l.fn.sink) l.initial.run.sites (ReadsWords l.batch.kind (map (λ p. p.now) (take l.word-index l.word-items))) start mid))
