use Rattle.std.proofs.Common.{map, take}
use Rattle.document_lint.specs.Lines.{none_yet}
use Rattle.site_folders.specs.FileCalls.{Led}
use Rattle.folder_commands.specs.Lints.{LintsEach, looking}
use Rattle.folder_commands.proofs.lints.lint_files.Given as goal

-- the documents so far were looked at
abbrev pub invariant-loop-path : goal.invariant-loop-path
invariant-loop-path g l =
    Led g.F.Files.does l.initial.files l.files
    (LintsEach (g.S.LintSink.takes l.fn.sink) l.listing.sites.now l.listing.here (map (λ p. p.now) (take l.path-index l.paths)) (looking l.initial.output none_yet) (looking l.output l.totals))
