use Rattle.std.proofs.Common.{ℕ, List, [], Bor, map, take, refl, ap}
use Rattle.std.proofs.lemmas.List.{map_more, take_all}
use Rattle.site_folders.proofs.CallsInTurn.{handed_on, led_then}
use Rattle.folder_commands.specs.Lints.{looking}
use Rattle.folder_commands.proofs.LintLemmas.{each_asks, each_more, lint_behind}
use Rattle.folder_commands.proofs.lints.lint_files.Goals as goal

pub loop-path-init : goal.loop-path-init
loop-path-init g c = record { calls = []; are = (ap (looking c.args.output.now) c.new-totals.ensures, refl); led = refl }

pub returns-in_err-totals-clause-failed : goal.returns-in_err-totals-clause-failed
returns-in_err-totals-clause-failed g c =
    let takes = (g.S.LintSink.takes c.args.sink.now) in
    let sites = c.args.listing.now.sites.now in
    let here = c.args.listing.now.here in
    handed_on c.from_residual.result _ _ c.from_residual.ensures.1
    (lint_behind g.F.Files.does _ _ _ _ (λ calls each. each_asks takes sites here _ _ _ calls each) c.loop-path.invariant c.in_err-totals.ensures.failed)

pub loop-path-preserved : goal.loop-path-preserved
loop-path-preserved g c =
    let takes = (g.S.LintSink.takes c.args.sink.now) in
    let sites = c.args.listing.now.sites.now in
    let here = c.args.listing.now.here in
    let none : Bor (List ℕ) = record { ref_ptr = (0, 0); now = [] } in
    rw (map_more (λ p. p.now) c.args.paths.now c.loop-path.path-index none c.loop-path-test.true)
    (led_then g.F.Files.does _ _ _ (λ xs ys each one. each_more takes sites here (map (λ p. p.now) (take c.loop-path.path-index c.args.paths.now)) _ _ _ _ xs ys each one) c.loop-path.invariant c.in_ok-totals.ensures.all)

pub returns-clause-all : goal.returns-clause-all
returns-clause-all g c = rw (take_all c.loop-path.path-index c.args.paths.now c.loop-path-test.false) at c.loop-path.invariant
