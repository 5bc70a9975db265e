use Rattle.std.proofs.Common.{◌+◌, ℕ, List, [], Bor, drop, get_or, map, take, refl, subst, sym}
use Rattle.std.proofs.lemmas.List.{map_more, take_all}
use Rattle.site_folders.proofs.CallsInTurn.{handed_on, led_then}
use Rattle.command_line.specs.Converting.{Converts, Ways}
use Rattle.command_line.proofs.ConvertLemmas.{convert_broke, none_converted, one_converted, paths_parted}
use Rattle.command_line.proofs.convert_commands.convert_all.Goals as goal

pub loop-path-init : goal.loop-path-init
loop-path-init g c =
    let out = c.args.output.now in
    let ways : Ways = (c.args.asked.now.ways, c.args.sites.now) in
    record {
      calls = [];
      are = subst (λ refused. Converts g.W.Write.contents ways [] out out refused []) (sym c.new-total.ensures) (none_converted g.W.Write.contents ways out);
      led = refl;
    }

pub returns-in_err-total-clause-failed : goal.returns-in_err-total-clause-failed
returns-in_err-total-clause-failed g c =
    let none : Bor (List ℕ) = record { ref_ptr = (0, 0); now = [] } in
    let paths = c.args.paths.now in
    let n = c.loop-path.path-index in
    handed_on c.from_residual.result _ _ c.from_residual.ensures.1
    (convert_broke g.F.Files.does g.W.Write.contents (c.args.asked.now.ways, c.args.sites.now) _ _ _ _ _ _ _ (map (λ p. p.now) paths) (map (λ p. p.now) (take n paths)) (map (λ p. p.now) (drop (n + 1) paths))
    (get_or paths n none).now _ (paths_parted paths n none c.loop-path-test.true) c.loop-path.invariant c.in_err-total.ensures.failed)

pub loop-path-preserved : goal.loop-path-preserved
loop-path-preserved g c =
    let none : Bor (List ℕ) = record { ref_ptr = (0, 0); now = [] } in
    rw (map_more (λ p. p.now) c.args.paths.now c.loop-path.path-index none c.loop-path-test.true)
    (led_then g.F.Files.does _ _ _
    (λ xs ys done one. one_converted g.W.Write.contents (c.args.asked.now.ways, c.args.sites.now) (map (λ p. p.now) (take c.loop-path.path-index c.args.paths.now)) _ _ _ _ _ _ xs ys done one)
    c.loop-path.invariant c.in_ok-total.ensures.all)

pub returns-clause-all : goal.returns-clause-all
returns-clause-all g c = rw (take_all c.loop-path.path-index c.args.paths.now c.loop-path-test.false) at c.loop-path.invariant
