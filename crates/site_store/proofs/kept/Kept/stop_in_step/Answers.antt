use Rattle.std.proofs.Common.{◌≡◌, true, false, sym, subst, rules}
use Rattle.sqlite.specs.Held.{state}
use Rattle.site_store.specs.Faults.{lacks_memory}
use Rattle.site_store.specs.Kept.{LeavesAny, StopsInStep}
use Rattle.site_store.specs.Standing.{Standing, StandsIn}
use Rattle.site_store.proofs.KeptStops.{stopped_open, open_keeps, shut_keeps}
use Rattle.site_store.proofs.kept.Kept.stop_in_step.Goals as goal

pub returns-then-not-self-clause-disk : goal.returns-then-not-self-clause-disk
returns-then-not-self-clause-disk g c clean it =
    let mid = c.take-answer.new.self in
    let closed : c.take-answer.new.self.is_open ≡ false = search rules in
    shut_keeps c.args.self.now mid c.args.input c.take-answer.result (state g.S.Store c.take-answer.new.conn) c.requires.is_open c.take-answer.ensures.steps closed (c.take-answer.ensures.disk clean it)

pub returns-clause-stops : goal.returns-clause-stops
returns-clause-stops g c =
    let mid = c.take-answer.new.self in
    let opened : c.take-answer.new.self.is_open ≡ true = search rules in
    let has : lacks_memory c.take-answer.result ≡ false = search rules in
    subst (λ (standing : Standing). StopsInStep c.args.self.now c.args.input true (record mid { standing = standing; is_open = false })) (sym c.settle.ensures)
    (stopped_open c.args.self.now mid c.args.input c.take-answer.result c.take-answer.ensures.steps has opened)

pub returns-clause-disk : goal.returns-clause-disk
returns-clause-disk g c clean it =
    let mid = c.take-answer.new.self in
    let s = state g.S.Store c.take-answer.new.conn in
    let opened : c.take-answer.new.self.is_open ≡ true = search rules in
    subst (λ (standing : Standing). LeavesAny (StandsIn standing) s) (sym c.settle.ensures)
    (open_keeps c.args.self.now mid c.args.input c.take-answer.result s c.take-answer.ensures.steps opened (c.take-answer.ensures.disk clean it))
