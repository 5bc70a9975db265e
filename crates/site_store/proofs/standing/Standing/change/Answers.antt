use Rattle.std.proofs.Common.{◌≡◌, ℕ, true, false, None, Some, Result, Err, inl, refl, sym, ap, subst, ◌∙◌, rules}
use Rattle.sqlite.specs.Held.{state}
use Rattle.site_core.specs.Records.{Record}
use Rattle.site_core.specs.Steps.{Does, changes}
use Rattle.site_store.specs.Findable.{MayBeFound}
use Rattle.site_store.specs.Standing.{Standing, AreFound}
use Rattle.site_store.specs.StepWritten.{Keeps, KeepsWhereFailed, FailsToWrite, AreStatements}
use Rattle.site_store.specs.declared.writing.Unwritten.{Unwritten}
use Rattle.site_store.specs.declared.writing.Unwritten.TheVariants.{Failed}
use Rattle.site_store.proofs.Standings.{found_alone, found_pending, found_after, found_made, written_is_not, failed_is_not, written_steps, leaves_pending}
use Rattle.site_store.proofs.standing.Standing.change.Goals as goal

pub invariant_of-self : goal.invariant_of-self
invariant_of-self g c = subst (λ (x : Record). AreFound (record { state = x; pending = c.self.inside.pending })) (sym c.in-Err.ensures.unchanged) c.self.invariant

pub take_back-requires-clause-done : goal.take_back-requires-clause-done
take_back-requires-clause-done g c = (c.self.inside.state, c.in-Ok.ensures.done, c.in-Ok.ensures.undo)

pub invariant_of-self-in-NoMemory-1 : goal.invariant_of-self-in-NoMemory-1
invariant_of-self-in-NoMemory-1 g c =
    let back = c.take_back.ensures c.self.inside.state c.in-Ok.ensures.done c.in-Ok.ensures.undo in
    subst (λ (x : Record). AreFound (record { state = x; pending = c.self.inside.pending })) (sym back) c.self.invariant

pub invariant_of-self-then-not-changes : goal.invariant_of-self-then-not-changes
invariant_of-self-then-not-changes g c =
    let s = c.self.inside.state in
    let idle : changes c.in-Ok.done.0 ≡ false = search rules in
    let same = (c.an_answer_tells_a_change.ensures.changes s c.apply_noted.new.self c.args.input c.in-Ok.done.0 c.in-Ok.ensures.done).0 idle in
    found_alone c.apply_noted.new.self (subst MayBeFound same (c.self.invariant s (inl refl)))

pub invariant_of-self-in-Ok-write_found : goal.invariant_of-self-in-Ok-write_found
invariant_of-self-in-Ok-write_found g c =
    let s = c.self.inside.state in
    let new = c.apply_noted.new.self in
    let found = c.self.invariant s (inl refl) in
    let items = c.changes_of-changes.ensures.items s c.in-Ok.ensures.done c.in-Ok.ensures.undo found.kept found.items in
    found_alone new (found_made c.changes_of-changes.result c.write_found.result new c.write_found.ensures.no_memory (written_is_not c.write_found.result c.in-Ok-write_found.written c.in-Ok-write_found.is) items)

pub invariant_of-self-in-Err-Failed : goal.invariant_of-self-in-Err-Failed
invariant_of-self-in-Err-Failed g c =
    let s = c.self.inside.state in
    let input = c.args.input in
    let new = c.apply_noted.new.self in
    let done = c.in-Ok.ensures.done in
    let found = c.self.invariant s (inl refl) in
    let is : c.write_found.result ≡ Err (Failed c.in-Err-Failed.error) = c.in-Err-Failed.is ∙ ap (λ (e : Unwritten). let r : Result ℕ Unwritten = Err e in r) c.in-Err-Failed.field-0-is in
    let items = c.changes_of-changes.ensures.items s done c.in-Ok.ensures.undo found.kept found.items in
    let made = found_made c.changes_of-changes.result c.write_found.result new c.write_found.ensures.no_memory (failed_is_not c.write_found.result c.in-Err-Failed.error is) items in
    let back = c.take_back-in-Err-Failed.ensures s done c.in-Ok.ensures.undo in
    subst (λ (x : Record). AreFound (record { state = x; pending = Some input })) (sym back)
    (found_pending s input found (found_after c.an_input_has_one_outcome.ensures.effects s new input c.in-Ok.done.0 done made))

pub take_back-requires-in-Err-Failed-clause-done :
    goal.take_back-requires-in-Err-Failed-clause-done
take_back-requires-in-Err-Failed-clause-done g c = (c.self.inside.state, c.in-Ok.ensures.done, c.in-Ok.ensures.undo)

pub returns-in-Ok-write_found-clause-steps : goal.returns-in-Ok-write_found-clause-steps
returns-in-Ok-write_found-clause-steps g c =
    let s = c.self.inside.state in
    let input = c.args.input in
    let told = c.in-Ok.done.0 in
    let new = c.apply_noted.new.self in
    let same : s ≡ c.args.self.now.state = ap (λ (x : Standing). x.state) c.self.view_is in
    let does = c.in-Ok.ensures.done in
    let changed : changes c.in-Ok.done.0 ≡ true = search rules in
    let counted = c.in-Ok-write_found.ensures.counted s new told (c.changes_of-changes.ensures.changes s does c.in-Ok.ensures.undo) in
    let it = written_steps (record { state = s; pending = None }) (record { state = new; pending = None }) input told c.in-Ok-write_found.written c.saturating_add.result changed does counted c.saturating_add.ensures in
    subst (λ (x : Record). Does x input told new × AreStatements (changes told) x told new c.saturating_add.result) same it

pub returns-in-Ok-write_found-clause-disk : goal.returns-in-Ok-write_found-clause-disk
returns-in-Ok-write_found-clause-disk g c = λ clean it.
    let s = c.self.inside.state in
    let same : s ≡ c.args.self.now.state = ap (λ (x : Standing). x.state) c.self.view_is in
    c.in-Ok-write_found.ensures.done s c.apply_noted.new.self c.in-Ok.done.0 (c.changes_of-changes.ensures.changes s c.in-Ok.ensures.done c.in-Ok.ensures.undo) clean
    (subst (λ (x : Record). Keeps x (state g.S.Store c.args.conn.now)) (sym same) it)

pub returns-in-Err-NoMemory-clause-disk : goal.returns-in-Err-NoMemory-clause-disk
returns-in-Err-NoMemory-clause-disk g c = λ clean it.
    let s = c.self.inside.state in
    let new = c.apply_noted.new.self in
    let same : s ≡ c.args.self.now.state = ap (λ (x : Standing). x.state) c.self.view_is in
    let after = state g.S.Store c.write_found.new.conn in
    let held = subst (λ (x : Record). Keeps x (state g.S.Store c.args.conn.now)) (sym same) it in
    let are = c.changes_of-changes.ensures.changes s c.in-Ok.ensures.done c.in-Ok.ensures.undo in
    let back = c.take_back.ensures s c.in-Ok.ensures.done c.in-Ok.ensures.undo in
    subst (λ (x : Record). Keeps x after) (sym back)
    (subst (KeepsWhereFailed s new after) c.in-Err-NoMemory.field-0-is (c.in-Err-NoMemory.ensures.failed s new c.in-Ok.done.0 are clean held))

pub returns-in-Err-Failed-clause-steps : goal.returns-in-Err-Failed-clause-steps
returns-in-Err-Failed-clause-steps g c =
    let s = c.self.inside.state in
    let input = c.args.input in
    let told = c.in-Ok.done.0 in
    let new = c.apply_noted.new.self in
    let same : s ≡ c.args.self.now.state = ap (λ (x : Standing). x.state) c.self.view_is in
    let does = c.in-Ok.ensures.done in
    let back = c.take_back-in-Err-Failed.ensures s does c.in-Ok.ensures.undo in
    let as_pending : Record → Standing = λ x. record { state = x; pending = Some input } in
    ((new, (told, subst (λ (x : Record). Does x input told new) same does)), ap as_pending (back ∙ same))

pub returns-in-Err-Failed-clause-disk : goal.returns-in-Err-Failed-clause-disk
returns-in-Err-Failed-clause-disk g c = λ clean it.
    let s = c.self.inside.state in
    let input = c.args.input in
    let told = c.in-Ok.done.0 in
    let new = c.apply_noted.new.self in
    let same : s ≡ c.args.self.now.state = ap (λ (x : Standing). x.state) c.self.view_is in
    let does = c.in-Ok.ensures.done in
    let back = c.take_back-in-Err-Failed.ensures s does c.in-Ok.ensures.undo in
    let after = state g.S.Store c.write_found.new.conn in
    let as_pending : Record → Standing = λ x. record { state = x; pending = Some input } in
    let held = subst (λ (x : Record). Keeps x (state g.S.Store c.args.conn.now)) (sym same) it in
    let are = c.changes_of-changes.ensures.changes s does c.in-Ok.ensures.undo in
    let failed = subst (KeepsWhereFailed s new after) c.in-Err-Failed.field-0-is (c.in-Err-Failed.ensures.failed s new told are clean held) in
    leaves_pending (record { state = s; pending = None }) (record { state = c.take_back-in-Err-Failed.new.self; pending = Some input }) input new after (told, does) (ap as_pending back) failed

pub returns-in-Err-Failed-clause-cause : goal.returns-in-Err-Failed-clause-cause
returns-in-Err-Failed-clause-cause g c = λ clean it.
    let s = c.self.inside.state in
    let same : s ≡ c.args.self.now.state = ap (λ (x : Standing). x.state) c.self.view_is in
    let held = subst (λ (x : Record). Keeps x (state g.S.Store c.args.conn.now)) (sym same) it in
    subst (FailsToWrite (state g.S.Store c.args.conn.now) (state g.S.Store c.write_found.new.conn)) c.in-Err-Failed.field-0-is (c.in-Err-Failed.ensures.cause s clean held)
