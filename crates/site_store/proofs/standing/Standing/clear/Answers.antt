use Rattle.std.proofs.Common.{◌≡◌, None, Some, inl, refl, sym, ap, subst}
use Rattle.sqlite.specs.Held.{state}
use Rattle.site_core.specs.Records.{Record}
use Rattle.site_core.specs.Steps.{Does, CopiesRecord, changes}
use Rattle.site_store.specs.Standing.{Standing}
use Rattle.site_store.specs.StepWritten.{Keeps, KeepsWhereFailed, FailsToWrite, AreStatements}
use Rattle.site_store.proofs.Standings.{found_alone, found_pending, found_signalled, next_of, next_does, as_signal, does_change, done_as_foreseen, not_idle, written_steps, leaves_pending}
use Rattle.site_store.proofs.standing.Standing.clear.Goals as goal

pub invariant_of-self : goal.invariant_of-self
invariant_of-self g c =
    let s = c.self.inside.state in
    let input = c.args.input in
    let told = c.foresee-effects.result in
    let new = c.apply.new.self in
    let same : s ≡ c.args.self.now.state = ap (λ (x : Standing). x.state) c.self.view_is in
    let copies = subst (λ (x : Record). CopiesRecord x input) (sym same) c.requires.copies in
    let one = c.an_input_has_one_outcome.ensures in
    let does = done_as_foreseen s input c.args.message told c.requires.signal copies c.foresee-effects.ensures one.effects one.not_both new c.apply.result c.apply.ensures.done c.apply.ensures.refused c.apply.ensures.memory in
    found_alone new (found_signalled c.signals_keep_items.ensures s input c.args.message c.requires.signal (c.self.invariant s (inl refl)) new (told, does))

pub invariant_of-self-in-Err-Failed : goal.invariant_of-self-in-Err-Failed
invariant_of-self-in-Err-Failed g c =
    let s = c.self.inside.state in
    let found = c.self.invariant s (inl refl) in
    found_pending s c.args.input found (found_signalled c.signals_keep_items.ensures s c.args.input c.args.message c.requires.signal found)

pub returns-in-Ok-clause-steps : goal.returns-in-Ok-clause-steps
returns-in-Ok-clause-steps g c =
    let s = c.self.inside.state in
    let input = c.args.input in
    let told = c.foresee-effects.result in
    let new = c.apply.new.self in
    let same : s ≡ c.args.self.now.state = ap (λ (x : Standing). x.state) c.self.view_is in
    let copies = subst (λ (x : Record). CopiesRecord x input) (sym same) c.requires.copies in
    let finds = c.foresee-effects.ensures in
    let one = c.an_input_has_one_outcome.ensures in
    let does = done_as_foreseen s input c.args.message told c.requires.signal copies finds one.effects one.not_both new c.apply.result c.apply.ensures.done c.apply.ensures.refused c.apply.ensures.memory in
    let counted = c.in-Ok.ensures.counted s new told (c.signal_changes_of-changes.ensures c.requires.signal.0 new (as_signal s input c.args.message told c.requires.signal copies finds new does)) in
    let it = written_steps (record { state = s; pending = None }) (record { state = new; pending = None }) input told c.in-Ok.written c.saturating_add.result
    (does_change s input c.args.message told c.requires.signal copies finds) does counted c.saturating_add.ensures in
    subst (λ (x : Record). Does x input told new × AreStatements (changes told) x told new c.saturating_add.result) same it

pub returns-in-Ok-clause-disk : goal.returns-in-Ok-clause-disk
returns-in-Ok-clause-disk g c = λ clean it.
    let s = c.self.inside.state in
    let input = c.args.input in
    let told = c.foresee-effects.result in
    let new = c.apply.new.self in
    let same : s ≡ c.args.self.now.state = ap (λ (x : Standing). x.state) c.self.view_is in
    let copies = subst (λ (x : Record). CopiesRecord x input) (sym same) c.requires.copies in
    let finds = c.foresee-effects.ensures in
    let one = c.an_input_has_one_outcome.ensures in
    let does = done_as_foreseen s input c.args.message told c.requires.signal copies finds one.effects one.not_both new c.apply.result c.apply.ensures.done c.apply.ensures.refused c.apply.ensures.memory in
    c.in-Ok.ensures.done s new told (c.signal_changes_of-changes.ensures c.requires.signal.0 new (as_signal s input c.args.message told c.requires.signal copies finds new does)) clean
    (subst (λ (x : Record). Keeps x (state g.S.Store c.args.conn.now)) (sym same) it)

pub returns-in-Ok-clause-calls : goal.returns-in-Ok-clause-calls
returns-in-Ok-clause-calls g c = λ idle.
    let s = c.self.inside.state in
    let same : s ≡ c.args.self.now.state = ap (λ (x : Standing). x.state) c.self.view_is in
    let copies = subst (λ (x : Record). CopiesRecord x c.args.input) (sym same) c.requires.copies in
    absurd (not_idle (changes c.foresee-effects.result) (does_change s c.args.input c.args.message c.foresee-effects.result c.requires.signal copies c.foresee-effects.ensures) idle)

pub returns-in-Err-NoMemory-clause-disk : goal.returns-in-Err-NoMemory-clause-disk
returns-in-Err-NoMemory-clause-disk g c = λ clean it.
    let s = c.self.inside.state in
    let input = c.args.input in
    let told = c.foresee-effects.result in
    let same : s ≡ c.args.self.now.state = ap (λ (x : Standing). x.state) c.self.view_is in
    let copies = subst (λ (x : Record). CopiesRecord x input) (sym same) c.requires.copies in
    let finds = c.foresee-effects.ensures in
    let next = next_of s input c.args.message told c.requires.signal copies finds in
    let does = next_does s input c.args.message told c.requires.signal copies finds in
    let after = state g.S.Store c.write_found.new.conn in
    let are = c.signal_changes_of-changes.ensures c.requires.signal.0 next (as_signal s input c.args.message told c.requires.signal copies finds next does) in
    let held = subst (λ (x : Record). Keeps x (state g.S.Store c.args.conn.now)) (sym same) it in
    subst (λ (x : Record). Keeps x after) same (subst (KeepsWhereFailed s next after) c.in-Err-NoMemory.field-0-is (c.in-Err-NoMemory.ensures.failed s next told are clean held))

pub returns-in-Err-Failed-clause-steps : goal.returns-in-Err-Failed-clause-steps
returns-in-Err-Failed-clause-steps g c =
    let s = c.self.inside.state in
    let input = c.args.input in
    let told = c.foresee-effects.result in
    let same : s ≡ c.args.self.now.state = ap (λ (x : Standing). x.state) c.self.view_is in
    let copies = subst (λ (x : Record). CopiesRecord x input) (sym same) c.requires.copies in
    let next = next_of s input c.args.message told c.requires.signal copies c.foresee-effects.ensures in
    let does = next_does s input c.args.message told c.requires.signal copies c.foresee-effects.ensures in
    let as_pending : Record → Standing = λ x. record { state = x; pending = Some input } in
    ((next, (told, subst (λ (x : Record). Does x input told next) same does)), ap as_pending same)

pub returns-in-Err-Failed-clause-disk : goal.returns-in-Err-Failed-clause-disk
returns-in-Err-Failed-clause-disk g c = λ clean it.
    let s = c.self.inside.state in
    let input = c.args.input in
    let told = c.foresee-effects.result in
    let same : s ≡ c.args.self.now.state = ap (λ (x : Standing). x.state) c.self.view_is in
    let copies = subst (λ (x : Record). CopiesRecord x input) (sym same) c.requires.copies in
    let finds = c.foresee-effects.ensures in
    let next = next_of s input c.args.message told c.requires.signal copies finds in
    let does = next_does s input c.args.message told c.requires.signal copies finds in
    let after = state g.S.Store c.write_found.new.conn in
    let are = c.signal_changes_of-changes.ensures c.requires.signal.0 next (as_signal s input c.args.message told c.requires.signal copies finds next does) in
    let held = subst (λ (x : Record). Keeps x (state g.S.Store c.args.conn.now)) (sym same) it in
    let failed = subst (KeepsWhereFailed s next after) c.in-Err-Failed.field-0-is (c.in-Err-Failed.ensures.failed s next told are clean held) in
    leaves_pending (record { state = s; pending = None }) (record { state = s; pending = Some input }) input next after (told, does) refl failed

pub returns-in-Err-Failed-clause-cause : goal.returns-in-Err-Failed-clause-cause
returns-in-Err-Failed-clause-cause g c = λ clean it.
    let s = c.self.inside.state in
    let same : s ≡ c.args.self.now.state = ap (λ (x : Standing). x.state) c.self.view_is in
    let held = subst (λ (x : Record). Keeps x (state g.S.Store c.args.conn.now)) (sym same) it in
    rw c.in-Err-Failed.field-0-is (subst (FailsToWrite (state g.S.Store c.args.conn.now) (state g.S.Store c.write_found.new.conn)) c.in-Err-Failed.field-0-is (c.in-Err-Failed.ensures.cause s clean held))
