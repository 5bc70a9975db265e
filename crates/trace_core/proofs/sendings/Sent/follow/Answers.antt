use Rattle.std.proofs.Common.{List, ℕ, get_or, ap, subst, ◌∙◌, arith}
use Rattle.trace_core.specs.declared.sendings.Sending.{Sending}
use Rattle.trace_core.specs.PutIn.{children_in}
use Rattle.trace_core.specs.Sendings.{NotesSendings, at_site}
use Rattle.trace_core.proofs.Following.{following_begins, following_goes_on, following_ends}
use Rattle.trace_core.proofs.sendings.Sent.follow.Goals as goal

pub loop-place-init : goal.loop-place-init
loop-place-init c = following_begins (children_in c.args.packed.now) c.args.from c.args.self.now

pub loop-place-preserved : goal.loop-place-preserved
loop-place-preserved c =
    let s : Sending = c.index-as_slice-place.result in
    following_goes_on (children_in c.args.packed.now) c.args.from c.args.self.now c.loop-place.self c.note_at.new.self c.loop-place.place s
    (omega (arith, c.len.ensures, c.loop-place-test.true))
    (c.index-as_slice-place.is ∙ ap (λ (ns : List Sending). get_or ns c.loop-place.place s) c.as_slice.ensures.members)
    c.loop-place.invariant (subst (λ (ns : List ℕ). NotesSendings c.loop-place.self c.note_at.new.self (at_site ns s.site)) c.children_of.ensures c.in_ok-note_at.ensures.ok)

pub returns-clause-ok : goal.returns-clause-ok
returns-clause-ok c = following_ends (children_in c.args.packed.now) c.args.from c.args.self.now c.loop-place.self c.loop-place.place (omega (arith, c.len.ensures, c.loop-place-test.false)) c.loop-place.invariant
