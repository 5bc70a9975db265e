use Rattle.std.proofs.Common.{◌≡◌, [], ◌∷◌, ◌++◌, refl, sym, ap, ◌∙◌, append_assoc}
use Rattle.serde_json.proofs.Views.{Entry}
use Rattle.document_convert.proofs.Weighing.{beside_more, beside_none}
use Rattle.document_convert.proofs.weights.room_beside.Goals as goal

pub returns-in_err-left : goal.returns-in_err-left
returns-in_err-left c =
    let l = c.loop-name in
    let e : Entry = (c.in-Some.name.now, c.in-Some.member.now) in
    let is : c.args.members.now.entries ≡ l.invariant.0 ++ e ∷ c.next.new.self = l.invariant.1 ∙ ap (λ es. l.invariant.0 ++ es) c.in-Some.ensures.steps in
    let all = beside_none c.args.one.now c.args.other.now c.args.room l.left l.invariant.0 e l.invariant.2 c.args.members.now.entries c.next.new.self is (sym c.room_behind_other.ensures ∙ c.in_err-left.was) in
    rw (c.from_residual.ensures, all) refl

pub loop-name-preserved : goal.loop-name-preserved
loop-name-preserved c =
    let l = c.loop-name in
    let e : Entry = (c.in-Some.name.now, c.in-Some.member.now) in
    let is : c.args.members.now.entries ≡ l.invariant.0 ++ e ∷ c.next.new.self = l.invariant.1 ∙ ap (λ es. l.invariant.0 ++ es) c.in-Some.ensures.steps in (
      l.invariant.0 ++ e ∷ [],
      is ∙ sym (append_assoc l.invariant.0 (e ∷ []) c.next.new.self),
      beside_more c.args.one.now c.args.other.now c.args.room l.left l.invariant.0 e l.invariant.2 ∙ sym c.room_behind_other.ensures ∙ c.in_ok-left.was,
    )
