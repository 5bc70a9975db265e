use Rattle.std.proofs.Common.{◌≡◌, None, [], ◌∷◌, ◌++◌, length, refl, sym, ap, subst, ◌∙◌, append_assoc}
use Rattle.serde_json.specs.View.{items_view, view}
use Rattle.serde_json.proofs.Views.{Entry}
use Rattle.document_convert.specs.Weights.{items_weight, room_behind, weight}
use Rattle.document_convert.proofs.Weighing.{items_more, items_none, member_none, members_more, name_none}
use Rattle.document_convert.proofs.weights.+weigh.Goals as goal

pub room_behind_items-returns-in_err-left : goal.room_behind_items-returns-in_err-left
room_behind_items-returns-in_err-left t c =
    let l = c.loop-item in
    let none : room_behind l.left (weight (view c.item-item.result)) ≡ None = sym c.room_behind_value.ensures ∙ c.in_err-left.was in
    let all = items_none c.args.room l.left c.deref-item-items.result.now l.item-index c.item-item.result c.loop-item-test.true c.item-item.is l.invariant none in
    rw c.from_residual.ensures (subst (λ ys. None ≡ room_behind c.args.room (items_weight (items_view ys))) c.deref-item-items.ensures.value (sym all))

pub room_behind_items-loop-item-preserved : goal.room_behind_items-loop-item-preserved
room_behind_items-loop-item-preserved t c =
    let l = c.loop-item in
    items_more c.args.room l.left c.deref-item-items.result.now l.item-index c.item-item.result c.loop-item-test.true c.item-item.is l.invariant ∙ sym c.room_behind_value.ensures ∙ c.in_ok-left.was

pub room_behind_members-returns-in_err-left : goal.room_behind_members-returns-in_err-left
room_behind_members-returns-in_err-left t c =
    let l = c.loop-name in
    let e : Entry = (c.in-Some.name.now, c.in-Some.member.now) in
    let is : c.args.members.now.entries ≡ l.invariant.0 ++ e ∷ c.next.new.self = l.invariant.1 ∙ ap (λ es. l.invariant.0 ++ es) c.in-Some.ensures.steps in
    let all = name_none c.args.room l.left l.invariant.0 e l.invariant.2 c.args.members.now.entries c.next.new.self is (ap (room_behind l.left) (ap length (sym c.as_str.ensures.value)) ∙ sym c.room_behind.ensures ∙ c.in_err-left.was) in
    rw (c.from_residual.ensures, all) refl

pub room_behind_members-returns-in_err-left-2 : goal.room_behind_members-returns-in_err-left-2
room_behind_members-returns-in_err-left-2 t c =
    let l = c.loop-name in
    let e : Entry = (c.in-Some.name.now, c.in-Some.member.now) in
    let is : c.args.members.now.entries ≡ l.invariant.0 ++ e ∷ c.next.new.self = l.invariant.1 ∙ ap (λ es. l.invariant.0 ++ es) c.in-Some.ensures.steps in
    let all = member_none c.args.room l.left l.invariant.0 e l.invariant.2 c.args.members.now.entries c.next.new.self is c.in_ok-left.left (ap (room_behind l.left) (ap length (sym c.as_str.ensures.value)) ∙ sym c.room_behind.ensures ∙ c.in_ok-left.was) (sym c.room_behind_value.ensures ∙ c.in_err-left-2.was) in
    rw (c.from_residual-in_err-left-2.ensures, all) refl

pub room_behind_members-loop-name-preserved : goal.room_behind_members-loop-name-preserved
room_behind_members-loop-name-preserved t c =
    let l = c.loop-name in
    let e : Entry = (c.in-Some.name.now, c.in-Some.member.now) in
    let is : c.args.members.now.entries ≡ l.invariant.0 ++ e ∷ c.next.new.self = l.invariant.1 ∙ ap (λ es. l.invariant.0 ++ es) c.in-Some.ensures.steps in (
      l.invariant.0 ++ e ∷ [],
      is ∙ sym (append_assoc l.invariant.0 (e ∷ []) c.next.new.self),
      members_more c.args.room l.left l.invariant.0 e l.invariant.2 c.in_ok-left.left (ap (room_behind l.left) (ap length (sym c.as_str.ensures.value)) ∙ sym c.room_behind.ensures ∙ c.in_ok-left.was) ∙ sym c.room_behind_value.ensures ∙ c.in_ok-left-2.was,
    )
