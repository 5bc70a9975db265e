use Rattle.std.proofs.Common.{◌≡◌, ◌+◌, ◌-◌, ◌<◌, ◌≤◌, length, sym, ap, subst, ◌∙◌, arith}
use Rattle.std.specs.FinMap.{get}
use Rattle.site_rows.proofs.MessageRows.{row_found, no_row_missing, all_found}
use Rattle.site_rows.proofs.changed_rows.numbered_rows.Goals as goal
use Rattle.site_rows.proofs.changed_rows.numbered_rows.Goals.{in-Some+in_ok-message_row+in_ok-push, in_default}

pub loop-number-preserved : goal.loop-number-preserved
loop-number-preserved c =
    let from = c.args.from in
    let number = c.loop-number.number in
    let state = c.args.state.now.engagement in
    let low = c.loop-number.invariant.0 in
    let below : number < state.next_message = subst (λ n. number < n) c.next_message-number-end.ensures.next c.loop-number-test.true in
    let higher : from ≤ number + 1 = omega (arith, low) in
    elim c.match-get.branch [
      | in-Some+in_ok-message_row+in_ok-push w ↦ (
        higher,
        λ before r out k is next at.
            let j = number - from in
            let here : number ≡ from + j = omega (arith, low) in
            let there : k ≡ j + 1 = omega (arith, low, at) in
            let within : j < length out = omega (arith, low, below, next) in
            let found = sym (w.in-Some.ensures ∙ ap (λ m. get m number) (c.outbox.ensures.outbox ∙ is)) in
            let made = row_found before from r out j number w.in-Some.row.now c.loop-number.rows.items _ here within found (c.loop-number.invariant.1 before r out j is next here) in
            rw (w.rows-is, w.in_ok-push.ensures.items, w.in_ok-message_row.ensures.row, there) made,
      )
      | in_default w ↦ (
        higher,
        λ before r out k is next at.
            let j = number - from in
            let here : number ≡ from + j = omega (arith, low) in
            let within : j < length out = omega (arith, low, below, next) in
            absurd (no_row_missing before from r out j number here within (sym (w.in_default.ensures ∙ ap (λ m. get m number) (c.outbox.ensures.outbox ∙ is)))),
      )
    ]

pub returns : goal.returns
returns c = λ before r out is next.
    let from = c.args.from in
    let number = c.loop-number.number in
    let low = c.loop-number.invariant.0 in
    let j = number - from in
    let here : number ≡ from + j = omega (arith, low) in
    let past : length out ≤ j = omega (arith, low, next, c.next_message-number-end.ensures.next, c.loop-number-test.false) in
    c.from_vec.ensures ∙ all_found r out j number c.loop-number.rows.items _ past (c.loop-number.invariant.1 before r out j is next here)
