use Rattle.std.proofs.Common.{ℕ, List, All, OnOk, subst}
use Rattle.std.proofs.lemmas.Result.{on_ok_weaker}
use Rattle.site_rows.specs.Texts.{IsItemText, IsPlainText}
use Rattle.site_rows.proofs.event_rows.push_body.Goals as goal

pub returns-in-Note-clause-parts : goal.returns-in-Note-clause-parts
returns-in-Note-clause-parts c = rw c.in-Note.is (subst (λ (items : List (List ℕ)). OnOk c.push_items.result (All IsItemText items)) c.as_slice.ensures c.push_items.ensures.items)

pub returns-in_ok-push_sites-in-Ship-clause-parts :
    goal.returns-in_ok-push_sites-in-Ship-clause-parts
returns-in_ok-push_sites-in-Ship-clause-parts c =
    let items = subst (All IsItemText) c.as_slice-in-Ship.ensures c.in_ok-push_items-in-Ship.ensures.items in
    rw c.in-Ship.is (on_ok_weaker c.push_outside.result (λ plain. (items, subst (All IsPlainText) c.as_slice-in-Ship-3.ensures plain)) c.push_outside.ensures.plain)

pub returns-in_ok-push_items-in-Make-clause-parts :
    goal.returns-in_ok-push_items-in-Make-clause-parts
returns-in_ok-push_items-in-Make-clause-parts c =
    let ins = subst (All IsItemText) c.as_slice-in-Make.ensures c.in_ok-push_items-in-Make.ensures.items in
    rw c.in-Make.is (on_ok_weaker c.push_items-in-Make-2.result (λ outs. (ins, subst (All IsItemText) c.as_slice-in-Make-2.ensures outs)) c.push_items-in-Make-2.ensures.items)
