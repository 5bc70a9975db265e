use Rattle.std.proofs.Common.{◌≡◌, ◌-◌, length, Some, subst}
use Rattle.std.specs.List.{slice_get}
use Rattle.site_rows.proofs.HeldInTurn.{ends_with, last_of_all, none_kept, no_item_last, none_positive}
use Rattle.site_rows.proofs.reading_held.last_held.Goals as goal

pub returns-in-Some-last-clause-some : goal.returns-in-Some-last-clause-some
returns-in-Some-last-clause-some c =
    let entry = ends_with _ _ (subst (λ es. slice_get es (length es - 1) ≡ Some (c.in-Some.recall.now, c.in-Some.items.now)) c.by_recall.ensures.entries c.in-Some.ensures.last) in
    let item = ends_with _ _ (subst (λ ks. slice_get ks (length ks - 1) ≡ Some c.in-Some-last.item.now) c.items.ensures.items c.in-Some-last.ensures.last) in
    last_of_all c.args.quarantine.now c.in-Some.recall.now c.in-Some.items.now c.in-Some-last.item.now entry item

pub returns-in-None : goal.returns-in-None
returns-in-None c =
    let at = subst (λ es. slice_get es (length es - 1) ≡ Some (c.in-Some.recall.now, c.in-Some.items.now)) c.by_recall.ensures.entries c.in-Some.ensures.last in
    let none = subst (λ ks. length ks ≡ 0) c.items.ensures.items (none_positive _ c.in-None.ensures.variant.1) in
    record { some = tt; none = λ _. absurd (no_item_last c.args.quarantine.now _ c.in-Some.recall.now c.in-Some.items.now c.by_recall.ensures.no_empty at none) }

pub returns-in_default : goal.returns-in_default
returns-in_default c = record { some = tt; none = λ _. none_kept c.args.quarantine.now (subst (λ es. length es ≡ 0) c.by_recall.ensures.entries (none_positive _ c.in_default.ensures.variant.1)) }
