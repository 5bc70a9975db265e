use Rattle.std.proofs.Common.{◌≡◌, ◌++◌, ◌∷◌, [], sym, ◌∙◌, ap, append_assoc}
use Rattle.std.specs.Option.{option_map}
use Rattle.std.proofs.lemmas.List.{append-nil}
use Rattle.site_recovery.proofs.Holding.{pairs_at, held_none, held_some}
use Rattle.site_recovery.proofs.recalls.add_held.Goals as goal

pub returns-in_default : goal.returns-in_default
returns-in_default c =
    let none = sym (ap (option_map (λ items. items.now)) c.in_default.is) ∙ c.under.ensures in
    sym (ap (λ xs. c.args.pairs.now.items ++ xs) (held_none c.args.recall c.args.state.now c.quarantine.result.now c.quarantine.ensures none) ∙ append-nil c.args.pairs.now.items)

pub loop-item-init : goal.loop-item-init
loop-item-init c =
    let some = sym (ap (option_map (λ items. items.now)) c.in-Some.is) ∙ c.under.ensures in
    let are = c.into_iter-item-iterator.ensures.into_iter_gives.0 ∙ c.items-item-items.ensures.items in
    let held = held_some c.args.recall c.args.state.now c.quarantine.result.now c.in-Some.items.now _ c.quarantine.ensures some are in
    ap (λ xs. c.args.pairs.now.items ++ xs) (ap (λ site. pairs_at site c.into_iter-item-iterator.result) c.me-site.ensures.me ∙ held)

pub loop-item-preserved : goal.loop-item-preserved
loop-item-preserved c =
    let before = c.loop-item.pairs.items in
    let site = c.me-site.result in
    let added : c.push.new.self.items ≡ before ++ record { site = site; item = c.in_ok-copy.field-0 } ∷ [] = c.in_ok-push.ensures.items in
    ap (λ xs. xs ++ pairs_at site c.next.new.self) added
    ∙ append_assoc before (record { site = site; item = c.in_ok-copy.field-0 } ∷ []) (pairs_at site c.next.new.self)
    ∙ ap (λ i. before ++ pairs_at site (i ∷ c.next.new.self)) c.in_ok-copy.ensures
    ∙ ap (λ rest. before ++ pairs_at site rest) (sym c.in-Some-item.ensures.steps)
    ∙ c.loop-item.invariant

pub returns : goal.returns
returns c = sym (append-nil c.loop-item.pairs.items) ∙ ap (λ rest. c.loop-item.pairs.items ++ pairs_at c.me-site.result rest) (sym c.in-None.ensures.steps.0) ∙ c.loop-item.invariant
