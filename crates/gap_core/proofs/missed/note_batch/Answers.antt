use Rattle.std.proofs.Common.{◌↔◌, ℕ, List, rules, subst}
use Rattle.std.specs.List.{Contains}
use Rattle.std.proofs.lemmas.Result.{on_ok_weaker}
use Rattle.trace_core.specs.Chains.{sites_at}
use Rattle.gap_core.specs.GapItems.{IsSentBy}
use Rattle.gap_core.proofs.MissedSteps.{batch_missed}
use Rattle.gap_core.proofs.missed.note_batch.Goals as goal

pub returns : goal.returns
returns c =
    let sites = sites_at c.args.sites.now in
    on_ok_weaker c.note_all.result
    (batch_missed sites c.args.own.now c.args.known.now c.args.at c.args.places.now c.in_ok-told.told c.in_ok-sent.sent c.args.missed.now.items c.note_all.new.missed.items
    (λ i. subst (λ (xs : List ℕ). Contains c.in_ok-told.told i ↔ IsSentBy sites c.args.own.now c.args.at xs i) (search rules) (c.in_ok-told.ensures i))
    (λ i. subst (λ (xs : List ℕ). Contains c.in_ok-sent.sent i ↔ IsSentBy sites c.args.known.now c.args.at xs i) (search rules) (c.in_ok-sent.ensures i)))
    c.note_all.ensures
