use Rattle.std.proofs.Common.{List, ℕ, Some, ◌↔◌, sym, ap, subst, ◌∙◌, inl, ⊎_elim, arith}
use Rattle.std.specs.Borrow.{Bor}
use Rattle.std.specs.List.{Contains}
use Rattle.std.proofs.lemmas.Result.{on_ok_weaker}
use Rattle.event_json.specs.Events.{Content}
use Rattle.trace_core.specs.Chains.{sites_at}
use Rattle.trace_core.specs.Found.{HasNumber, items_at}
use Rattle.trace_core.specs.Sites.{SiteEvents}
use Rattle.trace_core.proofs.FoundSteps.{batch_pairs, no_batch, either_then}
use Rattle.trace_core.proofs.Visiting.{site_stands, as_many_sites}
use Rattle.trace_core.proofs.batches.push_batch.Goals as goal

pub returns-then-sites-batch : goal.returns-then-sites-batch
returns-then-sites-batch c p =
    let past = as_many_sites c.args.sites.now c.args.batch.site c.if-sites-batch.true in
    (λ h. inl h, λ h. ⊎_elim (λ old. old) (λ given. absurd (no_batch (sites_at c.args.sites.now) c.args.batch c.args.numbers.now past p given)) h)

pub returns : goal.returns
returns c = on_ok_weaker c.push_pairs.result
    (λ are p. either_then (are p) (batch_pairs (sites_at c.args.sites.now) c.args.batch c.args.numbers.now c.index-sites-batch.result.now (items_at c.deref.result.now)
    (site_stands c.args.sites.now c.args.batch.site c.index-sites-batch.result (omega arith) ∙ ap (λ (r : Bor SiteEvents). Some r.now) (sym c.index-sites-batch.is))
    (subst (λ (es : List Content). (i : List ℕ) → Contains (items_at c.deref.result.now) i ↔ HasNumber es c.args.numbers.now i) c.book.ensures
    (subst (λ (refs : List (Bor (List ℕ))). (i : List ℕ) → Contains (items_at refs) i ↔ HasNumber c.book.result.now c.args.numbers.now i) (sym c.deref.ensures.value) c.in_ok-items.ensures)) p))
    c.push_pairs.ensures
