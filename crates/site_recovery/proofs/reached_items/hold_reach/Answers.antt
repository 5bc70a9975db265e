use Rattle.std.proofs.Common.{◌≡◌, ap, sym, subst}
use Rattle.std.specs.List.{Contains}
use Rattle.std.proofs.lemmas.Result.{on_ok_weaker}
use Rattle.frame_core.specs.Numbers.{Recall}
use Rattle.trace_core.specs.Chains.{Related, sites_at}
use Rattle.trace_core.specs.Relations.{Reaches}
use Rattle.trace_core.specs.declared.pairs.Pair.{Pair}
use Rattle.site_recovery.proofs.ReachedItems.{adds_alike}
use Rattle.site_recovery.proofs.reached_items.hold_reach.Goals as goal

pub returns : goal.returns
returns c =
    let recall = c.args.recall in
    let events = sites_at c.args.captured.now in
    let root : Pair = record { site = c.recall.inside.site; item = c.in_ok-copy.field-0 } in
    let wanted : Pair = record { site = recall.site; item = c.args.root.now } in
    let at : root ≡ wanted = (λ i. record { site = (ap (λ (z : Recall). z.site) c.recall.view_is) i; item = c.in_ok-copy.ensures i }) in
    let pairs = c.in_ok-pairs.pairs.items in
    on_ok_weaker c.hold_pairs.result
    (adds_alike (λ r p. (r ≡ recall) × Contains pairs p) (λ r p. (r ≡ recall) × Reaches (Related events) wanted p) c.args.reached.now.items c.hold_pairs.new.reached.items
    (λ r p. (
      λ (of, h). (of, subst (λ z. Reaches (Related events) z p) at ((c.in_ok-pairs.ensures.reached p).0 h)),
      λ (of, h). (of, (c.in_ok-pairs.ensures.reached p).1 (subst (λ z. Reaches (Related events) z p) (sym at) h)),
    )))
    c.hold_pairs.ensures
