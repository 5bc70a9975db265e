use Rattle.std.proofs.Common.{◌↔◌, ◌<◌, ℕ, List, length, subst}
use Rattle.frame_core.specs.Numbers.{Recall}
use Rattle.scholten_core.specs.declared.own_recalls.Own.{Own}
use Rattle.trace_core.specs.Chains.{Related, sites_at}
use Rattle.trace_core.specs.Relations.{Reaches}
use Rattle.trace_core.specs.declared.pairs.Pair.{Pair}
use Rattle.site_core.specs.Quarantines.{Quarantine}
use Rattle.site_recovery.specs.Checking.{HeldIn, IsHeldWithin, Narrows, world_at}
use Rattle.site_recovery.specs.Looks.{Held}
use Rattle.site_recovery.proofs.SitesLeft.{all_done, narrows_alike, one_further}
use Rattle.site_recovery.proofs.narrowing.narrow_own.Goals as goal

pub loop-number-preserved : goal.loop-number-preserved
loop-number-preserved c =
    let n = length c.args.sites.now in
    let W = world_at c.args.sites.now in
    let events = sites_at c.args.captured.now in
    let within = λ (e : ℕ × Own). IsHeldWithin W events (record { site = c.args.site; number = e.0 }) e.1.root in
    let e : ℕ × Own = (c.in-Some.number.now, c.in-Some.own.now) in
    let r : Recall = record { site = c.args.site; number = e.0 } in
    let reached = c.in_ok-reached.reached.items in
    let mid = c.loop-number.within.items in
    let new = c.narrow.new.within.items in
    let found : (p : Pair) → p.site < n → HeldIn reached r p ↔ Reaches (Related events) (record { site = r.site; item = e.1.root }) p =
    λ p below. c.in_ok-reached.ensures p below in
    let narrowed : Narrows n (λ s. (i : List ℕ) → Held W s r i → HeldIn reached r (record { site = s; item = i })) mid new =
    subst (λ (qs : List Quarantine). Narrows n (λ s. (i : List ℕ) → Held W s r i → HeldIn qs r (record { site = s; item = i })) mid new) c.as_slice.ensures.value c.in_ok-narrow.ensures in
    one_further n within c.args.own.now.entries c.args.within.now.items c.loop-number.number-iterator c.next.new.self e mid new c.in-Some.ensures.steps
    (narrows_alike n (λ s. (i : List ℕ) → Held W s r i → HeldIn reached r (record { site = s; item = i })) (within e) mid new
    (λ s below. (
      λ all i is. (found (record { site = s; item = i }) below).0 (all i is),
      λ all i is. (found (record { site = s; item = i }) below).1 (all i is),
    )) narrowed)
    c.loop-number.invariant

pub returns : goal.returns
returns c =
    let n = length c.args.sites.now in
    let within = λ (e : ℕ × Own). IsHeldWithin (world_at c.args.sites.now) (sites_at c.args.captured.now) (record { site = c.args.site; number = e.0 }) e.1.root in
    all_done n within c.args.own.now.entries c.args.within.now.items c.loop-number.number-iterator c.loop-number.within.items c.in-None.ensures.steps.0 c.loop-number.invariant
