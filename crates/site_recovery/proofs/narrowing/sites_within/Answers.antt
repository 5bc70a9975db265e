use Rattle.std.proofs.Common.{◌↔◌, ◌+◌, ◌∙◌, Bor, false, true, List, drop, get_or, length, ap, sym, subst}
use Rattle.std.specs.FinMap.{entries}
use Rattle.std.specs.List.{Contains}
use Rattle.std.specs.Prelude.{IsTrue}
use Rattle.std.proofs.lemmas.List.{get_or-replicate}
use Rattle.trace_core.specs.Chains.{sites_at}
use Rattle.trace_core.specs.Sites.{SiteEvents}
use Rattle.site_core.specs.Records.{Record}
use Rattle.site_recovery.specs.Checking.{AreHeldWithin, IsWithinAt, Narrows, world_at}
use Rattle.site_recovery.proofs.ReachedItems.{none_from, sites_from}
use Rattle.site_recovery.proofs.SitesLeft.{all_done, one_further}
use Rattle.site_recovery.proofs.narrowing.sites_within.Goals as goal

pub loop-state-preserved : goal.loop-state-preserved
loop-state-preserved c =
    let refs = c.args.sites.now in
    let n = length refs in
    let W = world_at refs in
    let i = c.loop-state.state-index in
    let x = c.state-item.result in
    let mid = c.loop-state.within.items in
    let new = c.narrow_own.new.within.items in
    let captured = c.in_ok-captured.captured.items in
    let within = λ (y : Bor Record). AreHeldWithin W (sites_at captured) y.now.engagement.me (entries y.now.engagement.own) in
    let narrowed : Narrows n (within x) mid new =
    subst (λ es. Narrows n (AreHeldWithin W (sites_at captured) x.now.engagement.me es) mid new) c.own_recalls.ensures.entries
    (subst (λ me. Narrows n (AreHeldWithin W (sites_at captured) me c.own_recalls.result.now.entries) mid new) c.me.ensures.me
    (subst (λ z. Narrows n (AreHeldWithin W (sites_at z) c.me.result c.own_recalls.result.now.entries) mid new) c.as_slice.ensures.value c.in_ok-narrow_own.ensures)) in
    one_further n within refs c.in_ok-within.within.items (drop i refs) (drop (i + 1) refs) x mid new (sites_from refs i x c.loop-state-test.true c.state-item.is) narrowed c.loop-state.invariant

pub returns : goal.returns
returns c s below =
    let refs = c.args.sites.now in
    let n = length refs in
    let W = world_at refs in
    let i = c.loop-state.state-index in
    let events = sites_at c.in_ok-captured.captured.items in
    let within = λ (es : List SiteEvents) (y : Bor Record). AreHeldWithin W es y.now.engagement.me (entries y.now.engagement.own) in
    let start = c.in_ok-within.within.items in
    let all = all_done n (within events) refs start (drop i refs) c.loop-state.within.items (none_from refs i c.loop-state-test.false) c.loop-state.invariant s below in
    let first : IsTrue (get_or start s false) = ap (λ bs. get_or bs s false) c.in_ok-within.ensures ∙ get_or-replicate n s true false below in
    let listed : ((x : Bor Record) → Contains refs x → within events x s) ↔ IsWithinAt refs s =
    (subst (λ es. (x : Bor Record) → Contains refs x → within es x s) c.in_ok-captured.ensures, subst (λ es. (x : Bor Record) → Contains refs x → within es x s) (sym c.in_ok-captured.ensures)) in
    (λ h. listed.0 (all.0 h).1, λ h. all.1 (first, listed.1 h))
