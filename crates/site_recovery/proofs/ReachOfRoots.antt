-- The pairs that a recall's root reaches.
use Rattle.std.proofs.Common.{◌≡◌, ◌↔◌, List, [], ◌∷◌, map, Bor, Some, refl, sym, ap, ◌∙◌, subst}
use Rattle.std.specs.List.{Contains}
use Rattle.frame_core.specs.Numbers.{Recall}
use Rattle.scholten_core.specs.declared.own_recalls.Own.{Own}
use Rattle.trace_core.specs.Chains.{Related}
use Rattle.trace_core.specs.Relations.{Reaches}
use Rattle.trace_core.specs.Sites.{SiteEvents}
use Rattle.trace_core.specs.declared.pairs.Pair.{Pair}
use Rattle.site_core.specs.Records.{Record}
use Rattle.site_recovery.specs.Checking.{records_at, IsReachedBy}
use Rattle.site_recovery.specs.Laws.{captured_of}
use Rattle.site_recovery.specs.Looks.{world_of, own}

pub captured_at_once : (refs : List (Bor Record)) → map (λ (s : Bor Record). s.now.captured) refs ≡ captured_of (records_at refs)
captured_at_once [] = refl
captured_at_once (x ∷ xs) = ap (λ cs. x.now.captured ∷ cs) (captured_at_once xs)

pub root_reaches : (records : List Record) (r : Recall) (o : Own) (root : Pair) (sites : List SiteEvents) (pairs : List Pair)
    → Some o ≡ own (world_of records) r.site r.number → root ≡ record { site = r.site; item = o.root } → sites ≡ captured_of records
    → ((p : Pair) → Contains pairs p ↔ Reaches (Related sites) root p) → (p : Pair) → Contains pairs p ↔ IsReachedBy records r p
root_reaches records r o root sites pairs begun at listed exact p =
    let reach : Contains pairs p ↔ Reaches (Related (captured_of records)) (record { site = r.site; item = o.root }) p =
    subst (λ z. Contains pairs p ↔ Reaches (Related (captured_of records)) z p) at (subst (λ z. Contains pairs p ↔ Reaches (Related z) root p) listed (exact p)) in (
      λ h. (o, sym begun, reach.0 h),
      λ (q, is, chain).
          let one : Some q ≡ Some o = sym is ∙ sym begun in
          let same : q ≡ o = cc in
          reach.1 (subst (λ (z : Own). Reaches (Related (captured_of records)) (record { site = r.site; item = z.root }) p) same chain),
    )
