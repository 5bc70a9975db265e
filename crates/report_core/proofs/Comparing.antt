-- What is held and what is reached, as two ascending lists that part somewhere or nowhere.
use Rattle.std.proofs.Common.{◌≡◌, ◌↔◌, Bool, true, false, List, Some, None, sym, subst, Contains}
use Rattle.std.specs.declared.cmp.Ordering.TheVariants.{Less}
use Rattle.frame_core.specs.Numbers.{Recall}
use Rattle.trace_core.specs.Pairs.{pair_cmp, IsStrictlyAscending}
use Rattle.trace_core.specs.declared.pairs.Pair.{Pair}
use Rattle.site_core.specs.Records.{Record}
use Rattle.site_recovery.specs.Checking.{IsReachedBy}
use Rattle.report_core.specs.Differences.{difference}
use Rattle.report_core.specs.Verdicts.{IsHeld, DiffersAt}
use Rattle.report_core.proofs.Parting.{IsAlone, PartAt, they_part}

module _ (records : List Record) (recall : Recall) (held reached : List Pair) (up : IsStrictlyAscending held) (up' : IsStrictlyAscending reached)
    (are_held : (p : Pair) → Contains held p ↔ IsHeld records recall p) (are_reached : (p : Pair) → Contains reached p ↔ IsReachedBy records recall p) where
  alike : (p : Pair) → (Contains held p ↔ Contains reached p) → IsHeld records recall p ↔ IsReachedBy records recall p
  alike p same = (λ has. (are_reached p).0 (same.0 ((are_held p).1 has)), λ reach. (are_held p).0 (same.1 ((are_reached p).1 reach)))

  differs : (p : Pair) (missing : Bool) → IsAlone held reached p missing → DiffersAt records recall p missing
  differs p true (has, lacks) = ((are_reached p).0 has, λ is. lacks ((are_held p).1 is))
  differs p false (has, lacks) = ((are_held p).0 has, λ is. lacks ((are_reached p).1 is))

  pub parted_verdict : (p : Pair) (missing : Bool) → Some (p, missing) ≡ difference held reached → DiffersAt records recall p missing × ((q : Pair) → pair_cmp q p ≡ Less → IsHeld records recall q ↔ IsReachedBy records recall q)
  parted_verdict p missing is =
      let part : PartAt held reached (Some (p, missing)) = subst (PartAt held reached) (sym is) (they_part held reached up up') in
      (differs p missing part.0, λ q below. alike q (part.1 q below))

  pub equal_verdict : None ≡ difference held reached → (p : Pair) → IsHeld records recall p ↔ IsReachedBy records recall p
  equal_verdict is p =
      let part : PartAt held reached None = subst (PartAt held reached) (sym is) (they_part held reached up up') in
      alike p (λ at. subst (λ l. Contains l p) part at, λ at. subst (λ l. Contains l p) (sym part) at)
