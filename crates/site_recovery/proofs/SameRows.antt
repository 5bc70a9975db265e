-- Whether a row goes to a site and is of a recall.
use Rattle.std.proofs.Common.{◌≡◌, ◌↔◌, ◌∙◌, ℕ, Bool, true, Option, Some, sym, ap, eqb, eqb-true}
use Rattle.std.specs.Prelude.{IsTrue}
use Rattle.frame_core.specs.Identifiers.{same_recall}
use Rattle.frame_core.specs.Numbers.{Recall}
use Rattle.frame_core.specs.declared.rows.Row.{Row}
use Rattle.frame_core.proofs.Sameness.{one_recall, equal_recalls}

pub row_decided : (found : Option Row) (v : Row) (site : ℕ) (r : Recall) (b : Bool) → Some v ≡ found → eqb v.dest site ≡ true → b ≡ same_recall v.recall r
    → IsTrue b ↔ ((x : Row) × (found ≡ Some x) × (x.dest ≡ site) × (x.recall ≡ r))
row_decided found v site r b is goes same = (
  λ h. (v, sym is, eqb-true v.dest site goes, one_recall v.recall r (sym same ∙ h)),
  λ (x, at, _, of).
      let one : Some v ≡ Some x = is ∙ at in
      let v_is : v ≡ x = cc in
      same ∙ equal_recalls v.recall r (ap (λ (z : Row). z.recall) v_is ∙ of),
)
