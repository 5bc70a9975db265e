-- The tests of rows by their keys tell the keys of a map apart.
use Rattle.std.proofs.Common.{◌≡◌, ℕ, pos, Bool, true, false, not, refl, sym, ap, subst, ◌∙◌}
use Rattle.std.specs.Prelude.{◌&&◌}
use Rattle.std.specs.Bool.{Decides}
use Rattle.std.specs.Cmp.{IsTotalOrder}
use Rattle.std.specs.Ordering.{int_eq, is_eq, eq_by_cmp, nat_cmp}
use Rattle.std.specs.declared.cmp.Ordering.{Ordering}
use Rattle.std.specs.declared.cmp.Ordering.TheVariants.{Less, Equal, Greater}
use Rattle.std.specs.FinMap.{IsAntisymmetric, nat_cmp-IsAntisymmetric}
use Rattle.std.specs.Cmp.{nat_cmp_total}
use Rattle.std.proofs.lemmas.Bool.Decides.{Decides-and, Decides-int_eq}
use Rattle.std.proofs.lemmas.Cmp.{tied_itself}
use Rattle.frame_core.specs.Identifiers.{recall_cmp}
use Rattle.frame_core.specs.Numbers.{Recall}
use Rattle.frame_core.specs.Orders.{recall_total, recall_exact}
use Rattle.site_rows.proofs.SameRecalls.{same_number, same_recall_of}

fails : (b : Bool) {P : Type 0} → (b ≡ true → P) → (P → ⊥) → b ≡ false
fails true tells none = absurd (none (tells refl))
fails false tells none = refl

-- a test that decides whether two keys are one is that of the order
key_test : {K : Type 0} {R : K → K → Ordering} → IsTotalOrder R → IsAntisymmetric R → (k q : K) (b : Bool) → Decides b (q ≡ k) → b ≡ eq_by_cmp R k q
key_test {R = R} o exact k q b decides =
    let tied : q ≡ k → R k q ≡ Equal = λ same. subst (λ z. R k z ≡ Equal) (sym same) (tied_itself o k) in
    elim (R k q) as (λ r. R k q ≡ r → b ≡ is_eq r) [
      | Less ↦ λ e. fails b decides.0 (λ same. let tie = tied same in let both : Less ≡ Equal = sym e ∙ tie in absurd cc)
      | Equal ↦ λ e. decides.1 (sym (exact k q e))
      | Greater ↦ λ e. fails b decides.0 (λ same. let tie = tied same in let both : Greater ≡ Equal = sym e ∙ tie in absurd cc)
    ] refl

pub number_test : (k q : ℕ) → not (int_eq (pos q) (pos k)) ≡ not (eq_by_cmp nat_cmp k q)
number_test k q =
    let decides = Decides-int_eq (pos q) (pos k) in
    ap not (key_test nat_cmp_total nat_cmp-IsAntisymmetric k q (int_eq (pos q) (pos k)) (λ h. same_number q k (decides.0 h), λ same. decides.1 (ap pos same)))

pub recall_test : (k q : Recall) → not (int_eq (pos q.site) (pos k.site) && int_eq (pos q.number) (pos k.number)) ≡ not (eq_by_cmp recall_cmp k q)
recall_test k q =
    let test = int_eq (pos q.site) (pos k.site) && int_eq (pos q.number) (pos k.number) in
    let decides = Decides-and _ _ (Decides-int_eq (pos q.site) (pos k.site)) (Decides-int_eq (pos q.number) (pos k.number)) in
    ap not (key_test recall_total recall_exact k q test (
      λ h. same_recall_of q k (decides.0 h).0 (decides.0 h).1,
      λ same. decides.1 (ap (λ (r : Recall). pos r.site) same, ap (λ (r : Recall). pos r.number) same),
    ))
