-- Conditions of a declaration, read off its nodes.
use Rattle.std.proofs.Common.{◌≡◌, ◌≢◌, ◌↔◌, ℕ, ◌-◌, ◌≤◌, suc, List, [], ◌∷◌, length, Bool, true, false, ◌&&◌, IsTrue, slice_index_or, subst, sym, ap, ap₂, ◌∙◌, refl, arith}
use Rattle.sqlite.specs.Term.{Term, op2}
use Rattle.sqlite_value.specs.declared.value.Value.TheVariants.{Null}
use Rattle.sqlite_sql.specs.declared.ops.BinaryOp.{BinaryOp}
use Rattle.sqlite_schema.specs.declared.code.Op.{Op}
use Rattle.sqlite_schema.specs.declared.code.Op.TheVariants.{Literal, Binary}
use Rattle.sqlite_schema.specs.Code.{term_to, term_in, terms_in}

both_hold : (x y : Bool) → IsTrue (x && y) ↔ (IsTrue x × IsTrue y)
both_hold true y = (λ h. (refl, h), λ h. h.1)
both_hold false y = (λ h. absurd (let e : false ≡ true = h in cc), λ h. h.0)

sides_are : (op : BinaryOp) (a b l r : Term) → op2 op a b ≡ op2 op l r → (a ≡ l) × (b ≡ r)
sides_are op a b l r e = (cc, cc)

-- a node of two operands
pub pair_is : (op : BinaryOp) (ops : List Op) (depth at a b : ℕ) (l r : Term) (x y res : Bool) → slice_index_or ops at (Literal Null) ≡ Binary op a b → (IsTrue x ↔ (term_to ops depth a ≡ l)) → (IsTrue y ↔ (term_to ops depth b ≡ r)) → res ≡ (x && y)
    → IsTrue res ↔ (term_to ops (suc depth) at ≡ op2 op l r)
pair_is op ops depth at a b l r x y res found left right both =
    rw (both, found) (
      λ holds. let it = (both_hold x y).0 holds in ap₂ (op2 op) (left.0 it.0) (right.0 it.1),
      λ e. let it = sides_are op _ _ l r e in (both_hold x y).1 (left.1 it.0, right.1 it.1),
    )

-- a term that is read to two levels, or to three, is read whole where there are as many nodes
pub whole_two : (given nodes : List Op) (at : ℕ) (t : Term) (res : Bool) → given ≡ nodes → 2 ≤ length given → ((depth : ℕ) → (IsTrue res ↔ (term_to given (suc (suc depth)) at ≡ t))) → IsTrue res ↔ (term_in nodes at ≡ t)
whole_two given nodes at t res same many deep =
    let deepest : suc (suc (length given - 2)) ≡ length given = omega (arith, many) in
    subst (λ ns. IsTrue res ↔ (term_in ns at ≡ t)) same (subst (λ (n : ℕ). IsTrue res ↔ (term_to given n at ≡ t)) deepest (deep (length given - 2)))

pub whole_three : (given nodes : List Op) (at : ℕ) (t : Term) (res : Bool) → given ≡ nodes → 3 ≤ length given → ((depth : ℕ) → (IsTrue res ↔ (term_to given (suc (suc (suc depth))) at ≡ t))) → IsTrue res ↔ (term_in nodes at ≡ t)
whole_three given nodes at t res same many deep =
    let deepest : suc (suc (suc (length given - 3))) ≡ length given = omega (arith, many) in
    subst (λ ns. IsTrue res ↔ (term_in ns at ≡ t)) same (subst (λ (n : ℕ). IsTrue res ↔ (term_to given n at ≡ t)) deepest (deep (length given - 3)))

head_is : (s t : Term) → s ∷ [] ≡ t ∷ [] → s ≡ t
head_is s t e = cc

pub one_term : (nodes : List Op) (roots : List ℕ) (at : ℕ) (t : Term) (given : List Term) (res : Bool) → terms_in nodes roots ≡ given → roots ≡ at ∷ [] → (IsTrue res ↔ (term_in nodes at ≡ t)) → IsTrue res ↔ (given ≡ t ∷ [])
one_term nodes roots at t given res is one it =
    let shown : given ≡ term_in nodes at ∷ [] = sym is ∙ ap (terms_in nodes) one in
    (λ h. shown ∙ ap (λ x. x ∷ []) (it.0 h), λ e. it.1 (head_is (term_in nodes at) t (sym shown ∙ e)))

-- with none, or with several roots, there is not one term
pub no_term : (nodes : List Op) (roots : List ℕ) (t : Term) → ((root : ℕ) → roots ≢ root ∷ []) → terms_in nodes roots ≢ t ∷ []
no_term nodes [] t none e = let x : [] ≡ t ∷ [] = e in absurd cc
no_term nodes (root ∷ []) t none e = none root refl
no_term nodes (a ∷ b ∷ rest) t none e = let x : term_in nodes a ∷ term_in nodes b ∷ terms_in nodes rest ≡ t ∷ [] = e in absurd cc
