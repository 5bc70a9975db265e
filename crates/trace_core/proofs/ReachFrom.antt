-- What is reached from several pairs.
use Rattle.std.proofs.Common.{◌≡◌, ◌<◌, ◌+◌, ℕ, List, [], ◌∷◌, ◌++◌, take, length, get_or, ◌↔◌, refl, sym, ap, ◌∙◌, subst, inl, inr, ⊎_elim}
use mathlib.Core.Logic.{◌⊎◌}
use Rattle.std.specs.List.{Contains}
use Rattle.std.proofs.lemmas.List.{take_more}
use Rattle.trace_core.specs.declared.nodes.Node.{Node}
use Rattle.trace_core.specs.declared.pairs.Pair.{Pair}
use Rattle.trace_core.specs.Chains.{Related}
use Rattle.trace_core.specs.Nodes.{Stands, StandsForOne, Had, ReachedFromNodes}
use Rattle.trace_core.specs.Relations.{ReachedFrom, Reaches}
use Rattle.trace_core.specs.Sites.{SiteEvents}
use Rattle.trace_core.proofs.ChainLaws.{reaches_itself, reaches_step, reached_holds}
use Rattle.trace_core.proofs.FoundSteps.{copy_pushed}
use Rattle.trace_core.proofs.Members.{contains_cases, contains_here, contains_none}
use Rattle.trace_core.proofs.ReachSteps.{one_stands, root_node}
use Rattle.trace_core.proofs.SetMembers.{contains_more}

-- a copy of one more of a list is added to another
pub one_pushed : {X : Type 0} (first found found' xs : List X) (k : ℕ) (x copy : X) → k < length xs → x ≡ get_or xs k x → copy ≡ x → found' ≡ found ++ copy ∷ []
    → ((y : X) → Contains found y ↔ (Contains first y ⊎ Contains (take k xs) y)) → (y : X) → Contains found' y ↔ (Contains first y ⊎ Contains (take (k + 1) xs) y)
one_pushed {X} first found found' xs k x copy within at same pushed so_far y =
    subst (λ (zs : List X). Contains found' y ↔ (Contains first y ⊎ Contains zs y)) (sym (take_more xs k x within ∙ ap (λ (z : X). take k xs ++ z ∷ []) (sym at ∙ sym same)))
    (copy_pushed first found found' (take k xs) copy pushed so_far y)

-- from one pair
pub from_one : {X : Type 0} (R : X → X → Type 0) (root : X) (roots : List X) → roots ≡ root ∷ [] → (x : X) → {P : Type 0} → P ↔ ReachedFrom R roots x → P ↔ Reaches R root x
from_one R root roots one x (to, from) = (
  λ p. let (y, there, reaches) = to p in subst (λ z. Reaches R z x) (sym (only root y (subst (λ ys. Contains ys y) one there))) reaches,
  λ reaches. from (root, subst (λ ys. Contains ys root) (sym one) (contains_here root []), reaches),
)
  where
    only : {X : Type 0} (y z : X) → Contains (y ∷ []) z → y ≡ z
    only y z h = ⊎_elim (λ e. e) (λ none. absurd (contains_none z none)) (contains_cases y z [] h)

module _ (sites : List SiteEvents) where
  -- no node stands for one of no pairs
  pub no_starts : (nodes : List Node) → nodes ≡ [] → (n : Node) → Contains nodes n ↔ StandsForOne sites [] n
  no_starts nodes none n = (λ h. absurd (contains_none n (subst (λ ns. Contains ns n) none h)), λ (p, there, stands). absurd (contains_none p there))

  -- the nodes of one more of the pairs
  pub starts_more : (pairs : List Pair) (k : ℕ) (p : Pair) (old mine new : List Node) → k < length pairs → p ≡ get_or pairs k p → ((n : Node) → Contains old n ↔ StandsForOne sites (take k pairs) n)
      → ((n : Node) → Contains mine n ↔ Stands sites n p) → ((n : Node) → Contains new n ↔ (Contains old n ⊎ Contains mine n)) → (n : Node) → Contains new n ↔ StandsForOne sites (take (k + 1) pairs) n
  starts_more pairs k p old mine new within at so_far own both n =
      let more = contains_more pairs k p within at in (
        λ h. ⊎_elim
            (λ before. let (q, there, stands) = (so_far n).0 before in (q, (more q).1 (inl there), stands))
            (λ its. (p, (more p).1 (inr refl), (own n).0 its))
            ((both n).0 h),
        λ (q, there, stands). (both n).1 (⊎_elim
            (λ before. inl ((so_far n).1 (q, before, stands)))
            (λ same. inr ((own n).1 (subst (Stands sites n) (sym same) stands)))
            ((more q).0 there)),
      )

  -- the pairs that the found nodes stand for, and the roots, are what is reached from these
  module _ (roots : List Pair) (starts nodes : List Node) (pairs : List Pair) (are : (n : Node) → Contains starts n ↔ StandsForOne sites roots n)
      (reached : (q : Pair) → Had (Stands sites) nodes q ↔ ReachedFromNodes (Stands sites) (Related sites) starts q)
      (pairs_are : (p : Pair) → Contains pairs p ↔ (Had (Stands sites) nodes p ⊎ Contains roots p)) where
    abbrev IsReached : Pair → Type 0
    IsReached p = Had (Stands sites) nodes p ⊎ Contains roots p

    goes_on : (y z : Pair) → IsReached y → Related sites y z → IsReached z
    goes_on y z h r = inl (⊎_elim
        (λ had. let (n, s, start, stands, reaches) = (reached y).0 had in (reached z).1 (n, s, start, stands, reaches_step (Related sites) s y z reaches r))
        (λ there. let (n, stands) = root_node sites y z r in (reached z).1 (n, y, (are n).1 (y, there, stands), stands, reaches_step (Related sites) y y z (reaches_itself (Related sites) y) r))
        h)

    pub reach_from_exact : (p : Pair) → Contains pairs p ↔ ReachedFrom (Related sites) roots p
    reach_from_exact p = (
      λ h. ⊎_elim
          (λ had.
          let (n, q, start, stands, reaches) = (reached p).0 had in
          let (r, there, stood) = (are n).0 start in
          (r, there, subst (λ x. Reaches (Related sites) x p) (one_stands sites n q r stands stood) reaches))
          (λ there. (p, there, reaches_itself (Related sites) p))
          ((pairs_are p).0 h),
      λ (x, there, reaches). (pairs_are p).1 (reached_holds (Related sites) IsReached goes_on x p reaches (inr there)),
    )
