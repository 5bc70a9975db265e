-- What pairs are related to, all together, and those that are left when it is taken away.
use Rattle.std.proofs.Common.{◌≡◌, ◌↔◌, inl, inr, ℕ, ◌+◌, ◌<◌, Bool, true, false, not, cond, List, [], ◌∷◌, ◌++◌, take, length, get_or, refl, sym, ap, ◌∙◌, subst, ⊎_elim}
use mathlib.Core.Bool.{false≢true}
use mathlib.Core.Logic.{◌⊎◌}
use Rattle.std.specs.BTreeMap.{is_at}
use Rattle.std.specs.BTreeSet.{BTreeSet, Updates, contains}
use Rattle.std.specs.List.{Contains, list_any, filter}
use Rattle.std.proofs.lemmas.Bool.{cases_Bool}
use Rattle.std.proofs.lemmas.List.{take_more}
use Rattle.std.proofs.lemmas.List.Elements.{filter-append}
use Rattle.std.proofs.lemmas.List.Kept.{IsStrictlySortedBy-filter}
use Rattle.trace_core.specs.Groups.{AddsUnseen, IsGivenBy}
use Rattle.trace_core.specs.Pairs.{IsStrictlyAscending, pair_cmp}
use Rattle.trace_core.specs.Relations.{Reaches}
use Rattle.trace_core.specs.Searches.{AreUnseen, IsFound}
use Rattle.trace_core.specs.Sites.{SiteEvents}
use Rattle.trace_core.specs.declared.groups.Group.{Group}
use Rattle.trace_core.specs.declared.pairs.Pair.{Pair}
use Rattle.trace_core.proofs.PairOrder.{pairs_total, pairs_exact}
use Rattle.trace_core.proofs.PlaceLists.{contains-filter, contains-from_filter}
use Rattle.trace_core.proofs.SetMembers.{found-insert, contains_pushed}
use Rattle.trace_core.proofs.Visiting.{none_given_by}
use Rattle.report_core.specs.Sources.{AddsTo, ByOne}
use Rattle.report_core.proofs.Additions.{adds_alike, adds_then}

-- one more pair
pub pair_inserted : (start old new : BTreeSet Pair) (before : List Pair) (p : Pair) → AddsTo (IsFound pair_cmp start) (IsFound pair_cmp old) (Contains before) → Updates pair_cmp old new p true
    → AddsTo (IsFound pair_cmp start) (IsFound pair_cmp new) (Contains (before ++ p ∷ []))
pair_inserted start old new before p adds updates =
    adds_alike (IsFound pair_cmp start) (IsFound pair_cmp new) (λ q. Contains before q ⊎ (p ≡ q)) (Contains (before ++ p ∷ []))
    (λ q. let pushed = contains_pushed before p q in (pushed.1, pushed.0))
    (adds_then (IsFound pair_cmp start) (IsFound pair_cmp old) (IsFound pair_cmp new) (Contains before) (λ q. p ≡ q) adds (found-insert pair_cmp pairs_total pairs_exact old new p updates))

-- what a pair is related to, but for what was given before
pub targets_inserted : (G : BTreeSet Group → Pair → Type 0) (P : Pair → Type 0) (seen seen' : BTreeSet Group) (nodes : List Pair) (Old New : Pair → Type 0)
    → AreUnseen P G seen seen' nodes → AddsTo Old New (Contains nodes) → AddsUnseen G P seen seen' Old New
targets_inserted G P seen seen' nodes Old New unseen adds = record {
  stay = λ q h. (adds q).1 (inl h);
  sound = λ q h. ⊎_elim (λ was. inl was) (λ there. inr (unseen.sound q there)) ((adds q).0 h);
  complete = λ q p. ⊎_elim (λ there. inl ((adds q).1 (inr there))) (λ before. inr before) (unseen.complete q p);
  given = λ q h. ⊎_elim (λ before. inl before) (λ there. inr ((adds q).1 (inr there))) (unseen.given q h);
}

-- all of them, from none
pub targets_found : (sites : List SiteEvents) (P : Pair → Type 0) (none seen : BTreeSet Group) (empty found : BTreeSet Pair) → none.keys ≡ [] → empty.keys ≡ []
    → AddsUnseen (IsGivenBy sites) P none seen (IsFound pair_cmp empty) (IsFound pair_cmp found) → (q : Pair) → IsFound pair_cmp found q ↔ P q
targets_found sites P none seen empty found nothing no_pairs adds q = (
  λ h. ⊎_elim (λ was. absurd (false≢true (subst (λ ks. list_any (is_at (pair_cmp q)) ks ≡ true) no_pairs was))) (λ p. p) (adds.sound q h),
  λ p. ⊎_elim (λ there. there) (λ given. absurd (none_given_by sites none nothing q given)) (adds.complete q p),
)

-- the elements that pass, one more and all
filter_one : {X : Type 0} (p : X → Bool) (x : X) → filter p (x ∷ []) ≡ cond (p x) (x ∷ []) []
filter_one p x = refl

module _ {X : Type 0} (p : X → Bool) (xs : List X) (i : ℕ) (x : X) (below : i < length xs) (at : x ≡ get_or xs i x) (kept : List X) (so_far : kept ≡ filter p (take i xs)) where
  next : filter p (take (i + 1) xs) ≡ kept ++ cond (p x) (x ∷ []) []
  next = ap (filter p) (take_more xs i x below ∙ ap (λ z. take i xs ++ z ∷ []) (sym at)) ∙ filter-append p (take i xs) (x ∷ []) ∙ ap (λ ys. ys ++ filter p (x ∷ [])) (sym so_far) ∙ ap (λ ys. kept ++ ys) (filter_one p x)

  pub one_passes : (kept' : List X) (copy : X) → p x ≡ true → copy ≡ x → kept' ≡ kept ++ copy ∷ [] → kept' ≡ filter p (take (i + 1) xs)
  one_passes kept' copy passes same pushed = pushed ∙ ap (λ y. kept ++ y ∷ []) same ∙ sym (next ∙ ap (λ b. kept ++ cond b (x ∷ []) []) passes)

  pub none_passes : p x ≡ false → kept ≡ filter p (take (i + 1) xs)
  none_passes fails = sym (next ∙ ap (λ b. kept ++ cond b (x ∷ []) []) fails ∙ append_nothing kept)
    where
      append_nothing : (ys : List X) → ys ++ [] ≡ ys
      append_nothing [] = refl
      append_nothing (y ∷ ys) = ap (λ zs. y ∷ zs) (append_nothing ys)

-- the pairs that aren't among the targets
abbrev pub is_no_target : BTreeSet Pair → Pair → Bool
is_no_target targets p = not (contains pair_cmp targets p)

pub origins_left : (targets : BTreeSet Pair) (pairs origins : List Pair) (P : Pair → Type 0) → origins ≡ filter (is_no_target targets) pairs → ((q : Pair) → IsFound pair_cmp targets q ↔ P q)
    → (q : Pair) → Contains origins q ↔ (Contains pairs q × (P q → ⊥))
origins_left targets pairs origins P are found q = (
  λ h.
      let (there, fails) = contains-from_filter (is_no_target targets) pairs q (subst (λ xs. Contains xs q) are h) in
      (there, λ p. apart (contains pair_cmp targets q) fails ((found q).1 p)),
  λ (there, none). subst (λ xs. Contains xs q) (sym are)
      (contains-filter (is_no_target targets) pairs q there (⊎_elim (λ among. absurd (none ((found q).0 among))) (λ missing. ap not missing) (cases_Bool (contains pair_cmp targets q)))),
)
  where
    apart : (b : Bool) → not b ≡ true → b ≡ true → ⊥
    apart true fails is = false≢true fails
    apart false fails is = false≢true is

-- what is left of ascending pairs ascends
pub origins_ascend : (targets : BTreeSet Pair) (pairs origins : List Pair) → origins ≡ filter (is_no_target targets) pairs → IsStrictlyAscending pairs → IsStrictlyAscending origins
origins_ascend targets pairs origins are ascend = subst IsStrictlyAscending (sym are) (IsStrictlySortedBy-filter pair_cmp (is_no_target targets) pairs ascend)

-- where the pairs are all that lead to a root, what one of them is related to is what any pair is related to
pub no_source : (R : Pair → Pair → Type 0) (root : Pair) (pairs : List Pair) → ((p : Pair) → Contains pairs p ↔ Reaches R p root) → (p : Pair) → (Contains pairs p × (ByOne pairs R p → ⊥)) ↔ (Contains pairs p × ((q : Pair) → R q p → ⊥))
no_source R root pairs exact p = (
  λ (there, none). (there, λ q related. let (rest, chain, ends) = (exact p).0 there in none (q, (exact q).1 (p ∷ rest, (related, chain), ends), related)),
  λ (there, none). (there, λ (q, among, related). none q related),
)
