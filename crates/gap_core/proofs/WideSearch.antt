-- A search that goes on where items are missed finds all that is widely reached.
use Rattle.std.proofs.Common.{◌≡◌, ◌↔◌, inl, inr, ℕ, ◌+◌, ◌<◌, ◌≤◌, ◌∙◌, Bool, true, false, cond, List, [], ◌∷◌, ◌++◌, length, refl, sym, ap, subst, ⊎_elim, arith, length-append}
use mathlib.Core.Bool.{false≢true}
use mathlib.Core.Logic.{◌⊎◌}
use Rattle.std.specs.BTreeSet.{BTreeSet, contains}
use Rattle.std.specs.List.{Contains}
use Rattle.std.proofs.lemmas.Bool.{cases_Bool}
use Rattle.trace_core.specs.declared.pairs.Pair.{Pair}
use Rattle.trace_core.specs.Chains.{Related}
use Rattle.trace_core.specs.Gaps.{WideRelated}
use Rattle.trace_core.specs.Pairs.{pair_cmp}
use Rattle.trace_core.specs.Relations.{Reaches}
use Rattle.trace_core.specs.Searches.{IsFound}
use Rattle.trace_core.specs.Sites.{SiteEvents}
use Rattle.trace_core.proofs.ChainLaws.{reach_widens, reached_holds, reached_start, reached_step, reaches_itself, reaches_step}
use Rattle.trace_core.proofs.GapSteps.{sent_or_not, wide_is_between}
use Rattle.trace_core.proofs.Members.{contains_none}
use Rattle.trace_core.proofs.SetMembers.{contains_pushed}
use Rattle.gap_core.specs.MissedSteps.{IsMissedStep}
use Rattle.gap_core.specs.WideReach.{Follows, GoesOn, IsTarget, target}
use Rattle.gap_core.specs.declared.missed_steps.MissedStep.{MissedStep}

-- ---- steps of the wide relation

module _ (sites : List SiteEvents) where
  -- one is of the narrow relation, or it is missed
  wide_or_missed : (p q : Pair) → WideRelated sites p q → Related sites p q ⊎ ((m : MissedStep) × IsMissedStep sites m × (m.from ≡ p) × (target m ≡ q))
  wide_or_missed p q (k, s, lt, at, (me, h)) = ⊎_elim
      (λ (other, same, sent). ⊎_elim
      (λ told. inl (k, s, lt, at, (me, inl (other, same, told))))
      (λ untold. inr (
        record { from = p; to = q.site },
        record { site = s; there = (k, lt, at); number = me; missed = record { elsewhere = other; goes = sent; untold = untold } },
        refl,
        λ j. record { site = q.site; item = sym same j },
      ))
      (sent_or_not s p.item (inl q.site)))
      (λ made. inl (k, s, lt, at, (me, inr made)))
      h

  missed_is_wide : (m : MissedStep) → IsMissedStep sites m → WideRelated sites m.from (target m)
  missed_is_wide m it = let (k, lt, at) = it.there in (k, it.site, lt, at, (it.number, inl (it.missed.elsewhere, refl, it.missed.goes)))

  -- what is reached by the narrow relation from what is widely reached
  wide_on : (root x y : Pair) → Reaches (WideRelated sites) root x → Reaches (Related sites) x y → Reaches (WideRelated sites) root y
  wide_on root x y begins chain =
      reached_holds (WideRelated sites) (λ z. Reaches (WideRelated sites) root z) (λ a b h r. reaches_step (WideRelated sites) root a b h r) x y
      (reach_widens (Related sites) (WideRelated sites) (λ a b. (wide_is_between sites a b).0) x y chain) begins

-- ---- the search

-- Where it stands: the root is reached, or a root now; what is reached, and the roots now, are widely reached, and the narrow
-- relation leads from there no further; and each step that is missed is left, or where it leads is reached, or a root now.
pub record Searched (sites : List SiteEvents) (root : Pair) (reached : BTreeSet Pair) (steps : List MissedStep) (roots : List Pair) : Type 0 where
  pub begun : IsFound pair_cmp reached root ⊎ Contains roots root
  pub sound : (p : Pair) → IsFound pair_cmp reached p → Reaches (WideRelated sites) root p
  pub rooted : (p : Pair) → Contains roots p → Reaches (WideRelated sites) root p
  pub closed : (p q : Pair) → IsFound pair_cmp reached p → Related sites p q → IsFound pair_cmp reached q
  pub missed : (m : MissedStep) → Contains steps m → IsMissedStep sites m
  pub taken : (m : MissedStep) → IsMissedStep sites m → Contains steps m ⊎ (IsFound pair_cmp reached (target m) ⊎ Contains roots (target m))

-- nothing is reached yet, and the root is the only one
search_begins : (sites : List SiteEvents) (root copy : Pair) (reached : BTreeSet Pair) (steps : List MissedStep) (roots : List Pair) → ((p : Pair) → IsFound pair_cmp reached p → ⊥)
    → ((m : MissedStep) → Contains steps m ↔ IsMissedStep sites m) → copy ≡ root → roots ≡ [] ++ copy ∷ [] → Searched sites root reached steps roots
search_begins sites root copy reached steps roots nothing are same is = record {
  begun = inr (subst (λ rs. Contains rs root) (sym is) ((contains_pushed [] copy root).1 (inr same)));
  sound = λ p found. absurd (nothing p found);
  rooted = λ r h. ⊎_elim
      (λ none. absurd (contains_none r none))
      (λ here. subst (Reaches (WideRelated sites) root) (sym same ∙ here) (reaches_itself (WideRelated sites) root))
      ((contains_pushed [] copy r).0 (subst (λ rs. Contains rs r) is h));
  closed = λ p q found narrow. absurd (nothing p found);
  missed = λ m. (are m).0;
  taken = λ m it. inl ((are m).1 it);
}

module _ (sites : List SiteEvents) (root : Pair) (old : BTreeSet Pair) (steps : List MissedStep) (roots : List Pair) (so_far : Searched sites root old steps roots)
    (new : BTreeSet Pair) (left : List MissedStep) (roots' : List Pair) (more : Bool) (goes : GoesOn sites old steps roots new left roots' more) where
  there : (p : Pair) → Contains roots p → IsFound pair_cmp new p
  there p h = (goes.found p).1 (inr (reached_start (Related sites) roots p h))

  widely : (p : Pair) → IsFound pair_cmp new p → Reaches (WideRelated sites) root p
  widely p found = ⊎_elim (λ was. so_far.sound p was) (λ (x, at, chain). wide_on sites root x p (so_far.rooted x at) chain) ((goes.found p).0 found)

  narrowly : (p q : Pair) → IsFound pair_cmp new p → Related sites p q → IsFound pair_cmp new q
  narrowly p q found narrow = (goes.found q).1 (⊎_elim (λ was. inl (so_far.closed p q was narrow)) (λ chain. inr (reached_step (Related sites) roots p q chain narrow)) ((goes.found p).0 found))

  search_goes_on : Searched sites root new left roots'
  search_goes_on = record {
    begun = inl (⊎_elim (λ was. (goes.found root).1 (inl was)) (λ h. there root h) so_far.begun);
    sound = widely;
    rooted = λ r h. ⊎_elim
        (λ none. absurd (contains_none r none))
        (λ (m, at, found, is). subst (Reaches (WideRelated sites) root) is
        (reaches_step (WideRelated sites) root m.from (target m) (widely m.from found) (missed_is_wide sites m (so_far.missed m at))))
        ((goes.follows.added r).0 h);
    closed = narrowly;
    missed = λ m h. so_far.missed m ((goes.follows.rest m).0 h).0;
    taken = λ m it. ⊎_elim (λ at. followed m at) (λ reached. inr (inl (⊎_elim (λ was. (goes.found (target m)).1 (inl was)) (λ h. there (target m) h) reached))) (so_far.taken m it);
  }
    where
      followed : (m : MissedStep) → Contains steps m → Contains left m ⊎ (IsFound pair_cmp new (target m) ⊎ Contains roots' (target m))
      followed m at = ⊎_elim
          (λ found. inr (inr ((goes.follows.added (target m)).1 (inr (m, at, found, refl)))))
          (λ not_found. inl ((goes.follows.rest m).1 (at, λ found. false≢true (sym not_found ∙ found))))
          (cases_Bool (contains pair_cmp new m.from))

  -- where no step leads on, all is found
  search_ends : ((m : MissedStep) → Contains steps m → IsFound pair_cmp new m.from → ⊥) → (p : Pair) → IsFound pair_cmp new p ↔ Reaches (WideRelated sites) root p
  search_ends none p = (
    widely p,
    λ chain. reached_holds (WideRelated sites) (λ q. IsFound pair_cmp new q) on root p chain (⊎_elim (λ was. (goes.found root).1 (inl was)) (λ h. there root h) so_far.begun),
  )
    where
      on : (x y : Pair) → IsFound pair_cmp new x → WideRelated sites x y → IsFound pair_cmp new y
      on x y found wide = ⊎_elim
          (λ narrow. narrowly x y found narrow)
          (λ (m, it, from, to). ⊎_elim
          (λ at. absurd (none m at (subst (IsFound pair_cmp new) (sym from) found)))
          (λ reached. subst (IsFound pair_cmp new) to (⊎_elim (λ was. (goes.found (target m)).1 (inl was)) (λ h. there (target m) h) reached))
          (so_far.taken m it))
          (wide_or_missed sites x y wide)

-- where it stands between two turns
pub record Stands (sites : List SiteEvents) (root : Pair) (reached : BTreeSet Pair) (steps : List MissedStep) (roots : List Pair) (more : Bool) : Type 0 where
  pub searched : Searched sites root reached steps roots
  pub ended : more ≡ false → (p : Pair) → IsFound pair_cmp reached p ↔ Reaches (WideRelated sites) root p

pub stands_first : (sites : List SiteEvents) (root copy : Pair) (reached : BTreeSet Pair) (steps : List MissedStep) (roots : List Pair) → ((p : Pair) → IsFound pair_cmp reached p → ⊥)
    → ((m : MissedStep) → Contains steps m ↔ IsMissedStep sites m) → copy ≡ root → roots ≡ [] ++ copy ∷ [] → Stands sites root reached steps roots true
stands_first sites root copy reached steps roots nothing are same is = record { searched = search_begins sites root copy reached steps roots nothing are same is; ended = λ over. absurd (false≢true (sym over)) }

pub turned : (sites : List SiteEvents) (root : Pair) (old : BTreeSet Pair) (steps : List MissedStep) (roots : List Pair) (before : Bool) → Stands sites root old steps roots before
    → (new : BTreeSet Pair) (left : List MissedStep) (roots' : List Pair) (more : Bool) → GoesOn sites old steps roots new left roots' more → Stands sites root new left roots' more
turned sites root old steps roots before so_far new left roots' more goes = record {
  searched = search_goes_on sites root old steps roots so_far.searched new left roots' more goes;
  ended = λ over. search_ends sites root old steps roots so_far.searched new left roots' more goes (goes.follows.none over);
}

-- a turn leaves fewer steps, or is the last
pub fewer_left : (more more' : Bool) (n left : ℕ) → more ≡ true → left + cond more' 1 0 ≤ n → left + cond more' 1 0 < n + cond more 1 0
fewer_left true more' n left is most = omega (arith, most)
fewer_left false more' n left is most = absurd (false≢true is)

-- ---- following the steps of a list, the last one first

module _ (reached : BTreeSet Pair) where
  -- what was followed, and what isn't yet
  pub record Following (all : List MissedStep) (old : List Pair) (rest left : List MissedStep) (roots : List Pair) (more : Bool) : Type 0 where
    pub added : (p : Pair) → (Contains roots p ⊎ IsTarget reached rest p) ↔ (Contains old p ⊎ IsTarget reached all p)
    pub leaves : (m : MissedStep) → (Contains left m ⊎ (Contains rest m × (IsFound pair_cmp reached m.from → ⊥))) ↔ (Contains all m × (IsFound pair_cmp reached m.from → ⊥))
    pub fewer : length left + length rest + cond more 1 0 ≤ length all
    pub none : more ≡ false → (m : MissedStep) → Contains all m → IsFound pair_cmp reached m.from → Contains rest m

  pub following_begins : (all : List MissedStep) (old : List Pair) (left : List MissedStep) → left ≡ [] → Following all old all left old false
  following_begins all old left none = record {
    added = λ p. (λ h. h, λ h. h);
    leaves = λ m. (
      λ h. ⊎_elim (λ there. absurd (contains_none m (subst (λ ms. Contains ms m) none there))) (λ both. both) h,
      λ both. inr both,
    );
    fewer = let none_left : length left ≡ 0 = ap length none in omega (arith, none_left);
    none = λ same m there found. there;
  }

  module _ (all : List MissedStep) (old : List Pair) (rest less left : List MissedStep) (roots : List Pair) (more : Bool) (last : MissedStep) (is : rest ≡ less ++ last ∷ []) (so : Following all old rest left roots more) where
    in_rest : (m : MissedStep) → Contains rest m ↔ (Contains less m ⊎ (last ≡ m))
    in_rest m = subst (λ ms. Contains ms m ↔ (Contains less m ⊎ (last ≡ m))) (sym is) (contains_pushed less last m)

    shorter : length rest ≡ length less + 1
    shorter = ap length is ∙ length-append less (last ∷ [])

    pub followed_on : (roots' : List Pair) → IsFound pair_cmp reached last.from → roots' ≡ roots ++ target last ∷ [] → Following all old less left roots' true
    followed_on roots' found pushed = record {
      added = λ p. (
        λ h. (so.added p).0 (⊎_elim
            (λ now. ⊎_elim (λ was. inl was) (λ here. inr (last, (in_rest last).1 (inr refl), found, here)) ((in_roots p).0 now))
            (λ (m, there, f, here). inr (m, (in_rest m).1 (inl there), f, here))
            h),
        λ h. ⊎_elim
            (λ was. inl ((in_roots p).1 (inl was)))
            (λ (m, there, f, here). ⊎_elim
            (λ earlier. inr (m, earlier, f, here))
            (λ same. inl ((in_roots p).1 (inr (ap target same ∙ here))))
            ((in_rest m).0 there))
            ((so.added p).1 h),
      );
      leaves = λ m. (
        λ h. (so.leaves m).0 (⊎_elim (λ there. inl there) (λ (there, unfound). inr ((in_rest m).1 (inl there), unfound)) h),
        λ h. ⊎_elim
            (λ there. inl there)
            (λ (there, unfound). ⊎_elim (λ earlier. inr (earlier, unfound)) (λ same. absurd (unfound (subst (λ (x : MissedStep). IsFound pair_cmp reached x.from) same found))) ((in_rest m).0 there))
            ((so.leaves m).1 h),
      );
      fewer = let most = so.fewer in omega (arith, most, shorter);
      none = λ over m there f. absurd (false≢true (sym over));
    }
      where
        in_roots : (p : Pair) → Contains roots' p ↔ (Contains roots p ⊎ (target last ≡ p))
        in_roots p = subst (λ ps. Contains ps p ↔ (Contains roots p ⊎ (target last ≡ p))) (sym pushed) (contains_pushed roots (target last) p)

    pub left_on : (left' : List MissedStep) (roots' : List Pair) → (IsFound pair_cmp reached last.from → ⊥) → left' ≡ left ++ last ∷ [] → roots' ≡ roots → Following all old less left' roots' more
    left_on left' roots' unfound pushed same_roots = record {
      added = λ p. (
        λ h. (so.added p).0 (⊎_elim
            (λ now. inl (subst (λ ps. Contains ps p) same_roots now))
            (λ (m, there, f, here). inr (m, (in_rest m).1 (inl there), f, here))
            h),
        λ h. ⊎_elim
            (λ was. inl (subst (λ ps. Contains ps p) (sym same_roots) was))
            (λ (m, there, f, here). ⊎_elim
            (λ earlier. inr (m, earlier, f, here))
            (λ same. absurd (unfound (subst (λ (x : MissedStep). IsFound pair_cmp reached x.from) (sym same) f)))
            ((in_rest m).0 there))
            ((so.added p).1 h),
      );
      leaves = λ m. (
        λ h. (so.leaves m).0 (⊎_elim
            (λ now. ⊎_elim
            (λ was. inl was)
            (λ same. inr ((in_rest m).1 (inr same), subst (λ (x : MissedStep). IsFound pair_cmp reached x.from → ⊥) same unfound))
            ((in_left m).0 now))
            (λ (there, not). inr ((in_rest m).1 (inl there), not))
            h),
        λ h. ⊎_elim
            (λ was. inl ((in_left m).1 (inl was)))
            (λ (there, not). ⊎_elim (λ earlier. inr (earlier, not)) (λ same. inl ((in_left m).1 (inr same))) ((in_rest m).0 there))
            ((so.leaves m).1 h),
      );
      fewer = let most = so.fewer in let longer : length left' ≡ length left + 1 = ap length pushed ∙ length-append left (last ∷ []) in omega (arith, most, shorter, longer);
      none = λ over m there f. ⊎_elim
          (λ earlier. earlier)
          (λ same. absurd (unfound (subst (λ (x : MissedStep). IsFound pair_cmp reached x.from) (sym same) f)))
          ((in_rest m).0 (so.none over m there f));
    }
      where
        in_left : (m : MissedStep) → Contains left' m ↔ (Contains left m ⊎ (last ≡ m))
        in_left m = subst (λ ms. Contains ms m ↔ (Contains left m ⊎ (last ≡ m))) (sym pushed) (contains_pushed left last m)

  -- none is left to follow
  pub following_ends : (all : List MissedStep) (old : List Pair) (rest left : List MissedStep) (roots : List Pair) (more : Bool) → length rest ≤ 0 → Following all old rest left roots more → Follows reached all old left roots more
  following_ends all old rest left roots more none so = record {
    added = λ p. (
      λ h. (so.added p).0 (inl h),
      λ h. ⊎_elim (λ now. now) (λ (m, there, f, here). absurd (nothing m there)) ((so.added p).1 h),
    );
    rest = λ m. (
      λ h. (so.leaves m).0 (inl h),
      λ h. ⊎_elim (λ now. now) (λ (there, unfound). absurd (nothing m there)) ((so.leaves m).1 h),
    );
    fewer = let most = so.fewer in omega (arith, most);
    none = λ over m there f. nothing m (so.none over m there f);
  }
    where
      nothing : (m : MissedStep) → Contains rest m → ⊥
      nothing m (k, below, at) = omega (arith, none, below)
