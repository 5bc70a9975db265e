-- The items of pairs, in the sets of their sites, and what the sites' events ship out of these sets.
use Rattle.std.proofs.Common.{◌≡◌, ◌↔◌, inl, inr, ℕ, ◌+◌, ◌<◌, List, [], length, get_or, take, slice_set, replicate, sym, ap, ◌∙◌, subst, arith, ◌⊎◌, Contains}
use mathlib.Core.Bool.{false≢true}
use Rattle.std.specs.FinMap.{get-empty}
use Rattle.std.specs.Prelude.{is_some, IsTrue}
use Rattle.std.proofs.lemmas.List.{get_or-replicate, get_or-set_other, get_or-set_same, get_or_default, get_or_past, length-replicate}
use Rattle.frame_core.proofs.Lookups.{one_key}
use Rattle.trace_core.specs.declared.pairs.Pair.{Pair}
use Rattle.trace_core.proofs.Members.{contains_none}
use Rattle.trace_core.proofs.SetMembers.{contains_more}
use Rattle.site_core.specs.ItemSets.{item_cmp, Items}
use Rattle.site_core.specs.ItemSets as set
use Rattle.site_core.specs.Records.{Record}
use Rattle.site_core.proofs.HeldLaws.{among_here, among_apart}
use Rattle.site_core.proofs.ItemOrder.{item_total, item_exact}
use Rattle.site_recovery.specs.Looks.{World}
use Rattle.site_recovery.proofs.Exact.{within_or_past}
use Rattle.site_recovery.proofs.OneSite.{one_place}
use Rattle.report_core.specs.Gathering.{Adds, FirstTell, Found, IsAmong, IsIn, SiteTells}
use Rattle.report_core.proofs.Adding.{none_added}

-- One pair.

pub none_among : (count : ℕ) (p : Pair) → IsAmong (replicate count set.empty) p → ⊥
none_among count p at =
    let none : get_or (replicate count set.empty) p.site set.empty ≡ set.empty = elim (within_or_past p.site count) as (λ _. get_or (replicate count set.empty) p.site set.empty ≡ set.empty) [
      | inl below ↦ get_or-replicate count p.site set.empty set.empty below
      | inr past ↦ get_or_past (replicate count set.empty) p.site set.empty (omega (arith, length-replicate count set.empty, past))
    ] in
    false≢true (sym (ap is_some (get-empty item_cmp p.item)) ∙ subst (λ (s : Items). IsTrue (set.contains s p.item)) none at)

pub item_added : (old : List Items) (pair : Pair) (place : ℕ) (was new : Items) (item : List ℕ) → place ≡ pair.site → place < length old → was ≡ get_or old place was → item ≡ pair.item → new ≡ set.insert was item
    → (p : Pair) → IsAmong (slice_set old place new) p ↔ (IsAmong old p ⊎ ((p.site < length old) × (pair ≡ p)))
item_added old pair place was new item at below is same added p = elim (one_place p.site place) as (λ _. IsAmong (slice_set old place new) p ↔ (IsAmong old p ⊎ ((p.site < length old) × (pair ≡ p)))) [
  | inl here ↦
      let new_is : new ≡ set.insert was pair.item = added ∙ ap (set.insert was) same in
      let now : get_or (slice_set old place new) p.site set.empty ≡ set.insert was pair.item = ap (λ k. get_or (slice_set old place new) k set.empty) here ∙ get_or-set_same old place new set.empty below ∙ new_is in
      let before : get_or old p.site set.empty ≡ was = ap (λ k. get_or old k set.empty) here ∙ sym (get_or_default old place was set.empty below) ∙ sym is in (
        λ h. elim (one_key item_total item_exact p.item pair.item) as (λ _. IsAmong old p ⊎ ((p.site < length old) × (pair ≡ p))) [
          | inl one ↦ inr (subst (λ k. k < length old) (sym here) below, (λ k. record { site = sym (here ∙ at) k; item = sym one k }))
          | inr ne ↦ inl (subst (λ (s : Items). IsTrue (set.contains s p.item)) (sym before) (sym (among_apart was pair.item p.item ne) ∙ subst (λ (s : Items). IsTrue (set.contains s p.item)) now h))
        ],
        λ h. subst (λ (s : Items). IsTrue (set.contains s p.item)) (sym now) (elim h as (λ _. IsTrue (set.contains (set.insert was pair.item) p.item)) [
          | inl had ↦ elim (one_key item_total item_exact p.item pair.item) as (λ _. IsTrue (set.contains (set.insert was pair.item) p.item)) [
            | inl one ↦ subst (λ i. IsTrue (set.contains (set.insert was pair.item) i)) (sym one) (among_here was pair.item)
            | inr ne ↦ among_apart was pair.item p.item ne ∙ subst (λ (s : Items). IsTrue (set.contains s p.item)) before had
          ]
          | inr comes ↦ subst (λ i. IsTrue (set.contains (set.insert was pair.item) i)) (ap (λ (z : Pair). z.item) comes.1) (among_here was pair.item)
        ]),
      )
  | inr away ↦
      let other : get_or (slice_set old place new) p.site set.empty ≡ get_or old p.site set.empty = get_or-set_other old place p.site new set.empty away in (
        λ h. inl (subst (λ (s : Items). IsTrue (set.contains s p.item)) other h),
        λ h. elim h as (λ _. IsAmong (slice_set old place new) p) [
          | inl had ↦ subst (λ (s : Items). IsTrue (set.contains s p.item)) (sym other) had
          | inr comes ↦ absurd (away (ap (λ (z : Pair). z.site) (sym comes.1) ∙ sym at))
        ],
      )
]

-- One after another.

-- the sets of so many sites have the items of these pairs
pub record HaveItems (sets : List Items) (sites : ℕ) (pairs : List Pair) : Type 0 where
  pub count : length sets ≡ sites
  pub exact : (p : Pair) → IsAmong sets p ↔ ((p.site < sites) × Contains pairs p)

pub no_pairs : (sets : List Items) (sites : ℕ) → sets ≡ replicate sites set.empty → HaveItems sets sites []
no_pairs sets sites is = record {
  count = ap length is ∙ length-replicate sites set.empty;
  exact = λ p. (λ h. absurd (none_among sites p (subst (λ ss. IsAmong ss p) is h)), λ (within, there). absurd (contains_none p there));
}

pub one_more_pair : (old new : List Items) (count : ℕ) (pairs : List Pair) (i : ℕ) (pair : Pair) → i < length pairs → pair ≡ get_or pairs i pair → length new ≡ length old
    → ((p : Pair) → IsAmong new p ↔ (IsAmong old p ⊎ ((p.site < length old) × (pair ≡ p)))) → HaveItems old count (take i pairs) → HaveItems new count (take (i + 1) pairs)
one_more_pair old new count pairs i pair below at same adds so_far = record {
  count = same ∙ so_far.count;
  exact = λ p.
      let more = contains_more pairs i pair below at p in (
        λ h. elim ((adds p).0 h) as (λ _. (p.site < count) × Contains (take (i + 1) pairs) p) [
          | inl had ↦ let was = (so_far.exact p).0 had in (was.0, more.1 (inl was.1))
          | inr comes ↦ (subst (λ n. p.site < n) so_far.count comes.0, more.1 (inr comes.1))
        ],
        λ (within, there). (adds p).1 (elim (more.0 there) as (λ _. IsAmong old p ⊎ ((p.site < length old) × (pair ≡ p))) [
          | inl sooner ↦ inl ((so_far.exact p).1 (within, sooner))
          | inr is ↦ inr (subst (λ n. p.site < n) (sym so_far.count) within, is)
        ]),
      );
}

-- Site after site.

pub none_first : (W : World) (sets : List Items) (found : Found) → Adds found found (FirstTell W sets 0)
none_first W sets found = none_added found (FirstTell W sets 0) (λ x (k, below, tells). omega (arith, below))

pub one_more_site : (W : World) (sets : List Items) (start old new : Found) (k : ℕ) (items : Items) (r : Record) → items ≡ get_or sets k set.empty → r ≡ W k
    → Adds start old (FirstTell W sets k) → Adds old new (SiteTells items r) → Adds start new (FirstTell W sets (k + 1))
one_more_site W sets start old new k items r same here before adds x =
    let at : SiteTells items r x ≡ SiteTells (get_or sets k set.empty) (W k) x = ap (λ (s : Items). SiteTells s r x) same ∙ ap (λ (z : Record). SiteTells (get_or sets k set.empty) z x) here in (
      λ h. elim ((adds x).0 h) as (λ _. IsIn start x ⊎ FirstTell W sets (k + 1) x) [
        | inl was ↦ elim ((before x).0 was) as (λ _. IsIn start x ⊎ FirstTell W sets (k + 1) x) [
          | inl sooner ↦ inl sooner
          | inr first ↦ inr (first.0, omega (arith, first.1), first.2)
        ]
        | inr tells ↦ inr (k, omega arith, subst (λ T. T) at tells)
      ],
      λ h. (adds x).1 (elim h as (λ _. IsIn old x ⊎ SiteTells items r x) [
        | inl sooner ↦ inl ((before x).1 (inl sooner))
        | inr first ↦ elim (within_or_past first.0 k) as (λ _. IsIn old x ⊎ SiteTells items r x) [
          | inl below ↦ inl ((before x).1 (inr (first.0, below, first.2)))
          | inr past ↦
              let last : first.0 ≡ k = omega (arith, first.1, past) in
              inr (subst (λ T. T) (sym at) (subst (λ j. SiteTells (get_or sets j set.empty) (W j) x) last first.2))
        ]
      ]),
    )
