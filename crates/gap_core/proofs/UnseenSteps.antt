-- Shipments of which the site that they went to tells nothing, item by item.
use Rattle.std.proofs.Common.{◌≡◌, ◌≢◌, ◌↔◌, inr, ℕ, ◌∙◌, List, [], ◌∷◌, ◌++◌, sym, ap, subst, ⊎_elim}
use mathlib.Core.Logic.{inl}
use Rattle.std.specs.Cmp.Lexicographic.{slice_cmp}
use Rattle.std.specs.List.{Any, Contains}
use Rattle.std.specs.Ordering.{nat_cmp, ordering_then}
use Rattle.std.proofs.lemmas.Map.Lookups.{CmpEqualImpliesEq, exact_pairs, exact_unsigned, exact_bytes}
use Rattle.trace_core.specs.Gaps.{ShipsTo}
use Rattle.trace_core.specs.Sites.{SiteEvents}
use Rattle.trace_core.specs.Spreads.{items_of}
use Rattle.trace_core.proofs.Members.{contains_none}
use Rattle.gap_core.specs.Adding.{AddsToList, ByOne}
use Rattle.gap_core.specs.Unseen.{IsUnseen, IsUnseenBetween, IsUnseenOf, unseen_item_cmp}
use Rattle.gap_core.specs.declared.unseen.UnseenItem.{UnseenItem}
use Rattle.gap_core.proofs.Additions.{adds_alike, adds_nothing, adds_one}

-- ---- the order of these items tells all of them apart

last_exact : CmpEqualImpliesEq (λ (x y : List ℕ × ℕ). ordering_then (slice_cmp nat_cmp x.0 y.0) (nat_cmp x.1 y.1))
last_exact = exact_pairs (slice_cmp nat_cmp) nat_cmp exact_bytes exact_unsigned

pub unseen_items_exact : CmpEqualImpliesEq unseen_item_cmp
unseen_items_exact a b h =
    ap (λ (p : ℕ × (List ℕ × ℕ)). let x : UnseenItem = record { site = p.0; item = p.1.0; from = p.1.1 } in x)
    (exact_pairs nat_cmp (λ (x y : List ℕ × ℕ). ordering_then (slice_cmp nat_cmp x.0 y.0) (nat_cmp x.1 y.1)) exact_unsigned last_exact
    (a.site, (a.item, a.from)) (b.site, (b.item, b.from)) h)

-- ---- one item

module _ (from : ℕ) (t : SiteEvents) where
  pub item_unseen : (item : List ℕ) (me : ℕ) (old new : List UnseenItem) → me ≡ t.me → (Any (λ e. Contains (items_of e.body) item) t.events → ⊥)
      → new ≡ old ++ record { site = me; item = item; from = from } ∷ [] → AddsToList old new (IsUnseenOf from t item)
  item_unseen item me old new is unnamed pushed =
      let one : UnseenItem = record { site = me; item = item; from = from } in
      adds_alike (Contains old) (Contains new) (λ u. one ≡ u) (IsUnseenOf from t item)
      (λ u. (
        λ same. (unnamed, subst (λ (n : ℕ). (let x : UnseenItem = record { site = n; item = item; from = from } in x) ≡ u) is same),
        λ (_, same). subst (λ (n : ℕ). (let x : UnseenItem = record { site = n; item = item; from = from } in x) ≡ u) (sym is) same,
      ))
      (adds_one old new one pushed)

  pub item_named : (item : List ℕ) (old : List UnseenItem) → Any (λ e. Contains (items_of e.body) item) t.events → AddsToList old old (IsUnseenOf from t item)
  item_named item old named = adds_nothing (Contains old) (IsUnseenOf from t item) (λ u (unnamed, same). unnamed named)

-- ---- from site to site

module _ (s t : SiteEvents) where
  pub between : (me : ℕ) (sent : List (List ℕ)) (old new : List UnseenItem) → me ≡ s.me → (s.me ≢ t.me) → ((i : List ℕ) → Contains sent i ↔ Any (λ e. ShipsTo i (inl t.me) e.body) s.events)
      → AddsToList old new (ByOne sent (IsUnseenOf me t)) → AddsToList old new (IsUnseenBetween s t)
  between me sent old new is other ships = adds_alike (Contains old) (Contains new) (ByOne sent (IsUnseenOf me t)) (IsUnseenBetween s t)
      (λ u. (
        λ (item, there, (unnamed, same)).
            let here : item ≡ u.item = ap (λ (x : UnseenItem). x.item) same in
            record {
              sender = sym is ∙ ap (λ (x : UnseenItem). x.from) same;
              receiver = ap (λ (x : UnseenItem). x.site) same;
              elsewhere = other;
              shipped = subst (λ i. Any (λ e. ShipsTo i (inl t.me) e.body) s.events) here ((ships item).0 there);
              unnamed = subst (λ i. Any (λ e. Contains (items_of e.body) i) t.events → ⊥) here unnamed;
            },
        λ it. (u.item, (ships u.item).1 it.shipped, (it.unnamed, told u t.me me it.receiver (is ∙ it.sender))),
      ))
    where
      told : (u : UnseenItem) (n m : ℕ) → n ≡ u.site → m ≡ u.from → (let x : UnseenItem = record { site = n; item = u.item; from = m } in x) ≡ u
      told u n m one two = λ k. record { site = one k; item = u.item; from = two k }

  pub not_between : (old : List UnseenItem) → s.me ≡ t.me → AddsToList old old (IsUnseenBetween s t)
  not_between old same = adds_nothing (Contains old) (IsUnseenBetween s t) (λ u it. it.elsewhere same)

-- all sites
pub all_unseen : (sites : List SiteEvents) (found ordered : List UnseenItem) → AddsToList [] found (ByOne sites (λ s. ByOne sites (IsUnseenBetween s)))
    → ((u : UnseenItem) → Contains ordered u ↔ Contains found u) → (u : UnseenItem) → Contains ordered u ↔ IsUnseen sites u
all_unseen sites found ordered adds same u = (
  λ h. ⊎_elim (λ none. absurd (contains_none u none)) (λ it. it) ((adds u).0 ((same u).0 h)),
  λ it. (same u).1 ((adds u).1 (inr it)),
)
