-- The order of pairs: it is total, and tells all pairs apart.
use Rattle.std.proofs.Common.{◌≡◌, ◌==◌, ℕ, true, ◌&&◌, List, ◌↔◌, sym, ap, ◌∙◌, subst}
use Rattle.std.specs.BTreeSet.{BTreeSet}
use Rattle.std.specs.List.{Contains}
use Rattle.std.specs.Bool.{Decides}
use Rattle.std.specs.Cmp.{IsTotalOrder}
use Rattle.std.specs.Cmp.Lexicographic.{slice_cmp}
use Rattle.std.specs.Ordering.{is_eq, nat_cmp}
use Rattle.std.proofs.lemmas.Bool.Decides.{same_from_decides, Decides-and, Decides-eqb, Decides-like}
use Rattle.std.proofs.lemmas.Cmp.{then_total, on_total, nat_cmp_total, nat_list_cmp_total, tied_itself}
use Rattle.std.proofs.lemmas.Map.Lookups.{CmpEqualImpliesEq, btree_set_from_contains, exact_pairs, exact_unsigned, exact_bytes}
use Rattle.std.proofs.lemmas.Map.Views.{tells_apart, btree_set_contains_iff}
use Rattle.std.proofs.lemmas.Slice.Eq.{bytes_eq-Decides}
use Rattle.trace_core.specs.declared.pairs.Pair.{Pair}
use Rattle.trace_core.specs.Pairs.{pair_cmp, IsStrictlyAscending}
use Rattle.trace_core.specs.PairTests.{same_item}

pub pairs_exact : CmpEqualImpliesEq pair_cmp
pairs_exact a b h = ap (λ (p : ℕ × List ℕ). record { site = p.0; item = p.1 }) (exact_pairs nat_cmp (slice_cmp nat_cmp) exact_unsigned exact_bytes (a.site, a.item) (b.site, b.item) h)

pub pairs_total : IsTotalOrder pair_cmp
pairs_total = then_total (on_total (λ p. p.site) nat_cmp_total) (on_total (λ p. p.item) nat_list_cmp_total)

-- pairs are equal where their parts are
pub same_pair : (k p : Pair) → (p.site ≡ k.site) × (k.item ≡ p.item) → k ≡ p
same_pair k p h = ap (λ (s : ℕ). record { site = s; item = k.item }) (sym h.0) ∙ ap (λ (i : List ℕ). record { site = p.site; item = i }) h.1

-- pairs that compare as equal have the same site and the same item
pub pair_is_eq : (k p : Pair) → is_eq (pair_cmp k p) ≡ (p.site == k.site && same_item k.item p.item)
pair_is_eq k p = same_from_decides {P = k ≡ p} _ _ by_order by_parts
  where
    by_order : Decides (is_eq (pair_cmp k p)) (k ≡ p)
    by_order = (tells_apart pairs_exact k p, λ e. subst (λ q. is_eq (pair_cmp k q) ≡ true) e (ap is_eq (tied_itself pairs_total k)))

    by_parts : Decides (p.site == k.site && same_item k.item p.item) (k ≡ p)
    by_parts = Decides-like _ (same_pair k p) (λ e. (ap (λ q. q.site) (sym e), ap (λ q. q.item) e)) (Decides-and _ _ (Decides-eqb p.site k.site) (bytes_eq-Decides k.item p.item))

-- strictly ascending lists with the same pairs are one list
pub one_ascending : (xs ys : List Pair) → IsStrictlyAscending xs → IsStrictlyAscending ys → ((p : Pair) → Contains xs p ↔ Contains ys p) → xs ≡ ys
one_ascending xs ys a b same =
    let s : BTreeSet Pair = record { keys = xs } in
    let t : BTreeSet Pair = record { keys = ys } in
    btree_set_from_contains pairs_total s t a b (λ q.
    let of_s = btree_set_contains_iff pairs_total pairs_exact s q in
    let of_t = btree_set_contains_iff pairs_total pairs_exact t q in
    same_from_decides {P = Contains xs q} _ _ of_s (λ h. (same q).1 (of_t.0 h), λ m. of_t.1 ((same q).0 m))) pairs_exact

-- the test of two pairs decides whether they are one
pub same_pair_decides : (p q : Pair) → Decides (p.site == q.site && same_item p.item q.item) (p ≡ q)
same_pair_decides p q = Decides-like _ (λ (sites, items). same_pair p q (sym sites, items)) (λ e. (ap (λ r. r.site) e, ap (λ r. r.item) e)) (Decides-and _ _ (Decides-eqb p.site q.site) (bytes_eq-Decides p.item q.item))
