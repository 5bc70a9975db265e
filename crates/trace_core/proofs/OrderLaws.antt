-- The order of pairs in words: by site, and then by the bytes of the items.
use Rattle.std.proofs.Common.{◌≡◌, ◌<◌, inl, inr, ℕ, List, [], ◌∷◌, ◌++◌, refl, sym, ap, subst, ◌∙◌}
use mathlib.Core.Bool.{true≢false}
use Rattle.std.specs.Cmp.{nat_cmp_is}
use Rattle.std.specs.Cmp.Lexicographic.{slice_cmp}
use Rattle.std.specs.declared.cmp.Ordering.{Ordering}
use Rattle.std.specs.declared.cmp.Ordering.TheVariants.{Less, Equal, Greater}
use Rattle.std.specs.Ordering.{nat_cmp, ordering_then, ordering_reverse, is_lt, is_gt}
use Rattle.std.proofs.lemmas.Cmp.{by_ranked, ranked, nat_cmp_total, tied_itself}
use Rattle.trace_core.specs.declared.pairs.Pair.{Pair}
use Rattle.trace_core.specs.Laws.{IsItemBelow, IsPairBefore, PairsAreInOrder}
use Rattle.trace_core.specs.Pairs.{pair_cmp}
use Rattle.trace_core.proofs.PairOrder.{pairs_exact, pairs_total}

lower : (a b : ℕ) → a < b → nat_cmp a b ≡ Less
lower a b l = sym (nat_cmp_is a b Less l)

same : (a : ℕ) → nat_cmp a a ≡ Equal
same a = tied_itself nat_cmp_total a

after_same : (a : ℕ) (o r : Ordering) → o ≡ r → ordering_then (nat_cmp a a) o ≡ r
after_same a o r e = ap (λ n. ordering_then n o) (same a) ∙ e

beginning_less : (i : List ℕ) (b : ℕ) (more : List ℕ) → slice_cmp nat_cmp i (i ++ b ∷ more) ≡ Less
beginning_less [] b more = refl
beginning_less (a ∷ i) b more = after_same a _ Less (beginning_less i b more)

differing_less : (front : List ℕ) (a b : ℕ) (more more' : List ℕ) → a < b → slice_cmp nat_cmp (front ++ a ∷ more) (front ++ b ∷ more') ≡ Less
differing_less [] a b more more' l = ap (λ n. ordering_then n (slice_cmp nat_cmp more more')) (lower a b l)
differing_less (c ∷ front) a b more more' l = after_same c _ Less (differing_less front a b more more' l)

pub item_less : (i j : List ℕ) → IsItemBelow i j → slice_cmp nat_cmp i j ≡ Less
item_less i j (inl h) = ap (λ k. slice_cmp nat_cmp i k) h.longer ∙ beginning_less i h.byte h.more
item_less i j (inr h) = ap (λ k. slice_cmp nat_cmp k j) h.one ∙ ap (λ k. slice_cmp nat_cmp (h.front ++ h.low ∷ h.more) k) h.other
    ∙ differing_less h.front h.low h.high h.more h.more' h.lower

-- two items that go on below one another do so behind a byte of both
behind : (a b : ℕ) (i j : List ℕ) → a ≡ b → IsItemBelow i j → IsItemBelow (a ∷ i) (b ∷ j)
behind a b i j is (inl h) = inl (record { byte = h.byte; more = h.more; longer = ap (λ c. c ∷ j) (sym is) ∙ ap (λ k. a ∷ k) h.longer })
behind a b i j is (inr h) = inr (record {
  front = a ∷ h.front;
  low = h.low;
  high = h.high;
  more = h.more;
  more' = h.more';
  one = ap (λ k. a ∷ k) h.one;
  other = ap (λ c. c ∷ j) (sym is) ∙ ap (λ k. a ∷ k) h.other;
  lower = h.lower;
})

pub item_below : (i j : List ℕ) → slice_cmp nat_cmp i j ≡ Less → IsItemBelow i j
item_below [] [] e = absurd (true≢false (sym (ap is_lt e)))
item_below [] (b ∷ j) e = inl (record { byte = b; more = j; longer = refl })
item_below (a ∷ i) [] e = absurd (true≢false (ap is_gt e))
item_below (a ∷ i) (b ∷ j) e = by_ranked _ _ _ (nat_cmp a b) (ranked a b _ refl)
    (λ is l. inr (record { front = []; low = a; high = b; more = i; more' = j; one = refl; other = refl; lower = l }))
    (λ is l. behind a b i j l (item_below i j (sym (ap (λ n. ordering_then n (slice_cmp nat_cmp i j)) is) ∙ e)))
    (λ is l. absurd (true≢false (ap is_gt (sym (ap (λ n. ordering_then n (slice_cmp nat_cmp i j)) is) ∙ e))))

pair_less : (p q : Pair) → IsPairBefore p q → pair_cmp p q ≡ Less
pair_less p q (inl l) = ap (λ n. ordering_then n (slice_cmp nat_cmp p.item q.item)) (lower p.site q.site l)
pair_less p q (inr (e, below)) = ap (λ n. ordering_then (nat_cmp p.site n) (slice_cmp nat_cmp p.item q.item)) (sym e) ∙ after_same p.site _ Less (item_less p.item q.item below)

pair_before : (p q : Pair) → pair_cmp p q ≡ Less → IsPairBefore p q
pair_before p q e =
    let then : (o : Ordering) → nat_cmp p.site q.site ≡ o → ordering_then o (slice_cmp nat_cmp p.item q.item) ≡ Less = λ o is. sym (ap (λ n. ordering_then n (slice_cmp nat_cmp p.item q.item)) is) ∙ e in
    by_ranked _ _ _ (nat_cmp p.site q.site) (ranked p.site q.site _ refl)
    (λ is l. inl l)
    (λ is l. inr (l, item_below p.item q.item (then Equal is)))
    (λ is l. absurd (true≢false (ap is_gt (then Greater is))))

pub pairs_are_in_order : PairsAreInOrder
pairs_are_in_order p q = record {
  less = (pair_before p q, pair_less p q);
  equal = (pairs_exact p q, λ e. subst (λ r. pair_cmp p r ≡ Equal) e (tied_itself pairs_total p));
  greater = (
    λ e. pair_before q p (pairs_total.antisymm q p ∙ ap ordering_reverse e),
    λ h. pairs_total.antisymm p q ∙ ap ordering_reverse (pair_less q p h),
  );
}
