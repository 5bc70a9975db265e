-- What a seat that holds all sites knows.
use Rattle.std.proofs.Common.{◌≡◌, ℕ, zero, suc, ◌+◌, ◌<◌, List, [], ◌∷◌, map, length, Contains, sym, refl, ap, ◌∙◌, subst, arith}
use Rattle.std.proofs.lemmas.List.{length-map}
use Rattle.std.specs.List.{range_with_len}
use mathlib.Core.Option.{some, some-injective}
use lib.ListN.{get_elem?}
use Rattle.atomic_table.specs.Table.{Final, Seen}
use Rattle.atomic_table.proofs.Lists.{at_map}
use Rattle.site_core.specs.Records.{Record}
use Rattle.wire_core.specs.declared.views.Log.{Log}
use Rattle.wire_core.specs.declared.views.View.{View}
use Rattle.wire_core.specs.Rule.{Ruled}
use Rattle.wire_core.specs.Seats.{HoldsAll, AreAllLogs, Gathered}
use Rattle.wire_core.proofs.Lists.{there, within, one_there, at_Contains}
use Rattle.wire_core.proofs.Boxes.{Table}

module _ {A : Type 0} where
  pub same_all : (l m : List A) → length l ≡ length m → ((k : ℕ) (a : A) → get_elem? l k ≡ some a → get_elem? m k ≡ some a) → l ≡ m
  same_all [] [] e f = refl
  same_all [] (y ∷ ys) e f = absurd (omega arith)
  same_all (x ∷ xs) [] e f = absurd (omega arith)
  same_all (x ∷ xs) (y ∷ ys) e f = λ i. sym (some-injective y x (f 0 x refl)) i ∷ same_all xs ys (omega arith) (λ k a g. f (suc k) a g) i

range_at : (a n k : ℕ) → k < n → get_elem? (range_with_len a n) k ≡ some (a + k)
range_at a zero k h = absurd (omega arith)
range_at a (suc n) zero h = ap some (let x : a ≡ a + 0 = omega arith in x)
range_at a (suc n) (suc k) h = range_at (a + 1) n k (omega arith) ∙ ap some (let x : a + 1 + k ≡ a + suc k = omega arith in x)

pub length_range : (a n : ℕ) → length (range_with_len a n) ≡ n
length_range a zero = refl
length_range a (suc n) = ap suc (length_range (a + 1) n)

-- a list whose places have the numbers from a on
pub numbered : (a n : ℕ) (l : List Log) → length l ≡ n → ((k : ℕ) (e : Log) → get_elem? l k ≡ some e → e.site ≡ a + k) → map (λ (e : Log). e.site) l ≡ range_with_len a n
numbered a n l len own =
    same_all (map (λ (e : Log). e.site) l) (range_with_len a n) (length-map l (λ (e : Log). e.site) ∙ len ∙ sym (length_range a n)) at
  where
    at : (k : ℕ) (x : ℕ) → get_elem? (map (λ (e : Log). e.site) l) k ≡ some x → get_elem? (range_with_len a n) k ≡ some x
    at k x e =
        let w = within (map (λ (y : Log). y.site) l) k x e in
        let m = length-map l (λ (y : Log). y.site) in
        let p = there l k (omega arith) in
        range_at a n k (omega arith) ∙ ap some (sym (own k p.0 p.1)) ∙ sym (at_map (λ (y : Log). y.site) l k p.0 p.1) ∙ e

module _ (rs : List Record) (id : ℕ) (v : View) (s : Table) (h : Ruled rs s) (at : get_elem? s.views id ≡ some v) (all : HoldsAll (length rs) v.sites) where
  known : (e : Log) → Contains h.0 e → Contains v.sites e
  known e c =
      let p = at_Contains h.0 e c in
      let small = within h.0 p.0 e p.1 in
      let mine = all p.0 (subst (λ k. p.0 < k) h.2 small) in
      let k = (h.4.known id v at mine.0).0 mine.1 in
      subst (Contains v.sites) (one_there h.0 p.0 mine.0 e (ap (get_elem? h.0) (sym mine.2) ∙ k.1) p.1) mine.1

  pub gathered : (logs : List Log) × AreAllLogs (length rs) v.sites logs × Gathered rs logs
  gathered = (
    h.0,
    record { sites = numbered 0 (length rs) h.0 h.2 (λ k e there. h.4.own k e there ∙ (let z : k ≡ 0 + k = omega arith in z)); known = known },
    record {
      run = h.5.run;
      noted = λ e f c d. let p = at_Contains h.0 e c in let o = h.5.noted p.0 e f p.1 d in (o.0 ∙ sym (h.4.own p.0 e p.1), o.1);
    },
  )

at_once : (rs : List Record) (id : ℕ) (v : View) (words : List ℕ) (slots : List _) → Final (Seen (Ruled rs) id v) words slots → HoldsAll (length rs) v.sites → (logs : List Log) × AreAllLogs (length rs) v.sites logs × Gathered rs logs
at_once rs id v words slots last all = gathered rs id v last.0 last.1.0 last.1.1 all

-- the key keeps the opening records as snapshots
pub gathered_at : {S : Type 0} (value : S → Record) (key : List S) (id : ℕ) (v : View) (words : List ℕ) (slots : List _) → Final (Seen (Ruled (map value key)) id v) words slots → HoldsAll (length key) v.sites
    → (logs : List Log) × AreAllLogs (length key) v.sites logs × Gathered (map value key) logs
gathered_at value key id v words slots last all =
    let n = length-map key value in
    subst (λ n. (logs : List Log) × AreAllLogs n v.sites logs × Gathered (map value key) logs) n (at_once (map value key) id v words slots last (subst (λ n. HoldsAll n v.sites) (sym n) all))
