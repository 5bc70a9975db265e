-- Split and join keep the rule.
use Rattle.std.proofs.Common.{◌≡◌, ◌≢◌, ℕ, zero, suc, ◌+◌, ◌<◌, ◌⊎◌, inl, inr, ⊎_elim, Bool, true, false, true≢false, cond, not, nat_eq, nat_lt, List, [], ◌∷◌, ◌++◌, filter, length, set, Contains, sym, refl, ap, ◌∙◌, subst, arith, length-set, eq-eqb, ne_eqb}
use Rattle.std.proofs.lemmas.List.{length_push}
use Rattle.std.proofs.lemmas.List.Elements.{All-contains, All-filter, All-contains_itself, filter_passes, Contains-append_left, Contains-append_right, Contains-append_cases}
use mathlib.Core.Option.{some, some-injective, some-ne-none}
use mathlib.Core.Logic.{dite}
use native.Mathlib.Decide.{ℕ_discrete}
use lib.ListN.{get_elem?}
use Rattle.atomic_table.specs.Table.{Splits, Joins}
use Rattle.atomic_table.proofs.Lists.{at_set}
use Rattle.site_core.specs.Records.{Record}
use Rattle.wire_core.specs.declared.views.Log.{Log}
use Rattle.wire_core.specs.declared.views.View.{View}
use Rattle.wire_core.specs.Rule.{Ruled, Knows}
use Rattle.wire_core.specs.Changes.{left, right, both, spent}
use Rattle.wire_core.proofs.Lists.{within, at_Contains, Contains_at}
use Rattle.wire_core.proofs.Seating.{all_set}
use Rattle.wire_core.proofs.Boxes.{Table}

module _ {A : Type 0} where
  pub filtered : (p : A → Bool) (l : List A) (x : A) → Contains (filter p l) x → Contains l x × (p x ≡ true)
  filtered p l x c = (All-contains (Contains l) (filter p l) x (All-filter p (Contains l) l (All-contains_itself l)) c, All-contains (λ y. p y ≡ true) (filter p l) x (filter_passes p l) c)

  behind : (b : Bool) (y : A) (l : List A) (x : A) → Contains l x → Contains (cond b (y ∷ l) l) x
  behind true y l x c = let k = at_Contains l x c in Contains_at (y ∷ l) (suc k.0) x k.1
  behind false y l x c = c

  kept_at : (p : A → Bool) (l : List A) (i : ℕ) (x : A) → get_elem? l i ≡ some x → p x ≡ true → Contains (filter p l) x
  kept_at p [] i x e t = absurd (some-ne-none x (sym e))
  kept_at p (y ∷ ys) zero x e t = let s = some-injective y x e in subst (λ (b : Bool). Contains (cond b (y ∷ filter p ys) (filter p ys)) x) (sym (ap p s ∙ t)) (Contains_at (y ∷ filter p ys) 0 x e)
  kept_at p (y ∷ ys) (suc i) x e t = behind (p y) y (filter p ys) x (kept_at p ys i x e t)

  pub kept : (p : A → Bool) (l : List A) (x : A) → Contains l x → p x ≡ true → Contains (filter p l) x
  kept p l x c t = let k = at_Contains l x c in kept_at p l k.0 x k.1 t

  at_more : (l : List A) (a b : A) (j : ℕ) → get_elem? (l ++ a ∷ []) j ≡ some b → (get_elem? l j ≡ some b) ⊎ ((j ≡ length l) × (a ≡ b))
  at_more [] a b zero e = inr (refl, some-injective a b e)
  at_more [] a b (suc j) e = absurd (some-ne-none b (sym e))
  at_more (x ∷ xs) a b zero e = inl e
  at_more (x ∷ xs) a b (suc j) e = ⊎_elim (λ (t : get_elem? xs j ≡ some b). inl t) (λ (t : (j ≡ length xs) × (a ≡ b)). inr (ap suc t.0, t.1)) (at_more xs a b j e)

same_both : {A : Type 0} (b : Bool) (x : A) → cond b x x ≡ x
same_both true x = refl
same_both false x = refl

not_true : (b : Bool) → not b ≡ true → b ≡ false
not_true true e = absurd (true≢false (sym e))
not_true false e = refl

module _ (rs : List Record) (id : ℕ) (v : View) (s : Table) (h : Ruled rs s) (at : get_elem? s.views id ≡ some v) where
  logs : List Log
  logs = h.0

  -- the sites from the cut on go to the new seat
  abbrev moved : ℕ → ℕ
  moved i = cond (nat_eq (h.1 i) id) (cond (nat_lt i v.cut) (h.1 i) (length s.views)) (h.1 i)

  moved_else : (i : ℕ) → h.1 i ≢ id → moved i ≡ h.1 i
  moved_else i ne = ap (λ t. cond t (cond (nat_lt i v.cut) (h.1 i) (length s.views)) (h.1 i)) (ne_eqb (h.1 i) id ne)

  moved_low : (i : ℕ) → nat_lt i v.cut ≡ true → moved i ≡ h.1 i
  moved_low i low = ap (λ t. cond (nat_eq (h.1 i) id) (cond t (h.1 i) (length s.views)) (h.1 i)) low ∙ same_both (nat_eq (h.1 i) id) (h.1 i)

  moved_high : (i : ℕ) → h.1 i ≡ id → nat_lt i v.cut ≡ false → moved i ≡ length s.views
  moved_high i mine high = ap (λ t. cond t (cond (nat_lt i v.cut) (h.1 i) (length s.views)) (h.1 i)) (eq-eqb (h.1 i) id mine) ∙ ap (λ t. cond t (h.1 i) (length s.views)) high

  -- where a site stands after the split
  cases : (i : ℕ) → (moved i ≡ h.1 i) × (h.1 i ≡ id → nat_lt i v.cut ≡ true) ⊎ ((h.1 i ≡ id) × (nat_lt i v.cut ≡ false) × (moved i ≡ length s.views))
  cases i = dite (ℕ_discrete (h.1 i) id)
      (λ mine. of_cut mine (nat_lt i v.cut) refl)
      (λ ne. inl (moved_else i ne, λ mine. absurd (ne mine)))
    where
      of_cut : h.1 i ≡ id → (b : Bool) → nat_lt i v.cut ≡ b → (moved i ≡ h.1 i) × (h.1 i ≡ id → nat_lt i v.cut ≡ true) ⊎ ((h.1 i ≡ id) × (nat_lt i v.cut ≡ false) × (moved i ≡ length s.views))
      of_cut mine true e = inl (moved_low i e, λ _. e)
      of_cut mine false e = inr (mine, e, moved_high i mine e)

  here : id < length s.views
  here = within s.views id v at

  split_known : (j : ℕ) (u : View) → get_elem? (set s.views id (left v) ++ right v ∷ []) j ≡ some u → Knows moved h.0 j u
  split_known j u e = ⊎_elim old (λ (t : (j ≡ length (set s.views id (left v))) × (right v ≡ u)). subst (λ (z : ℕ × View). Knows moved h.0 z.0 z.1) (λ q. (sym (t.0 ∙ length-set s.views id (left v)) q, t.1 q)) new) (at_more (set s.views id (left v)) (right v) u j e)
    where
      new : Knows moved h.0 (length s.views) (right v)
      new y = (
        λ d. let p = filtered (λ (x : Log). not (nat_lt x.site v.cut)) v.sites y d in let k = (h.4.known id v at y).0 p.0 in (moved_high y.site k.0 (not_true _ p.1), k.1),
        λ st d. ⊎_elim
            (λ (t : (moved y.site ≡ h.1 y.site) × (h.1 y.site ≡ id → nat_lt y.site v.cut ≡ true)). let k = h.4.seated y.site (within h.0 y.site y d) in let eq = sym t.0 ∙ st in absurd (omega arith))
            (λ (t : (h.1 y.site ≡ id) × (nat_lt y.site v.cut ≡ false) × (moved y.site ≡ length s.views)). kept (λ (x : Log). not (nat_lt x.site v.cut)) v.sites y ((h.4.known id v at y).1 t.0 d) (ap not t.1))
            (cases y.site),
      )

      mine : Knows moved h.0 id (left v)
      mine y = (
        λ d. let p = filtered (λ (x : Log). nat_lt x.site v.cut) v.sites y d in let k = (h.4.known id v at y).0 p.0 in (moved_low y.site p.1 ∙ k.0, k.1),
        λ st d. ⊎_elim
            (λ (t : (moved y.site ≡ h.1 y.site) × (h.1 y.site ≡ id → nat_lt y.site v.cut ≡ true)). let m = sym t.0 ∙ st in kept (λ (x : Log). nat_lt x.site v.cut) v.sites y ((h.4.known id v at y).1 m d) (t.1 m))
            (λ (t : (h.1 y.site ≡ id) × (nat_lt y.site v.cut ≡ false) × (moved y.site ≡ length s.views)). let k = here in let eq = sym t.2 ∙ st in absurd (omega arith))
            (cases y.site),
      )

      others : (i : ℕ) (x : View) → i ≢ id → get_elem? s.views i ≡ some x → Knows moved h.0 i x
      others i x ne there y = (
        λ d. let k = (h.4.known i x there y).0 d in (moved_else y.site (λ m. ne (sym k.0 ∙ m)) ∙ k.0, k.1),
        λ st d. ⊎_elim
            (λ (t : (moved y.site ≡ h.1 y.site) × (h.1 y.site ≡ id → nat_lt y.site v.cut ≡ true)). (h.4.known i x there y).1 (sym t.0 ∙ st) d)
            (λ (t : (h.1 y.site ≡ id) × (nat_lt y.site v.cut ≡ false) × (moved y.site ≡ length s.views)). let k = within s.views i x there in let eq = sym t.2 ∙ st in absurd (omega arith))
            (cases y.site),
      )

      old : get_elem? (set s.views id (left v)) j ≡ some u → Knows moved h.0 j u
      old there = all_set (Knows moved h.0) s.views id (left v) mine others j u there

  split_seated : (i : ℕ) → i < length h.0 → moved i < length (set s.views id (left v) ++ right v ∷ [])
  split_seated i k =
      let l = length_push (set s.views id (left v)) (right v) ∙ ap (λ m. m + 1) (length-set s.views id (left v)) in
      let old = h.4.seated i k in
      ⊎_elim
      (λ (t : (moved i ≡ h.1 i) × (h.1 i ≡ id → nat_lt i v.cut ≡ true)). let eq = t.0 in omega arith)
      (λ (t : (h.1 i ≡ id) × (nat_lt i v.cut ≡ false) × (moved i ≡ length s.views)). let eq = t.2 in omega arith)
      (cases i)

  pub split_kept : Ruled rs (record { words = s.words; homes = s.homes; views = set s.views id (left v) ++ right v ∷ [] })
  split_kept = (h.0, moved, h.2, h.3, record { own = h.4.own; seated = split_seated; known = split_known }, h.5)

  module _ (other : ℕ) (w : View) (apart : ¬ (other ≡ id)) (there : get_elem? (set s.views id (both v w)) other ≡ some w) where
    other_at : get_elem? s.views other ≡ some w
    other_at = ⊎_elim (λ (t : (other ≡ id) × (both v w ≡ w)). absurd (apart t.0)) (λ (t : (other ≢ id) × (get_elem? s.views other ≡ some w)). t.1) (at_set s.views id other (both v w) w there)

    abbrev joined : ℕ → ℕ
    joined i = cond (nat_eq (h.1 i) other) id (h.1 i)

    joins : (i : ℕ) → ((h.1 i ≡ other) × (joined i ≡ id)) ⊎ ((h.1 i ≢ other) × (joined i ≡ h.1 i))
    joins i = dite (ℕ_discrete (h.1 i) other) (λ e. inl (e, ap (λ t. cond t id (h.1 i)) (eq-eqb (h.1 i) other e))) (λ ne. inr (ne, ap (λ t. cond t id (h.1 i)) (ne_eqb (h.1 i) other ne)))

    joined_stays : (i j : ℕ) → h.1 i ≡ j → j ≢ other → joined i ≡ j
    joined_stays i j e ne = ⊎_elim (λ (t : (h.1 i ≡ other) × (joined i ≡ id)). absurd (ne (sym e ∙ t.0))) (λ (t : (h.1 i ≢ other) × (joined i ≡ h.1 i)). t.1 ∙ e) (joins i)

    join_known : (j : ℕ) (u : View) → get_elem? (set (set s.views id (both v w)) other spent) j ≡ some u → Knows joined h.0 j u
    join_known = all_set (Knows joined h.0) (set s.views id (both v w)) other spent gone
        (λ j u ne e. all_set (λ (i : ℕ) (x : View). i ≢ other → Knows joined h.0 i x) s.views id (both v w) (λ _. mine) (λ i x away k. others i x away k) j u e ne)
      where
        gone : Knows joined h.0 other spent
        gone y = (
          λ d. let z = d.1 in absurd (omega arith),
          λ st d. ⊎_elim (λ (t : (h.1 y.site ≡ other) × (joined y.site ≡ id)). absurd (apart (sym st ∙ t.1))) (λ (t : (h.1 y.site ≢ other) × (joined y.site ≡ h.1 y.site)). absurd (t.0 (sym t.1 ∙ st))) (joins y.site),
        )

        mine : Knows joined h.0 id (both v w)
        mine y = (
          λ d. ⊎_elim
              (λ (k : Contains v.sites y). let o = (h.4.known id v at y).0 k in (joined_stays y.site id o.0 (λ q. apart (sym q)), o.1))
              (λ (k : Contains w.sites y). let o = (h.4.known other w other_at y).0 k in (ap (λ t. cond t id (h.1 y.site)) (eq-eqb (h.1 y.site) other o.0), o.1))
              (Contains-append_cases v.sites w.sites y d),
          λ st d. ⊎_elim
              (λ (t : (h.1 y.site ≡ other) × (joined y.site ≡ id)). Contains-append_right v.sites w.sites y ((h.4.known other w other_at y).1 t.0 d))
              (λ (t : (h.1 y.site ≢ other) × (joined y.site ≡ h.1 y.site)). Contains-append_left v.sites w.sites y ((h.4.known id v at y).1 (sym t.1 ∙ st) d))
              (joins y.site),
        )

        others : (i : ℕ) (x : View) → i ≢ id → get_elem? s.views i ≡ some x → i ≢ other → Knows joined h.0 i x
        others i x away k ne y = (
          λ d. let o = (h.4.known i x k y).0 d in (joined_stays y.site i o.0 ne, o.1),
          λ st d. ⊎_elim (λ (t : (h.1 y.site ≡ other) × (joined y.site ≡ id)). absurd (away (sym st ∙ t.1))) (λ (t : (h.1 y.site ≢ other) × (joined y.site ≡ h.1 y.site)). (h.4.known i x k y).1 (sym t.1 ∙ st) d) (joins y.site),
        )

    join_seated : (i : ℕ) → i < length h.0 → joined i < length (set (set s.views id (both v w)) other spent)
    join_seated i k =
        let l = length-set (set s.views id (both v w)) other spent ∙ length-set s.views id (both v w) in
        let old = h.4.seated i k in
        let me = here in
        ⊎_elim (λ (t : (h.1 i ≡ other) × (joined i ≡ id)). let eq = t.1 in omega arith) (λ (t : (h.1 i ≢ other) × (joined i ≡ h.1 i)). let eq = t.1 in omega arith) (joins i)

    pub join_kept : Ruled rs (record { words = s.words; homes = s.homes; views = set (set s.views id (both v w)) other spent })
    join_kept = (h.0, joined, h.2, h.3, record { own = h.4.own; seated = join_seated; known = join_known }, h.5)

pub splits : (rs : List Record) (id : ℕ) (v : View) → Splits (Ruled rs) id v (left v) (right v)
splits rs id v s h at = split_kept rs id v s h at

pub joins_two : (rs : List Record) (id : ℕ) (v : View) (other : ℕ) (w : View) → Joins (Ruled rs) id v other w (both v w) spent
joins_two rs id v other w s h at apart there = join_kept rs id v s h at other w apart there
