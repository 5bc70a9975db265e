-- Which seat knows which site, as one log changes, at a split and at a join.
use Rattle.std.proofs.Common.{◌≡◌, ◌≢◌, ℕ, ◌<◌, ⊎_elim, cond, List, set, Contains, sym, ap, ◌∙◌, subst, length-set, eq-eqb, ne_eqb}
use mathlib.Core.Option.{some}
use mathlib.Core.Logic.{dite}
use native.Mathlib.Decide.{ℕ_discrete}
use lib.ListN.{get_elem?}
use Rattle.atomic_table.proofs.Lists.{at_set, set_else}
use Rattle.wire_core.specs.declared.views.Log.{Log}
use Rattle.wire_core.specs.declared.views.View.{View}
use Rattle.wire_core.specs.Rule.{Knows, Shared}
use Rattle.wire_core.specs.Changes.{pick, on, changed}
use Rattle.wire_core.proofs.Lists.{one_there, set_at, Contains_map, map_Contains}

abbrev pub AllViews : (ℕ → View → Type 0) → List View → Type 0
AllViews F views = (id : ℕ) (v : View) → get_elem? views id ≡ some v → F id v

pub all_set : (F : ℕ → View → Type 0) (views : List View) (id : ℕ) (w : View) → F id w → ((j : ℕ) (u : View) → j ≢ id → get_elem? views j ≡ some u → F j u) → AllViews F (set views id w)
all_set F views id w mine others j u e = ⊎_elim (λ (x : (j ≡ id) × (w ≡ u)). subst (λ (y : ℕ × View). F y.0 y.1) (λ i. (sym x.0 i, x.1 i)) mine)
    (λ (x : (j ≢ id) × (get_elem? views j ≡ some u)). others j u x.0 x.1) (at_set views id j w u e)

pub pick_here : (i : ℕ) (g : Log → Log) (e : Log) → e.site ≡ i → pick i g e ≡ g e
pick_here i g e same = ap (λ t. cond t (g e) e) (eq-eqb e.site i same)

pub pick_else : (i : ℕ) (g : Log → Log) (e : Log) → e.site ≢ i → pick i g e ≡ e
pick_else i g e other = ap (λ t. cond t (g e) e) (ne_eqb e.site i other)

module _ (views : List View) (seat : ℕ → ℕ) (logs : List Log) (S : Shared views seat logs) (id : ℕ) (v : View) (at : get_elem? views id ≡ some v) where
  -- the log of a site that this seat holds
  pub held : (e : Log) (i : ℕ) → Contains v.sites e → e.site ≡ i → (seat i ≡ id) × (get_elem? logs i ≡ some e)
  held e i c same = let k = (S.known id v at e).0 c in (subst (λ x. seat x ≡ id) same k.0, subst (λ x. get_elem? logs x ≡ some e) same k.1)

  pub only : (e x : Log) (i : ℕ) → Contains v.sites e → e.site ≡ i → Contains v.sites x → x.site ≡ i → x ≡ e
  only e x i c same d as_well = one_there logs i x e (held x i d as_well).1 (held e i c same).1

  module _ (i : ℕ) (e : Log) (g : Log → Log) (c : Contains v.sites e) (same : e.site ≡ i) (keeps : (x : Log) → (g x).site ≡ x.site) where
    mine : Knows seat (set logs i (g e)) id (changed i g v)
    mine y = (known, knows)
      where
        h : (seat i ≡ id) × (get_elem? logs i ≡ some e)
        h = held e i c same

        here : (seat (g e).site ≡ id) × (get_elem? (set logs i (g e)) (g e).site ≡ some (g e))
        here = subst (λ x. (seat x ≡ id) × (get_elem? (set logs i (g e)) x ≡ some (g e))) (sym (keeps e ∙ same)) (h.0, set_at logs i e (g e) h.1)

        known : Contains (on i g v.sites) y → (seat y.site ≡ id) × (get_elem? (set logs i (g e)) y.site ≡ some y)
        known d =
            let m = map_Contains (pick i g) v.sites y d in
            let x = m.0 in
            let k = (S.known id v at x).0 m.1 in
            dite (ℕ_discrete x.site i)
            (λ eq. subst (λ (z : Log). (seat z.site ≡ id) × (get_elem? (set logs i (g e)) z.site ≡ some z)) (ap g (sym (only e x i c same m.1 eq)) ∙ sym (pick_here i g x eq) ∙ m.2) here)
            (λ ne. subst (λ (z : Log). (seat z.site ≡ id) × (get_elem? (set logs i (g e)) z.site ≡ some z)) (sym (pick_else i g x ne) ∙ m.2) (k.0, set_else logs i x.site (g e) ne ∙ k.1))

        knows : seat y.site ≡ id → get_elem? (set logs i (g e)) y.site ≡ some y → Contains (on i g v.sites) y
        knows st there =
            ⊎_elim
            (λ (t : (y.site ≡ i) × (g e ≡ y)). subst (Contains (on i g v.sites)) (pick_here i g e same ∙ t.1) (Contains_map (pick i g) v.sites e c))
            (λ (t : (y.site ≢ i) × (get_elem? logs y.site ≡ some y)). subst (Contains (on i g v.sites)) (pick_else i g y t.0) (Contains_map (pick i g) v.sites y ((S.known id v at y).1 st t.1)))
            (at_set logs i y.site (g e) y there)

    others : (j : ℕ) (u : View) → j ≢ id → get_elem? views j ≡ some u → Knows seat (set logs i (g e)) j u
    others j u ne there y = (
      λ d. let k = (S.known j u there y).0 d in (k.0, set_else logs i y.site (g e) (λ (eq : y.site ≡ i). ne (sym k.0 ∙ ap seat eq ∙ (held e i c same).0)) ∙ k.1),
      λ st d. ⊎_elim (λ (t : (y.site ≡ i) × (g e ≡ y)). absurd (ne (sym st ∙ ap seat t.0 ∙ (held e i c same).0)))
          (λ (t : (y.site ≢ i) × (get_elem? logs y.site ≡ some y)). (S.known j u there y).1 st t.1) (at_set logs i y.site (g e) y d),
    )

    pub Shared_changed : Shared (set views id (changed i g v)) seat (set logs i (g e))
    Shared_changed = record {
      own = λ j x d. ⊎_elim (λ (t : (j ≡ i) × (g e ≡ x)). ap (λ (z : Log). z.site) (sym t.1) ∙ keeps e ∙ same ∙ sym t.0)
          (λ (t : (j ≢ i) × (get_elem? logs j ≡ some x)). S.own j x t.1) (at_set logs i j (g e) x d);
      seated = λ j h. subst (λ n. seat j < n) (sym (length-set views id (changed i g v))) (S.seated j (subst (λ n. j < n) (length-set logs i (g e)) h));
      known = all_set (Knows seat (set logs i (g e))) views id (changed i g v) mine others;
    }
