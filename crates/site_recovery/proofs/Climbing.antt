-- The climb along parents takes at most as many steps as there are sites.
use Rattle.std.proofs.Common.{◌≡◌, ◌↔◌, inl, inr, ℕ, zero, suc, ◌+◌, ◌-◌, ◌<◌, ◌≤◌, Bool, true, false, cond, ◌||◌, List, [], ◌∷◌, length, Option, Some, None, refl, sym, ap, ◌∙◌, subst, arith, eqb, eqb-true, eq-eqb, ne_eqb, true≢false}
use Rattle.std.specs.Prelude.{IsTrue}
use Rattle.std.specs.List.{IsDistinct, AllByRecursion, list_any}
use Rattle.std.proofs.lemmas.List.{get_or_past}
use Rattle.std.proofs.lemmas.Map.Steps.{length-le_from_distinct_below}
use Rattle.frame_core.specs.Numbers.{Recall, Message}
use Rattle.site_core.specs.Records.{Record, fresh}
use Rattle.site_recovery.specs.Fit.{Climbs, LeadsHome}
use Rattle.site_recovery.specs.Looks.{World, world_of, parent}
use Rattle.site_recovery.proofs.Absent.{no_parent}
use Rattle.site_recovery.proofs.Exact.{within_or_past}

module _ (W : World) (r : Recall) where
  -- whether the climb comes to the initiator in so many steps
  abbrev pub reaches : ℕ → ℕ → Bool
  reaches zero s = eqb s r.site
  reaches (suc k) s = cond (eqb s r.site) true (elim (parent W s r) [ None ↦ false | Some m ↦ reaches k m.site ])

  pub climbs_unique : (k h s : ℕ) → Climbs W r k s → Climbs W r h s → k ≡ h
  climbs_unique zero zero s c d = refl
  climbs_unique zero (suc h) s c d = absurd (d.3 c)
  climbs_unique (suc k) zero s c d = absurd (c.3 d)
  climbs_unique (suc k) (suc h) s c d =
      let one : c.0 ≡ d.0 = let e : Some c.0 ≡ Some d.0 = sym c.1 ∙ d.1 in cc in
      ap suc (climbs_unique k h d.0.site (subst (λ (m : Message). Climbs W r k m.site) one c.2) d.2)

  -- the engaged sites on the way
  abbrev way : (k s : ℕ) → Climbs W r k s → List ℕ
  way zero s c = []
  way (suc k) s c = s ∷ way k c.0.site c.2

  way-length : (k s : ℕ) (c : Climbs W r k s) → length (way k s c) ≡ k
  way-length zero s c = refl
  way-length (suc k) s c = ap suc (way-length k c.0.site c.2)

  -- each is nearer to the initiator than the one before it
  way-far : (k s : ℕ) (c : Climbs W r k s) (h : ℕ) → k < h → (x : ℕ) → Climbs W r h x → AllByRecursion (λ y. eqb x y ≡ false) (way k s c)
  way-far zero s c h l x d = tt
  way-far (suc k) s c h l x d = (
    ne_eqb x s (λ e. let same = climbs_unique (suc k) h s c (subst (λ z. Climbs W r h z) e d) in omega (arith, same, l)),
    way-far k c.0.site c.2 h (omega (arith, l)) x d,
  )

  way-distinct : (k s : ℕ) (c : Climbs W r k s) → IsDistinct eqb (way k s c)
  unfolding IsDistinct
  way-distinct zero s c = tt
  way-distinct (suc k) s c = (way-far k c.0.site c.2 (suc k) (omega arith) s c, way-distinct k c.0.site c.2)

  module _ (n : ℕ) (below : (s : ℕ) (m : Message) → parent W s r ≡ Some m → s < n) where
    way-below : (k s : ℕ) (c : Climbs W r k s) → (q : ℕ) → list_any (eqb q) (way k s c) ≡ true → q < n
    way-below zero s c q h = absurd (true≢false (sym h))
    way-below (suc k) s c q h =
        elim (eqb q s) as (λ b. eqb q s ≡ b → (b || list_any (eqb q) (way k c.0.site c.2)) ≡ true → q < n) [
          | true ↦ λ e _. subst (λ z. z < n) (sym (eqb-true q s e)) (below s c.0 c.1)
          | false ↦ λ _ g. way-below k c.0.site c.2 q g
        ] refl h

    pub climbs_short : (k s : ℕ) → Climbs W r k s → k ≤ n
    climbs_short k s c =
        let short = length-le_from_distinct_below (way k s c) n (way-distinct k s c) (way-below k s c) in
        let long = way-length k s c in
        omega (arith, short, long)

  pub reaches_climbs : (n s : ℕ) → reaches n s ≡ true → LeadsHome W r s
  reaches_climbs zero s h = (zero, eqb-true s r.site h)
  reaches_climbs (suc n) s h =
      elim (eqb s r.site) as (λ b. eqb s r.site ≡ b → cond b true (elim (parent W s r) [ None ↦ false | Some m ↦ reaches n m.site ]) ≡ true → LeadsHome W r s) [
        | true ↦ λ e _. (zero, eqb-true s r.site e)
        | false ↦ λ e g. elim (parent W s r) as (λ p. parent W s r ≡ p → (elim p [ None ↦ false | Some m ↦ reaches n m.site ]) ≡ true → LeadsHome W r s) [
          | None ↦ λ _ f. absurd (true≢false (sym f))
          | Some m ↦ λ p f. let up = reaches_climbs n m.site f in (suc up.0, (m, p, up.1, λ same. true≢false (sym (eq-eqb s r.site same) ∙ e)))
        ] refl g
      ] refl h

  climbs_reaches : (n k s : ℕ) → k ≤ n → Climbs W r k s → reaches n s ≡ true
  climbs_reaches zero zero s l c = eq-eqb s r.site c
  climbs_reaches zero (suc k) s l c = absurd (omega (arith, l))
  climbs_reaches (suc n) zero s l c = rw (eq-eqb s r.site c) refl
  climbs_reaches (suc n) (suc k) s l c = rw (ne_eqb s r.site c.3) (rw c.1 (climbs_reaches n k c.0.site (omega (arith, l)) c.2))

  pub short_climbs_reach : (n : ℕ) → ((s : ℕ) (m : Message) → parent W s r ≡ Some m → s < n) → (s : ℕ) → LeadsHome W r s → reaches n s ≡ true
  short_climbs_reach n below s (k, c) = climbs_reaches n k s (climbs_short n below k s c) c

-- a site that is engaged is of the list
pub engaged_below : (records : List Record) (r : Recall) (s : ℕ) (m : Message) → parent (world_of records) s r ≡ Some m → s < length records
engaged_below records r s m e = elim (within_or_past s (length records)) as (λ _. s < length records) [
  | inl below ↦ below
  | inr past ↦ absurd (let none : None ≡ Some m = no_parent (world_of records) s (get_or_past records s (fresh [] s) past) r ∙ e in cc)
]

-- the climb from the site `start`, which has come to the site `here` after so many of n steps
module _ (W : World) (r : Recall) (n counter here start : ℕ) (so_far : reaches W r (n - counter) here ≡ reaches W r n start) where
  left_over : counter < n → reaches W r (suc (n - (counter + 1))) here ≡ reaches W r n start
  left_over low = let next : suc (n - (counter + 1)) ≡ n - counter = omega (arith, low) in ap (λ k. reaches W r k here) next ∙ so_far

  pub home_now : counter < n → eqb here r.site ≡ true → true ≡ reaches W r n start
  home_now low home = sym (ap (λ b. cond b true (elim (parent W here r) [ None ↦ false | Some m ↦ reaches W r (n - (counter + 1)) m.site ])) home) ∙ left_over low

  pub stuck_now : counter < n → eqb here r.site ≡ false → None ≡ parent W here r → false ≡ reaches W r n start
  stuck_now low away none =
      sym (ap (λ b. cond b true (elim (parent W here r) [ None ↦ false | Some m ↦ reaches W r (n - (counter + 1)) m.site ])) away
      ∙ ap (λ (p : Option Message). elim p [ None ↦ false | Some m ↦ reaches W r (n - (counter + 1)) m.site ]) (sym none))
      ∙ left_over low

  pub one_up : counter < n → eqb here r.site ≡ false → (m : Message) → Some m ≡ parent W here r → reaches W r (n - (counter + 1)) m.site ≡ reaches W r n start
  one_up low away m up =
      sym (ap (λ b. cond b true (elim (parent W here r) [ None ↦ false | Some m ↦ reaches W r (n - (counter + 1)) m.site ])) away
      ∙ ap (λ (p : Option Message). elim p [ None ↦ false | Some m ↦ reaches W r (n - (counter + 1)) m.site ]) (sym up))
      ∙ left_over low

  pub at_end : n ≤ counter → eqb here r.site ≡ reaches W r n start
  at_end past = let none : zero ≡ n - counter = omega (arith, past) in ap (λ k. reaches W r k here) none ∙ so_far

-- the test decides whether parents lead home
pub home_decided : (records : List Record) (r : Recall) (s : ℕ) (b : Bool) → b ≡ reaches (world_of records) r (length records) s → IsTrue b ↔ LeadsHome (world_of records) r s
home_decided records r s b is = (
  λ h. reaches_climbs (world_of records) r (length records) s (sym is ∙ h),
  λ c. is ∙ short_climbs_reach (world_of records) r (length records) (engaged_below records r) s c,
)
