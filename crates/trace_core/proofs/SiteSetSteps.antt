-- Sets of sites as masks: a bit that is looked at, set and cleared, and the sites in their order.
use Rattle.std.proofs.Common.{◌≡◌, ◌==◌, ◌&&◌, ◌||◌, ◌<◌, ◌+◌, ◌*◌, ◌/◌, ◌%◌, ◌^◌, ◌-◌, ◌↔◌, ℕ, zero, suc, Bool, true, false, not, cond, nat_eq, nat_lt, bit_and, bit_or, List, [], ◌∷◌, ◌++◌, take, length, get_or, refl, sym, ap, ◌∙◌, subst, inl, inr, ⊎_elim, arith, append-nil}
use mathlib.Core.Bool.{false≢true}
use Rattle.std.specs.Int.{bit_at, w16}
use Rattle.std.specs.List.{Contains}
use Rattle.std.proofs.lemmas.Bool.{cases_Bool, cases_eq, cases_lt, and_parts, or_cases, eqb-true, eq-eqb, ne_eqb, ltb-true, lt-ltb}
use Rattle.std.proofs.lemmas.List.Elements.{Contains-append_left, Contains-append_right, Contains-append_cases}
use Rattle.std.proofs.lemmas.Nat.Bits.{bit_at-zero, shr_and_one, bit_at_set_same, bit_at_set_other, bit_at_clear_same, bit_at_clear_other}
use Rattle.trace_core.specs.SiteSets.{has_site, sites_below, sites_in}
use Rattle.trace_core.proofs.Booleans.{and_false, or_true}
use Rattle.trace_core.proofs.Members.{contains_here, contains_none, contains_cases}
use Rattle.trace_core.proofs.SetMembers.{contains_more}

-- nothing is in the set of no site
pub none_has : (t : ℕ) → has_site 0 t ≡ false
unfolding has_site
none_has t = ap (λ (b : ℕ). nat_lt t 16 && (b == 1)) (bit_at-zero t) ∙ and_false (nat_lt t 16)

-- no number from 16 on is
pub none_past : (mask t : ℕ) → nat_lt t 16 ≡ false → has_site mask t ≡ false
unfolding has_site
none_past mask t past = ap (λ b. b && (bit_at mask t == 1)) past

pub out_of : (mask t : ℕ) → (t < 16 → false ≡ true) → false ≡ has_site mask t
out_of mask t none = ⊎_elim (λ low. absurd (false≢true (none (ltb-true t 16 low)))) (λ past. sym (none_past mask t past)) (cases_Bool (nat_lt t 16))

module _ (mask n set site : ℕ) (same : n ≡ site) (small : n < 16) (is : mask ≡ set) where
  -- a site's bit tells
  pub bit_tells : nat_eq (bit_and (mask / 2 ^ n) 1) 1 ≡ has_site set site
  unfolding has_site
  bit_tells =
      ap (λ b. nat_eq b 1) (shr_and_one mask n)
      ∙ sym (ap (λ b. b && (bit_at mask n == 1)) (lt-ltb n 16 small))
      ∙ ap (λ (k : ℕ). nat_lt k 16 && (bit_at mask k == 1)) same
      ∙ ap (λ (m : ℕ). nat_lt site 16 && (bit_at m site == 1)) is

  -- with a site more
  pub bit_set : (t : ℕ) → has_site (bit_or mask (1 * 2 ^ n % 65536)) t ≡ ((site == t) || has_site set t)
  unfolding has_site
  bit_set t = ⊎_elim
      (λ here.
      ap (λ (k : ℕ). nat_lt k 16 && (bit_at (bit_or mask (1 * 2 ^ n % 65536)) k == 1)) here
      ∙ ap (λ (b : ℕ). nat_lt n 16 && (b == 1)) (bit_at_set_same w16 mask n small)
      ∙ ap (λ b. b && true) (lt-ltb n 16 small)
      ∙ sym (ap (λ b. b || has_site set t) (eq-eqb site t (sym same ∙ sym here))))
      (λ other.
      ap (λ (b : ℕ). nat_lt t 16 && (b == 1)) (bit_at_set_other w16 mask n small t other)
      ∙ ap (λ (m : ℕ). nat_lt t 16 && (bit_at m t == 1)) is
      ∙ sym (ap (λ b. b || has_site set t) (ne_eqb site t (λ e. other (sym e ∙ sym same)))))
      (cases_eq t n)

  -- with one less
  pub bit_cleared : (t : ℕ) → has_site (bit_and mask (65535 - 1 * 2 ^ n % 65536)) t ≡ (not (site == t) && has_site set t)
  unfolding has_site
  bit_cleared t = ⊎_elim
      (λ here.
      ap (λ (k : ℕ). nat_lt k 16 && (bit_at (bit_and mask (65535 - 1 * 2 ^ n % 65536)) k == 1)) here
      ∙ ap (λ (b : ℕ). nat_lt n 16 && (b == 1)) (bit_at_clear_same w16 mask n small)
      ∙ and_false (nat_lt n 16)
      ∙ sym (ap (λ b. not b && has_site set t) (eq-eqb site t (sym same ∙ sym here))))
      (λ other. ⊎_elim
      (λ low.
      ap (λ (b : ℕ). nat_lt t 16 && (b == 1)) (bit_at_clear_other w16 mask n small t (ltb-true t 16 low) other)
      ∙ ap (λ (m : ℕ). nat_lt t 16 && (bit_at m t == 1)) is
      ∙ sym (ap (λ b. not b && has_site set t) (ne_eqb site t (λ e. other (sym e ∙ sym same)))))
      (λ past.
      none_past (bit_and mask (65535 - 1 * 2 ^ n % 65536)) t past
      ∙ sym (ap (λ b. not b && has_site set t) (ne_eqb site t (λ e. other (sym e ∙ sym same))) ∙ none_past set t past))
      (cases_Bool (nat_lt t 16)))
      (cases_eq t n)

-- ---- the sites of a set

one_of : (b : Bool) (n t : ℕ) → Contains (cond b (n ∷ []) []) t → (b ≡ true) × (n ≡ t)
one_of true n t h = ⊎_elim (λ is. (refl, is)) (λ none. absurd (contains_none t none)) (contains_cases n t [] h)
one_of false n t h = absurd (contains_none t h)

pub one_below : (n mask : ℕ) → sites_below (n + 1) mask ≡ sites_below n mask ++ cond (has_site mask n) (n ∷ []) []
unfolding sites_below
one_below n mask = let more : n + 1 ≡ suc n = omega arith in ap (λ k. sites_below k mask) more

pub none_below : (mask : ℕ) → sites_below 0 mask ≡ []
unfolding sites_below
none_below mask = refl

pub no_sites : (n mask : ℕ) → ((t : ℕ) → has_site mask t ≡ false) → sites_below n mask ≡ []
unfolding sites_below
no_sites zero mask none = refl
no_sites (suc n) mask none = ap (λ b. sites_below n mask ++ cond b (n ∷ []) []) (none n) ∙ append-nil (sites_below n mask) ∙ no_sites n mask none

pub below_there : (n mask t : ℕ) → t < n → has_site mask t ≡ true → Contains (sites_below n mask) t
unfolding sites_below
below_there zero mask t below has = absurd (omega (arith, below))
below_there (suc n) mask t below has = ⊎_elim
    (λ low. Contains-append_left (sites_below n mask) (cond (has_site mask n) (n ∷ []) []) t (below_there n mask t low has))
    (λ past.
    let last : n ≡ t = omega (arith, below, past) in
    Contains-append_right (sites_below n mask) (cond (has_site mask n) (n ∷ []) []) t
    (subst (λ b. Contains (cond b (n ∷ []) []) t) (sym (ap (has_site mask) last ∙ has)) (subst (λ k. Contains (n ∷ []) k) last (contains_here n []))))
    (cases_lt t n)

pub below_has : (n mask t : ℕ) → Contains (sites_below n mask) t → has_site mask t ≡ true
unfolding sites_below
below_has zero mask t h = absurd (contains_none t h)
below_has (suc n) mask t h = ⊎_elim
    (λ low. below_has n mask t low)
    (λ last. let (has, is) = one_of (has_site mask n) n t last in ap (has_site mask) (sym is) ∙ has)
    (Contains-append_cases (sites_below n mask) (cond (has_site mask n) (n ∷ []) []) t h)

small_site : (mask t : ℕ) → has_site mask t ≡ true → t < 16
unfolding has_site
small_site mask t has = ltb-true t 16 (and_parts (nat_lt t 16) (bit_at mask t == 1) has).0

-- they are just those that are in it
pub in_set : (mask t : ℕ) → Contains (sites_in mask) t ↔ has_site mask t ≡ true
in_set mask t = (λ h. below_has 16 mask t h, λ has. below_there 16 mask t (small_site mask t has) has)

-- ---- a set that is filled from a list

pub no_member : (set : ℕ) → ((t : ℕ) → has_site set t ≡ false) → (t : ℕ) → has_site set t ≡ true ↔ Contains [] t
no_member set none t = (λ h. absurd (false≢true (sym (none t) ∙ h)), λ there. absurd (contains_none t there))

pub one_member : (set set' : ℕ) (sites : List ℕ) (n site : ℕ) → n < length sites → site ≡ get_or sites n site → ((t : ℕ) → has_site set' t ≡ ((site == t) || has_site set t))
    → ((t : ℕ) → has_site set t ≡ true ↔ Contains (take n sites) t) → (t : ℕ) → has_site set' t ≡ true ↔ Contains (take (n + 1) sites) t
one_member set set' sites n site below at added so_far t =
    let more = contains_more sites n site below at t in (
      λ h. more.1 (⊎_elim
          (λ now. inr (eqb-true site t now))
          (λ before. inl ((so_far t).0 before))
          (or_cases (site == t) (has_site set t) (sym (added t) ∙ h))),
      λ h. added t ∙ ⊎_elim
          (λ before. ap (λ b. (site == t) || b) ((so_far t).1 before) ∙ or_true (site == t))
          (λ now. ap (λ b. b || has_site set t) (eq-eqb site t now))
          (more.0 h),
    )
