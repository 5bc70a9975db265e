-- Sites that are left, as one condition after another takes some away.
use Rattle.std.proofs.Common.{◌≡◌, ◌↔◌, inl, inr, ℕ, ◌+◌, ◌<◌, ◌≤◌, Bool, false, List, [], ◌∷◌, ◌++◌, length, get_or, slice_set, refl, sym, ap, ◌∙◌, subst, ⊎_elim, arith, append_assoc}
use mathlib.Core.Bool.{false≢true}
use Rattle.std.specs.List.{Contains}
use Rattle.std.specs.Prelude.{IsTrue}
use Rattle.std.proofs.lemmas.List.{append-nil, get_or-set_other, get_or-set_same, get_or_past}
use Rattle.trace_core.proofs.Members.{contains_none}
use Rattle.trace_core.proofs.SetMembers.{contains_pushed}
use Rattle.site_core.proofs.OneAfterAnother.{lower_or_last}
use Rattle.site_recovery.specs.Checking.{Narrows, NarrowsAt}
use Rattle.site_recovery.proofs.OneSite.{one_place}

-- One site.

pub keeps_at : (place : ℕ) (P : Type 0) (old : List Bool) → P → NarrowsAt place P old old
keeps_at place P old p = record { here = (λ h. (h, p), λ h. h.0); others = λ s apart. refl }

pub taken_at : (place : ℕ) (P : Type 0) (old new : List Bool) → (P → ⊥) → NarrowsAt place ⊥ old new → NarrowsAt place P old new
taken_at place P old new none a = record { here = (λ h. absurd (a.here.0 h).1, λ h. absurd (none h.1)); others = a.others }

pub set_false : (place : ℕ) (old : List Bool) → place < length old → NarrowsAt place ⊥ old (slice_set old place false)
set_false place old below = record {
  here = (λ h. absurd (false≢true (sym (get_or-set_same old place false false below) ∙ h)), λ h. absurd h.1);
  others = λ s apart. get_or-set_other old place s false false apart;
}

pub past_false : (place : ℕ) (old : List Bool) → length old ≤ place → NarrowsAt place ⊥ old old
past_false place old past = record {
  here = (λ h. absurd (false≢true (sym (get_or_past old place false past) ∙ h)), λ h. absurd h.1);
  others = λ s apart. refl;
}

-- Several.

module _ (n : ℕ) where
  pub narrows_nothing : (P : ℕ → Type 0) (old : List Bool) → ((s : ℕ) → s < n → P s) → Narrows n P old old
  narrows_nothing P old all s below = (λ h. (h, all s below), λ h. h.0)

  pub narrows_alike : (P Q : ℕ → Type 0) (old new : List Bool) → ((s : ℕ) → s < n → P s ↔ Q s) → Narrows n P old new → Narrows n Q old new
  narrows_alike P Q old new same a s below = (
    λ h. let (was, p) = (a s below).0 h in (was, (same s below).0 p),
    λ (was, q). (a s below).1 (was, (same s below).1 q),
  )

  pub narrows_then : (P Q : ℕ → Type 0) (old mid new : List Bool) → Narrows n P old mid → Narrows n Q mid new → Narrows n (λ s. P s × Q s) old new
  narrows_then P Q old mid new first second s below = (
    λ h. let (between, q) = (second s below).0 h in let (was, p) = (first s below).0 between in (was, (p, q)),
    λ (was, (p, q)). (second s below).1 ((first s below).1 (was, p), q),
  )

  -- place after place
  pub one_place_more : (P : ℕ → Type 0) (start old new : List Bool) (place : ℕ) → Narrows n (λ s. s < place → P s) start old → NarrowsAt place (P place) old new → Narrows n (λ s. s < place + 1 → P s) start new
  one_place_more P start old new place before at s below = ⊎_elim
      (λ here. (
        λ h.
            let (was, p) = at.here.0 (subst (λ k. IsTrue (get_or new k false)) here h) in
            let (begun, sooner) = (before s below).0 (subst (λ k. IsTrue (get_or old k false)) (sym here) was) in
            (begun, λ low. subst P (sym here) p),
        λ (begun, all). subst (λ k. IsTrue (get_or new k false)) (sym here)
            (at.here.1 (subst (λ k. IsTrue (get_or old k false)) here ((before s below).1 (begun, λ low. all (omega (arith, low)))), subst P here (all (omega (arith, here))))),
      ))
      (λ apart. (
        λ h.
            let (begun, sooner) = (before s below).0 (subst (λ b. IsTrue b) (at.others s apart) h) in
            (begun, λ low. ⊎_elim (λ lower. sooner lower) (λ last. absurd (apart last)) (lower_or_last s place low)),
        λ (begun, all). subst (λ b. IsTrue b) (sym (at.others s apart)) ((before s below).1 (begun, λ low. all (omega (arith, low)))),
      ))
      (one_place s place)

  -- element after element
  module _ {X : Type 0} (P : X → ℕ → Type 0) (whole : List X) (start : List Bool) where
    pub record SoFar (left : List X) (now : List Bool) : Type 0 where
      pub done : List X
      pub parted : whole ≡ done ++ left
      pub narrowed : Narrows n (λ s. (x : X) → Contains done x → P x s) start now

    pub none_yet : (left : List X) → left ≡ whole → SoFar left start
    none_yet left same = record {
      done = [];
      parted = sym same;
      narrowed = narrows_nothing (λ s. (x : X) → Contains [] x → P x s) start (λ s below x at. absurd (contains_none x at));
    }

    pub one_further : (before left : List X) (x : X) (mid new : List Bool) → before ≡ x ∷ left → Narrows n (P x) mid new → SoFar before mid → SoFar left new
    one_further before left x mid new next a so_far = record {
      done = so_far.done ++ x ∷ [];
      parted = so_far.parted ∙ ap (λ xs. so_far.done ++ xs) next ∙ sym (append_assoc so_far.done (x ∷ []) left);
      narrowed = narrows_alike (λ s. ((y : X) → Contains so_far.done y → P y s) × P x s) (λ s. (y : X) → Contains (so_far.done ++ x ∷ []) y → P y s) start new
          (λ s below. (
            λ (sooner, now) y at. ⊎_elim (λ earlier. sooner y earlier) (λ same. subst (λ z. P z s) same now) ((contains_pushed so_far.done x y).0 at),
            λ all. (λ y at. all y ((contains_pushed so_far.done x y).1 (inl at)), all x ((contains_pushed so_far.done x x).1 (inr refl))),
          ))
          (narrows_then (λ s. (y : X) → Contains so_far.done y → P y s) (P x) start mid new so_far.narrowed a);
    }

    pub all_done : (left : List X) (now : List Bool) → left ≡ [] → SoFar left now → Narrows n (λ s. (x : X) → Contains whole x → P x s) start now
    all_done left now none so_far =
        let all : whole ≡ so_far.done = so_far.parted ∙ ap (λ xs. so_far.done ++ xs) none ∙ append-nil so_far.done in
        subst (λ xs. Narrows n (λ s. (x : X) → Contains xs x → P x s) start now) (sym all) so_far.narrowed
