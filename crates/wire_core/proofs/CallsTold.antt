-- What a call says of two sites, in terms of the mailbox between them.
use Rattle.std.proofs.Common.{◌≡◌, ◌≢◌, ◌↔◌, ℕ, ◌+◌, ◌<◌, ◌⊎◌, inl, inr, ⊎_elim, Bool, true, false, ◌&&◌, cond, nat_eq, List, [], ◌∷◌, ◌++◌, drop, get_or, length, filter, Contains, Some, None, zero, suc, Option as Maybe, sym, refl, ap, ◌∙◌, subst, arith, eq-eqb}
use Rattle.std.proofs.lemmas.List.Elements.{Contains-append_cases}
use Rattle.std.proofs.lemmas.List.{length_push}
use mathlib.Core.Option.{Option, some, none, some-injective, some-ne-none}
use lib.ListN.{get_elem?}
use Rattle.frame_core.specs.declared.frames.Frame.{Frame}
use Rattle.world_core.specs.Turns.{addressee}
use Rattle.wire_core.specs.declared.views.Log.{Log}
use Rattle.wire_core.specs.Between.{ShowsTheWay}
use Rattle.wire_core.specs.Changes.{AllBut, Level, OneMore, Sent}
use Rattle.wire_core.specs.Frames.{sender, way}
use Rattle.wire_core.specs.Laws.{CallsTellTheMailbox, TellTheMailbox}
use Rattle.wire_core.specs.Mailboxes.{slot_of, word_of}
use Rattle.wire_core.proofs.Between.{rule_holds_between}
use Rattle.wire_core.proofs.Lists.{Contains_at, at_Contains, in_way, there, within}

-- what a list of one and one of two contain
one_in : {A : Type 0} (x y : A) → Contains (x ∷ []) y → y ≡ x
one_in {A = A} x y c =
    let p = at_Contains (x ∷ []) y c in
    let h = within (x ∷ []) p.0 y p.1 in
    let z : p.0 ≡ 0 = omega arith in
    sym (some-injective x y (ap (get_elem? (x ∷ [])) (sym z) ∙ p.1))

two_in : {A : Type 0} (x z y : A) → Contains (x ∷ z ∷ []) y → (y ≡ x) ⊎ (y ≡ z)
two_in x z y c = ⊎_elim (λ (d : Contains (x ∷ []) y). inl (one_in x y d)) (λ (d : Contains (z ∷ []) y). inr (one_in z y d)) (Contains-append_cases (x ∷ []) (z ∷ []) y c)

-- what holds of the logs of two sites, where these are all
module _ (a b : Log) (apart : a.site ≢ b.site) (F : Log → Log → Type 0) where
  of_these : ((x y : Log) → Contains (a ∷ b ∷ []) x → x.site ≡ a.site → Contains (a ∷ b ∷ []) y → y.site ≡ b.site → F x y) → F a b
  of_these all = all a b (Contains_at (a ∷ b ∷ []) 0 a refl) refl (Contains_at (a ∷ b ∷ []) 1 b refl) refl

  of_all : F a b → (x y : Log) → Contains (a ∷ b ∷ []) x → x.site ≡ a.site → Contains (a ∷ b ∷ []) y → y.site ≡ b.site → F x y
  of_all fact x y cx sx cy sy =
      let ex : x ≡ a = ⊎_elim (λ (e : x ≡ a). e) (λ (e : x ≡ b). absurd (apart (sym sx ∙ ap (λ (z : Log). z.site) e))) (two_in a b x cx) in
      let ey : y ≡ b = ⊎_elim (λ (e : y ≡ a). absurd (apart (sym (ap (λ (z : Log). z.site) e) ∙ sy))) (λ (e : y ≡ b). e) (two_in a b y cy) in
      subst (λ (z : Log × Log). F z.0 z.1) (λ k. (sym ex k, sym ey k)) fact

-- a list ends in one way
last_is : {A : Type 0} (xs : List A) (x y : A) → xs ++ x ∷ [] ≡ xs ++ y ∷ [] → x ≡ y
last_is {A = A} [] x y e = ap (λ (l : List A). get_or l 0 x) e
last_is {A = A} (z ∷ zs) x y e = last_is zs x y (ap (λ (l : List A). drop 1 l) e)

-- the frame in a slot
in_slot : (f g : Frame) → some (some (Some f)) ≡ some (some (Some g)) → f ≡ g
in_slot f g e = ap (λ (s : Option (Option (Maybe Frame))). there_or s) e
  where
    in_hand : Maybe Frame → Frame
    in_hand None = f
    in_hand (Some x) = x

    held_or : Option (Maybe Frame) → Frame
    held_or none = f
    held_or (some h) = in_hand h

    there_or : Option (Option (Maybe Frame)) → Frame
    there_or none = f
    there_or (some s) = held_or s

-- one that passes is left
some_passes : (p : Frame → Bool) (fs : List Frame) (i : ℕ) (f : Frame) → get_elem? fs i ≡ some f → p f ≡ true → 0 < length (filter p fs)
some_passes p [] i f e passed = absurd (some-ne-none f (sym e))
some_passes p (x ∷ xs) zero f e passed = rw (ap p (some-injective x f e) ∙ passed) (omega arith)
some_passes p (x ∷ xs) (suc i) f e passed = by (p x) (some_passes p xs i f e passed)
  where
    by : (t : Bool) → 0 < length (filter p xs) → 0 < length (cond t (x ∷ filter p xs) (filter p xs))
    by true more = omega arith
    by false more = more

module _ (words : List ℕ) (homes : List (Option (Maybe Frame))) (a b : Log) (apart : a.site ≢ b.site) (shown : ShowsTheWay words homes a b) where
  sent : List Frame
  sent = way a.site b.site a.sent

  noted : List Frame
  noted = way a.site b.site b.noted

  is_full : Type 0
  is_full = get_elem? words (word_of a.site b.site) ≡ some 2

  lies : (f : Frame) → sent ≡ noted ++ f ∷ [] → is_full × (get_elem? homes (slot_of a.site b.site) ≡ some (some (Some f)))
  unfolding sent noted is_full
  lies f e =
      let full = shown.full.1 (ap length e ∙ length_push noted f) in
      let last = shown.frame full in
      (full, last.1 ∙ ap (λ g. some (some (Some g))) (last_is noted last.0 f (sym last.2 ∙ e)))

  ends : (f : Frame) → is_full → get_elem? homes (slot_of a.site b.site) ≡ some (some (Some f)) → sent ≡ noted ++ f ∷ []
  unfolding sent noted is_full
  ends f full slot =
      let last = shown.frame full in
      last.2 ∙ ap (λ (g : Frame). noted ++ g ∷ []) (in_slot last.0 f (sym last.1 ∙ slot))

  told : TellTheMailbox words homes a b
  unfolding sent noted is_full
  told = record {
    level = (
      (λ l full. let n = ap length (of_these a b apart (λ x y. way a.site b.site x.sent ≡ way a.site b.site y.noted) l) in let m = shown.full.0 full in absurd (omega arith)),
      (λ other. of_all a b apart (λ x y. way a.site b.site x.sent ≡ way a.site b.site y.noted) (shown.level other)),
    );
    more = (
      (λ o. shown.full.1 (of_these a b apart (λ x y. length (way a.site b.site x.sent) ≡ length (way a.site b.site y.noted) + 1) o)),
      (λ full. of_all a b apart (λ x y. length (way a.site b.site x.sent) ≡ length (way a.site b.site y.noted) + 1) (shown.full.0 full)),
    );
    last = λ f. (
      (λ o. lies f (of_these a b apart (λ x y. way a.site b.site x.sent ≡ way a.site b.site y.noted ++ f ∷ []) o)),
      (λ l. of_all a b apart (λ x y. way a.site b.site x.sent ≡ way a.site b.site y.noted ++ f ∷ []) (ends f l.0 l.1)),
    );
    sent = (
      (λ s. let f = there (way a.site b.site a.sent) 0 (s a (Contains_at (a ∷ []) 0 a refl) refl) in
          let p = in_way a.site b.site a.sent f.0 (Contains_at (way a.site b.site a.sent) 0 f.0 f.1) in (f.0, p.0, p.1, p.2)),
      (λ f x c same. subst (λ (z : Log). 0 < length (way a.site b.site z.sent)) (sym (one_in a x c)) (let at = at_Contains a.sent f.0 f.1 in some_passes (λ g. nat_eq (sender g) a.site && nat_eq (addressee g) b.site) a.sent at.0 f.0 at.1
          (ap (λ (t : Bool). t && nat_eq (addressee f.0) b.site) (eq-eqb _ _ f.2) ∙ eq-eqb _ _ f.3))),
    );
  }

pub calls_tell : CallsTellTheMailbox
calls_tell start s a b h ka kb apart = told s.words s.homes a b apart ((rule_holds_between start s h).mailboxes a b ka kb apart)
