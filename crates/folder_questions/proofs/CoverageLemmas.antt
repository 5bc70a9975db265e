-- the first and the last of some events, one event after another
use Rattle.std.proofs.Common.{◌≡◌, ◌≤ℤ◌, int_lt, if◌then◌else◌, ℤ, pos, negsuc, T, not, Bool, true, false, List, [], ◌∷◌, ◌++◌, Option, Some, None, map, refl, sym, subst, inl, ⊎_elim}
use lib.Dec.{leb→le, le→leb, ltb→lt}
use lib.Signed.{≤ℤ_refl, le_z, lt_z, lt_z_no}
use native.Mathlib.Nat.{le_of_lt, le_trans}
use Rattle.std.specs.List.{AllZip, Contains}
use Rattle.std.proofs.lemmas.List.Elements.{Contains-push}
use Rattle.event_json.specs.Events.{Content}
use Rattle.trace_core.proofs.Members.{contains_none}
use Rattle.trace_core.proofs.SetMembers.{contains_pushed}
use Rattle.folder_questions.specs.Coverage.{IsAtEnd, IsEnd, further, is_beyond}

trans' : (a b c : ℤ) → T (le_z a b) → T (le_z b c) → T (le_z a c)
trans' (pos a) (pos b) (pos c) h k = le→leb a c (le_trans (leb→le a b h) (leb→le b c k))
trans' (pos a) (pos b) (negsuc c) h k = k
trans' (pos a) (negsuc b) c h k = absurd h
trans' (negsuc a) (pos b) (pos c) h k = tt
trans' (negsuc a) (pos b) (negsuc c) h k = absurd k
trans' (negsuc a) (negsuc b) (pos c) h k = tt
trans' (negsuc a) (negsuc b) (negsuc c) h k = le→leb c a (le_trans (leb→le c b k) (leb→le b a h))

in_turn : {a b c : ℤ} → a ≤ℤ b → b ≤ℤ c → a ≤ℤ c
in_turn {a} {b} {c} h k = record { le = trans' a b c h.le k.le }

weak' : (a b : ℤ) → T (lt_z a b) → T (le_z a b)
weak' (pos a) (pos b) h = le→leb a b (le_of_lt (ltb→lt a b h))
weak' (pos a) (negsuc b) h = h
weak' (negsuc a) (pos b) h = tt
weak' (negsuc a) (negsuc b) h = le→leb b a (le_of_lt (ltb→lt b a h))

less : {a b : ℤ} → int_lt a b ≡ true → a ≤ℤ b
less {a} {b} h = record { le = weak' a b (subst (λ t. T t) (sym h) tt) }

not_less : {a b : ℤ} → int_lt a b ≡ false → b ≤ℤ a
not_less h = lt_z_no (subst (λ t. T (not t)) (sym h) tt)

-- an event that lies further on is at the end of what the other one was
beyond_all : (last : Bool) (end e y : Content) → is_beyond last end e ≡ true → IsAtEnd last end y → IsAtEnd last e y
beyond_all false end e y is at = in_turn (less is) at
beyond_all true end e y is at = in_turn at (less is)

not_beyond : (last : Bool) (end e : Content) → is_beyond last end e ≡ false → IsAtEnd last end e
not_beyond false end e is = not_less is
not_beyond true end e is = not_less is

at_itself : (last : Bool) (e : Content) → IsAtEnd last e e
at_itself false e = ≤ℤ_refl e.instant
at_itself true e = ≤ℤ_refl e.instant

-- one event more
pub end_more : (last : Bool) (events : List Content) (e : Content) (end : Option Content) → IsEnd last events end → IsEnd last (events ++ e ∷ []) (Some (further last end e))
end_more last events e None none = (
  Contains-push events e,
  λ y h. ⊎_elim
      (λ before. absurd (contains_none y (subst (λ (es : List Content). Contains es y) none before)))
      (λ same. subst (IsAtEnd last e) same (at_itself last e))
      ((contains_pushed events e y).0 h),
)
end_more last events e (Some end) (there, all) = by_case (is_beyond last end e) refl
  where
    by_case : (b : Bool) → is_beyond last end e ≡ b → IsEnd last (events ++ e ∷ []) (Some (if b then e else end))
    by_case true is = (
      Contains-push events e,
      λ y h. ⊎_elim (λ before. beyond_all last end e y is (all y before)) (λ same. subst (IsAtEnd last e) same (at_itself last e)) ((contains_pushed events e y).0 h),
    )
    by_case false is = (
      (contains_pushed events e end).1 (inl there),
      λ y h. ⊎_elim (λ before. all y before) (λ same. subst (IsAtEnd last end) same (not_beyond last end e is)) ((contains_pushed events e y).0 h),
    )

-- of what a list is made, so it is of the list
pub zip_mapped : {X Y Z : Type 0} (f : X → Y) (R : Y → Z → Type 0) (xs : List X) (zs : List Z) → AllZip (λ x z. R (f x) z) xs zs → AllZip R (map f xs) zs
zip_mapped f R [] [] h = tt
zip_mapped f R (x ∷ xs) (z ∷ zs) h = (h.0, zip_mapped f R xs zs h.1)
zip_mapped f R [] (z ∷ zs) h = absurd h
zip_mapped f R (x ∷ xs) [] h = absurd h
