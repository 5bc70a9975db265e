-- Records in their places.
use Rattle.std.proofs.Common.{◌≡◌, ◌↔◌, ℕ, zero, suc, ◌+◌, ◌<◌, ◌≤◌, Bool, true, false, IsTrue, nat_eq, Some, None, List, [], ◌∷◌, length, get_or, map, refl, sym, ◌∙◌, ap, subst, inl, inr, ⊎_elim, arith, slice_get}
use mathlib.Core.Bool.{false≢true}
use Rattle.std.specs.Cmp.Lexicographic.{pointwise}
use Rattle.std.specs.Option.{option_map}
use Rattle.std.proofs.lemmas.Bool.{cases_eq}
use Rattle.std.proofs.lemmas.Bool.Decides.{Decides-eqb}
use Rattle.std.proofs.lemmas.Option.{same_Some, slice_get-get_or, slice_get-map, slice_get_read, slice_get_within}
use Rattle.event_json.specs.Contents.{same_site}
use Rattle.event_json.specs.Sites.{Site}
use Rattle.event_json.proofs.ContentLaws.{lists_decide}
use Rattle.site_core.specs.Records.{Record, IsSound, fresh}
use Rattle.site_recovery.specs.FittingAt.{AreAllSites}
use Rattle.site_recovery.specs.Looks.{world_of}
use Rattle.world_core.specs.Faults.{IsPlacedAmong, AreOneWorld, StandsRight, IsFirstOther}

-- One place after another.

pub there : {X : Type 0} (f : X → Record) (xs : List X) (i : ℕ) (x : X) → i < length xs → x ≡ get_or xs i x → slice_get (map f xs) i ≡ Some (f x)
there f xs i x below is = slice_get-map f xs i ∙ ap (option_map f) (slice_get_read xs (length xs) i x refl below is)

pub first_there : {X : Type 0} (f : X → Record) (xs : List X) (x : X) → Some x ≡ slice_get xs 0 → slice_get (map f xs) 0 ≡ Some (f x)
first_there f xs x is = slice_get-map f xs 0 ∙ ap (option_map f) (sym is)

-- what holds before a place, and in it, holds before the next one
pub one_more : (P : ℕ → Record → Type 0) (rs : List Record) (i : ℕ) (x : Record) → slice_get rs i ≡ Some x → ((p : ℕ) (r : Record) → p < i → slice_get rs p ≡ Some r → P p r) → P i x → (p : ℕ) (r : Record) → p < i + 1 → slice_get rs p ≡ Some r → P p r
one_more P rs i x at h here p r below e =
    ⊎_elim
    (λ same. subst (λ k. P k r) (sym same) (subst (P i) (same_Some x r (sym at ∙ subst (λ k. slice_get rs k ≡ Some r) same e)) here))
    (λ ne. h p r (omega (arith, below, ne)) e)
    (cases_eq p i)

-- where all places were seen, it holds in all
pub all_places : (P : ℕ → Record → Type 0) (rs : List Record) (i : ℕ) → length rs ≤ i → ((p : ℕ) (r : Record) → p < i → slice_get rs p ≡ Some r → P p r) → (p : ℕ) (r : Record) → slice_get rs p ≡ Some r → P p r
all_places P rs i past h p r e = h p r (omega (arith, past, slice_get_within rs p r e)) e

some_there : (rs : List Record) (p : ℕ) → p < length rs → (r : Record) × (slice_get rs p ≡ Some r)
some_there [] p below = absurd (omega (arith, below))
some_there (r ∷ rs) zero below = (r, refl)
some_there (r ∷ rs) (suc p) below = some_there rs p (omega (arith, below))

-- A record in its place.

pub in_place : (sites lent : List Site) (place n me : ℕ) (r : Record) (eq : Bool) → lent ≡ r.sites → eq ≡ pointwise same_site lent sites → eq ≡ true → me ≡ r.engagement.me → n ≡ me → IsTrue (nat_eq n place) ↔ IsPlacedAmong sites place r
in_place sites lent place n me r eq l e t m k =
    (λ h. (sym l ∙ (lists_decide lent sites).0 (sym e ∙ t), sym m ∙ sym k ∙ (Decides-eqb n place).0 h), λ h. (Decides-eqb n place).1 (k ∙ m ∙ h.1))

pub of_other_sites : (sites lent : List Site) (place : ℕ) (r : Record) (eq : Bool) → lent ≡ r.sites → eq ≡ pointwise same_site lent sites → eq ≡ false → IsTrue eq ↔ IsPlacedAmong sites place r
of_other_sites sites lent place r eq l e f = (λ h. absurd (false≢true (sym f ∙ h)), λ h. e ∙ (lists_decide lent sites).1 (l ∙ h.0))

pub within_sites : (sites : List Site) (place : ℕ) (r : Record) → IsSound r → IsPlacedAmong sites place r → place < length sites
within_sites sites place r sound h = subst (λ n. n < length sites) h.1 (subst (λ l. r.engagement.me < length l) h.0 sound.me)

-- All records in their places.

abbrev pub AreInPlaceTo : List Site → ℕ → List Record → Type 0
AreInPlaceTo sites i rs = (p : ℕ) (r : Record) → p < i → slice_get rs p ≡ Some r → IsPlacedAmong sites p r

stands_right : (rs : List Record) (first : Record) (i : ℕ) → slice_get rs 0 ≡ Some first → i ≤ length rs → AreInPlaceTo first.sites i rs → (p : ℕ) → p < i → StandsRight rs p
stands_right rs first i at le h p below =
    let r = some_there rs p (omega (arith, le, below)) in
    (first, r.0, at, r.1, h p r.0 below r.1)

pub none_first : (rs : List Record) → rs ≡ [] → IsFirstOther rs 0
none_first rs e = record {
  before = λ p below. absurd (omega (arith, below));
  here = λ s. let n : None ≡ Some s.0 = ap (λ l. slice_get l 0) (sym e) ∙ s.2 in cc;
  meant = λ first at. let n : None ≡ Some first = ap (λ l. slice_get l 0) (sym e) ∙ at in cc;
}

pub other_here : (rs : List Record) (first r : Record) (i : ℕ) → slice_get rs 0 ≡ Some first → slice_get rs i ≡ Some r → AreInPlaceTo first.sites i rs → (IsPlacedAmong first.sites i r → ⊥) → IsFirstOther rs i
other_here rs first r i at is h not_here = record {
  before = stands_right rs first i at (omega (arith, slice_get_within rs i r is)) h;
  here = λ s.
      let same : s.0 ≡ first = same_Some s.0 first (sym s.2 ∙ at) in
      let one : s.1 ≡ r = same_Some s.1 r (sym s.3 ∙ is) in
      not_here (subst (λ x. IsPlacedAmong first.sites i x) one (subst (λ x. IsPlacedAmong x.sites i s.1) same s.4));
  meant = λ f e. inl (slice_get_within rs i r is);
}

pub wanting : (rs : List Record) (first : Record) (i : ℕ) → slice_get rs 0 ≡ Some first → i ≡ length rs → AreInPlaceTo first.sites i rs → i < length first.sites → IsFirstOther rs i
wanting rs first i at e h less = record {
  before = stands_right rs first i at (omega (arith, e)) h;
  here = λ s. absurd (omega (arith, e, slice_get_within rs i s.1 s.3));
  meant = λ f is. inr (subst (λ x. i < length x.sites) (same_Some first f (sym at ∙ is)) less);
}

all_of : (rs : List Record) (first : Record) → slice_get rs 0 ≡ Some first → length rs ≡ length first.sites → AreInPlaceTo first.sites (length rs) rs → AreOneWorld rs
all_of rs first at number h = (first, at, record { number = number; each = all_places (IsPlacedAmong first.sites) rs (length rs) (omega arith) h })

-- the same of what references show
pub one_world : {X : Type 0} (xs : List X) (f : X → Record) (first : X) (sites : List Site) → Some first ≡ slice_get xs 0 → sites ≡ (f first).sites → length (map f xs) ≡ length sites → AreInPlaceTo sites (length (map f xs)) (map f xs) → AreOneWorld (map f xs)
one_world xs f first sites is lent number h =
    all_of (map f xs) (f first) (first_there f xs first is) (number ∙ ap length lent) (subst (λ l. AreInPlaceTo l (length (map f xs)) (map f xs)) lent h)

-- records in their places, each of them sound, are those of all sites
pub all_sites : (rs : List Record) → AreOneWorld rs → ((p : ℕ) (r : Record) → slice_get rs p ≡ Some r → IsSound r) → AreAllSites rs
all_sites rs one sound s below =
    let r = world_of rs s in
    let at : slice_get rs s ≡ Some r = slice_get-get_or rs s (fresh [] s) below in
    let right = one.2.each s r at in
    let is = sound s r at in
    record {
      place = record { captured = is.one_site ∙ right.1; engagement = right.1 };
      sound = is;
      all = ap length right.0 ∙ sym one.2.number;
    }

-- where all records are of one world, no place is another's
pub none_other : (rs : List Record) → AreOneWorld rs → (place : ℕ) → IsFirstOther rs place → ⊥
none_other rs one place other =
    let below : place < length rs = ⊎_elim (λ h. h) (λ h. subst (λ n. place < n) (sym one.2.number) h) (other.meant one.0 one.1) in
    let r = some_there rs place below in
    other.here (one.0, r.0, one.1, r.1, one.2.each place r.0 r.1)
