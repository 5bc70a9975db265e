-- Sites by their names, and what tells a name from the number behind it.
use Rattle.std.proofs.Common.{Bor, ap₂, ◌≡◌, ◌<◌, ◌^◌, ℕ, zero, suc, Bool, true, false, Option, Some, None, List, [], ◌∷◌, ◌++◌, length, map, drop, get_or, refl, sym, ap, ◌∙◌, subst, arith, decimal}
use mathlib.Core.Bool.{true≢false}
use Rattle.std.specs.Prelude.{MatchOption, bytes_eq, is_some, slice_get}
use Rattle.std.specs.List.{list_all, list_any}
use Rattle.std.proofs.lemmas.Bool.{and_parts}
use Rattle.std.proofs.lemmas.List.Quantifiers.{position-Some}
use Rattle.std.proofs.lemmas.List.Sums.{AllPass-from_list_all}
use Rattle.std.proofs.lemmas.Option.{slice_get-get_or}
use Rattle.std.proofs.lemmas.Fmt.{decimal_injective}
use Rattle.std.proofs.lemmas.Str.Pattern.{IsSplitOnceResult, split_after}
use Rattle.std.proofs.lemmas.Slice.Eq.{bytes_eq-Decides}
use Rattle.epc_core.specs.Items.{is_plain}
use Rattle.event_json.specs.Sites.{AreSites, Site, is_name_byte, is_site_name, named, repeats}
use Rattle.event_json.proofs.Apart.{is_some-position, neither}
use Rattle.frame_lines.specs.Finding.{Finds}
use Rattle.frame_core.specs.Numbers.{Message, Recall}
use Rattle.frame_lines.specs.Lines.{IsMessageOf, IsRecallOf}
use Rattle.recall_text.specs.Words.{message_text, name_at, recall_text}
use Rattle.frame_lines.proofs.SumLemmas.{name_there, site_good, stands}

-- what no element answers to, none answers to
none_answers : {X : Type 0} (p : X → Bool) (xs : List X) (k : ℕ) (x : X) → list_any p xs ≡ false → slice_get xs k ≡ Some x → p x ≡ true → ⊥
none_answers p [] k x none at holds = cc
none_answers p (y ∷ ys) zero x none at holds =
    let same : y ≡ x = cc in
    true≢false (sym holds ∙ ap p (sym same) ∙ (neither (p y) (list_any p ys) none).0)
none_answers p (y ∷ ys) (suc k) x none at holds = none_answers p ys k x (neither (p y) (list_any p ys) none).1 at holds

-- the site that a name names has it, and where it names none no site has it
pub name_found : (sites : List Site) (name : List ℕ) (o : Option ℕ) → o ≡ named sites name → Finds (λ n. (n < length sites) × (name ≡ name_at sites n)) o
unfolding named
name_found sites name None is = λ n (low, same).
    let test = λ (s : Site). bytes_eq s.name name in
    let site = stands sites n low in
    let none : list_any test sites ≡ false = sym (is_some-position test sites) ∙ ap is_some (sym is) in
    none_answers test sites n site.0 none site.1 ((bytes_eq-Decides site.0.name name).1 (sym (same ∙ name_there sites n site.0 site.1)))
name_found sites name (Some n) is =
    let other : Site = record { name = []; addresses = [] } in
    let at = position-Some (λ (s : Site). bytes_eq s.name name) sites n other (sym is) in
    let there = slice_get-get_or sites n other at.0 in
    (at.0, sym (name_there sites n _ there ∙ (bytes_eq-Decides (get_or sites n other).name name).0 at.1))

-- the bytes of a site's name
pub name_bytes : (sites : List Site) (n : ℕ) → AreSites sites → n < length sites → list_all is_name_byte (name_at sites n) ≡ true
name_bytes sites n are low =
    let site = stands sites n low in
    let s = site.0 in
    let good = site_good sites n s are.good site.1 in
    let whole = (and_parts _ (list_all is_plain s.addresses) good).0 in
    let name = (and_parts (is_site_name s.name) _ whole).0 in
    subst (λ t. list_all is_name_byte t ≡ true) (sym (name_there sites n s site.1)) (and_parts _ (list_all is_name_byte s.name) name).1

-- a byte that no name has
pub no_mark : (name : List ℕ) (c : ℕ) → list_all is_name_byte name ≡ true → is_name_byte c ≡ false → (i : ℕ) → i < length name → get_or name i 0 ≡ c → ⊥
no_mark name c good other i low same = true≢false (sym (AllPass-from_list_all is_name_byte name good i 0 low) ∙ ap is_name_byte same ∙ other)

-- where a text is a name, a mark that no name has, and a number, it is split there
pub split_is : (sites : List Site) → AreSites sites → (c : ℕ) (text : List ℕ) (r : Option (Bor (List ℕ) × Bor (List ℕ))) → IsSplitOnceResult c text r
    → c < 128 → is_name_byte c ≡ false → (site number : ℕ) → site < length sites → text ≡ name_at sites site ++ c ∷ decimal number
    → MatchOption r ⊥ (λ x. (x.0.now ≡ name_at sites site) × (x.1.now ≡ decimal number))
split_is sites are c text r cases small other site number low is =
    split_after c text (name_at sites site) (decimal number) r cases small is (no_mark (name_at sites site) c (name_bytes sites site are low) other)

-- ---- texts that are told apart

no_such_name : (sites : List Site) (name : List ℕ) → list_any (λ t. bytes_eq t name) (map (λ (s : Site). s.name) sites) ≡ false → (n : ℕ) → n < length sites → name_at sites n ≡ name → ⊥
no_such_name [] name none n low e = omega (arith, low)
no_such_name (s ∷ ss) name none zero low e =
    let parts = neither (bytes_eq s.name name) (list_any (λ t. bytes_eq t name) (map (λ (x : Site). x.name) ss)) none in
    true≢false (sym ((bytes_eq-Decides s.name name).1 e) ∙ parts.0)
no_such_name (s ∷ ss) name none (suc n) low e =
    let parts = neither (bytes_eq s.name name) (list_any (λ t. bytes_eq t name) (map (λ (x : Site). x.name) ss)) none in
    no_such_name ss name parts.1 n (omega (arith, low)) e

names_differ : (sites : List Site) → repeats (map (λ (s : Site). s.name) sites) ≡ false → (m n : ℕ) → m < length sites → n < length sites
    → name_at sites m ≡ name_at sites n → m ≡ n
names_differ [] once m n hm hn e = absurd (let no : ⊥ = omega (arith, hm) in no)
names_differ (s ∷ ss) once zero zero hm hn e = refl
names_differ (s ∷ ss) once zero (suc n) hm hn e =
    absurd (no_such_name ss s.name (neither (list_any (λ t. bytes_eq t s.name) (map (λ (x : Site). x.name) ss)) (repeats (map (λ (x : Site). x.name) ss)) once).0 n (omega (arith, hn)) (sym e))
names_differ (s ∷ ss) once (suc m) zero hm hn e =
    absurd (no_such_name ss s.name (neither (list_any (λ t. bytes_eq t s.name) (map (λ (x : Site). x.name) ss)) (repeats (map (λ (x : Site). x.name) ss)) once).0 m (omega (arith, hm)) e)
names_differ (s ∷ ss) once (suc m) (suc n) hm hn e =
    ap suc (names_differ ss (neither (list_any (λ t. bytes_eq t s.name) (map (λ (x : Site). x.name) ss)) (repeats (map (λ (x : Site). x.name) ss)) once).1 m n (omega (arith, hm)) (omega (arith, hn)) e)

-- no two sites have one name
pub names_tell : (sites : List Site) → AreSites sites → (m n : ℕ) → m < length sites → n < length sites → name_at sites m ≡ name_at sites n → m ≡ n
names_tell sites are m n hm hn e = names_differ sites are.names_differ m n hm hn e

-- what stands before a mark that is in neither of two names, and what behind it
pub parts_tell : (c : ℕ) (xs ys ds es : List ℕ) → ((i : ℕ) → i < length xs → get_or xs i 0 ≡ c → ⊥) → ((i : ℕ) → i < length ys → get_or ys i 0 ≡ c → ⊥)
    → xs ++ c ∷ ds ≡ ys ++ c ∷ es → (xs ≡ ys) × (ds ≡ es)
parts_tell c [] [] ds es hx hy e = (refl, ap (drop 1) e)
parts_tell c [] (y ∷ ys) ds es hx hy e = absurd (hy 0 (omega arith) (sym (ap (λ l. get_or l 0 0) e)))
parts_tell c (x ∷ xs) [] ds es hx hy e = absurd (hx 0 (omega arith) (ap (λ l. get_or l 0 0) e))
parts_tell c (x ∷ xs) (y ∷ ys) ds es hx hy e =
    let rest = parts_tell c xs ys ds es (λ i low at. hx (suc i) (omega (arith, low)) at) (λ i low at. hy (suc i) (omega (arith, low)) at) (ap (drop 1) e) in
    (ap₂ (λ z zs. z ∷ zs) (ap (λ l. get_or l 0 0) e) rest.0, rest.1)

numbered_tells : (sites : List Site) → AreSites sites → (c : ℕ) → is_name_byte c ≡ false → (m n k l : ℕ) → m < length sites → n < length sites → k < 2 ^ 64 → l < 2 ^ 64
    → name_at sites m ++ c ∷ decimal k ≡ name_at sites n ++ c ∷ decimal l → (m ≡ n) × (k ≡ l)
numbered_tells sites are c other m n k l hm hn hk hl e =
    let parts = parts_tell c (name_at sites m) (name_at sites n) (decimal k) (decimal l)
    (no_mark (name_at sites m) c (name_bytes sites m are hm) other) (no_mark (name_at sites n) c (name_bytes sites n are hn) other) e in
    (names_tell sites are m n hm hn parts.0, decimal_injective k l hk hl parts.1)

pub recall_tells : (sites : List Site) → AreSites sites → (r s : Recall) → IsRecallOf sites r → IsRecallOf sites s → recall_text sites r ≡ recall_text sites s → r ≡ s
recall_tells sites are r s hr hs e =
    let parts = numbered_tells sites are 35 refl r.site s.site r.number s.number hr.0 hs.0 hr.1 hs.1 e in
    let of : ℕ → ℕ → Recall = λ a b. record { site = a; number = b } in
    ap₂ of parts.0 parts.1

pub message_tells : (sites : List Site) → AreSites sites → (m n : Message) → IsMessageOf sites m → IsMessageOf sites n → message_text sites m ≡ message_text sites n → m ≡ n
message_tells sites are m n hm hn e =
    let parts = numbered_tells sites are 46 refl m.site n.site m.number n.number hm.0 hn.0 hm.1 hn.1 e in
    let of : ℕ → ℕ → Message = λ a b. record { site = a; number = b } in
    ap₂ of parts.0 parts.1
