-- The other sites are all asked, and the messages that wait for one come round.
use Rattle.std.proofs.Common.{◌≡◌, ◌↔◌, ◌⊎◌, inl, inr, ⊎_elim, ℕ, zero, suc, ◌+◌, ◌-◌, ◌<◌, ◌≤◌, ◌^◌, Bool, true, false, not, cond, min, nat_cmp, nat_eq, nat_le, Option, Some, None, List, [], ◌∷◌, ◌++◌, filter, fold, length, map, take, refl, sym, ap, ◌∙◌, subst, arith, append_assoc, length-append}
use Rattle.std.specs.Prelude.{◌==◌, ⊤, T, Contains, option_and_then, option_map}
use Rattle.std.proofs.lemmas.Bool.{cases_lt}
use Rattle.std.proofs.lemmas.List.{append-nil}
use Rattle.std.specs.FinMap.{entries, entries_sorted, is_sorted}
use Rattle.std.specs.FinMap.Entries.{below_all}
use Rattle.std.specs.List.{AllByRecursion, range_with_len}
use Rattle.std.specs.Option.{option_map_or, option_or}
use Rattle.std.specs.Ordering.{is_lt}
use Rattle.frame_core.proofs.Ascending.{first, second}
use Rattle.frame_core.specs.declared.frames.Frame.{Frame}
use Rattle.frame_core.specs.declared.rows.Row.{Row}
use Rattle.scholten_core.specs.Engagement.{Engagement}
use Rattle.site_core.specs.Emitting.{message_frame}
use Rattle.site_core.specs.Naming.{frame_named}
use Rattle.site_core.specs.declared.naming.FrameName.TheVariants as names
use Rattle.world_core.specs.Turns.{addressee}
use Rattle.trace_core.proofs.Members.{contains_cases, contains_here, contains_none, contains_there}
use Rattle.site_threads.specs.Laws.{MessagesComeRound, OthersAreAll, SignalsComeFirst, before, number_in, posts}
use Rattle.site_threads.specs.Offers.{behind, from_on, least, message_to, next_to, offer_of, waiting, wish}
use Rattle.site_threads.proofs.Placing.{passed, passing, same_dest, to_site, waits}

-- ---- the other sites

in_range : (a n s : ℕ) → Contains (range_with_len a n) s ↔ ((a ≤ s) × (s < a + n))
in_range a zero s = (λ h. absurd (contains_none s h), λ (low, high). absurd (omega (arith, low, high)))
in_range a (suc n) s = (
  λ h. ⊎_elim
      (λ (same : a ≡ s). (omega (arith, same), omega (arith, same)))
      (λ later. let (low, high) = (in_range (a + 1) n s).0 later in (omega (arith, low), omega (arith, high)))
      (contains_cases a s (range_with_len (a + 1) n) h),
  λ (low, high). ⊎_elim
      (λ below. contains_there a s (range_with_len (a + 1) n) ((in_range (a + 1) n s).1 (omega (arith, below), omega (arith, high))))
      (λ least. let same : a ≡ s = omega (arith, low, least) in subst (Contains (range_with_len a (suc n))) same (contains_here a (range_with_len (a + 1) n)))
      (cases_lt a s),
)

is_not : (s me : ℕ) → not (nat_eq s me) ≡ true → s ≡ me → ⊥
is_not s me other same = grind (arith, other, same)

differs : (s me : ℕ) → (s ≡ me → ⊥) → not (nat_eq s me) ≡ true
differs s me other = elim (nat_eq s me) as (λ b. nat_eq s me ≡ b → not b ≡ true) [
  | true ↦ λ is. absurd (other (grind (arith, is)))
  | false ↦ λ is. refl
] refl

pub others_are_all : OthersAreAll
others_are_all me low high s = (
  λ h.
      let (among, other) = passing (λ site. not (nat_eq site me)) (range_with_len low (high - low)) s h in
      let (from, to) = (in_range low (high - low) s).0 among in
      (from, omega (arith, from, to), is_not s me other),
  λ (from, to, other). passed (λ site. not (nat_eq site me)) (range_with_len low (high - low)) s ((in_range low (high - low) s).1 (from, omega (arith, from, to))) (differs s me other),
)

-- ---- signals

pub signals_come_first : SignalsComeFirst
signals_come_first e to place m f same is =
    ap (λ o. option_or o (option_and_then (message_to e to) (next_to e to place))) (ap (λ b. cond b (frame_named e (names.Signal m)) None) (same_dest e to m.site same) ∙ is)

-- ---- ascending numbers

abbrev Up : ℕ → List ℕ → Type 0
Up low [] = ⊤
Up low (x ∷ xs) = (low ≤ x) × Up (x + 1) xs

lt_of : (a b : ℕ) → T (is_lt (nat_cmp a b)) → a + 1 ≤ b
lt_of a b h = ⊎_elim (λ below. omega (arith, below)) (λ (low : b ≤ a). absurd (grind (arith, low, h))) (cases_lt a b)

above : (x : ℕ) (es : List (ℕ × Row)) → T (below_all nat_cmp x es) → AllByRecursion (λ (e : ℕ × Row). x + 1 ≤ e.0) es
above x [] h = tt
above x (e ∷ es) h = (lt_of x e.0 (first _ _ h), above x es (second _ _ h))

ups : (p : ℕ × Row → Bool) (es : List (ℕ × Row)) → T (is_sorted nat_cmp es) → (low : ℕ) → AllByRecursion (λ (e : ℕ × Row). low ≤ e.0) es → Up low (map (λ (e : ℕ × Row). e.0) (filter p es))
ups p [] sorted low all = tt
ups p (e ∷ es) sorted low (here, rest) = elim (p e) as (λ b. Up low (map (λ (x : ℕ × Row). x.0) (cond b (e ∷ filter p es) (filter p es)))) [
  | true ↦ (here, ups p es (second _ _ sorted) (e.0 + 1) (above e.0 es (first _ _ sorted)))
  | false ↦ ups p es (second _ _ sorted) low rest
]

from_zero : (es : List (ℕ × Row)) → AllByRecursion (λ (e : ℕ × Row). 0 ≤ e.0) es
from_zero [] = tt
from_zero (e ∷ es) = (omega arith, from_zero es)

waiting_up : (e : Engagement) (to : ℕ) → Up 0 (waiting e to)
waiting_up e to = ups (to_site to) (entries e.outbox) (entries_sorted e.outbox) 0 (from_zero (entries e.outbox))

le_false : (a b : ℕ) → b < a → nat_le a b ≡ false
le_false a b below = grind (arith, below)

is_le : (a b : ℕ) → a ≤ b → nat_le a b ≡ true
is_le a b low = grind (arith, low)

-- from a place on that is no more than the first
from_all : (p low : ℕ) (xs : List ℕ) → Up low xs → p ≤ low → (from_on p xs ≡ xs) × (before p xs ≡ [])
from_all p low [] up le = (refl, refl)
from_all p low (x ∷ xs) (here, rest) le =
    let (same, none) = from_all p (x + 1) xs rest (omega (arith, here, le)) in
    let is = is_le p x (omega (arith, here, le)) in (
      ap (λ b. cond b (x ∷ from_on p xs) (from_on p xs)) is ∙ ap (λ ys. x ∷ ys) same,
      ap (λ b. cond (not b) (x ∷ before p xs) (before p xs)) is ∙ none,
    )

joined : (p low : ℕ) (xs : List ℕ) → Up low xs → xs ≡ before p xs ++ from_on p xs
joined p low [] up = refl
joined p low (x ∷ xs) (here, rest) = ⊎_elim
    (λ below.
    let is = le_false p x below in
    let from : from_on p (x ∷ xs) ≡ from_on p xs = ap (λ b. cond b (x ∷ from_on p xs) (from_on p xs)) is in
    let until : before p (x ∷ xs) ≡ x ∷ before p xs = ap (λ b. cond (not b) (x ∷ before p xs) (before p xs)) is in
    ap (λ ys. x ∷ ys) (joined p (x + 1) xs rest) ∙ sym (ap (λ ys. ys ++ from_on p (x ∷ xs)) until ∙ ap (λ ys. (x ∷ before p xs) ++ ys) from))
    (λ (le : p ≤ x).
    let (same, none) = from_all p x (x ∷ xs) (omega arith, rest) le in
    sym (ap (λ ys. ys ++ from_on p (x ∷ xs)) none ∙ same))
    (cases_lt x p)

up_below : (low : ℕ) (xs : List ℕ) (n : ℕ) (ys : List ℕ) → Up low (xs ++ n ∷ ys) → low ≤ n
up_below low [] n ys (here, rest) = here
up_below low (x ∷ xs) n ys (here, rest) = let later = up_below (x + 1) xs n ys rest in omega (arith, here, later)

-- behind one of them
cut : (low : ℕ) (xs : List ℕ) (n : ℕ) (ys : List ℕ) → Up low (xs ++ n ∷ ys) → (from_on (n + 1) (xs ++ n ∷ ys) ≡ ys) × (before (n + 1) (xs ++ n ∷ ys) ≡ xs ++ n ∷ [])
cut low [] n ys (here, rest) =
    let (same, none) = from_all (n + 1) (n + 1) ys rest (omega arith) in
    let is = le_false (n + 1) n (omega arith) in (
      ap (λ b. cond b (n ∷ from_on (n + 1) ys) (from_on (n + 1) ys)) is ∙ same,
      ap (λ b. cond (not b) (n ∷ before (n + 1) ys) (before (n + 1) ys)) is ∙ ap (λ zs. n ∷ zs) none,
    )
cut low (x ∷ xs) n ys (here, rest) =
    let (same, parted) = cut (x + 1) xs n ys rest in
    let later = up_below (x + 1) xs n ys rest in
    let is = le_false (n + 1) x (omega (arith, later)) in
    let all = xs ++ n ∷ ys in (
      ap (λ b. cond b (x ∷ from_on (n + 1) all) (from_on (n + 1) all)) is ∙ same,
      ap (λ b. cond (not b) (x ∷ before (n + 1) all) (before (n + 1) all)) is ∙ ap (λ zs. x ∷ zs) parted,
    )

fold_min : (x low : ℕ) (xs : List ℕ) → Up low xs → x ≤ low → fold min x xs ≡ x
fold_min x low [] up le = refl
fold_min x low (y ∷ ys) (here, rest) le =
    let same : min x y ≡ x = omega (arith, here, le) in
    ap (λ m. fold min m ys) same ∙ fold_min x (y + 1) ys rest (omega (arith, here, le))

least_is : (low n : ℕ) (rest : List ℕ) → Up low (n ∷ rest) → least (n ∷ rest) ≡ Some n
least_is low n rest (here, up) = ap Some (fold_min n (n + 1) rest up (omega arith))

-- ---- round by round

-- in the order in which they are posted from a place on
abbrev turned : ℕ → List ℕ → List ℕ
turned p xs = from_on p xs ++ before p xs

abbrev next_of : ℕ → List ℕ → Option ℕ
next_of p xs = option_or (least (from_on p xs)) (least xs)

up_from : (low p : ℕ) (xs : List ℕ) → Up low xs → Up low (from_on p xs)
up_from low p [] up = tt
up_from low p (x ∷ xs) (here, rest) = elim (nat_le p x) as (λ b. Up low (cond b (x ∷ from_on p xs) (from_on p xs))) [
  | true ↦ (here, up_from (x + 1) p xs rest)
  | false ↦ up_lower low (x + 1) (from_on p xs) (omega (arith, here)) (up_from (x + 1) p xs rest)
]
  where
    up_lower : (low high : ℕ) (ys : List ℕ) → low ≤ high → Up high ys → Up low ys
    up_lower low high [] le up = tt
    up_lower low high (y ∷ ys) le (here, rest) = (omega (arith, le, here), rest)

-- the first one is next, and behind it the others come first
record Turns (p : ℕ) (xs : List ℕ) : Type 0 where
  n : ℕ
  rest : List ℕ
  is : turned p xs ≡ n ∷ rest
  next : next_of p xs ≡ Some n
  on : turned (n + 1) xs ≡ rest ++ n ∷ []
  among : Contains xs n

turns_last : (p n : ℕ) (rest xs : List ℕ) → Up 0 xs → from_on p xs ≡ [] → xs ≡ n ∷ rest → Turns p xs
turns_last p n rest xs up none is =
    let all : before p xs ≡ xs = sym (joined p 0 xs up ∙ ap (λ ys. before p xs ++ ys) none ∙ append-nil (before p xs)) in
    let (same, parted) = cut 0 [] n rest (subst (Up 0) is up) in
    record {
      n = n;
      rest = rest;
      is = ap (λ ys. ys ++ before p xs) none ∙ all ∙ is;
      next = ap (λ ys. option_or (least ys) (least xs)) none ∙ ap least is ∙ least_is 0 n rest (subst (Up 0) is up);
      on = ap (turned (n + 1)) is ∙ ap (λ ys. ys ++ before (n + 1) (n ∷ rest)) same ∙ ap (λ ys. rest ++ ys) parted;
      among = subst (λ ys. Contains ys n) (sym is) (contains_here n rest);
    }

turns_there : (p n : ℕ) (rest xs : List ℕ) → Up 0 xs → from_on p xs ≡ n ∷ rest → Turns p xs
turns_there p n rest xs up is =
    let parts : xs ≡ before p xs ++ n ∷ rest = joined p 0 xs up ∙ ap (λ ys. before p xs ++ ys) is in
    let (same, parted) = cut 0 (before p xs) n rest (subst (Up 0) parts up) in
    record {
      n = n;
      rest = rest ++ before p xs;
      is = ap (λ ys. ys ++ before p xs) is;
      next = ap (λ ys. option_or (least ys) (least xs)) is ∙ ap (λ o. option_or o (least xs)) (least_is 0 n rest (subst (Up 0) is (up_from 0 p xs up)));
      on = ap (turned (n + 1)) parts ∙ ap (λ ys. ys ++ before (n + 1) (before p xs ++ n ∷ rest)) same ∙ ap (λ ys. rest ++ ys) parted ∙ sym (append_assoc rest (before p xs) (n ∷ []));
      among = (passing (λ x. nat_le p x) xs n (subst (λ ys. Contains ys n) (sym is) (contains_here n rest))).0;
    }

turns : (p : ℕ) (xs : List ℕ) → Up 0 xs → (xs ≡ []) ⊎ Turns p xs
turns p xs up = by (from_on p xs) xs refl refl where
  by : (from ys : List ℕ) → from ≡ from_on p xs → ys ≡ xs → (xs ≡ []) ⊎ Turns p xs
  by (n ∷ rest) ys is same = inr (turns_there p n rest xs up (sym is))
  by [] [] is same = inl (sym same)
  by [] (n ∷ rest) is same = inr (turns_last p n rest xs up (sym is) (sym same))

length_turned : (p : ℕ) (xs : List ℕ) → Up 0 xs → length (turned p xs) ≡ length xs
length_turned p xs up =
    let all = ap length (joined p 0 xs up) ∙ length-append (before p xs) (from_on p xs) in
    let both = length-append (from_on p xs) (before p xs) in
    omega (arith, all, both)

take_within : (k : ℕ) (xs ys : List ℕ) → k ≤ length xs → take k (xs ++ ys) ≡ take k xs
take_within zero xs ys le = refl
take_within (suc k) [] ys le = absurd (omega (arith, le))
take_within (suc k) (x ∷ xs) ys le = ap (λ zs. x ∷ zs) (take_within k xs ys (omega (arith, le)))

take_whole : (xs : List ℕ) → take (length xs) xs ≡ xs
take_whole [] = refl
take_whole (x ∷ xs) = ap (λ zs. x ∷ zs) (take_whole xs)

-- ---- the messages

module _ (e : Engagement) (to : ℕ) (few : (n : ℕ) → Contains (waiting e to) n → n < 2 ^ 64 - 1) where
  abbrev all : List ℕ
  all = waiting e to

  -- a message that waits is found, and the place behind it is the number after its own
  record IsFound (place n : ℕ) : Type 0 where
    frame : Frame
    found : message_to e to n ≡ Some frame
    number : number_in frame ≡ n
    after : behind to place frame ≡ n + 1

  found_there : (place n : ℕ) → Contains all n → IsFound place n
  found_there place n among =
      let (row, is, mine) = waits e to n among in
      let low = few n among in
      record {
        frame = _;
        found = ap (λ o. option_and_then (λ f. cond (addressee f == to) (Some f) None) (option_map (λ r. message_frame e.me (n, r)) o)) is ∙ ap (λ b. cond b (Some (message_frame e.me (n, row))) None) mine;
        number = refl;
        after = ap (λ b. cond b (min (n + 1) (2 ^ 64 - 1)) place) mine ∙ omega (arith, low);
      }

  posted : (k place : ℕ) → k ≤ length all → map number_in (posts e to k place) ≡ take k (turned place all)
  posted zero place le = refl
  posted (suc k) place le = ⊎_elim
      (λ none. absurd (let empty = ap length none in omega (arith, le, empty)))
      (λ t.
      let f = found_there place t.n t.among in
      let wished : wish e to None place ≡ Some f.frame = ap (λ o. offer_of e to None o) t.next ∙ f.found in
      let many : length all ≡ suc (length t.rest) = sym (length_turned place all (waiting_up e to)) ∙ ap length t.is in
      ap (λ o. map number_in (option_map_or (λ g. g ∷ posts e to k (behind to place g)) o [])) wished
      ∙ ap (λ n. n ∷ map number_in (posts e to k (behind to place f.frame))) f.number
      ∙ ap (λ p. t.n ∷ map number_in (posts e to k p)) f.after
      ∙ ap (λ ns. t.n ∷ ns) (posted k (t.n + 1) (omega (arith, le)) ∙ ap (take k) t.on ∙ take_within k t.rest (t.n ∷ []) (omega (arith, le, many)))
      ∙ ap (take (suc k)) (sym t.is))
      (turns place all (waiting_up e to))

pub messages_come_round : MessagesComeRound
messages_come_round e to place few =
    posted e to few (length (waiting e to)) place (omega arith)
    ∙ ap (λ k. take k (turned place (waiting e to))) (sym (length_turned place (waiting e to) (waiting_up e to)))
    ∙ take_whole (turned place (waiting e to))
