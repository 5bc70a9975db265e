-- The paths of links, and the units that they name.
use Rattle.std.proofs.Common.{◌≡◌, take, ◌≢◌, ◌⊎◌, inl, inr, ◌<◌, ℕ, Bool, true, false, List, [], ◌∷◌, ◌++◌, Option, Some, None, codes, length, get_or, refl, sym, ap, ◌∙◌, subst, arith, append_assoc, length-append}
use Rattle.std.specs.Prelude.{◌==◌, if◌then◌else◌, not, option_and_then, option_map, unwrap_or}
use Rattle.std.specs.List.{list_all}
use Rattle.std.specs.Option.{option_or}
use Rattle.std.proofs.lemmas.Bool.{and_from, and_parts, eqb-true, eq-eqb, true≢false}
use Rattle.std.proofs.lemmas.List.{append-nil, append_cancel_left}
use Rattle.std.proofs.lemmas.List.Sums.{AllPass-from_list_all}
use Rattle.std.proofs.lemmas.Option.{same_Some, some_pair_parts}
use Rattle.percent_encoding.specs.Percent.{percent_decode}
use Rattle.percent_encoding.proofs.PercentLemmas.{length-percent_decode}
use Rattle.epc_core.specs.Items.{behind, is_plain_byte, parted, sgtin_key, sscc_key, uri_key, with_first}
use Rattle.epc_core.specs.Numbers.{IsChecked, is_digit}
use Rattle.epc_core.specs.Serials.{IsSerial, is_part_byte}
use Rattle.epc_core.specs.Spellings.{Opaque, Spells, SpellsNumber, sgtin_link, sscc_link}
use Rattle.epc_core.proofs.Cuts.{behind_some, parted-append, parted_some}
use Rattle.epc_core.proofs.Digits.{all_append, all_parts}
use Rattle.epc_core.proofs.Spelled.{either_some, not_digit}
use Rattle.epc_core.proofs.Told.{escaped_plain}
use Rattle.epc_core.proofs.Words.{apart, digits_plain}
use Rattle.event_writing.proofs.Links.{sscc_spelled}
use Rattle.document_convert.specs.Links.{item_at, item_parts, past_lot, path_of, sscc_at, unit_at}
use Rattle.document_convert.specs.Lots.{before, before_query, behind_key, behind_scheme, past_variant, unit_of_parts, zeros}
use Rattle.document_convert.specs.LinkLaws.{IsItemPath, IsLinkTo, IsOptional, IsSsccPath, IsTail, IsWord, lacks}
use Rattle.document_convert.proofs.LotLemmas.{take_gtin}
use Rattle.document_convert.proofs.UnitKeys.{IsUnitKey}

-- ---- what is cut at a byte

other_byte : (n byte : ℕ) → not (n == byte) ≡ true → (n == byte) ≡ false
other_byte n byte is = by (n == byte) is
  where
    by : (t : Bool) → not t ≡ true → t ≡ false
    by true e = cc
    by false e = refl

lacking : (byte : ℕ) (xs : List ℕ) → lacks byte xs ≡ true → (i : ℕ) → i < length xs → get_or xs i 0 ≢ byte
lacking byte xs h i l e =
    let other = other_byte (get_or xs i 0) byte (AllPass-from_list_all (λ b. not (b == byte)) xs h i 0 l) in
    true≢false (sym (eq-eqb (get_or xs i 0) byte e) ∙ other)

cut_at : (byte : ℕ) (xs ys : List ℕ) → lacks byte xs ≡ true → parted byte (xs ++ byte ∷ ys) ≡ Some (xs, ys)
cut_at byte xs ys h = parted-append byte xs ys (lacking byte xs h)

front_lacks : (byte : ℕ) (s xs ys : List ℕ) → parted byte s ≡ Some (xs, ys) → lacks byte xs ≡ true
front_lacks byte [] xs ys h = cc
front_lacks byte (b ∷ bs) xs ys h = by (b == byte) refl h (front_lacks byte bs)
  where
    later : (o : Option (List ℕ × List ℕ)) → parted byte bs ≡ o → (b == byte) ≡ false → ((us vs : List ℕ) → parted byte bs ≡ Some (us, vs) → lacks byte us ≡ true)
        → option_map (with_first b) o ≡ Some (xs, ys) → lacks byte xs ≡ true
    later None is e tail q = cc
    later (Some (us, vs)) is e tail q =
        let same : b ∷ us ≡ xs = ap (λ p. p.0) (same_Some _ _ q) in
        subst (λ zs. lacks byte zs ≡ true) same (and_from (not (b == byte)) (lacks byte us) (ap not e) (tail us vs is))

    by : (t : Bool) → (b == byte) ≡ t → (if t then Some ([], bs) else option_map (with_first b) (parted byte bs)) ≡ Some (xs, ys)
        → ((us vs : List ℕ) → parted byte bs ≡ Some (us, vs) → lacks byte us ≡ true) → lacks byte xs ≡ true
    by true e q tail = let same : [] ≡ xs = ap (λ p. p.0) (same_Some _ _ q) in subst (λ zs. lacks byte zs ≡ true) same refl
    by false e q tail = later (parted byte bs) refl e tail q

-- what stands before a byte, where the first is another one
before_step : (byte x : ℕ) (zs : List ℕ) → (x == byte) ≡ false → before byte (x ∷ zs) ≡ x ∷ before byte zs
before_step byte x zs other =
    ap (λ (t : Bool). unwrap_or (option_map (λ parts. parts.0) (if t then Some ([], zs) else option_map (with_first x) (parted byte zs))) (x ∷ zs)) other
    ∙ by (parted byte zs)
  where
    by : (o : Option (List ℕ × List ℕ)) → unwrap_or (option_map (λ parts. parts.0) (option_map (with_first x) o)) (x ∷ zs) ≡ x ∷ unwrap_or (option_map (λ parts. parts.0) o) zs
    by None = refl
    by (Some parts) = refl

before_at : (byte x : ℕ) (zs : List ℕ) → (x == byte) ≡ true → before byte (x ∷ zs) ≡ []
before_at byte x zs same =
    ap (λ (t : Bool). unwrap_or (option_map (λ parts. parts.0) (if t then Some ([], zs) else option_map (with_first x) (parted byte zs))) (x ∷ zs)) same

before_past : (byte : ℕ) (xs ys : List ℕ) → lacks byte xs ≡ true → before byte (xs ++ ys) ≡ xs ++ before byte ys
before_past byte [] ys h = refl
before_past byte (x ∷ xs) ys h =
    let parts = and_parts (not (x == byte)) (lacks byte xs) h in
    before_step byte x (xs ++ ys) (other_byte x byte parts.0) ∙ ap (λ l. x ∷ l) (before_past byte xs ys parts.1)

record Before (byte : ℕ) (s : List ℕ) : Type 0 where
  pub rest : List ℕ
  pub whole : s ≡ before byte s ++ rest
  pub ends : (rest ≡ []) ⊎ ((more : List ℕ) × (rest ≡ byte ∷ more))
  pub none : lacks byte (before byte s) ≡ true

cut_before : (byte : ℕ) (s : List ℕ) → Before byte s
cut_before byte [] = record { rest = []; whole = refl; ends = inl refl; none = refl }
cut_before byte (x ∷ xs) = by (x == byte) refl (cut_before byte xs)
  where
    by : (t : Bool) → (x == byte) ≡ t → Before byte xs → Before byte (x ∷ xs)
    by true e below =
        let none = before_at byte x xs e in
        record {
          rest = x ∷ xs;
          whole = ap (λ l. l ++ x ∷ xs) (sym none);
          ends = inr (xs, ap (λ b. b ∷ xs) (eqb-true x byte e));
          none = subst (λ l. lacks byte l ≡ true) (sym none) refl;
        }
    by false e below =
        let step = before_step byte x xs e in
        record {
          rest = below.rest;
          whole = ap (λ l. x ∷ l) below.whole ∙ ap (λ l. l ++ below.rest) (sym step);
          ends = below.ends;
          none = subst (λ l. lacks byte l ≡ true) (sym step) (and_from (not (x == byte)) (lacks byte (before byte xs)) (ap not e) below.none);
        }

-- ---- a query and a fragment

tail_goes : (tail : List ℕ) → IsTail tail → before 63 (before 35 tail) ≡ []
tail_goes tail (inl is) = subst (λ t. before 63 (before 35 t) ≡ []) (sym is) refl
tail_goes tail (inr (rest, inl is)) =
    subst (λ t. before 63 (before 35 t) ≡ []) (sym is) (ap (before 63) (before_step 35 63 rest refl) ∙ before_at 63 63 (before 35 rest) refl)
tail_goes tail (inr (rest, inr is)) = subst (λ t. before 63 (before 35 t) ≡ []) (sym is) (ap (before 63) (before_at 35 35 rest refl))

without_tail : (q tail : List ℕ) → lacks 63 q ≡ true → lacks 35 q ≡ true → IsTail tail → before_query (q ++ tail) ≡ q
without_tail q tail no_query no_fragment is =
    ap (before 63) (before_past 35 q tail no_fragment)
    ∙ before_past 63 q (before 35 tail) no_query
    ∙ ap (λ t. q ++ t) (tail_goes tail is)
    ∙ append-nil q

record Cleared (s : List ℕ) : Type 0 where
  pub tail : List ℕ
  pub is_tail : IsTail tail
  pub whole : s ≡ before_query s ++ tail
  pub no_query : lacks 63 (before_query s) ≡ true
  pub no_fragment : lacks 35 (before_query s) ≡ true

cleared : (s : List ℕ) → Cleared s
cleared s =
    let one = cut_before 35 s in
    let two = cut_before 63 (before 35 s) in
    record {
      tail = two.rest ++ one.rest;
      is_tail = tail_of two.rest one.rest two.ends one.ends;
      whole = one.whole ∙ ap (λ l. l ++ one.rest) two.whole ∙ append_assoc (before 63 (before 35 s)) two.rest one.rest;
      no_query = two.none;
      no_fragment = (all_parts (λ b. not (b == 35)) (before 63 (before 35 s)) two.rest (subst (λ l. lacks 35 l ≡ true) two.whole one.none)).0;
    }
  where
    tail_of : (a b : List ℕ) → (a ≡ []) ⊎ ((more : List ℕ) × (a ≡ 63 ∷ more)) → (b ≡ []) ⊎ ((more : List ℕ) × (b ≡ 35 ∷ more)) → IsTail (a ++ b)
    tail_of a b (inl none) (inl also) = inl (ap (λ l. l ++ b) none ∙ also)
    tail_of a b (inl none) (inr (more, is)) = inr (more, inr (ap (λ l. l ++ b) none ∙ is))
    tail_of a b (inr (more, is)) other = inr (more ++ b, inl (ap (λ l. l ++ b) is))

-- ---- the path of a link

behind_scheme_of : (scheme rest : List ℕ) → (scheme ≡ codes "https://") ⊎ (scheme ≡ codes "http://") → behind_scheme (scheme ++ rest) ≡ Some rest
behind_scheme_of scheme rest (inl is) = subst (λ t. behind_scheme (t ++ rest) ≡ Some rest) (sym is) refl
behind_scheme_of scheme rest (inr is) = subst (λ t. behind_scheme (t ++ rest) ≡ Some rest) (sym is) refl

abbrev path_behind : Option (List ℕ) → Option (List ℕ)
path_behind o = option_map (λ parts. parts.1) (option_and_then (λ rest. parted 47 (before_query rest)) o)

pub path_to : (path text : List ℕ) → IsLinkTo path text → path_of text ≡ Some path
path_to path text l =
    let address = l.host ++ (codes "/" ++ path) in
    ap path_of l.is
    ∙ ap path_behind (behind_scheme_of l.scheme (address ++ l.tail) l.is_scheme)
    ∙ ap (λ q. option_map (λ parts. parts.1) (parted 47 q)) (without_tail address l.tail l.no_query l.no_fragment l.is_tail)
    ∙ ap (option_map (λ parts. parts.1)) (cut_at 47 l.host path l.no_slash)

pub path_from : (path text : List ℕ) → path_of text ≡ Some path → IsLinkTo path text
path_from path text is = of_scheme (behind_scheme text) refl is
  where
    of_parts : (rest scheme : List ℕ) → (scheme ≡ codes "https://") ⊎ (scheme ≡ codes "http://") → text ≡ scheme ++ rest
        → (o : Option (List ℕ × List ℕ)) → parted 47 (before_query rest) ≡ o → option_map (λ parts. parts.1) o ≡ Some path → IsLinkTo path text
    of_parts rest scheme word whole None cut is = cc
    of_parts rest scheme word whole (Some (host, found)) cut is =
        let same : found ≡ path = same_Some _ _ is in
        let c = cleared rest in
        let address : before_query rest ≡ host ++ (codes "/" ++ path) = parted_some 47 (before_query rest) host found cut ∙ ap (λ p. host ++ 47 ∷ p) same in
        record {
          scheme = scheme;
          is_scheme = word;
          host = host;
          no_slash = front_lacks 47 (before_query rest) host found cut;
          no_query = subst (λ l. lacks 63 l ≡ true) address c.no_query;
          no_fragment = subst (λ l. lacks 35 l ≡ true) address c.no_fragment;
          tail = c.tail;
          is_tail = c.is_tail;
          is = whole ∙ ap (λ t. scheme ++ t) (c.whole ∙ ap (λ a. a ++ c.tail) address);
        }

    of_word : (rest : List ℕ) → (behind (codes "https://") text ≡ Some rest) ⊎ (behind (codes "http://") text ≡ Some rest)
        → option_map (λ parts. parts.1) (parted 47 (before_query rest)) ≡ Some path → IsLinkTo path text
    of_word rest (inl front) is = of_parts rest (codes "https://") (inl refl) (behind_some (codes "https://") text rest front) (parted 47 (before_query rest)) refl is
    of_word rest (inr front) is = of_parts rest (codes "http://") (inr refl) (behind_some (codes "http://") text rest front) (parted 47 (before_query rest)) refl is

    of_scheme : (o : Option (List ℕ)) → behind_scheme text ≡ o → path_behind o ≡ Some path → IsLinkTo path text
    of_scheme None front is = cc
    of_scheme (Some rest) front is = of_word rest (either_some (behind (codes "https://") text) (behind (codes "http://") text) rest front) is

-- ---- words and what stands behind them

word_of : (number name path rest : List ℕ) → behind_key number name path ≡ Some rest → (word : List ℕ) × IsWord number name word × (path ≡ word ++ rest)
word_of number name path rest front = by (either_some (behind number path) (behind name path) rest front)
  where
    by : (behind number path ≡ Some rest) ⊎ (behind name path ≡ Some rest) → (word : List ℕ) × IsWord number name word × (path ≡ word ++ rest)
    by (inl is) = (number, inl refl, behind_some number path rest is)
    by (inr is) = (name, inr refl, behind_some name path rest is)

-- behind a word and its value, where they are there
abbrev past : List ℕ → List ℕ → List ℕ → List ℕ
past number name path = unwrap_or (option_map (λ parts. parts.1) (option_and_then (parted 47) (behind_key number name path))) path

abbrev IsPast : List ℕ → List ℕ → List ℕ → List ℕ → Type 0
IsPast number name path rest = (part : List ℕ) × IsOptional number name part × (path ≡ part ++ rest)

past_from : (number name path : List ℕ) → IsPast number name path (past number name path)
past_from number name path = of_word (behind_key number name path) refl
  where
    of_parts : (behind_it : List ℕ) (o : Option (List ℕ × List ℕ)) → behind_key number name path ≡ Some behind_it → parted 47 behind_it ≡ o
        → IsPast number name path (unwrap_or (option_map (λ parts. parts.1) o) path)
    of_parts behind_it None front cut = ([], inl refl, refl)
    of_parts behind_it (Some (value, rest)) front cut =
        let (word, is_word, whole) = word_of number name path behind_it front in (
          word ++ (value ++ codes "/"),
          inr (word, value, is_word, front_lacks 47 behind_it value rest cut, refl),
          whole ∙ ap (λ t. word ++ t) (parted_some 47 behind_it value rest cut)
              ∙ sym (append_assoc word (value ++ codes "/") rest ∙ ap (λ t. word ++ t) (append_assoc value (codes "/") rest)),
        )

    of_word : (o : Option (List ℕ)) → behind_key number name path ≡ o
        → IsPast number name path (unwrap_or (option_map (λ parts. parts.1) (option_and_then (parted 47) o)) path)
    of_word None front = ([], inl refl, refl)
    of_word (Some behind_it) front = of_parts behind_it (parted 47 behind_it) front refl

-- where the word and its value are there, or another word is
module _ (number name : List ℕ) (finds : (word rest : List ℕ) → IsWord number name word → behind_key number name (word ++ rest) ≡ Some rest) where
  past_to : (part rest : List ℕ) → IsOptional number name part → behind_key number name rest ≡ None → past number name (part ++ rest) ≡ rest
  past_to part rest (inl is) none =
      subst (λ p. past number name (p ++ rest) ≡ rest) (sym is)
      (ap (λ (o : Option (List ℕ)). unwrap_or (option_map (λ parts. parts.1) (option_and_then (parted 47) o)) rest) none)
  past_to part rest (inr (word, value, is_word, no_slash, is)) none =
      let whole : part ++ rest ≡ word ++ (value ++ 47 ∷ rest) =
      ap (λ p. p ++ rest) is ∙ append_assoc word (value ++ codes "/") rest ∙ ap (λ t. word ++ t) (append_assoc value (codes "/") rest) in
      ap (past number name) whole
      ∙ ap (λ (o : Option (List ℕ)). unwrap_or (option_map (λ parts. parts.1) (option_and_then (parted 47) o)) (word ++ (value ++ 47 ∷ rest)))
      (finds word (value ++ 47 ∷ rest) is_word)
      ∙ ap (λ (o : Option (List ℕ × List ℕ)). unwrap_or (option_map (λ parts. parts.1) o) (word ++ (value ++ 47 ∷ rest))) (cut_at 47 value rest no_slash)

finds_variant : (word rest : List ℕ) → IsWord (codes "22/") (codes "cpv/") word → behind_key (codes "22/") (codes "cpv/") (word ++ rest) ≡ Some rest
finds_variant word rest (inl is) = subst (λ w. behind_key (codes "22/") (codes "cpv/") (w ++ rest) ≡ Some rest) (sym is) refl
finds_variant word rest (inr is) = subst (λ w. behind_key (codes "22/") (codes "cpv/") (w ++ rest) ≡ Some rest) (sym is) refl

finds_lot : (word rest : List ℕ) → IsWord (codes "10/") (codes "lot/") word → behind_key (codes "10/") (codes "lot/") (word ++ rest) ≡ Some rest
finds_lot word rest (inl is) = subst (λ w. behind_key (codes "10/") (codes "lot/") (w ++ rest) ≡ Some rest) (sym is) refl
finds_lot word rest (inr is) = subst (λ w. behind_key (codes "10/") (codes "lot/") (w ++ rest) ≡ Some rest) (sym is) refl

finds_serial : (word rest : List ℕ) → IsWord (codes "21/") (codes "ser/") word → behind_key (codes "21/") (codes "ser/") (word ++ rest) ≡ Some rest
finds_serial word rest (inl is) = subst (λ w. behind_key (codes "21/") (codes "ser/") (w ++ rest) ≡ Some rest) (sym is) refl
finds_serial word rest (inr is) = subst (λ w. behind_key (codes "21/") (codes "ser/") (w ++ rest) ≡ Some rest) (sym is) refl

finds_gtin : (word rest : List ℕ) → IsWord (codes "01/") (codes "gtin/") word → behind_key (codes "01/") (codes "gtin/") (word ++ rest) ≡ Some rest
finds_gtin word rest (inl is) = subst (λ w. behind_key (codes "01/") (codes "gtin/") (w ++ rest) ≡ Some rest) (sym is) refl
finds_gtin word rest (inr is) = subst (λ w. behind_key (codes "01/") (codes "gtin/") (w ++ rest) ≡ Some rest) (sym is) refl

-- a serial number is no variant and no lot, and a lot is no variant
no_lot : (word rest : List ℕ) → IsWord (codes "21/") (codes "ser/") word → behind_key (codes "10/") (codes "lot/") (word ++ rest) ≡ None
no_lot word rest (inl is) = subst (λ w. behind_key (codes "10/") (codes "lot/") (w ++ rest) ≡ None) (sym is) refl
no_lot word rest (inr is) = subst (λ w. behind_key (codes "10/") (codes "lot/") (w ++ rest) ≡ None) (sym is) refl

no_variant : (word rest : List ℕ) → IsWord (codes "21/") (codes "ser/") word → behind_key (codes "22/") (codes "cpv/") (word ++ rest) ≡ None
no_variant word rest (inl is) = subst (λ w. behind_key (codes "22/") (codes "cpv/") (w ++ rest) ≡ None) (sym is) refl
no_variant word rest (inr is) = subst (λ w. behind_key (codes "22/") (codes "cpv/") (w ++ rest) ≡ None) (sym is) refl

lot_no_variant : (word rest : List ℕ) → IsWord (codes "10/") (codes "lot/") word → behind_key (codes "22/") (codes "cpv/") (word ++ rest) ≡ None
lot_no_variant word rest (inl is) = subst (λ w. behind_key (codes "22/") (codes "cpv/") (w ++ rest) ≡ None) (sym is) refl
lot_no_variant word rest (inr is) = subst (λ w. behind_key (codes "22/") (codes "cpv/") (w ++ rest) ≡ None) (sym is) refl

neither : (lot last rest : List ℕ) → IsOptional (codes "10/") (codes "lot/") lot → IsWord (codes "21/") (codes "ser/") last
    → behind_key (codes "22/") (codes "cpv/") (lot ++ (last ++ rest)) ≡ None
neither lot last rest (inl is) word = subst (λ l. behind_key (codes "22/") (codes "cpv/") (l ++ (last ++ rest)) ≡ None) (sym is) (no_variant last rest word)
neither lot last rest (inr (first, value, is_first, no_slash, is)) word =
    ap (λ l. behind_key (codes "22/") (codes "cpv/") (l ++ (last ++ rest))) is
    ∙ ap (behind_key (codes "22/") (codes "cpv/")) (append_assoc first (value ++ codes "/") (last ++ rest))
    ∙ lot_no_variant first ((value ++ codes "/") ++ (last ++ rest)) is_first

-- ---- the unit with a path

abbrev of_8 : Bool → Option (List ℕ)
of_8 b = if b then Some (codes "000000") else None

zeros_fill : (digits front : List ℕ) → zeros (length digits) ≡ Some front → length (front ++ digits) ≡ 14
zeros_fill digits front is = of_14 (length digits == 14) refl is
  where
    by_8 : (b : Bool) → (length digits == 8) ≡ b → of_8 b ≡ Some front → length (front ++ digits) ≡ 14
    by_8 true e q = let long = eqb-true (length digits) 8 e in subst (λ f. length (f ++ digits) ≡ 14) (same_Some _ _ q) (let n : length (codes "000000" ++ digits) ≡ 14 = omega (arith, long) in n)
    by_8 false e q = cc

    of_12 : (b : Bool) → (length digits == 12) ≡ b → (if b then Some (codes "00") else of_8 (length digits == 8)) ≡ Some front → length (front ++ digits) ≡ 14
    of_12 true e q = let long = eqb-true (length digits) 12 e in subst (λ f. length (f ++ digits) ≡ 14) (same_Some _ _ q) (let n : length (codes "00" ++ digits) ≡ 14 = omega (arith, long) in n)
    of_12 false e q = by_8 (length digits == 8) refl q

    of_13 : (b : Bool) → (length digits == 13) ≡ b → (if b then Some (codes "0") else (if length digits == 12 then Some (codes "00") else of_8 (length digits == 8))) ≡ Some front
        → length (front ++ digits) ≡ 14
    of_13 true e q = let long = eqb-true (length digits) 13 e in subst (λ f. length (f ++ digits) ≡ 14) (same_Some _ _ q) (let n : length (codes "0" ++ digits) ≡ 14 = omega (arith, long) in n)
    of_13 false e q = of_12 (length digits == 12) refl q

    of_14 : (b : Bool) → (length digits == 14) ≡ b
        → (if b then Some [] else (if length digits == 13 then Some (codes "0") else (if length digits == 12 then Some (codes "00") else of_8 (length digits == 8)))) ≡ Some front
        → length (front ++ digits) ≡ 14
    of_14 true e q = subst (λ f. length (f ++ digits) ≡ 14) (same_Some _ _ q) (eqb-true (length digits) 14 e)
    of_14 false e q = of_13 (length digits == 13) refl q

-- a GTIN and an escaped serial number of which a link is made
abbrev IsItemLink : List ℕ → List ℕ → Type 0
IsItemLink gtin escaped = IsChecked 14 gtin × (list_all is_part_byte escaped ≡ true) × IsSerial (percent_decode escaped)

link_spelled : (gtin escaped : List ℕ) → IsItemLink gtin escaped → Spells (sgtin_link gtin escaped) (sgtin_key gtin (percent_decode escaped))
link_spelled gtin escaped (checked, part, serial) =
    let long = (length-percent_decode escaped).1 in
    let few = serial.few in
    let counted = checked.counted in
    let one = length-append gtin (codes "/21/" ++ escaped) in
    let plain = all_append is_plain_byte gtin (codes "/21/" ++ escaped) (digits_plain gtin checked.are_digits) (escaped_plain escaped serial.allowed) in
    record {
      plain = record { some = omega arith; few = omega arith; allowed = plain };
      item = inl (inl (inr (record { gtin = gtin; escaped = escaped; is = refl; checked = checked; part = part; serial = serial; names = refl })));
    }

-- what stands under a path names this unit
pub record IsUnitAt (path key : List ℕ) : Type 0 where
  pub unit : List ℕ
  pub named : unit_at path ≡ Some unit
  pub spells : Spells unit key
  pub is_unit : IsUnitKey key

abbrev then_serial : Option (List ℕ × List ℕ) → Option (List ℕ × List ℕ)
then_serial o =
    option_and_then (λ parts. option_map (λ serial. (parts.0, serial)) (behind_key (codes "21/") (codes "ser/") (past_lot (past_variant parts.1)))) o

parts_of : (path key : List ℕ) (p : IsItemPath path key) → item_parts path ≡ Some (p.digits, p.escaped)
parts_of path key p =
    let last = p.last ++ p.escaped in
    let behind_gtin = p.variant ++ (p.lot ++ last) in
    let digits = (all_parts is_digit p.front p.digits p.checked.are_digits).1 in
    ap item_parts p.is
    ∙ ap (λ (o : Option (List ℕ)). option_and_then (λ rest. then_serial (parted 47 rest)) o) (finds_gtin p.first (p.digits ++ 47 ∷ behind_gtin) p.is_first)
    ∙ ap then_serial (parted-append 47 p.digits behind_gtin (not_digit p.digits 47 refl digits))
    ∙ ap (λ v. option_map (λ serial. (p.digits, serial)) (behind_key (codes "21/") (codes "ser/") (past_lot v)))
    (past_to (codes "22/") (codes "cpv/") finds_variant p.variant (p.lot ++ last) p.is_variant (neither p.lot p.last p.escaped p.is_lot p.is_last))
    ∙ ap (λ v. option_map (λ serial. (p.digits, serial)) (behind_key (codes "21/") (codes "ser/") v))
    (past_to (codes "10/") (codes "lot/") finds_lot p.lot last p.is_lot (no_lot p.last p.escaped p.is_last))
    ∙ ap (option_map (λ serial. (p.digits, serial))) (finds_serial p.last p.escaped p.is_last)

pub item_to : (path key : List ℕ) → IsItemPath path key → IsUnitAt path key
item_to path key p = record {
  unit = sgtin_link (p.front ++ p.digits) p.escaped;
  named =
      ap (λ (o : Option (List ℕ × List ℕ)). option_or (option_and_then unit_of_parts o) (sscc_at path)) (parts_of path key p)
      ∙ ap (λ (o : Option (List ℕ)). option_or (option_map (λ front. sgtin_link (front ++ p.digits) p.escaped) o) (sscc_at path)) p.filled;
  spells = subst (Spells (sgtin_link (p.front ++ p.digits) p.escaped)) (sym p.names) (link_spelled (p.front ++ p.digits) p.escaped (p.checked, p.part, p.serial));
  is_unit = inl (record { gtin = p.front ++ p.digits; serial = percent_decode p.escaped; checked = p.checked; allowed = p.serial; is = p.names });
}

no_item : (first rest : List ℕ) → IsWord (codes "00/") (codes "sscc/") first → item_at (first ++ rest) ≡ None
no_item first rest (inl is) = subst (λ w. item_at (w ++ rest) ≡ None) (sym is) refl
no_item first rest (inr is) = subst (λ w. item_at (w ++ rest) ≡ None) (sym is) refl

finds_sscc : (first rest : List ℕ) → IsWord (codes "00/") (codes "sscc/") first → sscc_at (first ++ rest) ≡ Some (sscc_link rest)
finds_sscc first rest (inl is) = subst (λ w. sscc_at (w ++ rest) ≡ Some (sscc_link rest)) (sym is) refl
finds_sscc first rest (inr is) = subst (λ w. sscc_at (w ++ rest) ≡ Some (sscc_link rest)) (sym is) refl

pub sscc_to : (path key : List ℕ) → IsSsccPath path key → IsUnitAt path key
sscc_to path key p = record {
  unit = sscc_link p.digits;
  named =
      ap unit_at p.is
      ∙ ap (λ (o : Option (List ℕ)). option_or o (sscc_at (p.first ++ p.digits))) (no_item p.first p.digits p.is_first)
      ∙ finds_sscc p.first p.digits p.is_first;
  spells = subst (Spells (sscc_link p.digits)) (sym p.names) (sscc_spelled p.digits p.checked);
  is_unit = inr (record { digits = p.digits; checked = p.checked; is = p.names });
}

-- ---- and the path of a unit

not_opaque : (text key : List ℕ) → IsUnitKey key → key ≡ uri_key text → ⊥
not_opaque text key (inl n) is = apart _ _ 0 refl (sym n.is ∙ is)
not_opaque text key (inr n) is = apart _ _ 0 refl (sym n.is ∙ is)

abbrev IsItemOf : List ℕ → List ℕ → List ℕ → Type 0
IsItemOf gtin escaped key = IsItemLink gtin escaped × (key ≡ sgtin_key gtin (percent_decode escaped))

link_told : (gtin escaped key : List ℕ) → length gtin ≡ 14 → Spells (sgtin_link gtin escaped) key → IsUnitKey key → IsItemOf gtin escaped key
link_told gtin escaped key long s its = by s.item
  where
    by : SpellsNumber (sgtin_link gtin escaped) key ⊎ Opaque (sgtin_link gtin escaped) key → IsItemOf gtin escaped key
    by (inl (inl (inl n))) = absurd (apart _ _ 0 refl n.is)
    by (inl (inl (inr n))) =
        let rests : gtin ++ (codes "/21/" ++ escaped) ≡ n.gtin ++ (codes "/21/" ++ n.escaped) = append_cancel_left (codes "https://id.gs1.org/01/") _ _ n.is in
        let gtins : gtin ≡ n.gtin = sym (take_gtin gtin (codes "/21/" ++ escaped) long) ∙ ap (take 14) rests ∙ take_gtin n.gtin (codes "/21/" ++ n.escaped) n.checked.counted in
        let tails : codes "/21/" ++ escaped ≡ codes "/21/" ++ n.escaped =
        append_cancel_left n.gtin _ _ (ap (λ g. g ++ (codes "/21/" ++ escaped)) (sym gtins) ∙ rests) in
        let escapes : escaped ≡ n.escaped = append_cancel_left (codes "/21/") _ _ tails in (
          (
            subst (IsChecked 14) (sym gtins) n.checked,
            subst (λ e. list_all is_part_byte e ≡ true) (sym escapes) n.part,
            subst (λ e. IsSerial (percent_decode e)) (sym escapes) n.serial,
          ),
          n.names ∙ ap (λ g. sgtin_key g (percent_decode n.escaped)) (sym gtins) ∙ ap (λ e. sgtin_key gtin (percent_decode e)) (sym escapes),
        )
    by (inl (inr (inl n))) = absurd (apart _ _ 0 refl n.is)
    by (inl (inr (inr n))) = absurd (apart _ _ 20 refl n.is)
    by (inr n) = absurd (not_opaque _ key its n.names)

sscc_told : (digits key : List ℕ) → Spells (sscc_link digits) key → IsUnitKey key → IsChecked 18 digits × (key ≡ sscc_key digits)
sscc_told digits key s its = by s.item
  where
    by : SpellsNumber (sscc_link digits) key ⊎ Opaque (sscc_link digits) key → IsChecked 18 digits × (key ≡ sscc_key digits)
    by (inl (inl (inl n))) = absurd (apart _ _ 0 refl n.is)
    by (inl (inl (inr n))) = absurd (apart _ _ 20 refl n.is)
    by (inl (inr (inl n))) = absurd (apart _ _ 0 refl n.is)
    by (inl (inr (inr n))) =
        let same : digits ≡ n.sscc = append_cancel_left (codes "https://id.gs1.org/00/") _ _ n.is in
        (subst (IsChecked 18) (sym same) n.checked, n.names ∙ ap sscc_key (sym same))
    by (inr n) = absurd (not_opaque _ key its n.names)

abbrev paired : List ℕ → Option (List ℕ) → Option (List ℕ × List ℕ)
paired digits serial = option_map (λ escaped. (digits, escaped)) serial

abbrev IsPathOf : List ℕ → List ℕ → List ℕ → Type 0
IsPathOf path digits escaped =
    (first : List ℕ) × (variant : List ℕ) × (lot : List ℕ) × (last : List ℕ)
    × IsWord (codes "01/") (codes "gtin/") first × IsOptional (codes "22/") (codes "cpv/") variant × IsOptional (codes "10/") (codes "lot/") lot
    × IsWord (codes "21/") (codes "ser/") last × (path ≡ first ++ (digits ++ (codes "/" ++ (variant ++ (lot ++ (last ++ escaped))))))

path_with : (path digits escaped : List ℕ) → item_parts path ≡ Some (digits, escaped) → IsPathOf path digits escaped
path_with path digits escaped is = of_first (behind_key (codes "01/") (codes "gtin/") path) refl is
  where
    of_last : (rest found more : List ℕ) → behind_key (codes "01/") (codes "gtin/") path ≡ Some rest → parted 47 rest ≡ Some (found, more)
        → (o : Option (List ℕ)) → behind_key (codes "21/") (codes "ser/") (past_lot (past_variant more)) ≡ o → paired found o ≡ Some (digits, escaped)
        → IsPathOf path digits escaped
    of_last rest found more front cut None behind_it is = cc
    of_last rest found more front cut (Some serial) behind_it is =
        let same = some_pair_parts found digits serial escaped is in
        let (first, is_first, whole) = word_of (codes "01/") (codes "gtin/") path rest front in
        let (variant, is_variant, past_it) = past_from (codes "22/") (codes "cpv/") more in
        let (lot, is_lot, past_too) = past_from (codes "10/") (codes "lot/") (past_variant more) in
        let (last, is_last, ends) = word_of (codes "21/") (codes "ser/") (past_lot (past_variant more)) serial behind_it in
        let end_is : past_lot (past_variant more) ≡ last ++ escaped = ends ∙ ap (λ e. last ++ e) same.1 in
        let more_is : more ≡ variant ++ (lot ++ (last ++ escaped)) = past_it ∙ ap (λ t. variant ++ t) (past_too ∙ ap (λ t. lot ++ t) end_is) in
        let rest_is : rest ≡ digits ++ (codes "/" ++ (variant ++ (lot ++ (last ++ escaped)))) =
        parted_some 47 rest found more cut ∙ ap (λ d. d ++ 47 ∷ more) same.0 ∙ ap (λ m. digits ++ 47 ∷ m) more_is in
        (first, variant, lot, last, is_first, is_variant, is_lot, is_last, whole ∙ ap (λ t. first ++ t) rest_is)

    of_cut : (rest : List ℕ) → behind_key (codes "01/") (codes "gtin/") path ≡ Some rest → (o : Option (List ℕ × List ℕ)) → parted 47 rest ≡ o
        → then_serial o ≡ Some (digits, escaped) → IsPathOf path digits escaped
    of_cut rest front None cut is = cc
    of_cut rest front (Some (found, more)) cut is = of_last rest found more front cut (behind_key (codes "21/") (codes "ser/") (past_lot (past_variant more))) refl is

    of_first : (o : Option (List ℕ)) → behind_key (codes "01/") (codes "gtin/") path ≡ o → option_and_then (λ rest. then_serial (parted 47 rest)) o ≡ Some (digits, escaped)
        → IsPathOf path digits escaped
    of_first None front is = cc
    of_first (Some rest) front is = of_cut rest front (parted 47 rest) refl is

item_from : (path key unit : List ℕ) → item_at path ≡ Some unit → Spells unit key → IsUnitKey key → IsItemPath path key
item_from path key unit is spells its = of_parts (item_parts path) refl is
  where
    of_front : (digits escaped : List ℕ) → item_parts path ≡ Some (digits, escaped) → (o : Option (List ℕ)) → zeros (length digits) ≡ o
        → option_map (λ front. sgtin_link (front ++ digits) escaped) o ≡ Some unit → IsItemPath path key
    of_front digits escaped parts None filled is = cc
    of_front digits escaped parts (Some front) filled is =
        let same : sgtin_link (front ++ digits) escaped ≡ unit = same_Some _ _ is in
        let ((checked, part, serial), names) = link_told (front ++ digits) escaped key (zeros_fill digits front filled) (subst (λ t. Spells t key) (sym same) spells) its in
        let (first, variant, lot, last, is_first, is_variant, is_lot, is_last, whole) = path_with path digits escaped parts in
        record {
          first = first;
          is_first = is_first;
          digits = digits;
          front = front;
          filled = filled;
          variant = variant;
          is_variant = is_variant;
          lot = lot;
          is_lot = is_lot;
          last = last;
          is_last = is_last;
          escaped = escaped;
          is = whole;
          checked = checked;
          part = part;
          serial = serial;
          names = names;
        }

    of_parts : (o : Option (List ℕ × List ℕ)) → item_parts path ≡ o → option_and_then unit_of_parts o ≡ Some unit → IsItemPath path key
    of_parts None parts is = cc
    of_parts (Some (digits, escaped)) parts is = of_front digits escaped parts (zeros (length digits)) refl is

sscc_from : (path key unit : List ℕ) → sscc_at path ≡ Some unit → Spells unit key → IsUnitKey key → IsSsccPath path key
sscc_from path key unit is spells its = of_first (behind_key (codes "00/") (codes "sscc/") path) refl is
  where
    of_first : (o : Option (List ℕ)) → behind_key (codes "00/") (codes "sscc/") path ≡ o → option_map sscc_link o ≡ Some unit → IsSsccPath path key
    of_first None front is = cc
    of_first (Some digits) front is =
        let same : sscc_link digits ≡ unit = same_Some _ _ is in
        let (checked, names) = sscc_told digits key (subst (λ t. Spells t key) (sym same) spells) its in
        let (first, is_first, whole) = word_of (codes "00/") (codes "sscc/") path digits front in
        record { first = first; is_first = is_first; digits = digits; is = whole; checked = checked; names = names }

pub at_from : (path key unit : List ℕ) → unit_at path ≡ Some unit → Spells unit key → IsUnitKey key → IsItemPath path key ⊎ IsSsccPath path key
at_from path key unit named spells its = by (item_at path) refl named
  where
    by : (o : Option (List ℕ)) → item_at path ≡ o → option_or o (sscc_at path) ≡ Some unit → IsItemPath path key ⊎ IsSsccPath path key
    by None none is = inr (sscc_from path key unit is spells its)
    by (Some found) some is = inl (item_from path key unit (some ∙ is) spells its)
