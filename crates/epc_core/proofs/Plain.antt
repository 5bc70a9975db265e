-- A text is plain just where there is no fault in it.
use Rattle.std.proofs.Common.{◌≡◌, ◌≢◌, ℕ, ◌+◌, Bool, true, false, not, ◌&&◌, List, [], ◌∷◌, length, Option, Some, None, option_map, Ok, Err, refl, sym, ◌∙◌, cond, eqb, leb, ltb, position, inl, inr, ◌≤◌, arith}
use mathlib.Core.Logic.{◌⊎◌}
use Rattle.std.specs.List.{list_all, position_from}
use Rattle.std.proofs.lemmas.Bool.{and_parts, and_from, eqb-true, eqb-false, ltb-false, leb-false, lt-leb, ne_eqb, le-ltb}
use Rattle.std.proofs.lemmas.Bool.Decides.{nat_tests}
use Rattle.std.proofs.lemmas.Iterator.Adapters.{position_from-zero}
use Rattle.epc_core.specs.declared.items.EpcFault.{EpcFault}
use Rattle.epc_core.specs.declared.items.EpcFault.TheVariants.{NoMemory, Empty, TooLong, BadByte}
use Rattle.epc_core.specs.Serials.{is_serial_byte}
use Rattle.epc_core.specs.Items.{is_plain_byte, key_of}
use Rattle.epc_core.specs.Laws.{BadBytesAreThese}
use Rattle.epc_core.specs.Reading.{fault_of, reading, Gives}
use Rattle.epc_core.specs.Spellings.{IsPlain}

abbrev pub is_bad : ℕ → Bool
is_bad b = not (is_plain_byte b)

all_plain : (i : ℕ) (xs : List ℕ) → position_from is_bad i xs ≡ None → list_all is_plain_byte xs ≡ true
all_plain i [] h = refl
all_plain i (x ∷ xs) h =
    by (is_plain_byte x) h (all_plain (i + 1) xs)
  where
    by : (t : Bool) → cond (not t) (Some i) (position_from is_bad (i + 1) xs) ≡ None → (position_from is_bad (i + 1) xs ≡ None → list_all is_plain_byte xs ≡ true)
        → (t && list_all is_plain_byte xs) ≡ true
    by true h tail = tail h
    by false h tail = absurd (let no : ⊥ = cc in no)

none_bad : (i : ℕ) (xs : List ℕ) → list_all is_plain_byte xs ≡ true → position_from is_bad i xs ≡ None
none_bad i [] h = refl
none_bad i (x ∷ xs) h =
    by (is_plain_byte x) h (none_bad (i + 1) xs)
  where
    by : (t : Bool) → (t && list_all is_plain_byte xs) ≡ true → (list_all is_plain_byte xs ≡ true → position_from is_bad (i + 1) xs ≡ None)
        → cond (not t) (Some i) (position_from is_bad (i + 1) xs) ≡ None
    by true h tail = tail h
    by false h tail = absurd (let no : ⊥ = cc in no)

bad_place : (o : Option ℕ) → option_map {T = ℕ} {U = EpcFault} BadByte o ≡ None → o ≡ None
bad_place None h = refl
bad_place (Some x) h = absurd (let no : ⊥ = cc in no)

pub plain_from : (text : List ℕ) → fault_of text ≡ None → IsPlain text
plain_from text h =
    by (eqb (length text) 0) refl h
  where
    last : option_map BadByte (position is_bad text) ≡ None → eqb (length text) 0 ≡ false → ltb 512 (length text) ≡ false → IsPlain text
    last h some few =
        let no : length text ≢ 0 = eqb-false _ _ some in
        let places = sym (position_from-zero is_bad text) ∙ bad_place (position is_bad text) h in
        record { some = omega arith; few = ltb-false _ _ few; allowed = all_plain 0 text places }

    then : (t : Bool) → ltb 512 (length text) ≡ t → eqb (length text) 0 ≡ false → cond t (Some TooLong) (option_map BadByte (position is_bad text)) ≡ None → IsPlain text
    then true few some h = absurd (let no : ⊥ = cc in no)
    then false few some h = last h some few

    by : (t : Bool) → eqb (length text) 0 ≡ t → cond t (Some Empty) (cond (ltb 512 (length text)) (Some TooLong) (option_map BadByte (position is_bad text))) ≡ None → IsPlain text
    by true some h = absurd (let no : ⊥ = cc in no)
    by false some h = then (ltb 512 (length text)) refl some h

pub plain_to : (text : List ℕ) → IsPlain text → fault_of text ≡ None
plain_to text p =
    let filled = p.some in
    let some : eqb (length text) 0 ≡ false = ne_eqb (length text) 0 (λ e. let no : ⊥ = omega arith in no) in
    let few : ltb 512 (length text) ≡ false = le-ltb 512 (length text) p.few in
    let places : position is_bad text ≡ None = position_from-zero is_bad text ∙ none_bad 0 text p.allowed in
    rw (some, few, places) refl

pub fault_given : (text : List ℕ) (fault : EpcFault) → fault_of text ≡ Some fault → Gives (Err fault) (reading text)
unfolding reading
fault_given text NoMemory h = tt
fault_given text Empty h = rw h refl
fault_given text TooLong h = rw h refl
fault_given text (BadByte place) h = rw h refl

pub reading_plain : (text : List ℕ) → fault_of text ≡ None → reading text ≡ Ok (key_of text)
unfolding reading
reading_plain text h = rw h refl

-- a byte is bad by its number
pub bad_by_number : BadBytesAreThese
bad_by_number b = (from (leb 33 b) refl (eqb b 127) refl, to)
  where
    from : (t : Bool) → leb 33 b ≡ t → (u : Bool) → eqb b 127 ≡ u → (t && not u) ≡ false → (b ≤ 32) ⊎ (b ≡ 127)
    from true least true is h = inr (eqb-true b 127 is)
    from true least false other h = absurd (let no : ⊥ = cc in no)
    from false below u is h = let under = leb-false 33 b below in inl (omega (arith, under))

    to : (b ≤ 32) ⊎ (b ≡ 127) → is_plain_byte b ≡ false
    to (inl few) = let below : leb 33 b ≡ false = lt-leb 33 b (omega (arith, few)) in rw below refl
    to (inr is) = rw is refl

-- a character of a serial number is plain
pub serial_is_plain : (b : ℕ) → is_serial_byte b ≡ true → is_plain_byte b ≡ true
serial_is_plain b h = grind (arith, nat_tests)

pub serial_plain : (serial : List ℕ) → list_all is_serial_byte serial ≡ true → list_all is_plain_byte serial ≡ true
serial_plain [] h = refl
serial_plain (b ∷ bs) h = let parts = and_parts (is_serial_byte b) (list_all is_serial_byte bs) h in and_from _ _ (serial_is_plain b parts.0) (serial_plain bs parts.1)
