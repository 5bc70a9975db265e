-- The characters of serial numbers, by their letters and signs.
use Rattle.std.proofs.Common.{◌≡◌, inl, inr, ℕ, zero, suc, ◌<◌, Bool, true, false, not, ◌&&◌, ◌||◌, List, [], ◌∷◌, eqb, refl, sym, subst, arith}
use Rattle.std.specs.List.{Contains}
use Rattle.std.proofs.lemmas.Bool.{true≢false, and_parts, eqb-true, cases_lt}
use Rattle.std.proofs.lemmas.List.Elements.{All-contains, All-weaker}
use Rattle.std.proofs.lemmas.List.Sums.{list_all-from_AllPass, AllPass-from_list_all}
use Rattle.epc_core.specs.Serials.{is_serial_byte}
use Rattle.epc_core.specs.Laws.{serial_characters, SerialNumbersAreThese}
use Rattle.epc_core.proofs.Found.{serial_byte_small}

-- whether a number is among others
abbrev among : List ℕ → ℕ → Bool
among [] b = false
among (c ∷ cs) b = eqb c b || among cs b

Contains-among : (cs : List ℕ) (b : ℕ) → among cs b ≡ true → Contains cs b
Contains-among [] b h = absurd (let no : ⊥ = cc in no)
Contains-among (c ∷ cs) b h =
    by (eqb c b) refl h (Contains-among cs b)
  where
    by : (t : Bool) → eqb c b ≡ t → (t || among cs b) ≡ true → (among cs b ≡ true → Contains cs b) → Contains (c ∷ cs) b
    by true e k tail = (0, omega arith, eqb-true c b e)
    by false e k tail = let rest = tail k in (suc rest.0, omega (arith, rest.1), rest.2)

-- whether each number below a limit passes a test
abbrev all_below : ℕ → (ℕ → Bool) → Bool
all_below zero test = true
all_below (suc n) test = test n && all_below n test

below_passes : (n : ℕ) (test : ℕ → Bool) → all_below n test ≡ true → (b : ℕ) → b < n → test b ≡ true
below_passes zero test h b low = absurd (omega arith)
below_passes (suc n) test h b low =
    let parts = and_parts (test n) (all_below n test) h in
    elim (cases_lt b n) [
      | inl below ↦ below_passes n test parts.1 b below
      | inr last ↦ let same : n ≡ b = omega arith in subst (λ k. test k ≡ true) same parts.0
    ]

is_among : (b : ℕ) → is_serial_byte b ≡ true → Contains serial_characters b
is_among b h = Contains-among serial_characters b (by (is_serial_byte b) h (below_passes 128 (λ k. not (is_serial_byte k) || among serial_characters k) refl b (serial_byte_small b h)))
  where
    by : (t : Bool) → t ≡ true → (not t || among serial_characters b) ≡ true → among serial_characters b ≡ true
    by true e k = k
    by false e k = absurd (true≢false (sym e))

is_character : (b : ℕ) → Contains serial_characters b → is_serial_byte b ≡ true
is_character b among = All-contains (λ c. is_serial_byte c ≡ true) serial_characters b (AllPass-from_list_all is_serial_byte serial_characters refl) among

pub serials_are_these : SerialNumbersAreThese
serials_are_these serial = (
  λ is. (is.some, is.few, All-weaker (λ b. is_serial_byte b ≡ true) (Contains serial_characters) is_among serial (AllPass-from_list_all is_serial_byte serial is.allowed)),
  λ (some, few, all). record { some = some; few = few; allowed = list_all-from_AllPass is_serial_byte serial (All-weaker (Contains serial_characters) (λ b. is_serial_byte b ≡ true) is_character serial all) },
)
