-- The names of sites by their letters and signs, and how many sites and addresses there may be.
use Rattle.std.proofs.Common.{◌≡◌, ◌↔◌, ◌⊎◌, inl, inr, ℕ, zero, suc, ◌<◌, ◌≤◌, Bool, true, false, cond, not, ◌&&◌, ◌||◌, List, [], ◌∷◌, length, Option, Some, None, eqb, refl, sym, ◌∙◌, subst, arith, All}
use Rattle.std.specs.Prelude.{nat_le, nat_lt, is_some, IsTrue}
use Rattle.std.specs.List.{list_all, list_any, Contains}
use Rattle.std.proofs.lemmas.Bool.{true≢false, and_parts, and_from, eqb-true, leb-true, leb-false, le-leb, ltb-true, ltb-false, cases_lt}
use Rattle.std.proofs.lemmas.Bool.Decides.{nat_tests}
use Rattle.std.proofs.lemmas.List.Elements.{All-contains, All-weaker}
use Rattle.std.proofs.lemmas.List.Sums.{list_all-from_AllPass, AllPass-from_list_all}
use Rattle.epc_core.specs.Items.{is_plain}
use Rattle.event_json.specs.declared.site_lists.SitesFault.TheVariants.{BadName, NameTaken, TooMany, BadAddress, AddressTaken}
use Rattle.event_json.specs.Laws.{name_characters, SiteNamesAreThese, SitesAreLimited}
use Rattle.event_json.specs.Sites.{is_name_byte, is_site_name, named, addressed, repeats, sites_fault}

-- whether a number is among others
abbrev among : List ℕ → ℕ → Bool
among [] b = false
among (c ∷ cs) b = eqb c b || among cs b

Contains-among : (cs : List ℕ) (b : ℕ) → among cs b ≡ true → Contains cs b
Contains-among [] b h = absurd (let no : ⊥ = cc in no)
Contains-among (c ∷ cs) b h =
    by (eqb c b) refl h (Contains-among cs b)
  where
    by : (t : Bool) → eqb c b ≡ t → (t || among cs b) ≡ true → (among cs b ≡ true → Contains cs b) → Contains (c ∷ cs) b
    by true e k tail = (0, omega arith, eqb-true c b e)
    by false e k tail = let rest = tail k in (suc rest.0, omega (arith, rest.1), rest.2)

-- whether each number below a limit passes a test
abbrev all_below : ℕ → (ℕ → Bool) → Bool
all_below zero test = true
all_below (suc n) test = test n && all_below n test

below_passes : (n : ℕ) (test : ℕ → Bool) → all_below n test ≡ true → (b : ℕ) → b < n → test b ≡ true
below_passes zero test h b low = absurd (omega arith)
below_passes (suc n) test h b low =
    let parts = and_parts (test n) (all_below n test) h in
    elim (cases_lt b n) [
      | inl below ↦ below_passes n test parts.1 b below
      | inr last ↦ let same : n ≡ b = omega arith in subst (λ k. test k ≡ true) same parts.0
    ]

small : (b : ℕ) → is_name_byte b ≡ true → b < 128
small b h = grind (arith, nat_tests)

is_among : (b : ℕ) → is_name_byte b ≡ true → Contains name_characters b
is_among b h = Contains-among name_characters b (by (is_name_byte b) h (below_passes 128 (λ k. not (is_name_byte k) || among name_characters k) refl b (small b h)))
  where
    by : (t : Bool) → t ≡ true → (not t || among name_characters b) ≡ true → among name_characters b ≡ true
    by true e k = k
    by false e k = absurd (true≢false (sym e))

is_character : (b : ℕ) → Contains name_characters b → is_name_byte b ≡ true
is_character b among = All-contains (λ c. is_name_byte c ≡ true) name_characters b (AllPass-from_list_all is_name_byte name_characters refl) among

pub names_are_these : SiteNamesAreThese
names_are_these name = (from, to)
  where
    from : is_site_name name ≡ true → (1 ≤ length name) × (length name ≤ 16) × All (Contains name_characters) name
    from is =
        let both = and_parts _ (list_all is_name_byte name) is in
        let sizes = and_parts (nat_le 1 (length name)) (nat_le (length name) 16) both.0 in
        (leb-true _ _ sizes.0, leb-true _ _ sizes.1, All-weaker (λ b. is_name_byte b ≡ true) (Contains name_characters) is_among name (AllPass-from_list_all is_name_byte name both.1))

    to : (1 ≤ length name) × (length name ≤ 16) × All (Contains name_characters) name → is_site_name name ≡ true
    to (some, few, all) =
        and_from _ _ (and_from _ _ (le-leb _ _ some) (le-leb _ _ few))
        (list_all-from_AllPass is_name_byte name (All-weaker (Contains name_characters) (λ b. is_name_byte b ≡ true) is_character name all))

other_faults : (a b : Bool) → cond a (Some BadAddress) (cond b (Some AddressTaken) None) ≡ Some TooMany → ⊥
other_faults true b h = cc
other_faults false true h = cc
other_faults false false h = cc

pub sites_limited : SitesAreLimited
unfolding sites_fault
sites_limited sites name addresses = by (is_site_name name) refl (named sites name) refl (nat_le 16 (length sites)) refl (nat_lt 16 (length addresses)) refl
  where
    a : Bool
    a = not (list_all is_plain addresses)

    b : Bool
    b = list_any (λ t. is_some (addressed sites t)) addresses || repeats addresses

    by : (good : Bool) → is_site_name name ≡ good → (taken : Option ℕ) → named sites name ≡ taken → (full : Bool) → nat_le 16 (length sites) ≡ full
        → (many : Bool) → nat_lt 16 (length addresses) ≡ many
        → (cond (not good) (Some BadName) (cond (is_some taken) (Some NameTaken) (cond (full || many) (Some TooMany) (cond a (Some BadAddress) (cond b (Some AddressTaken) None)))) ≡ Some TooMany)
        ↔ (IsTrue (is_site_name name) × (named sites name ≡ None) × ((16 ≤ length sites) ⊎ (16 < length addresses)))
    by false g taken n full f many m = (λ h. absurd (let no : ⊥ = cc in no), λ t. absurd (true≢false (sym t.0 ∙ g)))
    by true g (Some other) n full f many m = (λ h. absurd (let no : ⊥ = cc in no), λ t. absurd (let no : None ≡ Some other = sym t.1 ∙ n in let none : ⊥ = cc in none))
    by true g None n true f many m = (λ h. (g, n, inl (leb-true 16 (length sites) f)), λ t. refl)
    by true g None n false f true m = (λ h. (g, n, inr (ltb-true 16 (length addresses) m)), λ t. refl)
    by true g None n false f false m = (λ h. absurd (other_faults a b h), λ t. absurd (neither t.2))
      where
        neither : (16 ≤ length sites) ⊎ (16 < length addresses) → ⊥
        neither (inl le) = let room = leb-false 16 (length sites) f in omega (arith, le, room)
        neither (inr lt) = let few = ltb-false 16 (length addresses) m in omega (arith, lt, few)
