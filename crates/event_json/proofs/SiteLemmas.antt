-- What follows where a site can be added.
use Rattle.std.proofs.Common.{◌≡◌, ℕ, ◌<◌, Bool, true, false, cond, not, ◌||◌, ◌&&◌, List, [], ◌∷◌, ◌++◌, map, Option, Some, None, length, refl, sym, ap, ◌∙◌, arith, length-append}
use Rattle.std.specs.Prelude.{nat_le, nat_lt, is_some, bytes_eq, flat_map}
use Rattle.std.specs.List.{list_all, list_any}
use Rattle.std.proofs.lemmas.Option.{same_Some}
use Rattle.std.proofs.lemmas.List.{map-append}
use Rattle.std.proofs.lemmas.List.Folds.{list_all-append}
use Rattle.std.proofs.lemmas.Grind.{flat_map-append}
use Rattle.std.proofs.lemmas.List.{append-nil}
use Rattle.event_json.specs.declared.site_lists.SitesFault.{SitesFault}
use Rattle.event_json.specs.declared.site_lists.SitesFault.TheVariants.{NoMemory, BadName, NameTaken, TooMany, BadAddress, AddressTaken}
use Rattle.epc_core.specs.Items.{is_plain}
use Rattle.event_json.specs.Sites.{Site, is_site_name, named, addressed, repeats, is_site, AreSites, sites_fault, IsCause}
use Rattle.event_json.proofs.Apart.{neither, no_or, any_same, any_mapped, any_flat, is_some-position, meets, repeats-append}

-- a test that found no fault
clear : (b : Bool) (fault : SitesFault) (rest : Option SitesFault) → cond b (Some fault) rest ≡ None → (b ≡ false) × (rest ≡ None)
clear true fault rest e = absurd cc
clear false fault rest e = (refl, e)

positive : (b : Bool) → not b ≡ false → b ≡ true
positive true e = refl
positive false e = absurd cc

-- the parts of a site that can be added
pub record IsFree (sites : List Site) (name : List ℕ) (addresses : List (List ℕ)) : Type 0 where
  pub good_name : is_site_name name ≡ true
  pub new_name : is_some (named sites name) ≡ false
  pub room : nat_le 16 (length sites) ≡ false
  pub few : nat_lt 16 (length addresses) ≡ false
  pub plain : list_all is_plain addresses ≡ true
  pub new_addresses : list_any (λ a. is_some (addressed sites a)) addresses ≡ false
  pub once : repeats addresses ≡ false

pub free : (sites : List Site) (name : List ℕ) (addresses : List (List ℕ)) → sites_fault sites name addresses ≡ None → IsFree sites name addresses
unfolding sites_fault
free sites name addresses e =
    let a = clear (not (is_site_name name)) BadName _ e in
    let b = clear (is_some (named sites name)) NameTaken _ a.1 in
    let c = clear (nat_le 16 (length sites) || nat_lt 16 (length addresses)) TooMany _ b.1 in
    let d = clear (not (list_all is_plain addresses)) BadAddress _ c.1 in
    let f = clear (list_any (λ a. is_some (addressed sites a)) addresses || repeats addresses) AddressTaken _ d.1 in
    let sizes = neither (nat_le 16 (length sites)) (nat_lt 16 (length addresses)) c.0 in
    let taken = neither (list_any (λ a. is_some (addressed sites a)) addresses) (repeats addresses) f.0 in
    record { good_name = positive _ a.0; new_name = b.0; room = sizes.0; few = sizes.1; plain = positive _ d.0; new_addresses = taken.0; once = taken.1 }

-- no lack of memory is found
not_memory : (b : Bool) (fault : SitesFault) (rest : Option SitesFault) → (fault ≡ NoMemory → ⊥) → cond b (Some fault) rest ≡ Some NoMemory → rest ≡ Some NoMemory
not_memory true fault rest other e = absurd (other (same_Some fault NoMemory e))
not_memory false fault rest other e = e

no_memory_found : (sites : List Site) (name : List ℕ) (addresses : List (List ℕ)) → sites_fault sites name addresses ≡ Some NoMemory → ⊥
unfolding sites_fault
no_memory_found sites name addresses e =
    let a = not_memory (not (is_site_name name)) BadName _ (λ q. cc) e in
    let b = not_memory (is_some (named sites name)) NameTaken _ (λ q. cc) a in
    let c = not_memory (nat_le 16 (length sites) || nat_lt 16 (length addresses)) TooMany _ (λ q. cc) b in
    let d = not_memory (not (list_all is_plain addresses)) BadAddress _ (λ q. cc) c in
    let f = not_memory (list_any (λ a. is_some (addressed sites a)) addresses || repeats addresses) AddressTaken None (λ q. cc) d in
    let no : ⊥ = cc in no

pub is_cause : (sites : List Site) (name : List ℕ) (addresses : List (List ℕ)) (fault : SitesFault) → sites_fault sites name addresses ≡ Some fault
    → IsCause fault (sites_fault sites name addresses)
is_cause sites name addresses NoMemory e = absurd (no_memory_found sites name addresses e)
is_cause sites name addresses BadName e = e
is_cause sites name addresses NameTaken e = e
is_cause sites name addresses TooMany e = e
is_cause sites name addresses BadAddress e = e
is_cause sites name addresses AddressTaken e = e

-- there is room for one more
pub has_room : (sites : List Site) (name : List ℕ) (addresses : List (List ℕ)) → sites_fault sites name addresses ≡ None → length sites < 16
has_room sites name addresses e =
    let h = (free sites name addresses e).room in
    grind (arith, h)

both : (a b c : Bool) → a ≡ true → b ≡ true → c ≡ true → (a && b && c) ≡ true
both a b c e f g = rw (e, f, g) refl

few_enough : (n : ℕ) → nat_lt 16 n ≡ false → nat_le n 16 ≡ true
few_enough n e = grind (arith, e)

-- a name that no site has
name_apart : (sites : List Site) (name : List ℕ) → is_some (named sites name) ≡ false → meets (map (λ s. s.name) sites) (name ∷ []) ≡ false
unfolding named
name_apart sites name e =
    no_or _ _ (any_mapped (λ x. bytes_eq x name) (λ s. s.name) sites ∙ sym (is_some-position (λ s. bytes_eq s.name name) sites) ∙ e) refl

-- addresses that no site has
address_found : (sites : List Site) (a : List ℕ) → list_any (λ x. bytes_eq x a) (flat_map (λ s. s.addresses) sites) ≡ is_some (addressed sites a)
unfolding addressed
address_found sites a =
    any_flat (λ x. bytes_eq x a) (λ s. s.addresses) sites ∙ sym (is_some-position (λ s. list_any (λ b. bytes_eq b a) s.addresses) sites)

-- one more site keeps the list in order
pub one_more : (sites : List Site) (s : Site) → AreSites sites → sites_fault sites s.name s.addresses ≡ None → AreSites (sites ++ s ∷ [])
one_more sites s are e =
    let is = free sites s.name s.addresses e in
    let room = has_room sites s.name s.addresses e in
    let good : is_site s ≡ true = both _ _ _ is.good_name (few_enough (length s.addresses) is.few) is.plain in
    let names : map (λ (t : Site). t.name) (sites ++ s ∷ []) ≡ map (λ t. t.name) sites ++ s.name ∷ [] = map-append (λ t. t.name) sites (s ∷ []) in
    let addresses : flat_map (λ (t : Site). t.addresses) (sites ++ s ∷ []) ≡ flat_map (λ t. t.addresses) sites ++ s.addresses =
    flat_map-append (λ t. t.addresses) sites (s ∷ []) ∙ ap (λ (l : List (List ℕ)). flat_map (λ (t : Site). t.addresses) sites ++ l) (append-nil s.addresses) in
    let new_addresses : meets (flat_map (λ t. t.addresses) sites) s.addresses ≡ false =
    any_same _ _ (address_found sites) s.addresses ∙ is.new_addresses in
    record {
      few = omega (arith, length-append sites (s ∷ []));
      good = list_all-append is_site sites (s ∷ []) ∙ rw (are.good, good) refl;
      names_differ = ap repeats names ∙ repeats-append (map (λ t. t.name) sites) (s.name ∷ []) are.names_differ refl (name_apart sites s.name is.new_name);
      addresses_differ = ap repeats addresses ∙ repeats-append (flat_map (λ t. t.addresses) sites) s.addresses are.addresses_differ is.once new_addresses;
    }
