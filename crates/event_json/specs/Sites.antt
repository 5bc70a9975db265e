use Rattle.std.specs.Prelude.{⊤, ◌<◌, All, ℕ, Bool, false, not, ◌&&◌, ◌||◌, ◌==◌, nat_le, nat_lt, if◌then◌else◌, List, [], ◌∷◌, length, Option, Some, None, is_some, position, bytes_eq, ◌≡◌, ◌≤◌, IsTrue, IsFalse, map, flat_map}
use Rattle.std.specs.List.{list_all, list_any}
use Rattle.epc_core.specs.Items.{is_plain}
use Rattle.event_json.specs.declared.bodies.Body.{Body}
use Rattle.event_json.specs.declared.bodies.Body.TheVariants.{Note, Ship, Make, Pack}
use Rattle.event_json.specs.declared.site_lists.SitesFault.{SitesFault}
use Rattle.event_json.specs.declared.site_lists.SitesFault.TheVariants.{NoMemory, BadName, NameTaken, TooMany, BadAddress, AddressTaken}

-- a traced site: its name, and the destination texts that stand for it
pub record Site : Type 0 where
  pub name : List ℕ
  pub addresses : List (List ℕ)

-- a letter, a digit, `_` or `-`
abbrev pub is_name_byte : ℕ → Bool
is_name_byte b = (nat_le 65 b && nat_le b 90) || (nat_le 97 b && nat_le b 122) || (nat_le 48 b && nat_le b 57) || (b == 95) || (b == 45)

-- 1 to 16 of these
abbrev pub is_site_name : List ℕ → Bool
is_site_name name = nat_le 1 (length name) && nat_le (length name) 16 && list_all is_name_byte name

-- the number of the site of this name
unfoldable pub named : List Site → List ℕ → Option ℕ
named sites name = position (λ s. bytes_eq s.name name) sites

-- the number of the site that has this address
unfoldable pub addressed : List Site → List ℕ → Option ℕ
addressed sites text = position (λ s. list_any (λ a. bytes_eq a text) s.addresses) sites

-- what an event ships goes to sites of a list of this length, by their numbers, or outside
abbrev pub ShipsAmong : ℕ → Body → Type 0
ShipsAmong sites (Note items) = ⊤
ShipsAmong sites (Ship items to outside) = All (λ t. t < sites) to
ShipsAmong sites (Make id ins outs) = ⊤
ShipsAmong sites (Pack action parent children) = ⊤

-- some text stands twice
abbrev pub repeats : List (List ℕ) → Bool
repeats [] = false
repeats (text ∷ texts) = list_any (λ t. bytes_eq t text) texts || repeats texts

-- a site of a list: it has a good name, and at most 16 plain addresses
abbrev pub is_site : Site → Bool
is_site s = is_site_name s.name && nat_le (length s.addresses) 16 && list_all is_plain s.addresses

-- at most 16 of these, no two of one name, and no address twice
pub record AreSites (sites : List Site) : Type 0 where
  pub few : length sites ≤ 16
  pub good : IsTrue (list_all is_site sites)
  pub names_differ : IsFalse (repeats (map (λ s. s.name) sites))
  pub addresses_differ : IsFalse (repeats (flat_map (λ s. s.addresses) sites))

-- why no site of this name and these addresses can be added to the sites
unfoldable pub sites_fault : List Site → List ℕ → List (List ℕ) → Option SitesFault
sites_fault sites name addresses =
    if not (is_site_name name) then Some BadName else
    if is_some (named sites name) then Some NameTaken else
    if nat_le 16 (length sites) || nat_lt 16 (length addresses) then Some TooMany else
    if not (list_all is_plain addresses) then Some BadAddress else
    if list_any (λ a. is_some (addressed sites a)) addresses || repeats addresses then Some AddressTaken else None

-- why a call was refused is what was found, and memory ran out only where nothing was found
abbrev pub IsCause : SitesFault → Option SitesFault → Type 0
IsCause NoMemory found = found ≡ None
IsCause BadName found = found ≡ Some BadName
IsCause NameTaken found = found ≡ Some NameTaken
IsCause TooMany found = found ≡ Some TooMany
IsCause BadAddress found = found ≡ Some BadAddress
IsCause AddressTaken found = found ≡ Some AddressTaken
