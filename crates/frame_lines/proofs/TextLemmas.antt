-- The texts of a frame's members are UTF-8, and short.
use Rattle.std.proofs.Common.{◌≡◌, ◌<◌, ◌≤◌, ◌^◌, ◌==◌, inl, inr, ℕ, true, List, [], ◌∷◌, length, take, IsUtf8, refl, sym, subst, arith, lit≤, lit<, decimal, length-append, ltb-true}
use Rattle.std.specs.Prelude.{IsAscii, nat_le, nat_lt}
use Rattle.std.specs.List.{list_all}
use Rattle.std.proofs.lemmas.Bool.{and_parts, leb-true}
use Rattle.std.proofs.lemmas.Bool.Decides.{nat_tests}
use Rattle.std.proofs.lemmas.Fmt.{IsAscii-decimal, length-decimal-le}
use Rattle.std.proofs.lemmas.List.{length-take}
use Rattle.std.proofs.lemmas.List.Sums.{AllPass-from_list_all}
use Rattle.std.proofs.lemmas.Str.{IsUtf8-append, IsUtf8-from_ascii}
use Rattle.std.proofs.lemmas.Str.Ascii.{IsAscii-from_all}
use Rattle.hex.specs.Hex.{encode_lower, lower_digits}
use Rattle.hex.proofs.HexLemmas.{IsAscii-encode_with, length-encode_with}
use Rattle.json.proofs.Printed.Utf8.{IsUtf8-are_ascii}
use Rattle.sha2.specs.Sha256.{sha256}
use Rattle.epc_core.specs.Items.{is_plain, sgtin_key}
use Rattle.epc_core.specs.Spellings.{IsKey, whole_number}
use Rattle.percent_encoding.specs.Percent.{percent_decode}
use Rattle.event_json.specs.Sites.{AreSites, Site, is_name_byte, is_site_name}
use Rattle.frame_core.specs.Numbers.{Message, Recall}
use Rattle.frame_lines.specs.Chains.{is_chain_digit, is_chain_id}
use Rattle.frame_lines.specs.Lines.{IsMessageOf, IsRecallOf}
use Rattle.frame_lines.specs.Sums.{digested, sum_of_text}
use Rattle.recall_text.specs.Words.{message_text, name_at, recall_text}
use Rattle.frame_lines.proofs.NameLemmas.{name_bytes}
use Rattle.frame_lines.proofs.SumLemmas.{name_there, site_good, stands}

-- ---- UTF-8

name_byte_small : (b : ℕ) → is_name_byte b ≡ true → b < 128
name_byte_small b h = grind (arith, nat_tests)

pub IsUtf8-name : (sites : List Site) (n : ℕ) → AreSites sites → n < length sites → IsUtf8 (name_at sites n)
IsUtf8-name sites n are low =
    let name = name_at sites n in
    IsUtf8-from_ascii name (IsAscii-from_all name (λ k d l. name_byte_small _ (AllPass-from_list_all is_name_byte name (name_bytes sites n are low) k d l)))

IsUtf8-number : (n : ℕ) → n < 2 ^ 64 → IsUtf8 (decimal n)
IsUtf8-number n small = IsUtf8-from_ascii (decimal n) (IsAscii-decimal n small)

pub IsUtf8-message : (sites : List Site) (m : Message) → AreSites sites → IsMessageOf sites m → IsUtf8 (message_text sites m)
IsUtf8-message sites m are among =
    IsUtf8-append (name_at sites m.site) (46 ∷ decimal m.number) (IsUtf8-name sites m.site are among.0)
    (IsUtf8-append (46 ∷ []) (decimal m.number) (IsUtf8-are_ascii (46 ∷ []) refl) (IsUtf8-number m.number among.1))

pub IsUtf8-recall : (sites : List Site) (r : Recall) → AreSites sites → IsRecallOf sites r → IsUtf8 (recall_text sites r)
IsUtf8-recall sites r are among =
    IsUtf8-append (name_at sites r.site) (35 ∷ decimal r.number) (IsUtf8-name sites r.site are among.0)
    (IsUtf8-append (35 ∷ []) (decimal r.number) (IsUtf8-are_ascii (35 ∷ []) refl) (IsUtf8-number r.number among.1))

digits_small : IsAscii lower_digits
digits_small = IsAscii-from_all lower_digits (λ k d l. ltb-true _ 128 (AllPass-from_list_all (λ b. nat_lt b 128) lower_digits refl k d l))

pub IsUtf8-sum : (sites : List Site) (chain text : List ℕ) → IsUtf8 (sum_of_text sites chain text)
unfolding sum_of_text
IsUtf8-sum sites chain text =
    let bytes = take 8 (sha256 (digested sites chain text)) in
    IsUtf8-from_ascii (encode_lower bytes) (IsAscii-encode_with lower_digits bytes digits_small)

-- ---- lengths

pub name_size : (sites : List Site) (n : ℕ) → AreSites sites → n < length sites → length (name_at sites n) ≤ 16
name_size sites n are low =
    let site = stands sites n low in
    let s = site.0 in
    let good = site_good sites n s are.good site.1 in
    let name = (and_parts (is_site_name s.name) _ (and_parts _ (list_all is_plain s.addresses) good).0).0 in
    let few = (and_parts (nat_le 1 (length s.name)) (nat_le (length s.name) 16) (and_parts _ (list_all is_name_byte s.name) name).0).1 in
    subst (λ t. length t ≤ 16) (sym (name_there sites n s site.1)) (leb-true (length s.name) 16 few)

number_size : (n : ℕ) → n < 2 ^ 64 → length (decimal n) ≤ 20
number_size n small =
    let most : 2 ^ 64 ≤ 10 ^ 20 = lit≤ tt in
    length-decimal-le 20 n (lit< tt) (omega (arith, small, most)) small

pub message_size : (sites : List Site) (m : Message) → AreSites sites → IsMessageOf sites m → length (message_text sites m) ≤ 37
message_size sites m are among =
    omega (arith, length-append (name_at sites m.site) (46 ∷ decimal m.number), name_size sites m.site are among.0, number_size m.number among.1)

pub recall_size : (sites : List Site) (r : Recall) → AreSites sites → IsRecallOf sites r → length (recall_text sites r) ≤ 37
recall_size sites r are among =
    omega (arith, length-append (name_at sites r.site) (35 ∷ decimal r.number), name_size sites r.site are among.0, number_size r.number among.1)

pub sum_size : (sites : List Site) (chain text : List ℕ) → length (sum_of_text sites chain text) ≤ 16
unfolding sum_of_text
sum_size sites chain text =
    let digest = sha256 (digested sites chain text) in
    omega (arith, length-encode_with lower_digits (take 8 digest), length-take 8 digest)

pub chain_size : (chain : List ℕ) → is_chain_id chain ≡ true → length chain ≡ 32
chain_size chain is = let parts = and_parts (length chain == 32) (list_all is_chain_digit chain) is in grind (arith, parts)

sgtin_size : (gtin serial : List ℕ) → length gtin ≡ 14 → length serial ≤ 20 → length (sgtin_key gtin serial) ≤ 516
sgtin_size gtin serial counted few = omega (arith, length-append gtin (32 ∷ serial), counted, few)

-- the key of an item
pub key_size : (key : List ℕ) → IsKey key → length key ≤ 516
key_size key (text, spells) = elim spells.item [
  | inl (inl (inl uri)) ↦ subst (λ k. length k ≤ 516) (sym uri.names) (sgtin_size (whole_number uri.company uri.indicator uri.item uri.check) (percent_decode uri.escaped) uri.gtin.counted uri.serial.few)
  | inl (inl (inr link)) ↦ subst (λ k. length k ≤ 516) (sym link.names) (sgtin_size link.gtin (percent_decode link.escaped) link.checked.counted link.serial.few)
  | inl (inr (inl uri)) ↦ subst (λ k. length k ≤ 516) (sym uri.names) (omega (arith, uri.sscc.counted))
  | inl (inr (inr link)) ↦ subst (λ k. length k ≤ 516) (sym link.names) (omega (arith, link.checked.counted))
  | inr other ↦ subst (λ k. length k ≤ 516) (sym other.names) (omega (arith, spells.plain.few))
]
