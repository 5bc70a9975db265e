-- texts that spell an SGTIN or an SSCC, and those that nearly do
use Rattle.std.proofs.Common.{◌≡◌, ℕ, true, List, ◌++◌, Option, Some, None, codes, option_map, refl, sym, ap, subst}
use Rattle.std.specs.Prelude.{◌&&◌, IsSome, IsTrue, if◌then◌else◌, is_none}
use Rattle.std.specs.Option.{option_and_then, option_or}
use Rattle.epc_core.specs.Items.{behind, gtin_of_link, gtin_of_uri, key_of, number_key_of, sgtin_key, sgtin_key_of, sscc_key, sscc_key_of, sscc_of_link, sscc_of_uri, uri_key}
use Rattle.epc_core.specs.Serials.{serial_of}
use Rattle.epc_core.proofs.Cuts.{behind-append, behind_some}
use Rattle.document_lint.specs.Laws.{NearMissesSpellNone, SpellingsBeginSo}
use Rattle.document_lint.specs.NearMisses.{is_number_like, near_text}

-- ---- the key of an SGTIN or an SSCC isn't that of another text

serial_key : (gtin : List ℕ) (serial : Option (List ℕ)) (key : List ℕ) → option_map (sgtin_key gtin) serial ≡ Some key → near_text key ≡ None
serial_key gtin None key is = cc
serial_key gtin (Some serial) key is = let same : sgtin_key gtin serial ≡ key = cc in subst (λ k. near_text k ≡ None) same refl

gtin_key : (parts : Option (List ℕ × List ℕ)) (key : List ℕ)
    → option_and_then (λ p. option_map (sgtin_key p.0) (serial_of p.1)) parts ≡ Some key → near_text key ≡ None
gtin_key None key is = cc
gtin_key (Some (gtin, serial)) key is = serial_key gtin (serial_of serial) key is

unit_key : (digits : Option (List ℕ)) (key : List ℕ) → option_map sscc_key digits ≡ Some key → near_text key ≡ None
unit_key None key is = cc
unit_key (Some digits) key is = let same : sscc_key digits ≡ key = cc in subst (λ k. near_text k ≡ None) same refl

either_key : (first second : Option (List ℕ)) (key : List ℕ) → ((k : List ℕ) → first ≡ Some k → near_text k ≡ None)
    → ((k : List ℕ) → second ≡ Some k → near_text k ≡ None) → option_or first second ≡ Some key → near_text key ≡ None
either_key None second key one other is = other key is
either_key (Some k) second key one other is = one key is

number_key : (text key : List ℕ) → number_key_of text ≡ Some key → near_text key ≡ None
number_key text key is =
    either_key (sgtin_key_of text) (sscc_key_of text) key (gtin_key (option_or (gtin_of_uri text) (gtin_of_link text)))
    (unit_key (option_or (sscc_of_uri text) (sscc_of_link text))) is

other_key : (text : List ℕ) → near_text (uri_key text) ≡ (if is_number_like text then Some text else None)
other_key text = ap (λ rest. option_and_then (λ t. if is_number_like t then Some t else None) rest) (behind-append (codes "uri ") text)

pub spell_none : NearMissesSpellNone
unfolding key_of
spell_none text = by (number_key_of text) refl
  where
    by : (key : Option (List ℕ)) → number_key_of text ≡ key
        → near_text (key_of text) ≡ (if is_none (number_key_of text) && is_number_like text then Some text else None)
    by None is = rw is (other_key text)
    by (Some key) is = rw is (number_key text key is)

-- ---- what they begin with

or_cases : {X : Type 0} {P : Type 0} (first second : Option X) → (IsSome first → P) → (IsSome second → P) → IsSome (option_or first second) → P
or_cases None second one other some = other some
or_cases (Some x) second one other some = one some

then_first : {X Y : Type 0} (f : X → Option Y) (found : Option X) → IsSome (option_and_then f found) → IsSome found
then_first f None some = some
then_first f (Some x) some = refl

map_first : {X Y : Type 0} (f : X → Y) (found : Option X) → IsSome (option_map f found) → IsSome found
map_first f None some = some
map_first f (Some x) some = refl

-- a text that begins with a front behind which each begins so
fronted : (front text : List ℕ) → ((rest : List ℕ) → is_number_like (front ++ rest) ≡ true) → IsSome (behind front text) → IsTrue (is_number_like text)
fronted front text like some = by (behind front text) refl some
  where
    by : (rest : Option (List ℕ)) → behind front text ≡ rest → IsSome rest → IsTrue (is_number_like text)
    by None is some = cc
    by (Some rest) is some = subst (λ t. is_number_like t ≡ true) (sym (behind_some front text rest is)) (like rest)

pub begin_so : SpellingsBeginSo
begin_so text some =
    or_cases (sgtin_key_of text) (sscc_key_of text)
    (λ item. or_cases (gtin_of_uri text) (gtin_of_link text)
    (λ uri. fronted (codes "urn:epc:id:sgtin:") text (λ rest. refl) (then_first _ _ uri))
    (λ link. fronted (codes "https://id.gs1.org/01/") text (λ rest. refl) (then_first _ _ link))
    (then_first _ _ item))
    (λ unit. or_cases (sscc_of_uri text) (sscc_of_link text)
    (λ uri. fronted (codes "urn:epc:id:sscc:") text (λ rest. refl) (then_first _ _ uri))
    (λ link. fronted (codes "https://id.gs1.org/00/") text (λ rest. refl) (then_first _ _ link))
    (map_first _ _ unit))
    some
