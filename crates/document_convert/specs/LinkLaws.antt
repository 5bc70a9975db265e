-- What becomes of units, in the words of the one who looks for one.
use Rattle.std.specs.Prelude.{◌≡◌, ◌⊎◌, ◌==◌, ℕ, Bool, IsTrue, not, List, [], ◌++◌, codes, length, Some}
use Rattle.std.specs.List.{list_all}
use Rattle.percent_encoding.specs.Percent.{percent_decode}
use Rattle.epc_core.specs.Items.{sgtin_key, sscc_key}
use Rattle.epc_core.specs.Numbers.{IsChecked}
use Rattle.epc_core.specs.Serials.{IsSerial, is_part_byte}
use Rattle.epc_core.specs.Spellings.{Spells}
use Rattle.event_writing.specs.Texts.{item_text}
use Rattle.item_spellings.specs.Elements.{Element}
use Rattle.item_spellings.specs.Laws.{NamesSgtin, NamesSscc}
use Rattle.item_spellings.specs.Writing.{IsWriting}
use Rattle.serde_json.specs.Data.{string}
use Rattle.document_convert.specs.EachLaws.{ChangesEach}
use Rattle.document_convert.specs.Linked.{document_with_links}
use Rattle.document_convert.specs.Links.{link_of}
use Rattle.document_convert.specs.Lots.{zeros}
use Rattle.document_convert.specs.LotLaws.{EventsAreSpelled}
use Rattle.document_convert.specs.Respelled.{spelled_item, with_spelled}

-- ---- which texts name a unit

-- no byte of the text is this one
abbrev pub lacks : ℕ → List ℕ → Bool
lacks byte text = list_all (λ b. not (b == byte)) text

-- nothing, or a query or a fragment
abbrev pub IsTail : List ℕ → Type 0
IsTail tail = (tail ≡ []) ⊎ ((rest : List ℕ) × ((tail ≡ codes "?" ++ rest) ⊎ (tail ≡ codes "#" ++ rest)))

-- a link with this path, on any host (GS1 Digital Link standard, URI syntax)
pub record IsLinkTo (path text : List ℕ) : Type 0 where
  pub scheme : List ℕ
  pub is_scheme : (scheme ≡ codes "https://") ⊎ (scheme ≡ codes "http://")
  pub host : List ℕ
  pub no_slash : IsTrue (lacks 47 host)
  pub no_query : IsTrue (lacks 63 (host ++ (codes "/" ++ path)))
  pub no_fragment : IsTrue (lacks 35 (host ++ (codes "/" ++ path)))
  pub tail : List ℕ
  pub is_tail : IsTail tail
  pub is : text ≡ scheme ++ ((host ++ (codes "/" ++ path)) ++ tail)

-- an application identifier or its name, and a slash
abbrev pub IsWord : List ℕ → List ℕ → List ℕ → Type 0
IsWord number name word = (word ≡ number) ⊎ (word ≡ name)

-- nothing, or such a word with a value and a slash
abbrev pub IsOptional : List ℕ → List ℕ → List ℕ → Type 0
IsOptional number name part =
    (part ≡ []) ⊎ ((word : List ℕ) × (value : List ℕ) × IsWord number name word × IsTrue (lacks 47 value) × (part ≡ word ++ (value ++ codes "/")))

-- the path of a trade item: the digits of a GTIN, which zeros fill to 14, a consumer product variant and a lot or none, and a serial number
pub record IsItemPath (path key : List ℕ) : Type 0 where
  pub first : List ℕ
  pub is_first : IsWord (codes "01/") (codes "gtin/") first
  pub digits : List ℕ
  pub front : List ℕ
  pub filled : zeros (length digits) ≡ Some front
  pub variant : List ℕ
  pub is_variant : IsOptional (codes "22/") (codes "cpv/") variant
  pub lot : List ℕ
  pub is_lot : IsOptional (codes "10/") (codes "lot/") lot
  pub last : List ℕ
  pub is_last : IsWord (codes "21/") (codes "ser/") last
  pub escaped : List ℕ
  pub is : path ≡ first ++ (digits ++ (codes "/" ++ (variant ++ (lot ++ (last ++ escaped)))))
  pub checked : IsChecked 14 (front ++ digits)
  pub part : IsTrue (list_all is_part_byte escaped)
  pub serial : IsSerial (percent_decode escaped)
  pub names : key ≡ sgtin_key (front ++ digits) (percent_decode escaped)

-- the path of a logistic unit: the digits of an SSCC
pub record IsSsccPath (path key : List ℕ) : Type 0 where
  pub first : List ℕ
  pub is_first : IsWord (codes "00/") (codes "sscc/") first
  pub digits : List ℕ
  pub is : path ≡ first ++ digits
  pub checked : IsChecked 18 digits
  pub names : key ≡ sscc_key digits

abbrev pub NamesByLink : List ℕ → List ℕ → Type 0
NamesByLink text key = (path : List ℕ) × IsLinkTo path text × (IsItemPath path key ⊎ IsSsccPath path key)

-- element strings, of which the first begins with a bracket, that name the item of a GTIN and a serial number, or of an SSCC
pub record NamesByElements (text key : List ℕ) : Type 0 where
  pub rest : List ℕ
  pub bracket : text ≡ codes "(" ++ rest
  pub elements : List Element
  pub written : IsWriting elements text
  pub named : NamesSgtin elements key ⊎ NamesSscc elements key

abbrev pub NamesUnit : List ℕ → List ℕ → Type 0
NamesUnit text key = NamesByLink text key ⊎ NamesByElements text key

-- Each text that names a unit is turned into the text by which this unit is written, and that spells it: so two spellings of a unit become one.
abbrev pub UnitsBecomeLinks : Type 0
UnitsBecomeLinks = (text key : List ℕ) → NamesUnit text key → (link_of text ≡ Some (item_text key)) × Spells (item_text key) key

-- And what a text is turned into spells a unit that the text names.
abbrev pub LinksAreUnits : Type 0
LinksAreUnits = (text link : List ℕ) → link_of text ≡ Some link → (key : List ℕ) × NamesUnit text key × Spells link key

-- Two units never become one text.
abbrev pub UnitsStayApart : Type 0
UnitsStayApart = (text other key another link : List ℕ) → NamesUnit text key → NamesUnit other another → link_of text ≡ Some link → link_of other ≡ Some link → key ≡ another

-- ---- the units of a document

-- A text in a list of items stays, or becomes the one link of the unit that it names.
pub record TextsAreLinked : Type 0 where
  pub units : (text key : List ℕ) → NamesUnit text key → spelled_item link_of (string text) ≡ string (item_text key)
  pub others : (text : List ℕ) → ((key : List ℕ) → NamesUnit text key → ⊥) → spelled_item link_of (string text) ≡ string text

-- Of an event of each type the units in its lists of items, and the parent, become their links in their place, and nothing else changes.
abbrev pub EventsAreLinked : Type 0
EventsAreLinked = EventsAreSpelled link_of

-- Each event of a document is there with its units as links, in order, and no other; nothing beside its body changes.
abbrev pub DocumentsAreLinked : Type 0
DocumentsAreLinked = ChangesEach (with_spelled link_of) document_with_links
