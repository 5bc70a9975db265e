-- The documents of the events by which sites close their packed gaps.
use Rattle.std.specs.Prelude.{◌≡◌, ◌↔◌, ◌==◌, ℕ, Bool, true, List, Option, None, Some, Contains, MatchOption, filter, map, slice_get, string_bytes}
use Rattle.std.specs.Global.{Global}
use Rattle.std.specs.List.Sorted.{IsStrictlySortedBy}
use Rattle.std.specs.declared.string.String.{String}
use Rattle.event_json.specs.Events.{Content}
use Rattle.event_json.specs.Sites.{Site, named}
use Rattle.event_writing.specs.Packings.{IsNotWritten, IsReadAs}
use Rattle.gap_core.specs.GapPacks.{IsGapPack, gap_pack_cmp}
use Rattle.gap_core.specs.declared.packs.GapPack.{GapPack}
use Rattle.site_core.specs.Records.{Record}
use Rattle.site_folders.specs.Refusals.{IsNoSite}
use Rattle.site_recovery.specs.Laws.{captured_of}
use Rattle.trace_core.specs.Sites.{SiteEvents}
use Rattle.folder_questions.specs.declared.packs.PackDocument.{PackDocument}
use Rattle.folder_questions.specs.declared.packs.PacksAnswer.{PacksAnswer}
use Rattle.folder_questions.specs.declared.packs.PacksAnswer.TheVariants.{Found, NoSite}

-- the gaps of all sites, or of the one of the name, are asked for
abbrev pub AsksWhere : Option (List ℕ) → List Site → Option ℕ → Type 0
AsksWhere None sites asked = asked ≡ None
AsksWhere (Some name) sites asked = (site : ℕ) × (named sites name ≡ Some site) × (asked ≡ Some site)

-- a name that isn't listed is refused
abbrev pub RefusesWhere : Option (List ℕ) → List Site → PacksAnswer → Type 0
RefusesWhere (Some name) sites (NoSite outcome) = (named sites name ≡ None) × IsNoSite name outcome
RefusesWhere name sites other = ⊥

-- the event is asked for
abbrev pub is_asked : Option ℕ → GapPack → Bool
is_asked None pack = true
is_asked (Some site) pack = pack.site == site

-- the event of the site that a packing tells of
abbrev pub IsEventAt : SiteEvents → GapPack → Content → Type 0
IsEventAt packer pack e = (packer.me ≡ pack.by) × (slice_get packer.events pack.place ≡ Some e)

-- so of one of the sites
abbrev pub IsEventOf : List SiteEvents → GapPack → Content → Type 0
IsEventOf sites pack e = (packer : SiteEvents) × Contains sites packer × IsEventAt packer pack e

-- the text is a document that is read as this event alone, whatever sites are listed; there is none only where no document can tell it
abbrev pub IsDocumentOf : List SiteEvents → GapPack → Option (String Global) → Type 0
IsDocumentOf sites pack document =
    (e : Content) × IsEventOf sites pack e × MatchOption document (IsNotWritten e) (λ (text : String Global). IsReadAs e (string_bytes text))

-- so of each that tells of an event
abbrev pub HasEvent : List SiteEvents → GapPack → Type 0
HasEvent sites pack = (e : Content) × IsEventOf sites pack e

abbrev pub HaveDocuments : List SiteEvents → List PackDocument → Type 0
HaveDocuments sites documents = (d : PackDocument) → Contains documents d → HasEvent sites d.pack → IsDocumentOf sites d.pack d.document

-- they are of those that are asked for, in order
abbrev pub AreThose : Option ℕ → List GapPack → List PackDocument → Type 0
AreThose asked packs documents = map (λ d. d.pack) documents ≡ filter (is_asked asked) packs

-- the documents of all events by which the sites that are asked for close their gaps, in order
pub record ArePackDocuments (sites : List SiteEvents) (asked : Option ℕ) (documents : List PackDocument) : Type 0 where
  pub packs : List GapPack
  pub ascending : IsStrictlySortedBy gap_pack_cmp packs
  pub exact : (p : GapPack) → Contains packs p ↔ IsGapPack sites p
  pub those : AreThose asked packs documents
  pub each : (d : PackDocument) → Contains documents d → IsDocumentOf sites d.pack d.document

-- so of what the records have captured
abbrev pub AnswersPacks : List Record → Option ℕ → PacksAnswer → Type 0
AnswersPacks records asked (Found documents) = ArePackDocuments (captured_of records) asked documents.items
AnswersPacks records asked other = ⊥
