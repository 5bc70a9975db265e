-- Plans of recalls of what another recall misses at a site, and of the captures before them.
use Rattle.std.specs.Prelude.{◌≡◌, ◌↔◌, ◌⊎◌, ◌==◌, ◌&&◌, ℕ, List, [], ◌∷◌, ◌++◌, map, None, Some, is_some, not, if◌then◌else◌, Contains}
use Rattle.std.specs.List.{flat_map}
use Rattle.std.specs.List.Sorted.{IsStrictlySortedBy}
use Rattle.event_json.specs.Sites.{Site, named}
use Rattle.frame_core.specs.Numbers.{Recall}
use Rattle.gap_core.specs.GapPacks.{IsItemPack, gap_pack_cmp}
use Rattle.gap_core.specs.declared.packs.GapPack.{GapPack}
use Rattle.recall_outcomes.specs.declared.batches.Task.TheVariants.{Capture, Start}
use Rattle.recall_outcomes.specs.declared.outcomes.CommandRefusal.TheVariants.{UnknownRecall}
use Rattle.recall_outcomes.specs.declared.outcomes.MissedPair.{MissedPair}
use Rattle.recall_outcomes.specs.declared.outcomes.MissedReach.{MissedReach}
use Rattle.report_core.specs.Traces.{IsKnownAt}
use Rattle.scholten_core.specs.declared.own_recalls.Own.{Own}
use Rattle.site_core.specs.Records.{Record}
use Rattle.site_folders.specs.Refusals.{IsNoSite, IsRefusal}
use Rattle.site_recovery.specs.Laws.{captured_of}
use Rattle.site_recovery.specs.Looks.{own, world_of}
use Rattle.trace_core.specs.Sites.{SiteEvents}
use Rattle.folder_questions.specs.Asked.{AsksRecall, RefusesRecall}
use Rattle.folder_questions.specs.Missed.{AreMissedBy}
use Rattle.folder_questions.specs.Packs.{IsDocumentOf}
use Rattle.folder_questions.specs.PacksPlans.{texts_at}
use Rattle.folder_questions.specs.Plans.{outlined, outlines}
use Rattle.folder_questions.specs.declared.packs.PackDocument.{PackDocument}
use Rattle.folder_questions.specs.declared.plans.Planned.{Planned}
use Rattle.folder_questions.specs.declared.plans.Planned.TheVariants.{Batches, Refused}

-- the item of a pair at the site that no recall holds
abbrev pub unheld : ℕ → MissedPair → List (List ℕ)
unheld site m = if (m.pair.site == site) && not (is_some m.held) then m.pair.item ∷ [] else []

-- those of these
abbrev pub unheld_at : ℕ → List MissedPair → List (List ℕ)
unheld_at site pairs = flat_map (unheld site) pairs

-- the site of a name, and the recall that a text names
abbrev pub AsksGapsPlan : List ℕ → List ℕ → List Site → ℕ → Recall → Type 0
AsksGapsPlan name text sites site r = (named sites name ≡ Some site) × AsksRecall text sites r

-- no site of this name is listed; or the text names no recall
abbrev pub RefusesGapsPlan : List ℕ → List ℕ → List Site → Planned → Type 0
RefusesGapsPlan name text sites (Refused outcome) =
    ((named sites name ≡ None) × IsNoSite name outcome) ⊎ ((site : ℕ) × (named sites name ≡ Some site) × RefusesRecall text sites outcome)
RefusesGapsPlan name text sites other = ⊥

-- just those of these items that the site doesn't know
abbrev pub AreUnknownAt : List Record → ℕ → List (List ℕ) → List (List ℕ) → Type 0
AreUnknownAt records site items unknown = (i : List ℕ) → Contains unknown i ↔ (Contains items i × (IsKnownAt (world_of records) site i → ⊥))

-- the documents of all events of other sites that tell the site where these items lie, in order
pub record AreItemDocuments (sites : List SiteEvents) (site : ℕ) (items : List (List ℕ)) (documents : List PackDocument) : Type 0 where
  pub ascending : IsStrictlySortedBy gap_pack_cmp (map (λ d. d.pack) documents)
  pub exact : (p : GapPack) → Contains (map (λ d. d.pack) documents) p ↔ IsItemPack sites site items p
  pub each : (d : PackDocument) → Contains documents d → IsDocumentOf sites d.pack d.document

-- The site starts a recall of each item there that the recall misses and no recall holds. Before that it captures the events that tell it
-- where those lie that it doesn't know. Or no site began the recall.
abbrev pub AnswersGapsPlan : List Record → ℕ → Recall → Planned → Type 0
AnswersGapsPlan records site r (Batches plan) =
    (begun : Own) × (own (world_of records) r.site r.number ≡ Some begun)
    × (missed : MissedReach) × AreMissedBy records (record { site = r.site; item = begun.root }) missed
    × (unknown : List (List ℕ)) × AreUnknownAt records site (unheld_at site missed.pairs.items) unknown
    × (documents : List PackDocument) × AreItemDocuments (captured_of records) site unknown documents
    × (outlines plan.items ≡ outlined site Capture (texts_at site documents) ++ outlined site Start (unheld_at site missed.pairs.items))
AnswersGapsPlan records site r (Refused outcome) = (own (world_of records) r.site r.number ≡ None) × IsRefusal UnknownRecall outcome
