-- Plans of the captures by which sites close their packed gaps.
use Rattle.std.specs.Prelude.{◌≡◌, ◌≢◌, ◌==◌, ℕ, List, [], ◌∷◌, Option, None, Some, if◌then◌else◌, string_bytes}
use Rattle.std.specs.List.{flat_map}
use Rattle.std.specs.Option.{option_map_or}
use Rattle.event_json.specs.Sites.{Site, named}
use Rattle.query_core.specs.Lists.{AreAllBy}
use Rattle.recall_outcomes.specs.declared.batches.Task.TheVariants.{Capture}
use Rattle.site_core.specs.Records.{Record}
use Rattle.site_folders.specs.Refusals.{IsNoSite}
use Rattle.site_recovery.specs.Laws.{captured_of}
use Rattle.folder_questions.specs.Packs.{ArePackDocuments}
use Rattle.folder_questions.specs.Plans.{Outline, outlined, outline_cmp, outlines}
use Rattle.folder_questions.specs.declared.packs.PackDocument.{PackDocument}
use Rattle.folder_questions.specs.declared.plans.Planned.{Planned}
use Rattle.folder_questions.specs.declared.plans.Planned.TheVariants.{Batches, Refused}

-- ---- the texts

-- the document of an event that the site is to capture; there is none where no time names the event's instant
abbrev pub text_at : ℕ → PackDocument → List (List ℕ)
text_at site d = if d.pack.site == site then option_map_or (λ text. string_bytes text ∷ []) d.document [] else []

-- those of these
abbrev pub texts_at : ℕ → List PackDocument → List (List ℕ)
texts_at site documents = flat_map (text_at site) documents

-- ---- the plans

-- a name that isn't listed is refused
abbrev pub RefusesWherePlan : Option (List ℕ) → List Site → Planned → Type 0
RefusesWherePlan (Some name) sites (Refused outcome) = (named sites name ≡ None) × IsNoSite name outcome
RefusesWherePlan name sites other = ⊥

-- a site of which there are documents captures these
abbrev pub IsCaptureOf : List PackDocument → Outline → Type 0
IsCaptureOf documents (site, task, texts) = (task ≡ Capture) × (texts ≡ texts_at site documents) × (texts ≢ [])

-- so does each site, in the order of the sites' numbers
abbrev pub ArePlannedCaptures : List PackDocument → List Outline → Type 0
ArePlannedCaptures documents plan = AreAllBy outline_cmp (IsCaptureOf documents) plan

-- each site, or the one that is asked for, captures the events by which it closes its packed gaps
abbrev pub AnswersPacksPlan : List Record → Option ℕ → Planned → Type 0
AnswersPacksPlan records asked (Batches plan) =
    (documents : List PackDocument) × ArePackDocuments (captured_of records) asked documents × ArePlannedCaptures documents (outlines plan.items)
AnswersPacksPlan records asked other = ⊥

-- ---- step by step

-- the site of the record captures its documents
abbrev pub captured_at : List PackDocument → Record → List Outline
captured_at documents r = outlined r.engagement.me Capture (texts_at r.engagement.me documents)
