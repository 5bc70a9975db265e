-- What keeps sites consistent, and what that gives once a recall has ended.
use Rattle.std.specs.Prelude.{◌≡◌, ◌↔◌, ℕ, ◌<◌, ◌++◌, List, [], ◌∷◌, length, map, set, Contains, IsTrue, Some}
use Rattle.event_json.specs.Sites.{Site}
use Rattle.frame_core.specs.Numbers.{Recall}
use Rattle.frame_core.specs.declared.frames.Frame.{Frame}
use Rattle.scholten_core.specs.declared.own_recalls.Own.{Own}
use Rattle.trace_core.specs.Chains.{Related}
use Rattle.trace_core.specs.Relations.{Reaches}
use Rattle.trace_core.specs.Sites.{SiteEvents}
use Rattle.site_core.specs.Emitting.{emittable}
use Rattle.site_core.specs.Records.{Record, fresh}
use Rattle.site_core.specs.Steps.{Does}
use Rattle.site_core.specs.declared.inputs.SiteInput.{SiteInput}
use Rattle.site_core.specs.declared.inputs.SiteInput.TheVariants.{Deliver}
use Rattle.site_core.specs.declared.outcomes.Effects.{Effects}
use Rattle.site_recovery.specs.Fit.{Fit, Fits, IsEnded}
use Rattle.site_recovery.specs.Looks.{World, world_of, Held, own}

-- the record of a site names the site's own number
pub record IsInPlace (site : Record) (s : ℕ) : Type 0 where
  pub captured : site.captured.me ≡ s
  pub engagement : site.engagement.me ≡ s

-- so does each record of a list
abbrev pub AreInPlace : List Record → Type 0
AreInPlace records = (s : ℕ) → s < length records → IsInPlace (world_of records s) s

-- what each site captured
abbrev pub captured_of : List Record → List SiteEvents
captured_of records = map (λ r. r.captured) records

-- Once a recall has ended, what is quarantined under it is what its root reaches, neither more nor less.
abbrev pub EndsAreExact : Type 0
EndsAreExact =
    (records : List Record) → AreInPlace records → Fit (world_of records) → (r : Recall) (o : Own) → own (world_of records) r.site r.number ≡ Some o → IsTrue o.ended
    → (s : ℕ) (i : List ℕ) → Held (world_of records) s r i ↔ Reaches (Related (captured_of records)) (record { site = r.site; item = o.root }) (record { site = s; item = i })

-- the recall's entry at its initiator is as it was, and the same items are quarantined under it
pub record StaysAs (V W : World) (r : Recall) : Type 0 where
  pub entry : own W r.site r.number ≡ own V r.site r.number
  pub quarantine : (s : ℕ) (i : List ℕ) → Held W s r i ↔ Held V s r i

-- all fits still, and each ended recall is as it was
pub record FitsStill (V W : World) (sent : List Frame) : Type 0 where
  pub fits : Fits W sent
  pub ended_stay : (r : Recall) → IsEnded V r → StaysAs V W r

-- a frame that an input delivers was sent
abbrev pub WasSent : List Frame → SiteInput → Type 0
WasSent sent input = (f : Frame) → input ≡ Deliver f → Contains sent f

-- A step of one site keeps the records consistent, and what has ended, and each record in its place.
abbrev pub StepsKeepTheFit : Type 0
StepsKeepTheFit =
    (records : List Record) (sent : List Frame) (s : ℕ) (input : SiteInput) (e : Effects) (next : Record)
    → AreInPlace records → Fits (world_of records) sent → s < length records → WasSent sent input → Does (world_of records s) input e next
    → FitsStill (world_of records) (world_of (set records s next)) sent × AreInPlace (set records s next)

-- So does a frame that a site sends.
abbrev pub SendsKeepTheFit : Type 0
SendsKeepTheFit =
    (records : List Record) (sent : List Frame) (s : ℕ) (f : Frame)
    → AreInPlace records → Fits (world_of records) sent → s < length records → Contains (emittable (world_of records s).engagement) f
    → Fits (world_of records) (sent ++ f ∷ [])

-- It says nothing of how often, or in which order, frames were sent, and holds where some are forgotten.
abbrev pub FewerFramesFit : Type 0
FewerFramesFit =
    (records : List Record) (sent some : List Frame)
    → Fits (world_of records) sent → ((f : Frame) → Contains some f → Contains sent f) → Fits (world_of records) some

-- Sites that keep nothing yet are consistent, and no frame was sent.
abbrev pub EmptySitesFit : Type 0
EmptySitesFit =
    (sites : List Site) (records : List Record)
    → ((s : ℕ) → s < length records → world_of records s ≡ fresh sites s) → Fits (world_of records) []
