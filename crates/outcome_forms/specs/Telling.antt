-- What the JSON of an outcome tells of it: all but the names of its Rust types.
--
-- The laws are about outcomes that are of the sites: each site that they name is listed, and each number that stands in a
-- text has 64 bits.
use Rattle.std.specs.Prelude.{◌≡◌, ◌<◌, ◌^◌, ⊤, ℕ, List, All, Option, Some, None, [], length, map, string_bytes}
use Rattle.std.specs.List.{AllZip}
use Rattle.event_json.specs.Sites.{AreSites, Site}
use Rattle.frame_core.specs.Numbers.{Message, Recall}
use Rattle.gap_core.specs.declared.lines.GapLine.{GapLine}
use Rattle.gap_core.specs.declared.unseen.UnseenItem.{UnseenItem}
use Rattle.gap_core.specs.declared.untold.UntoldShipment.{UntoldShipment}
use Rattle.query_core.specs.declared.known_items.KnownItem.{KnownItem}
use Rattle.query_core.specs.declared.recalls.RecallDetail.{RecallDetail}
use Rattle.query_core.specs.declared.recalls.RecallStatus.{RecallStatus}
use Rattle.query_core.specs.declared.recalls.SiteStanding.{SiteStanding}
use Rattle.query_core.specs.declared.recalls.WaitingMessage.{WaitingMessage}
use Rattle.report_core.specs.declared.audits.Verdict.{Verdict}
use Rattle.report_core.specs.declared.audits.Verdict.TheVariants.{Equal, Differs}
use Rattle.report_core.specs.declared.trail_events.StepEvents.{StepEvents}
use Rattle.serde_json.specs.Data.{Data, Num, unsigned, negative, float, null, boolean, number, string, array, object, Items, no_items, item, Members, member, no_members}
use Rattle.serde_json.specs.Read.{read}
use Rattle.serde_json.specs.Written.{compact_text}
use Rattle.site_core.specs.declared.outcomes.Effects.{Effects}
use Rattle.site_core.specs.declared.outcomes.Effects.TheVariants as effects
use Rattle.site_core.specs.declared.outcomes.Refusal.{Refusal}
use Rattle.site_core.specs.declared.outcomes.Refusal.TheVariants as steps
use Rattle.site_recovery.specs.declared.checking.Misfit.{Misfit}
use Rattle.trace_core.specs.declared.pairs.Pair.{Pair}
use Rattle.outcome_forms.specs.Json.{Shown, account_json, audited_json, covered_json, detail_json, effects_json, gaps_json, json_lines, known_json, misfit_json, missed_json, outcome_json, ran_json, shown_way, status_json, unlinked_of, why_json, would_json}
use Rattle.report_forms.specs.Accounts.{Account, OutsidePart, Part, way_pairs}
use Rattle.report_forms.specs.declared.accounts.Title.{Title}
use Rattle.report_forms.specs.declared.accounts.Title.TheVariants as titles
use Rattle.recall_outcomes.specs.declared.outcomes.AuditedRecall.{AuditedRecall}
use Rattle.recall_outcomes.specs.declared.outcomes.CommandRefusal.{CommandRefusal}
use Rattle.recall_outcomes.specs.declared.outcomes.CommandRefusal.TheVariants as refusals
use Rattle.recall_outcomes.specs.declared.outcomes.FoundGaps.{FoundGaps}
use Rattle.recall_outcomes.specs.declared.outcomes.MissedPair.{MissedPair}
use Rattle.recall_outcomes.specs.declared.outcomes.MissedReach.{MissedReach}
use Rattle.recall_outcomes.specs.declared.outcomes.Outcome.{Outcome}
use Rattle.recall_outcomes.specs.declared.outcomes.Outcome.TheVariants as outcomes
use Rattle.recall_outcomes.specs.declared.outcomes.PackedGap.{PackedGap}
use Rattle.recall_outcomes.specs.declared.outcomes.SiteCoverage.{SiteCoverage}
use Rattle.recall_outcomes.specs.declared.outcomes.StartedRecall.{StartedRecall}
use Rattle.recall_outcomes.specs.declared.outcomes.Ways.{Ways}

-- ---- lines and values

-- each number is one of 64 bits, without a sign
abbrev pub HasPlainNumber : Num → Type 0
HasPlainNumber (unsigned n) = n < 2 ^ 64
HasPlainNumber (negative z) = ⊥
HasPlainNumber (float x) = ⊥

abbrev mutual
  pub HasPlainNumbers : Data → Type 0
  HasPlainNumbers null = ⊤
  HasPlainNumbers (boolean b) = ⊤
  HasPlainNumbers (number n) = HasPlainNumber n
  HasPlainNumbers (string s) = ⊤
  HasPlainNumbers (array ds) = ItemsHavePlainNumbers ds
  HasPlainNumbers (object ms) = MembersHavePlainNumbers ms

  pub ItemsHavePlainNumbers : Items → Type 0
  ItemsHavePlainNumbers no_items = ⊤
  ItemsHavePlainNumbers (item d ds) = HasPlainNumbers d × ItemsHavePlainNumbers ds

  pub MembersHavePlainNumbers : Members → Type 0
  MembersHavePlainNumbers no_members = ⊤
  MembersHavePlainNumbers (member name d ms) = HasPlainNumbers d × MembersHavePlainNumbers ms

-- The same lines are those of the same values.
abbrev pub LinesTellValues : Type 0
LinesTellValues = (ds es : List Data) → All HasPlainNumbers ds → All HasPlainNumbers es → json_lines ds ≡ json_lines es → ds ≡ es

-- What is printed of an outcome, read by serde_json, is its values.
abbrev pub ValuesAreRead : Type 0
ValuesAreRead =
    (sites : List Site) (o : Outcome) → All HasPlainNumbers (outcome_json sites o) → All (λ d. read (compact_text d) ≡ Some d) (outcome_json sites o)

-- ---- which outcome it is

abbrev pub kind_of : Outcome → ℕ
kind_of outcomes.Created = 0
kind_of (outcomes.Stepped done) = 1
kind_of (outcomes.Ran recalls coded) = 2
kind_of (outcomes.Reported r report ways events) = 3
kind_of (outcomes.Traced trace ways events) = 4
kind_of (outcomes.TracedBack trace ways events) = 5
kind_of (outcomes.Standing recalls coded) = 6
kind_of (outcomes.Waiting detail coded) = 7
kind_of (outcomes.Known site items) = 8
kind_of (outcomes.WouldStart quarantined messages) = 9
kind_of (outcomes.Audited recalls ended coded) = 10
kind_of (outcomes.Inconsistent misfit) = 11
kind_of (outcomes.Refused whys) = 12
kind_of (outcomes.Gaps gaps coded) = 13
kind_of outcomes.Withheld = 14
kind_of (outcomes.Covered found) = 15
kind_of (outcomes.Missed r missed coded) = 16

-- Where there is a value, it tells which outcome it is.
abbrev pub ValuesTellKinds : Type 0
ValuesTellKinds = (sites : List Site) (o p : Outcome) → outcome_json sites o ≡ outcome_json sites p → 0 < length (outcome_json sites o) → kind_of o ≡ kind_of p

-- ---- what is of the sites

abbrev pub RecallIsOf : List Site → Recall → Type 0
RecallIsOf sites r = (r.site < length sites) × (r.number < 2 ^ 64)

abbrev pub MessageIsOf : List Site → Message → Type 0
MessageIsOf sites m = (m.site < length sites) × (m.number < 2 ^ 64)

abbrev pub PairIsOf : List Site → Pair → Type 0
PairIsOf sites p = p.site < length sites

abbrev pub OutsideIsOf : List Site → OutsidePart → Type 0
OutsideIsOf sites x = x.shipment.site < length sites

abbrev pub SomeIsOf : {X : Type 0} → (X → Type 0) → Option X → Type 0
SomeIsOf IsOf None = ⊤
SomeIsOf IsOf (Some x) = IsOf x

abbrev pub EffectsAreOf : List Site → Effects → Type 0
EffectsAreOf sites (effects.Started r new numbered ended) = RecallIsOf sites r
EffectsAreOf sites (effects.ParentDue m) = MessageIsOf sites m
EffectsAreOf sites (effects.Ended r) = RecallIsOf sites r
EffectsAreOf sites other = ⊤

abbrev pub StandingIsOf : List Site → SiteStanding → Type 0
StandingIsOf sites s = (s.site < length sites) × SomeIsOf (MessageIsOf sites) s.engaged_by

abbrev pub WaitingIsOf : List Site → WaitingMessage → Type 0
WaitingIsOf sites w = MessageIsOf sites w.message × (w.to < length sites)

abbrev pub VerdictIsOf : List Site → Verdict → Type 0
VerdictIsOf sites (Equal count) = ⊤
VerdictIsOf sites (Differs p missing) = PairIsOf sites p

abbrev pub AuditedIsOf : List Site → AuditedRecall → Type 0
AuditedIsOf sites a = RecallIsOf sites a.recall × SomeIsOf (VerdictIsOf sites) a.verdict

abbrev pub GapIsOf : List Site → GapLine → Type 0
GapIsOf sites l = (l.site < length sites) × (l.by < length sites)

abbrev pub PackedIsOf : List Site → PackedGap → Type 0
PackedIsOf sites g = GapIsOf sites g.line

-- of a used one the site itself is the packer
abbrev pub UsedIsOf : List Site → GapLine → Type 0
UsedIsOf sites l = (l.site < length sites) × (l.by ≡ l.site)

abbrev pub UnseenIsOf : List Site → UnseenItem → Type 0
UnseenIsOf sites u = (u.site < length sites) × (u.from < length sites)

pub record GapsAreOf (sites : List Site) (gaps : FoundGaps) : Type 0 where
  pub packed : All (PackedIsOf sites) gaps.packed.items
  pub used : All (UsedIsOf sites) gaps.used.items
  pub unseen : All (UnseenIsOf sites) gaps.unseen.items
  pub lots : All (PairIsOf sites) gaps.lots.items
  pub unlinked : SomeIsOf (All (GapIsOf sites)) (unlinked_of gaps)

-- the same gaps, by their lists
pub record AreSameGaps (a b : FoundGaps) : Type 0 where
  pub packed : a.packed.items ≡ b.packed.items
  pub items : a.items ≡ b.items
  pub used : a.used.items ≡ b.used.items
  pub unseen : a.unseen.items ≡ b.unseen.items
  pub lots : a.lots.items ≡ b.lots.items
  pub unlinked : unlinked_of a ≡ unlinked_of b

abbrev pub MissedPairIsOf : List Site → MissedPair → Type 0
MissedPairIsOf sites m = PairIsOf sites m.pair × SomeIsOf (RecallIsOf sites) m.held

abbrev pub LeftIsOf : List Site → UntoldShipment → Type 0
LeftIsOf sites x = x.site < length sites

pub record MissedIsOf (sites : List Site) (missed : MissedReach) : Type 0 where
  pub pairs : All (MissedPairIsOf sites) missed.pairs.items
  pub outside : All (LeftIsOf sites) missed.outside.items

-- a recall misses the same, by its lists
pub record AreSameMissed (a b : MissedReach) : Type 0 where
  pub pairs : a.pairs.items ≡ b.pairs.items
  pub outside : a.outside.items ≡ b.outside.items

abbrev pub StepIsOf : List Site → Refusal → Type 0
StepIsOf sites (steps.Blocked r key event) = RecallIsOf sites r
StepIsOf sites other = ⊤

abbrev pub WhyIsOf : List Site → CommandRefusal → Type 0
WhyIsOf sites (refusals.Step why) = StepIsOf sites why
WhyIsOf sites other = ⊤

pub record DetailIsOf (sites : List Site) (d : RecallDetail) : Type 0 where
  pub recall : RecallIsOf sites d.status.recall
  pub sites_told : All (StandingIsOf sites) d.sites
  pub waiting : All (WaitingIsOf sites) d.waiting

abbrev pub TitleIsOf : List Site → Title → Type 0
TitleIsOf sites (titles.Recall r ended) = RecallIsOf sites r
TitleIsOf sites other = ⊤

abbrev pub PartIsOf : List Site → Part → Type 0
PartIsOf sites p = PairIsOf sites p.pair × SomeIsOf (All (PairIsOf sites)) (way_pairs p.way)

-- a trace back has origins, and any other account what left
abbrev pub EndsSo : Title → List OutsidePart → List Pair → Type 0
EndsSo titles.Back outside origins = outside ≡ []
EndsSo other outside origins = origins ≡ []

-- a report or a trace
pub record AccountIsOf (sites : List Site) (a : Account) : Type 0 where
  pub title : TitleIsOf sites a.title
  pub root : PairIsOf sites a.root
  pub parts : All (PartIsOf sites) a.parts
  pub ends : EndsSo a.title a.outside a.origins
  pub outside : All (OutsideIsOf sites) a.outside
  pub origins : All (PairIsOf sites) a.origins

-- ---- what is told

-- a pair, what is shown of how it is reached, and the events that are told of that
abbrev pub shown_part : Ways → Part → Pair × (Shown × Option (List StepEvents))
shown_part ways p = (p.pair, (shown_way ways p.way, p.events))

pub record TellsAccount (ways other : Ways) (a b : Account) : Type 0 where
  pub title : a.title ≡ b.title
  pub root : a.root ≡ b.root
  pub parts : map (shown_part ways) a.parts ≡ map (shown_part other) b.parts
  pub outside : a.outside ≡ b.outside
  pub origins : a.origins ≡ b.origins

-- names by their bytes
abbrev pub TellsWhy : CommandRefusal → CommandRefusal → Type 0
TellsWhy (refusals.Exists name) (refusals.Exists other) = string_bytes name ≡ string_bytes other
TellsWhy (refusals.NoSite name) (refusals.NoSite other) = string_bytes name ≡ string_bytes other
TellsWhy why other = why ≡ other

-- Of each kind of outcome, two whose values are the same are the same; of two reports or traces, by their accounts, all that is shown.
pub record ValuesTell (sites : List Site) : Type 0 where
  pub steps : (e f : Effects) → EffectsAreOf sites e → EffectsAreOf sites f → effects_json sites e ≡ effects_json sites f → e ≡ f
  pub runs : (r s : List StartedRecall) → All (λ (b : StartedRecall). RecallIsOf sites b.recall) r → All (λ (b : StartedRecall). RecallIsOf sites b.recall) s
      → map (ran_json sites) r ≡ map (ran_json sites) s → r ≡ s
  pub accounts : (a b : Account) (ways other : Ways) → AccountIsOf sites a → AccountIsOf sites b
      → account_json sites ways a ≡ account_json sites other b → TellsAccount ways other a b
  pub standings : (r s : List RecallStatus) → All (λ (b : RecallStatus). RecallIsOf sites b.recall) r → All (λ (b : RecallStatus). RecallIsOf sites b.recall) s
      → map (status_json sites) r ≡ map (status_json sites) s → r ≡ s
  pub waits : (a b : RecallDetail) → DetailIsOf sites a → DetailIsOf sites b → detail_json sites a ≡ detail_json sites b → a ≡ b
  pub items : (m n : ℕ) (r s : List KnownItem) → m < length sites → n < length sites → map (known_json sites m) r ≡ map (known_json sites n) s
      → (r ≡ s) × (0 < length r → m ≡ n)
  pub dry_starts : (q m r n : ℕ) → would_json q m ≡ would_json r n → (q ≡ r) × (m ≡ n)
  pub audits : (r s : List AuditedRecall) → All (AuditedIsOf sites) r → All (AuditedIsOf sites) s → map (audited_json sites) r ≡ map (audited_json sites) s → r ≡ s
  pub misfits : (a b : Misfit) → a.site < length sites → b.site < length sites → misfit_json sites a ≡ misfit_json sites b → a ≡ b
  pub gaps : (a b : FoundGaps) → GapsAreOf sites a → GapsAreOf sites b → gaps_json sites a ≡ gaps_json sites b → AreSameGaps a b
  pub missed : (r s : Recall) (a b : MissedReach) → RecallIsOf sites r → RecallIsOf sites s → MissedIsOf sites a → MissedIsOf sites b
      → missed_json sites r a ≡ missed_json sites s b → (r ≡ s) × AreSameMissed a b
  pub coverages : (a b : List SiteCoverage) → All (λ (c : SiteCoverage). c.site < length sites) a → All (λ (c : SiteCoverage). c.site < length sites) b
      → map (covered_json sites) a ≡ map (covered_json sites) b → a ≡ b
  pub refusals : (a b : List CommandRefusal) → All (WhyIsOf sites) a → All (WhyIsOf sites) b → map (why_json sites) a ≡ map (why_json sites) b → AllZip TellsWhy a b

abbrev pub ValuesTellOutcomes : Type 0
ValuesTellOutcomes = (sites : List Site) → AreSites sites → ValuesTell sites
