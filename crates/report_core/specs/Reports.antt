-- What a report of a recall says.
use Rattle.std.specs.Prelude.{◌≡◌, ◌↔◌, List, Some, None, IsSome, Contains}
use Rattle.std.specs.List.{AllZip}
use Rattle.frame_core.specs.Numbers.{Recall}
use Rattle.scholten_core.specs.declared.own_recalls.Own.{Own}
use Rattle.trace_core.specs.Pairs.{IsStrictlyAscending}
use Rattle.trace_core.specs.Trails.{TellsTrail}
use Rattle.trace_core.specs.declared.pairs.Pair.{Pair}
use Rattle.site_core.specs.Records.{Record}
use Rattle.site_recovery.specs.Laws.{captured_of}
use Rattle.site_recovery.specs.Looks.{World, world_of, Held, own}
use Rattle.site_recovery.specs.Recalls.{quarantined}
use Rattle.report_core.specs.Outside.{AreOutside}
use Rattle.report_core.specs.declared.reports.RecallReport.{RecallReport}
use Rattle.report_core.specs.declared.faults.ReportFault.{ReportFault}
use Rattle.report_core.specs.declared.faults.ReportFault.TheVariants.{NoMemory, UnknownRecall}

-- the list of what is quarantined under the recall at all sites: by site and item, and each once
pub record AreHeld (records : List Record) (recall : Recall) (pairs : List Pair) : Type 0 where
  pub all : pairs ≡ quarantined recall records
  pub ascending : IsStrictlyAscending pairs
  pub exact : (p : Pair) → Contains pairs p ↔ Held (world_of records) p.site recall p.item

-- the report gives the recall's root and whether it has ended, as the record of the site that began it has them; what
-- is quarantined, with a trail to each pair; and what of it was shipped out
pub record IsReport (records : List Record) (recall : Recall) (report : RecallReport) : Type 0 where
  pub entry : Own
  pub begun : own (world_of records) recall.site recall.number ≡ Some entry
  pub root : report.root ≡ record { site = recall.site; item = entry.root }
  pub ended : report.ended ≡ entry.ended
  pub pairs : AreHeld records recall report.pairs
  pub trails : AllZip (TellsTrail (captured_of records) report.root) report.pairs report.trails
  pub outside : AreOutside (world_of records) recall report.outside

-- a recall is unknown where the record of its site has no such own recall; memory runs out for known ones alone
abbrev pub TellsFault : World → Recall → ReportFault → Type 0
TellsFault W recall NoMemory = IsSome (own W recall.site recall.number)
TellsFault W recall UnknownRecall = own W recall.site recall.number ≡ None
