-- That a record is the one last marked of its site, and what the calls leave of that.
use Rattle.std.specs.Prelude.{◌≡◌, ◌≢◌, ℕ, ◌+◌, ◌<◌, ◌≤◌, List, ◌++◌, length, slice_get, Contains, Some}
use Rattle.frame_core.specs.declared.frames.Frame.{Frame}
use Rattle.site_core.specs.Records.{Record}
use Rattle.site_core.specs.declared.inputs.SiteInput.{SiteInput}
use Rattle.wire_core.specs.declared.views.Log.{Log}
use Rattle.wire_core.specs.Changes.{on, asks, offers, sends, receives, marks, below, from}
use Rattle.wire_core.specs.Rule.{logs_from}

-- the record is the one last marked of its site, which was marked at most so many times
pub record WasLastMarked (logs : List Log) (r : Record) (count : ℕ) : Type 0 where
  pub log : Log
  pub held : Contains logs log
  pub site : log.site ≡ r.engagement.me
  pub last : log.last ≡ r
  pub marked : length log.inputs ≤ count

-- in the first seat each site stands as its record at the start
abbrev pub OpeningRecordsStand : Type 0
OpeningRecordsStand = (records : List Record) (site : ℕ) (r : Record) → slice_get records site ≡ Some r → r.engagement.me ≡ site → WasLastMarked (logs_from 0 records) r 0

-- a site stands as it stood in the part of a split seat that it comes to, and in a joined one
abbrev pub SplitsMarkNothing : Type 0
SplitsMarkNothing =
    (logs : List Log) (at : ℕ) (r : Record) (count : ℕ)
    → WasLastMarked logs r count → (r.engagement.me < at → WasLastMarked (below at logs) r count) × (at ≤ r.engagement.me → WasLastMarked (from at logs) r count)

abbrev pub JoinsMarkNothing : Type 0
JoinsMarkNothing =
    (one other : List Log) (r : Record) (count : ℕ)
    → (WasLastMarked one r count → WasLastMarked (one ++ other) r count) × (WasLastMarked other r count → WasLastMarked (one ++ other) r count)

-- a frame that is sent, or offered and not sent, leaves each record standing
abbrev pub SentFramesMarkNothing : Type 0
SentFramesMarkNothing = (logs : List Log) (site : ℕ) (f : Frame) (r : Record) (count : ℕ) → WasLastMarked logs r count → WasLastMarked (on site (sends f) logs) r count

abbrev pub OfferedFramesMarkNothing : Type 0
OfferedFramesMarkNothing = (logs : List Log) (site : ℕ) (f : Frame) (r : Record) (count : ℕ) → WasLastMarked logs r count → WasLastMarked (on site (offers f) logs) r count

-- so does one that is noted, and a site that is asked
abbrev pub NotedFramesMarkNothing : Type 0
NotedFramesMarkNothing = (logs : List Log) (site other : ℕ) (f : Frame) (r : Record) (count : ℕ) → WasLastMarked logs r count → WasLastMarked (on site (receives other f) logs) r count

abbrev pub AskedSitesMarkNothing : Type 0
AskedSitesMarkNothing = (logs : List Log) (site other : ℕ) (r : Record) (count : ℕ) → WasLastMarked logs r count → WasLastMarked (on site (asks other) logs) r count

-- from a mark on the site stands as the record marked
abbrev pub MarksPutTheRecord : Type 0
MarksPutTheRecord =
    (logs : List Log) (input : SiteInput) (new r : Record) (count : ℕ)
    → WasLastMarked logs r count → r.engagement.me ≡ new.engagement.me → WasLastMarked (on new.engagement.me (marks input new) logs) new (count + 1)

-- and the others as they stood
abbrev pub MarksLeaveOtherSites : Type 0
MarksLeaveOtherSites =
    (logs : List Log) (input : SiteInput) (new r : Record) (count : ℕ)
    → WasLastMarked logs r count → r.engagement.me ≢ new.engagement.me → WasLastMarked (on new.engagement.me (marks input new) logs) r count
