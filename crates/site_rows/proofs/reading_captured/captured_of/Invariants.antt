use Rattle.std.proofs.Common.{◌≡◌, length, map, take}
use Rattle.std.specs.List.{enumerate_from}
use Rattle.event_json.specs.Events.{Content}
use Rattle.site_rows.specs.BadParts.{AreBodies}
use Rattle.site_rows.specs.PartsInTurn.{packed_event, part_event}
use Rattle.site_rows.specs.RecordRows.{body_rows, event_row, packed_rows}
use Rattle.site_rows.proofs.EventsInTurn.{AreRead}
use Rattle.site_rows.proofs.PacksInTurn.{ArePacksSoFar, past_packed}
use Rattle.site_rows.proofs.PartTables.{past_body}
use Rattle.site_rows.proofs.reading_captured.captured_of.Given as goal

-- the rows so far are those of the events so far and of their lists, and no others
abbrev pub invariant-loop-place : goal.invariant-loop-place
invariant-loop-place l = record {
  me : l.captured.me ≡ l.fn.me;
  counted : length l.captured.events ≡ l.place;
  events : take l.place l.events ≡ map event_row (enumerate_from 1 l.captured.events);
  each : AreBodies (length l.sites) (take l.place l.events) (map (λ (e : Content). e.body) l.captured.events);
  parts : AreRead part_event (body_rows l.sites) (past_body l.sites) (length l.sites) l.events l.parts l.place l.read.part (map (λ (e : Content). e.body) l.captured.events);
  packs : ArePacksSoFar (length l.sites) l.events l.packs l.place l.read.pack.at l.read.pack.is_bad (map (λ (e : Content). e.body) l.captured.events);
  packed : AreRead packed_event packed_rows past_packed (length l.sites) l.events l.packed l.place l.read.packed (map (λ (e : Content). e.body) l.captured.events);
}
