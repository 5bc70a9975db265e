-- What contracts see of a wire and of its seats, and what they say of them.
use Rattle.std.specs.Prelude.{◌≡◌, ℕ, ◌+◌, ◌*◌, ◌<◌, ◌≤◌, List, [], map, All, Contains, refl}
use Rattle.std.specs.Coded.{Coded, code_by, coded×, coded_ℕ, coded_list}
use Rattle.std.specs.List.{range_with_len}
use Rattle.atomic_table.specs.Seated.{TableId, table_id_coded}
use Rattle.event_json.specs.declared.limits.TheConstants.{MAX_SITES}
use Rattle.frame_core.specs.declared.frames.Frame.{Frame}
use Rattle.site_core.specs.Codes.{coded_record}
use Rattle.site_core.specs.Records.{Record}
use Rattle.world_core.specs.Turns.{addressee}
use Rattle.wire_core.specs.declared.views.Log.{Log}
use Rattle.wire_core.specs.Answers.{Holds}
use Rattle.wire_core.specs.Changes.{AtRest, Hands}
use Rattle.wire_core.specs.Codes.{coded_log}
use Rattle.wire_core.specs.Rule.{IsRun, frames}

-- a wire: which one it is, how many sites it joins, and the records that they had when it was made
pub record Line : Type 0 where
  pub table : TableId
  pub sites : ℕ
  pub start : List Record

-- a seat: the wire that it is of, and what is known of the sites that it holds
pub record SeatView : Type 0 where
  pub table : TableId
  pub logs : List Log

abbrev pub coded_line : Coded Line
coded_line = code_by (TableId × (ℕ × List Record)) (coded× table_id_coded (coded× coded_ℕ (coded_list coded_record))) (λ w. (w.table, (w.sites, w.start))) (λ p. record { table = p.0; sites = p.1.0; start = p.1.1 }) (λ _. refl)

abbrev pub coded_seat : Coded SeatView
coded_seat = code_by (TableId × List Log) (coded× table_id_coded (coded_list coded_log)) (λ s. (s.table, s.logs)) (λ p. record { table = p.0; logs = p.1 }) (λ _. refl)

-- there is a word and a slot for each mailbox, of 2 sites to the most that there can be
pub record IsLaidOut (table : TableId) (sites : ℕ) : Type 0 where
  pub words : table.words ≡ MAX_SITES + MAX_SITES * sites
  pub slots : table.slots ≡ MAX_SITES * sites
  pub least : 2 ≤ sites
  pub most : sites ≤ MAX_SITES

-- between two calls no site is at work on a mailbox, no slot is out, and each site has its row of mailboxes
pub record IsIdle (table : TableId) (me : Hands) : Type 0 where
  pub rests : AtRest me.0.sites
  pub hands : me.1 ≡ []
  pub placed : All (λ e. MAX_SITES * e.site + MAX_SITES ≤ table.slots) me.0.sites

-- the seat was made with the wire, or comes from one that was
abbrev pub IsSeatOf : Line → SeatView → Type 0
IsSeatOf w s = s.table ≡ w.table

-- all of so many sites are among these
abbrev pub HoldsAll : ℕ → List Log → Type 0
HoldsAll count held = (site : ℕ) → site < count → Holds site held

-- these are the same, one of each of so many sites, in the order of their numbers
pub record AreAllLogs (count : ℕ) (held all : List Log) : Type 0 where
  pub sites : map (λ e. e.site) all ≡ range_with_len 0 count
  pub known : (e : Log) → Contains all e → Contains held e

-- what the wire kept between all sites, from these records on
pub record Gathered (start : List Record) (all : List Log) : Type 0 where
  -- all that they did is a run of the world, to the records last marked
  pub run : IsRun start all
  -- each frame that a site noted is for it, and was sent
  pub noted : (e : Log) (f : Frame) → Contains all e → Contains e.noted f → (addressee f ≡ e.site) × Contains (frames all) f
