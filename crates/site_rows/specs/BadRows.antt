-- The rows that stand in no record's rows, and which of them is named first.
use Rattle.std.specs.Prelude.{◌≡◌, ℕ, ℤ, pos, ◌+◌, ◌<◌, ◌≤◌, ⊤, Any, List, [], ◌∷◌, ◌++◌, length, map, take, Option, Some, None}
use Rattle.std.specs.List.{enumerate_from}
use Rattle.std.specs.FinMap.{FinMap, entries}
use Rattle.std.specs.Ordering.{nat_cmp}
use Rattle.std.specs.declared.cmp.Ordering.{Ordering}
use Rattle.event_json.specs.Sites.{Site, AreSites}
use Rattle.event_json.specs.declared.limits.TheConstants.{MAX_SITES}
use Rattle.frame_core.specs.Identifiers.{recall_cmp, message_cmp}
use Rattle.frame_core.specs.Numbers.{Recall, Message}
use Rattle.frame_core.specs.Unsignalled.{IsNextNumber}
use Rattle.frame_core.specs.declared.rows.Row.{Row}
use Rattle.scholten_core.specs.declared.own_recalls.Own.{Own}
use Rattle.site_core.specs.Records.{IsNumber, IsRecallAmong, IsMessageAmong, IsRowAmong}
use Rattle.site_rows.specs.HeldItems.{held_cmp}
use Rattle.site_rows.specs.Texts.{IsItemText}
use Rattle.site_rows.specs.RecordRows.{version_number, site_row, quarantine_row, outbox_row, seen_row, parent_row, recall_row}
use Rattle.site_rows.specs.declared.reading_entries.TableFault.{TableFault}
use Rattle.site_rows.specs.declared.reading_entries.TableFault.TheVariants.{NoMemory, BadRow}
use Rattle.site_rows.specs.declared.reading_sites.StoreNumbers.{StoreNumbers}
use Rattle.site_rows.specs.declared.tables.Version.{Version}
use Rattle.site_rows.specs.declared.rows.StoreRow.{StoreRow}
use Rattle.site_rows.specs.declared.rows.SiteRow.{SiteRow}
use Rattle.site_rows.specs.declared.rows.QuarantineRow.{QuarantineRow}
use Rattle.site_rows.specs.declared.rows.OutboxRow.{OutboxRow}
use Rattle.site_rows.specs.declared.rows.SeenRow.{SeenRow}
use Rattle.site_rows.specs.declared.rows.ParentRow.{ParentRow}
use Rattle.site_rows.specs.declared.rows.RecallRow.{RecallRow}

-- an answer has the property, and there is none only where nothing has it
abbrev pub Tells : {X : Type 0} → Option X → (X → Type 0) → Type 0
Tells None P = (x : _) → P x → ⊥
Tells (Some x) P = P x

-- ---- the first bad row of a table

-- the rows begin a table: with more rows they stand so
pub record Begins {R : Type 0} (Stand : List R → Type 0) (rows : List R) : Type 0 where
  pub more : List R
  pub stand : Stand (rows ++ more)

-- the first bad row by its place, from 1: the rows before it, where there are some, begin a table that stands so, and
-- with it they begin none. Behind the last row it is a row that is missing: the rows are no such table.
pub record IsFirstBad {R : Type 0} (Stand : List R → Type 0) (rows : List R) (place : ℕ) : Type 0 where
  pub before : ℕ
  pub next : place ≡ before + 1
  pub good : 0 < before → Begins Stand (take before rows)
  pub bad : before < length rows → Begins Stand (take (before + 1) rows) → ⊥
  pub wanting : length rows ≤ before → (before ≡ length rows) × (Stand rows → ⊥)

-- the fault of a table: a bad row is the first one, and memory may always run out
abbrev pub IsFaultOf : {R : Type 0} → (List R → Type 0) → List R → TableFault → Type 0
IsFaultOf Stand rows NoMemory = ⊤
IsFaultOf Stand rows (BadRow place) = IsFirstBad Stand rows place

-- a number of a row is that of a site, where there are so many
pub record IsSiteNumber (sites : ℕ) (n : ℤ) (site : ℕ) : Type 0 where
  pub number : n ≡ pos site
  pub among : site < sites

-- two numbers of a row are those of a recall, and of a message
pub record IsRecallRow (sites : ℕ) (s n : ℤ) (recall : Recall) : Type 0 where
  pub site : s ≡ pos recall.site
  pub number : n ≡ pos recall.number
  pub among : IsRecallAmong sites recall

pub record IsMessageRow (sites : ℕ) (s n : ℤ) (message : Message) : Type 0 where
  pub sender : s ≡ pos message.site
  pub number : n ≡ pos message.number
  pub among : IsMessageAmong sites message

-- a text of a row is the key of an item, in UTF-8
pub record IsItemRow (text i : List ℕ) : Type 0 where
  pub same : i ≡ text
  pub key : IsItemText text

-- ---- the tables of the sites

-- the one row of `store`: the number of the version, a site of the table `site` whose number is 0 to 15, and next numbers 1 to 2^62 + 1
pub record IsStore (version : Version) (sites : List SiteRow) (rows : List StoreRow) (n : StoreNumbers) : Type 0 where
  pub same : rows ≡ record { version = version_number version; me = pos n.me; next_message = pos n.next_message; next_recall = pos n.next_recall } ∷ []
  pub small : n.me < MAX_SITES
  pub listed : Any (λ s. s.no ≡ pos n.me) sites
  pub next_message : IsNextNumber n.next_message
  pub next_recall : IsNextNumber n.next_recall

abbrev pub IsStoreTable : Version → List SiteRow → List StoreRow → Type 0
IsStoreTable version sites rows = (n : StoreNumbers) × IsStore version sites rows n

-- the rows of `site`: at most 16 sites, numbered from 0, each with a name that is 1 to 16 letters, digits, `_` or `-`, no
-- two with one name
abbrev pub IsSiteTable : List SiteRow → Type 0
IsSiteTable rows = (sites : List Site) × AreSites sites × (rows ≡ map site_row (enumerate_from 0 sites))

-- ---- tables that are finite maps: each row is that of an entry, and their keys rise

abbrev pub Match : {R K V : Type 0} → (R → K → V → Type 0) → List R → List (K × V) → Type 0
Match Is [] [] = ⊤
Match Is [] (e ∷ es) = ⊥
Match Is (r ∷ rs) [] = ⊥
Match Is (r ∷ rs) (e ∷ es) = Is r e.0 e.1 × Match Is rs es

-- each row is that of one entry at most
abbrev pub StandForOne : {R K V : Type 0} → (R → K → V → Type 0) → Type 0
StandForOne {R} {K} {V} Is = (row : R) (k l : K) (v w : V) → Is row k v → Is row l w → ◌≡◌ {A = K × V} (k, v) (l, w)

pub record AreOfMap {R K V : Type 0} (cmp : K → K → Ordering) (Is : R → K → V → Type 0) (rows : List R) : Type 0 where
  pub kept : FinMap cmp V
  pub match : Match Is rows (entries kept)

-- a message that isn't signalled: its number and its recall's are 1 to 2^62, its sites are of the list, and its item is one
pub record IsOutboxEntry (sites : ℕ) (row : OutboxRow) (number : ℕ) (message : Row) : Type 0 where
  pub same : row ≡ outbox_row (number, message)
  pub among : IsRowAmong sites number message
  pub item : IsItemText message.item

-- a message that was handled: both numbers are 1 to 2^62, and both sites are of the list
pub record IsSeenEntry (sites : ℕ) (row : SeenRow) (m : Message) (r : Recall) : Type 0 where
  pub same : row ≡ seen_row (m, r)
  pub message : IsMessageAmong sites m
  pub recall : IsRecallAmong sites r

-- a parent: the same
pub record IsParentEntry (sites : ℕ) (row : ParentRow) (r : Recall) (m : Message) : Type 0 where
  pub same : row ≡ parent_row (r, m)
  pub recall : IsRecallAmong sites r
  pub message : IsMessageAmong sites m

-- an own recall: its number is 1 to 2^62, it has ended or not, and its root is an item
pub record IsOwnEntry (row : RecallRow) (n : ℕ) (own : Own) : Type 0 where
  pub same : row ≡ recall_row (n, own)
  pub number : IsNumber n
  pub root : IsItemText own.root

-- an item that is quarantined under a recall
pub record IsHeldRow (sites : ℕ) (row : QuarantineRow) (r : Recall) (i : List ℕ) : Type 0 where
  pub same : row ≡ quarantine_row r i
  pub among : IsRecallAmong sites r
  pub item : IsItemText i

abbrev pub IsHeldEntry : ℕ → QuarantineRow → Recall × List ℕ → ⊤ → Type 0
IsHeldEntry sites row p u = IsHeldRow sites row p.0 p.1

-- the tables of these entries, by key
abbrev pub IsQuarantineTable : ℕ → List QuarantineRow → Type 0
IsQuarantineTable sites = AreOfMap held_cmp (IsHeldEntry sites)

abbrev pub IsOutboxTable : ℕ → List OutboxRow → Type 0
IsOutboxTable sites = AreOfMap nat_cmp (IsOutboxEntry sites)

abbrev pub IsSeenTable : ℕ → List SeenRow → Type 0
IsSeenTable sites = AreOfMap message_cmp (IsSeenEntry sites)

abbrev pub IsParentTable : ℕ → List ParentRow → Type 0
IsParentTable sites = AreOfMap recall_cmp (IsParentEntry sites)

abbrev pub IsRecallTable : List RecallRow → Type 0
IsRecallTable = AreOfMap nat_cmp IsOwnEntry
