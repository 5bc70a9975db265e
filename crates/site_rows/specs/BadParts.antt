-- The rows of the lists of events that stand in no record's rows.
use Rattle.std.specs.Prelude.{◌≡◌, ◌<◌, ℕ, ℤ, pos, ⊤, All, List, [], ◌∷◌, flat_map, length, IfSome, Option}
use Rattle.std.specs.List.{enumerate_from}
use Rattle.event_json.specs.Contents.{kind_of, id_of}
use Rattle.event_json.specs.Events.{IsBody}
use Rattle.event_json.specs.Sites.{Site}
use Rattle.event_json.specs.declared.bodies.Body.{Body}
use Rattle.event_json.specs.declared.bodies.Body.TheVariants.{Note, Ship, Make, Pack}
use Rattle.site_rows.specs.RecordRows.{body_rows, pack_rows, packed_rows}
use Rattle.site_rows.specs.Texts.{IsItemText, IsPlainText}
use Rattle.site_rows.specs.declared.rows.EventRow.{EventRow}
use Rattle.site_rows.specs.declared.rows.PartRow.{PartRow}
use Rattle.site_rows.specs.declared.rows.PackRow.{PackRow}
use Rattle.site_rows.specs.declared.rows.PackedRow.{PackedRow}
use Rattle.site_rows.specs.declared.rows.SiteRow.{SiteRow}

-- the site of a row; its addresses stand in a table of their own
abbrev pub site_of_row : SiteRow → Site
site_of_row row = record { name = row.name; addresses = [] }

-- the items of an event are items, the sites that it ships to are of a list of this length, and the destinations outside
-- are plain; the parent of a pack is an item too; all of them are UTF-8
abbrev pub AreMembers : ℕ → Body → Type 0
AreMembers sites (Note items) = All IsItemText items
AreMembers sites (Ship items to outside) = All IsItemText items × All (λ t. t < sites) to × All IsPlainText outside
AreMembers sites (Make id ins outs) = All IsItemText ins × All IsItemText outs
AreMembers sites (Pack action parent children) = IfSome parent IsItemText × All IsItemText children

-- an event of this kind and transformationID may say this of its items: its lists are within the limits of an event,
-- and their members are items, sites and destinations
pub record IsBodyOf (sites : ℕ) (kind : ℤ) (make_id : Option (List ℕ)) (body : Body) : Type 0 where
  pub of_kind : kind ≡ pos (kind_of body)
  pub of_id : make_id ≡ id_of body
  pub limits : IsBody body
  pub members : AreMembers sites body

-- one for each event, in order
abbrev pub AreBodies : ℕ → List EventRow → List Body → Type 0
AreBodies sites [] [] = ⊤
AreBodies sites [] (body ∷ bodies) = ⊥
AreBodies sites (row ∷ rows) [] = ⊥
AreBodies sites (row ∷ rows) (body ∷ bodies) = IsBodyOf sites row.kind row.make_id body × AreBodies sites rows bodies

-- the rows of all events, which are numbered from here, where an event has these
abbrev pub all_rows_by : {R : Type 0} → (ℕ → Body → List R) → ℕ → List Body → List R
all_rows_by rows_by first bodies = flat_map (λ (p : ℕ × Body). rows_by p.0 p.1) (enumerate_from first bodies)

abbrev pub all_body_rows : List Site → ℕ → List Body → List PartRow
all_body_rows sites = all_rows_by (body_rows sites)

-- the rows of a table: for the events of these rows, what they may say of their items, by event
pub record IsTableBy {R : Type 0} (rows_by : ℕ → Body → List R) (sites : ℕ) (events : List EventRow) (rows : List R) : Type 0 where
  pub bodies : List Body
  pub each : AreBodies sites events bodies
  pub listed : rows ≡ all_rows_by rows_by 1 bodies

-- the rows of `part`: the members of their lists, by event, role and place
abbrev pub IsPartTable : List Site → List EventRow → List PartRow → Type 0
IsPartTable sites = IsTableBy (body_rows sites) (length sites)

-- the rows of `pack`: the actions and the parents of the packs, by event
abbrev pub IsPackTable : ℕ → List EventRow → List PackRow → Type 0
IsPackTable = IsTableBy pack_rows

-- the rows of `packed`: the children of the packs, by event and place
abbrev pub IsPackedTable : ℕ → List EventRow → List PackedRow → Type 0
IsPackedTable = IsTableBy packed_rows
