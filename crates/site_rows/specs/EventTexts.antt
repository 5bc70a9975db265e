-- What the rows of each table of events show of them.
use Rattle.std.specs.Prelude.{◌≡◌, ◌≤◌, ℕ, ⊤, All, List, IfSome, Some, slice_get}
use Rattle.event_json.specs.Contents.{id_of}
use Rattle.event_json.specs.Events.{Content, IsBody}
use Rattle.event_json.specs.declared.bodies.Body.{Body}
use Rattle.event_json.specs.declared.bodies.Body.TheVariants.{Note, Ship, Make, Pack}
use Rattle.site_rows.specs.Texts.{IsItemText, IsPlainText, IsTextOrNone}

-- it is so of each member of a list from a place on
abbrev pub EachFrom : {X : Type 0} → (X → Type 0) → ℕ → List X → Type 0
EachFrom {X} P from xs = (place : ℕ) (x : X) → from ≤ place → slice_get xs place ≡ Some x → P x

-- those of `event`: the ids are plain, and the lists within the limits of an event
pub record HasPlainIds (e : Content) : Type 0 where
  pub identifier : IsTextOrNone e.id
  pub make_id : IsTextOrNone (id_of e.body)
  pub limits : IsBody e.body

-- those of `part`: the members are items and plain destinations
abbrev pub HasParts : Body → Type 0
HasParts (Note items) = All IsItemText items
HasParts (Ship items to outside) = All IsItemText items × All IsPlainText outside
HasParts (Make id ins outs) = All IsItemText ins × All IsItemText outs
HasParts (Pack action parent children) = ⊤

-- those of `pack`: the parent is an item
abbrev pub HasParent : Body → Type 0
HasParent (Pack action parent children) = IfSome parent IsItemText
HasParent other = ⊤

-- those of `packed`: the children are items
abbrev pub HasChildren : Body → Type 0
HasChildren (Pack action parent children) = All IsItemText children
HasChildren other = ⊤
