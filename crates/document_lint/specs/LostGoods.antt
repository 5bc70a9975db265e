-- Events by which goods are lost to a trace: they are read, and their goods are traced no further by them, though they say that goods
-- go on.
use Rattle.std.specs.Prelude.{ℕ, Bool, false, not, ◌||◌, ◌==◌, List, bytes_eq, codes, length, unwrap_or, Option, option_and_then}
use Rattle.std.specs.Option.{option_or}
use Rattle.epc_core.specs.Items.{behind}
use Rattle.serde_json.specs.Data.{Data}
use Rattle.serde_json.specs.Find.{as_str}
use Rattle.event_json.specs.Members.{list_of, member_of, member_named}
use Rattle.event_json.specs.Untraced.{is_aimless, is_empty_list, is_text}
use Rattle.event_json.specs.declared.bodies.Action.TheVariants.{Add, Delete, Observe}
use Rattle.event_json.specs.declared.bodies.Body.{Body}
use Rattle.event_json.specs.declared.bodies.Body.TheVariants.{Note, Ship, Make, Pack}
use Rattle.event_json.specs.declared.doc_faults.DocField.TheVariants as fields

-- ---- goods that leave, and nobody says where to

-- the short name of a business step, which may be written as a URN or as a Digital Link
abbrev pub step_name : List ℕ → List ℕ
step_name step = unwrap_or (option_or (behind (codes "urn:epcglobal:cbv:bizstep:") step) (behind (codes "https://ref.gs1.org/cbv/BizStep-") step)) step

-- The steps of the Core Business Vocabulary 2.0 (section 7.1) with which goods leave a location for another one, beside `shipping`:
-- with `departing` they are on their way, and `consigning` is the whole of loading, departing and the carrier's accepting. With `picking`,
-- `staging_outbound` and `loading` they are still there, and an event of their leaving is to follow; with `transporting` they left
-- before.
abbrev pub is_leaving : List ℕ → Bool
is_leaving step = bytes_eq (step_name step) (codes "departing") || bytes_eq (step_name step) (codes "consigning")

abbrev pub step_text : Data → Option (List ℕ)
step_text d = option_and_then as_str (member_named (codes "bizStep") d)

-- an ObjectEvent with such a step, which is read as an observation since it has no destination
abbrev pub leaves_unshipped : Data → Body → Bool
leaves_unshipped d (Note items) = is_text is_leaving (step_text d)
leaves_unshipped d (Ship items sites outside) = false
leaves_unshipped d (Make id ins outs) = false
leaves_unshipped d (Pack action parent children) = false

-- it ships, or its goods leave, without a destination
abbrev pub ships_nowhere : Data → Body → Bool
ships_nowhere d body = is_aimless d || leaves_unshipped d body

-- ---- a destination of an event that ships nothing

-- it has a list of destinations that isn't empty, or something else in its place
abbrev pub names_destinations : Data → Bool
names_destinations d = not (is_empty_list (list_of fields.DestinationList (member_of fields.DestinationList d)))

-- a TransformationEvent or an AggregationEvent has one: only an ObjectEvent ships
abbrev pub is_unshipped : Data → Body → Bool
is_unshipped d (Note items) = false
is_unshipped d (Ship items sites outside) = false
is_unshipped d (Make id ins outs) = names_destinations d
is_unshipped d (Pack action parent children) = names_destinations d

-- ---- an AggregationEvent that puts nothing into its parent

abbrev pub packs_nothing : Body → Bool
packs_nothing (Note items) = false
packs_nothing (Ship items sites outside) = false
packs_nothing (Make id ins outs) = false
packs_nothing (Pack Add parent children) = length children == 0
packs_nothing (Pack Observe parent children) = false
packs_nothing (Pack Delete parent children) = false
