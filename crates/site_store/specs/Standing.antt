-- A record, and the input of a step of it whose rows may be stored.
use Rattle.std.specs.Prelude.{◌≡◌, ◌⊎◌, ℕ, List, Option, Some, None, refl}
use mathlib.Core.Logic.{inl, inr}
use Rattle.std.specs.Coded.{Coded, code_by, coded×, coded⊎, coded_ℕ, coded_list, coded_option}
use Rattle.frame_core.specs.Numbers.{Recall, Message, coded_recall, coded_message}
use Rattle.frame_core.specs.declared.frames.Frame.{Frame}
use Rattle.frame_core.specs.declared.frames.Frame.TheVariants as frames
use Rattle.site_core.specs.Codes.{coded_record}
use Rattle.site_core.specs.Records.{Record}
use Rattle.site_core.specs.declared.inputs.SiteInput.{SiteInput}
use Rattle.site_core.specs.declared.inputs.SiteInput.TheVariants.{Capture, Start, Deliver}
use Rattle.keeper_core.specs.Keeping.{IsAfter}
use Rattle.site_store.specs.Findable.{MayBeFound}

-- the record, and while a failure keeps it closed the input of the step that failed
pub record Standing : Type 0 where
  pub state : Record
  pub pending : Option SiteInput

-- how it is stored

abbrev FrameParts : Type 0
FrameParts = (Message × (ℕ × (Recall × List ℕ))) ⊎ (Message × ℕ)

abbrev parts_of_frame : Frame → FrameParts
parts_of_frame (frames.Recall m dest r i) = inl (m, (dest, (r, i)))
parts_of_frame (frames.Signal m by) = inr (m, by)

abbrev frame_of_parts : FrameParts → Frame
frame_of_parts (inl p) = frames.Recall p.0 p.1.0 p.1.1.0 p.1.1.1
frame_of_parts (inr p) = frames.Signal p.0 p.1

pub frame_back : (f : Frame) → frame_of_parts (parts_of_frame f) ≡ f
frame_back (frames.Recall m dest r i) = refl
frame_back (frames.Signal m by) = refl

abbrev coded_frame : Coded Frame
coded_frame = code_by FrameParts (coded⊎ (coded× coded_message (coded× coded_ℕ (coded× coded_recall (coded_list coded_ℕ)))) (coded× coded_message coded_ℕ)) parts_of_frame frame_of_parts frame_back

abbrev InputParts : Type 0
InputParts = List ℕ ⊎ (List ℕ ⊎ Frame)

abbrev parts_of_input : SiteInput → InputParts
parts_of_input (Capture bytes) = inl bytes
parts_of_input (Start root) = inr (inl root)
parts_of_input (Deliver frame) = inr (inr frame)

abbrev input_of_parts : InputParts → SiteInput
input_of_parts (inl bytes) = Capture bytes
input_of_parts (inr (inl root)) = Start root
input_of_parts (inr (inr frame)) = Deliver frame

pub input_back : (i : SiteInput) → input_of_parts (parts_of_input i) ≡ i
input_back (Capture bytes) = refl
input_back (Start root) = refl
input_back (Deliver frame) = refl

abbrev coded_input : Coded SiteInput
coded_input = code_by InputParts (coded⊎ (coded_list coded_ℕ) (coded⊎ (coded_list coded_ℕ) coded_frame)) parts_of_input input_of_parts input_back

abbrev pub coded_standing : Coded Standing
coded_standing = code_by (Record × Option SiteInput) (coded× coded_record (coded_option coded_input)) (λ s. (s.state, s.pending)) (λ p. record { state = p.0; pending = p.1 }) (λ _. refl)

-- a record of which no step failed
abbrev pub alone : Record → Standing
alone r = record { state = r; pending = None }

-- the record after the step that failed
abbrev pub IsPending : Standing → Record → Type 0
IsPending s r = (input : SiteInput) × (s.pending ≡ Some input) × IsAfter s.state input r

-- the records whose rows may be stored
abbrev pub StandsIn : Standing → Record → Type 0
StandsIn s r = (r ≡ s.state) ⊎ IsPending s r

-- the record after the step that failed, where there is one
abbrev pub IsNextOf : Standing → Option Record → Type 0
IsNextOf s None = (r : Record) → IsPending s r → ⊥
IsNextOf s (Some next) = IsPending s next × ((r : Record) → IsPending s r → r ≡ next)

-- an opening finds each of them where tables list its rows
abbrev pub AreFound : Standing → Type 0
AreFound s = (r : Record) → StandsIn s r → MayBeFound r
