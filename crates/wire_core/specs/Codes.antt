-- How what is known of a site is stored.
use Rattle.std.specs.Prelude.{◌≡◌, ◌⊎◌, ℕ, List, Option, Some, None, refl}
use mathlib.Core.Logic.{inl, inr}
use Rattle.std.specs.Coded.{Coded, code_by, coded×, coded⊎, coded_ℕ, coded_list, coded_option}
use Rattle.frame_core.specs.Numbers.{Recall, Message, coded_recall, coded_message}
use Rattle.frame_core.specs.declared.frames.Frame.{Frame}
use Rattle.frame_core.specs.declared.frames.Frame.TheVariants as frames
use Rattle.site_core.specs.Codes.{coded_record}
use Rattle.site_core.specs.Records.{Record}
use Rattle.site_core.specs.declared.inputs.SiteInput.{SiteInput}
use Rattle.site_core.specs.declared.inputs.SiteInput.TheVariants.{Capture, Start, Deliver}
use Rattle.wire_core.specs.declared.views.Doing.{Doing}
use Rattle.wire_core.specs.declared.views.Doing.TheVariants.{Nothing, Writes, Reads}
use Rattle.wire_core.specs.declared.views.Log.{Log}

abbrev FrameParts : Type 0
FrameParts = (Message × (ℕ × (Recall × List ℕ))) ⊎ (Message × ℕ)

abbrev parts_of_frame : Frame → FrameParts
parts_of_frame (frames.Recall m dest r i) = inl (m, (dest, (r, i)))
parts_of_frame (frames.Signal m by) = inr (m, by)

abbrev frame_of_parts : FrameParts → Frame
frame_of_parts (inl p) = frames.Recall p.0 p.1.0 p.1.1.0 p.1.1.1
frame_of_parts (inr p) = frames.Signal p.0 p.1

pub frame_back : (f : Frame) → frame_of_parts (parts_of_frame f) ≡ f
frame_back (frames.Recall m dest r i) = refl
frame_back (frames.Signal m by) = refl

abbrev coded_frame : Coded Frame
coded_frame = code_by FrameParts (coded⊎ (coded× coded_message (coded× coded_ℕ (coded× coded_recall (coded_list coded_ℕ)))) (coded× coded_message coded_ℕ)) parts_of_frame frame_of_parts frame_back

abbrev InputParts : Type 0
InputParts = List ℕ ⊎ (List ℕ ⊎ Frame)

abbrev parts_of_input : SiteInput → InputParts
parts_of_input (Capture bytes) = inl bytes
parts_of_input (Start root) = inr (inl root)
parts_of_input (Deliver f) = inr (inr f)

abbrev input_of_parts : InputParts → SiteInput
input_of_parts (inl bytes) = Capture bytes
input_of_parts (inr (inl root)) = Start root
input_of_parts (inr (inr f)) = Deliver f

pub input_back : (input : SiteInput) → input_of_parts (parts_of_input input) ≡ input
input_back (Capture bytes) = refl
input_back (Start root) = refl
input_back (Deliver f) = refl

abbrev coded_input : Coded SiteInput
coded_input = code_by InputParts (coded⊎ (coded_list coded_ℕ) (coded⊎ (coded_list coded_ℕ) coded_frame)) parts_of_input input_of_parts input_back

abbrev DoingParts : Type 0
DoingParts = Option (ℕ ⊎ ℕ)

abbrev parts_of_doing : Doing → DoingParts
parts_of_doing Nothing = None
parts_of_doing (Writes site) = Some (inl site)
parts_of_doing (Reads site) = Some (inr site)

abbrev doing_of_parts : DoingParts → Doing
doing_of_parts None = Nothing
doing_of_parts (Some (inl site)) = Writes site
doing_of_parts (Some (inr site)) = Reads site

pub doing_back : (d : Doing) → doing_of_parts (parts_of_doing d) ≡ d
doing_back Nothing = refl
doing_back (Writes site) = refl
doing_back (Reads site) = refl

abbrev coded_doing : Coded Doing
coded_doing = code_by DoingParts (coded_option (coded⊎ coded_ℕ coded_ℕ)) parts_of_doing doing_of_parts doing_back

abbrev pub coded_log : Coded Log
coded_log =
    code_by (ℕ × (Record × (List SiteInput × (Record × (List Frame × (List Frame × (List ℕ × (List Frame × Doing))))))))
    (coded× coded_ℕ (coded× coded_record (coded× (coded_list coded_input) (coded× coded_record (coded× (coded_list coded_frame) (coded× (coded_list coded_frame) (coded× (coded_list coded_ℕ) (coded× (coded_list coded_frame) coded_doing))))))))
    (λ e. (e.site, (e.opening, (e.inputs, (e.last, (e.sent, (e.noted, (e.asked, (e.offered, e.doing)))))))))
    (λ p. record { site = p.0; opening = p.1.0; inputs = p.1.1.0; last = p.1.1.1.0; sent = p.1.1.1.1.0; noted = p.1.1.1.1.1.0; asked = p.1.1.1.1.1.1.0; offered = p.1.1.1.1.1.1.1.0; doing = p.1.1.1.1.1.1.1.1 })
    (λ _. refl)
