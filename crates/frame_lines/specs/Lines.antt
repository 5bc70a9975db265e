-- A frame as a line of text: one JSON object whose members are texts, and LF.
--
-- Sites stand in it by name, so that a line says the same on each machine. Its sum binds it to the chain and to the list of
-- sites; it tells a line that was cut or changed, and is no signature.
use Rattle.std.specs.Prelude.{◌≡◌, ◌≢◌, ◌<◌, ◌≤◌, ◌^◌, ◌-◌, ⊤, ℕ, Bool, ◌&&◌, ◌==◌, nat_lt, if◌then◌else◌, List, [], ◌∷◌, ◌++◌, codes, fold, length, take, slice_index, IsTrue, IsUtf8, Option, Some, option_and_then}
use Rattle.serde_json.specs.Data.{Data, Members, no_members, object, put, string}
use Rattle.serde_json.specs.Find.{as_str, get}
use Rattle.serde_json.specs.Read.{read}
use Rattle.serde_json.specs.Written.{compact_text}
use Rattle.epc_core.specs.Spellings.{IsKey}
use Rattle.event_json.specs.Sites.{Site}
use Rattle.frame_core.specs.Numbers.{Message, Recall}
use Rattle.frame_core.specs.declared.frames.Frame.{Frame}
use Rattle.frame_core.specs.declared.frames.Frame.TheVariants as frames
use Rattle.recall_text.specs.Words.{message_text, name_at, recall_text}
use Rattle.frame_lines.specs.Sums.{sum_of_text}
use Rattle.frame_lines.specs.declared.reading.TheConstants.{MAX_LINE_BYTES}
use Rattle.frame_lines.specs.declared.faults.LineFault.{LineFault}
use Rattle.frame_lines.specs.declared.faults.LineFault.TheVariants.{BadFrame, BadSum, OtherChain}

-- ---- what is written

-- the names and texts of a frame's members but for its sum; a signal goes to the sender of the message that it answers
abbrev pub members_of : List Site → List ℕ → Frame → List (List ℕ × List ℕ)
members_of sites chain (frames.Recall id dest recall item) =
    (codes "chain", chain) ∷ (codes "frame", codes "message") ∷ (codes "item", item) ∷ (codes "message", message_text sites id)
    ∷ (codes "recall", recall_text sites recall) ∷ (codes "to", name_at sites dest) ∷ []
members_of sites chain (frames.Signal id by) =
    (codes "by", name_at sites by) ∷ (codes "chain", chain) ∷ (codes "frame", codes "signal") ∷ (codes "message", message_text sites id)
    ∷ (codes "to", name_at sites id.site) ∷ []

-- the members of a JSON object with one more text; serde_json keeps them in the order of their names
abbrev pub with_text : Members → List ℕ × List ℕ → Members
with_text found m = put m.0 (string m.1) found

abbrev pub object_of : List (List ℕ × List ℕ) → Data
object_of members = object (fold with_text no_members members)

-- the sum of a frame: 16 hexadecimal digits over the chain, the list of sites, and the object without its sum
abbrev pub sum_of : List Site → List ℕ → Frame → List ℕ
sum_of sites chain f = sum_of_text sites chain (compact_text (object_of (members_of sites chain f)))

-- a frame as a line, with its sum and LF
abbrev pub frame_line : List Site → List ℕ → Frame → List ℕ
frame_line sites chain f = compact_text (object_of (members_of sites chain f ++ (codes "sum", sum_of sites chain f) ∷ [])) ++ 10 ∷ []

-- ---- what is read

-- whether the last byte is this one
abbrev pub ends_with : ℕ → List ℕ → Bool
ends_with b bytes = nat_lt 0 (length bytes) && (slice_index bytes (length bytes - 1) == b)

-- the bytes without this one at their end
abbrev pub without_last : ℕ → List ℕ → List ℕ
without_last b bytes = if ends_with b bytes then take (length bytes - 1) bytes else bytes

-- a line without the LF or CRLF at its end
unfoldable pub content_of : List ℕ → List ℕ
content_of line = if ends_with 10 line then without_last 13 (without_last 10 line) else line

-- the line is the JSON of this value, in UTF-8 and not too long; one LF or CRLF may stand behind its closing brace
pub record HasValue (line : List ℕ) (d : Data) : Type 0 where
  pub short : length line ≤ MAX_LINE_BYTES
  pub closed : IsTrue (ends_with 125 (content_of line))
  pub utf8 : IsUtf8 (content_of line)
  pub is : read (content_of line) ≡ Some d

-- the text of a member, where the value is an object that has the member, and it is a text
abbrev pub text_in : List ℕ → Data → Option (List ℕ)
text_in name d = option_and_then as_str (get name d)

-- the value has each of these texts under its name
abbrev pub HasTexts : List (List ℕ × List ℕ) → Data → Type 0
HasTexts [] d = ⊤
HasTexts (m ∷ ms) d = (text_in m.0 d ≡ Some m.1) × HasTexts ms d

abbrev pub IsRecallOf : List Site → Recall → Type 0
IsRecallOf sites r = (r.site < length sites) × (r.number < 2 ^ 64)

abbrev pub IsMessageOf : List Site → Message → Type 0
IsMessageOf sites m = (m.site < length sites) × (m.number < 2 ^ 64)

-- the key of an item that some text spells; keys are UTF-8
abbrev pub IsItem : List ℕ → Type 0
IsItem key = IsKey key × IsUtf8 key

-- the sites that the frame names are of the list, its numbers have 64 bits, and its item is one
abbrev pub IsFrameAmong : List Site → Frame → Type 0
IsFrameAmong sites (frames.Recall id dest recall item) = IsMessageOf sites id × (dest < length sites) × IsRecallOf sites recall × IsItem item
IsFrameAmong sites (frames.Signal id by) = IsMessageOf sites id × (by < length sites)

-- the value tells a frame of these sites: it has each member of the frame, and this text as its sum. Others don't matter
pub record Tells (sites : List Site) (chain : List ℕ) (d : Data) (f : Frame) (sum : List ℕ) : Type 0 where
  pub among : IsFrameAmong sites f
  pub members : HasTexts (members_of sites chain f) d
  pub sum_told : text_in (codes "sum") d ≡ Some sum

-- the line carries the frame: it tells it with its own sum
pub record Carries (sites : List Site) (chain line : List ℕ) (f : Frame) : Type 0 where
  pub value : Data
  pub is : HasValue line value
  pub tells : Tells sites chain value f (sum_of sites chain f)

-- ---- why a line carries no frame

-- it says that it is of another chain
pub record IsOfOtherChain (chain line : List ℕ) : Type 0 where
  pub value : Data
  pub other : List ℕ
  pub is : HasValue line value
  pub said : text_in (codes "chain") value ≡ Some other
  pub differs : other ≢ chain

-- it tells a frame with a sum that isn't the frame's own
pub record HasOtherSum (sites : List Site) (chain line : List ℕ) : Type 0 where
  pub value : Data
  pub frame : Frame
  pub sum : List ℕ
  pub is : HasValue line value
  pub tells : Tells sites chain value frame sum
  pub differs : sum ≢ sum_of sites chain frame

-- it tells no frame, and doesn't say that it is of another chain
pub record TellsNone (sites : List Site) (chain line : List ℕ) : Type 0 where
  pub own_chain : ¬ IsOfOtherChain chain line
  pub none : (d : Data) (f : Frame) (sum : List ℕ) → HasValue line d → ¬ Tells sites chain d f sum

-- each fault, exactly
abbrev pub IsFault : List Site → List ℕ → List ℕ → LineFault → Type 0
IsFault sites chain line BadFrame = TellsNone sites chain line
IsFault sites chain line OtherChain = IsOfOtherChain chain line
IsFault sites chain line BadSum = HasOtherSum sites chain line
