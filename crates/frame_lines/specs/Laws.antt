-- Laws of lines: what is written is read back, and nothing else is.
use Rattle.std.specs.Prelude.{◌≡◌, ◌≢◌, ℕ, IsTrue, List, [], ◌∷◌, ◌++◌}
use Rattle.event_json.specs.Sites.{AreSites, Site}
use Rattle.frame_core.specs.declared.frames.Frame.{Frame}
use Rattle.frame_lines.specs.Chains.{is_chain_id}
use Rattle.frame_lines.specs.Lines.{Carries, IsFault, IsFrameAmong, IsOfOtherChain, frame_line}
use Rattle.frame_lines.specs.declared.faults.LineFault.{LineFault}
use Rattle.frame_lines.specs.Sums.{digested}

-- the line that is written of a frame carries it, with its LF and without it
abbrev pub LinesAreReadBack : Type 0
LinesAreReadBack =
    (sites : List Site) (chain : List ℕ) (f : Frame) → AreSites sites → IsTrue (is_chain_id chain) → IsFrameAmong sites f
    → Carries sites chain (frame_line sites chain f) f
    × ((line : List ℕ) → line ++ 10 ∷ [] ≡ frame_line sites chain f → Carries sites chain line f)

-- no line carries two frames
abbrev pub OneLineOneFrame : Type 0
OneLineOneFrame =
    (sites : List Site) (chain line : List ℕ) (f g : Frame) → AreSites sites → Carries sites chain line f → Carries sites chain line g → f ≡ g

-- a line that carries a frame has no fault, and no line has two: so each line has one answer
abbrev pub LinesHaveOneAnswer : Type 0
LinesHaveOneAnswer =
    (sites : List Site) (chain line : List ℕ) → AreSites sites
    → ((f : Frame) (fault : LineFault) → Carries sites chain line f → ¬ IsFault sites chain line fault)
    × ((one other : LineFault) → IsFault sites chain line one → IsFault sites chain line other → one ≡ other)

-- a line that carries a frame of one chain is of another chain for each other one, and carries no frame of it, whatever sites are listed
abbrev pub LinesOfOtherChains : Type 0
LinesOfOtherChains =
    (sites : List Site) (chain other line : List ℕ) (f : Frame) → chain ≢ other → Carries sites chain line f
    → IsOfOtherChain other line × ((others : List Site) (g : Frame) → ¬ Carries others other line g)

-- what is digested for a sum tells the chain, the list of sites and the text: so one sum of two is a collision of digests
abbrev pub DigestsTellAll : Type 0
DigestsTellAll =
    (sites others : List Site) (chain other text more : List ℕ) → AreSites sites → AreSites others → IsTrue (is_chain_id chain) → IsTrue (is_chain_id other)
    → digested sites chain text ≡ digested others other more → (chain ≡ other) × (sites ≡ others) × (text ≡ more)
