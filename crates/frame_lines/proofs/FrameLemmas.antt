-- A value tells one frame at most.
use Rattle.std.proofs.Common.{◌≡◌, ◌<◌, ℕ, List, length, Option, Some, Result, Ok, Err, get_or, codes, refl, sym, ap, ◌∙◌, subst, arith}
use Rattle.std.specs.Prelude.{MatchResult}
use Rattle.std.proofs.lemmas.Option.{same_Some}
use Rattle.serde_json.specs.Data.{Data}
use Rattle.event_json.specs.Sites.{AreSites, Site}
use Rattle.frame_core.specs.declared.frames.Frame.{Frame}
use Rattle.frame_core.specs.declared.frames.Frame.TheVariants as frames
use Rattle.frame_core.specs.Numbers.{Message}
use Rattle.frame_lines.specs.Lines.{Carries, HasTexts, HasValue, IsFault, IsFrameAmong, IsMessageOf, IsOfOtherChain, Tells, members_of, sum_of, text_in}
use Rattle.frame_lines.specs.Laws.{LinesHaveOneAnswer, LinesOfOtherChains, OneLineOneFrame}
use Rattle.frame_lines.specs.declared.faults.LineFault.{LineFault}
use Rattle.frame_lines.specs.declared.faults.LineFault.TheVariants.{BadFrame, BadSum, OtherChain}
use Rattle.recall_text.specs.Words.{message_text, name_at}
use Rattle.frame_lines.proofs.NameLemmas.{message_tells, names_tell, recall_tells}

-- a member has one text
one : {o : Option (List ℕ)} (a b : List ℕ) → o ≡ Some a → o ≡ Some b → a ≡ b
one a b first second = same_Some a b (sym first ∙ second)

-- a message is no signal
kinds_differ : {o : Option (List ℕ)} → o ≡ Some (codes "message") → o ≡ Some (codes "signal") → ⊥
kinds_differ message signal = omega (arith, ap (λ l. get_or l 0 0) (one (codes "message") (codes "signal") message signal))

pub told_once : (sites : List Site) (chain : List ℕ) (d : Data) (f g : Frame) → AreSites sites → IsFrameAmong sites f → IsFrameAmong sites g
    → HasTexts (members_of sites chain f) d → HasTexts (members_of sites chain g) d → f ≡ g
told_once sites chain d (frames.Recall id dest recall item) (frames.Recall id' dest' recall' item') are mine theirs has also =
    let same_message : id ≡ id' = message_tells sites are id id' mine.0 theirs.0 (one _ _ has.1.1.1.0 also.1.1.1.0) in
    let same_dest : dest ≡ dest' = names_tell sites are dest dest' mine.1 theirs.1 (one _ _ has.1.1.1.1.1.0 also.1.1.1.1.1.0) in
    let same_recall : recall ≡ recall' = recall_tells sites are recall recall' mine.2 theirs.2 (one _ _ has.1.1.1.1.0 also.1.1.1.1.0) in
    let same_item : item ≡ item' = one item item' has.1.1.0 also.1.1.0 in
    λ i. frames.Recall (same_message i) (same_dest i) (same_recall i) (same_item i)
told_once sites chain d (frames.Recall id dest recall item) (frames.Signal id' by) are mine theirs has also = absurd (kinds_differ has.1.0 also.1.1.0)
told_once sites chain d (frames.Signal id by) (frames.Recall id' dest recall item) are mine theirs has also = absurd (kinds_differ also.1.0 has.1.1.0)
told_once sites chain d (frames.Signal id by) (frames.Signal id' by') are mine theirs has also =
    let same_message : id ≡ id' = message_tells sites are id id' mine.0 theirs.0 (one _ _ has.1.1.1.0 also.1.1.1.0) in
    let same_by : by ≡ by' = names_tell sites are by by' mine.1 theirs.1 (one _ _ has.0 also.0) in
    λ i. frames.Signal (same_message i) (same_by i)

-- a value whose addressee isn't the sender of its message tells no signal
pub not_to : (sites : List Site) (chain : List ℕ) (d : Data) (f : Frame) (id : Message) (to : ℕ) → AreSites sites
    → IsMessageOf sites id → text_in (codes "message") d ≡ Some (message_text sites id) → to < length sites → text_in (codes "to") d ≡ Some (name_at sites to)
    → text_in (codes "frame") d ≡ Some (codes "signal") → (to ≡ id.site → ⊥) → IsFrameAmong sites f → HasTexts (members_of sites chain f) d → ⊥
not_to sites chain d (frames.Recall id' dest recall item) id to are mine message low addressee kind other theirs has = kinds_differ has.1.0 kind
not_to sites chain d (frames.Signal id' by) id to are mine message low addressee kind other theirs has =
    let same : id ≡ id' = message_tells sites are id id' mine theirs.0 (one _ _ message has.1.1.1.0) in
    other (names_tell sites are to id.site low mine.0 (one _ _ addressee has.1.1.1.1.0 ∙ ap (λ (m : Message). name_at sites m.site) (sym same)))

-- ---- one answer

-- two values of one line are one
pub same_value : (line : List ℕ) (d e : Data) → HasValue line d → HasValue line e → d ≡ e
same_value line d e first second = same_Some d e (sym first.is ∙ second.is)

-- two frames that a line tells are one, and so are their sums
told_alike : (sites : List Site) (chain line : List ℕ) (d e : Data) (f g : Frame) (sum more : List ℕ) → AreSites sites → HasValue line d → HasValue line e
    → Tells sites chain d f sum → Tells sites chain e g more → (f ≡ g) × (sum ≡ more)
told_alike sites chain line d e f g sum more are first second tells also =
    let same = same_value line e d second first in
    let again : Tells sites chain d g more = subst (λ v. Tells sites chain v g more) same also in
    (told_once sites chain d f g are tells.among again.among tells.members again.members, one sum more tells.sum_told again.sum_told)

-- the chain of a frame's members
chain_told : (sites : List Site) (chain : List ℕ) (d : Data) (f : Frame) → HasTexts (members_of sites chain f) d → text_in (codes "chain") d ≡ Some chain
chain_told sites chain d (frames.Recall id dest recall item) has = has.0
chain_told sites chain d (frames.Signal id by) has = has.1.0

-- a line that tells a frame of a chain isn't of another one
not_other : (sites : List Site) (chain line : List ℕ) (d : Data) (f : Frame) (sum : List ℕ) → HasValue line d → Tells sites chain d f sum → IsOfOtherChain chain line → ⊥
not_other sites chain line d f sum is tells other =
    let same = same_value line other.value d other.is is in
    let said = subst (λ v. text_in (codes "chain") v ≡ Some other.other) same other.said in
    other.differs (one other.other chain said (chain_told sites chain d f tells.members))

-- a line that carries a frame has no fault
pub no_fault : (sites : List Site) (chain line : List ℕ) → AreSites sites → (f : Frame) (fault : LineFault) → Carries sites chain line f → IsFault sites chain line fault → ⊥
no_fault sites chain line are f BadFrame carried none = none.none carried.value f (sum_of sites chain f) carried.is carried.tells
no_fault sites chain line are f OtherChain carried other = not_other sites chain line carried.value f (sum_of sites chain f) carried.is carried.tells other
no_fault sites chain line are f BadSum carried told =
    let alike = told_alike sites chain line told.value carried.value told.frame f told.sum (sum_of sites chain f) are told.is carried.is told.tells carried.tells in
    told.differs (alike.1 ∙ ap (sum_of sites chain) (sym alike.0))

one_fault : (sites : List Site) (chain line : List ℕ) (a b : LineFault) → IsFault sites chain line a → IsFault sites chain line b → a ≡ b
one_fault sites chain line BadFrame BadFrame x y = refl
one_fault sites chain line OtherChain OtherChain x y = refl
one_fault sites chain line BadSum BadSum x y = refl
one_fault sites chain line BadFrame OtherChain x y = absurd (x.own_chain y)
one_fault sites chain line OtherChain BadFrame x y = absurd (y.own_chain x)
one_fault sites chain line BadFrame BadSum x y = absurd (x.none y.value y.frame y.sum y.is y.tells)
one_fault sites chain line BadSum BadFrame x y = absurd (y.none x.value x.frame x.sum x.is x.tells)
one_fault sites chain line OtherChain BadSum x y = absurd (not_other sites chain line y.value y.frame y.sum y.is y.tells x)
one_fault sites chain line BadSum OtherChain x y = absurd (not_other sites chain line x.value x.frame x.sum x.is x.tells y)

pub lines_have_one_answer : LinesHaveOneAnswer
lines_have_one_answer sites chain line are = (no_fault sites chain line are, one_fault sites chain line)

pub one_line_one_frame : OneLineOneFrame
one_line_one_frame sites chain line f g are carried also =
    (told_alike sites chain line carried.value also.value f g (sum_of sites chain f) (sum_of sites chain g) are carried.is also.is carried.tells also.tells).0

pub lines_of_other_chains : LinesOfOtherChains
lines_of_other_chains sites chain other line f differ carried =
    let said = chain_told sites chain carried.value f carried.tells.members in (
      record { value = carried.value; other = chain; is = carried.is; said = said; differs = differ },
      λ others g also.
          let same = same_value line also.value carried.value also.is carried.is in
          let again = subst (λ v. text_in (codes "chain") v ≡ Some other) same (chain_told others other also.value g also.tells.members) in
          differ (one chain other said again),
    )

-- what is answered of a line that carries a frame
pub answered : (sites : List Site) (chain line : List ℕ) → AreSites sites → (r : Result Frame LineFault) → MatchResult r (Carries sites chain line) (IsFault sites chain line)
    → (f : Frame) → Carries sites chain line f → r ≡ Ok f
answered sites chain line are (Ok g) is f carried = ap Ok (one_line_one_frame sites chain line g f are is carried)
answered sites chain line are (Err fault) is f carried = absurd (no_fault sites chain line are f fault carried is)
