-- how a session stands to the reader that feeds it
use Rattle.std.proofs.Common.{◌≡◌, ℕ, List, [], ◌++◌, refl, sym, ap, subst, arith, Option, Some, None, IfSome, inl}
use Rattle.std.specs.Io.KnownBytes.{Appends, Keeps, Consumes, IsAtEnd}
use Rattle.std.proofs.KnownBytes.{Appends-nil}
use Rattle.std.proofs.lemmas.Grind.{flat_map-append}
use Rattle.recall_text.specs.Answer.{Said, text_of}
use Rattle.recall_text.specs.declared.faults.ScriptFault.{ScriptFault}
use Rattle.recall_text.specs.declared.faults.ScriptFault.TheVariants as faults
use Rattle.script_core.specs.Lines.{IsLine}
use Rattle.script_core.specs.Runs.{Writes, Leaves, IsLeft, IsDone}
use Rattle.script_core.specs.Session.{IsNew, Follows, GoesOn, LeavesMore, EndsEarly, Finishes, EndsInLast}
use Rattle.script_core.specs.declared.sessions.Session.{Session}
use Rattle.script_core.specs.declared.tallies.Tally.{Tally}
use Rattle.script_core.proofs.WholeLines.{no_line}
use Rattle.script_core.proofs.SessionLemmas.{writes_after, answered_before, text_more}

-- Of what the reader had at first, where that is known, the session has come as far as the reader has, and the answers are written.
abbrev pub HasRead : Option (List ℕ) → Option (List ℕ) → Session → Option (List ℕ) → Option (List ℕ) → Type 0
HasRead first now session before after =
    IfSome first (λ input. (rest : List ℕ) × (now ≡ Some rest) × ((answers : List Said) × Follows input session rest answers × Appends before after (text_of answers)))

-- what a fault leaves, where what the reader had at first is known
abbrev pub LeavesKnown : Option (List ℕ) → ScriptFault → Option (List ℕ) → Option (List ℕ) → Option (List ℕ) → Type 0
LeavesKnown first fault left before after = IfSome first (λ input. Leaves fault input left before after)

pub has_read_none : (first : Option (List ℕ)) (s : Session) (before : Option (List ℕ))
    → IsNew s → HasRead first first s before before
has_read_none None s before new = tt
has_read_none (Some input) s before new = (
  input,
  refl,
  (
    [],
    record {
      whole = [];
      is = ap (λ xs. xs ++ input) (sym new.pending);
      each = λ k d small. absurd (omega arith);
      pending = subst IsLine (sym new.pending) no_line;
      answered = (refl, new.script);
      lines = new.lines;
      refused = new.refused;
    },
    Appends-nil before,
  ),
)

still : (rest : List ℕ) (now new : Option (List ℕ)) → now ≡ Some rest → Keeps now new → new ≡ Some rest
still rest now new is kept = same new (subst (λ o. Keeps o new) is kept) where
  same : (o : Option (List ℕ)) → Keeps (Some rest) o → o ≡ Some rest
  same None none = absurd none
  same (Some xs) e = ap Some e

pub has_read_kept : (first now new : Option (List ℕ)) (s : Session) (before after : Option (List ℕ))
    → HasRead first now s before after → Keeps now new → HasRead first new s before after
has_read_kept None now new s before after read kept = tt
has_read_kept (Some input) now new s before after (rest, is, more) kept = (rest, still rest now new is kept, more)

consumed : (rest piece : List ℕ) (new : Option (List ℕ)) → Consumes (Some rest) new piece → (later : List ℕ) × (new ≡ Some later) × (rest ≡ piece ++ later)
consumed rest piece None none = absurd none
consumed rest piece (Some later) e = (later, refl, e)

pub has_read_more : (first now new : Option (List ℕ)) (s : Session) (piece : List ℕ) (t : Session) (before between after : Option (List ℕ))
    → HasRead first now s before between → Consumes now new piece → GoesOn s piece t [] between after → HasRead first new t before after
has_read_more None now new s piece t before between after read took goes = tt
has_read_more (Some input) now new s piece t before between after (rest, is, (answers, at, written)) took goes =
    let (later, now_later, split) = consumed rest piece new (subst (λ o. Consumes o new piece) is took) in
    let (more, there, told) = goes input later answers (subst (λ xs. Follows input s xs answers) split at) in
    (later, now_later, (answers ++ more, there, text_more answers more before between after written told))

-- ---- a fault

-- the answers of a fault come behind those before
leaves_all : (input : List ℕ) (left : Option (List ℕ)) (answers : List Said) (fault : ScriptFault) (before between after : Option (List ℕ))
    → Appends before between (text_of answers) → LeavesMore input left answers fault between after → Leaves fault input left before after
leaves_all input left answers fault before between after written (more, stops, told) =
    (answers ++ more, stops, subst (Writes fault before after) (sym (flat_map-append (λ a. a.text) answers more)) (writes_after fault before between after (text_of answers) (text_of more) written told))

pub leaves_in_piece : (first now new : Option (List ℕ)) (s : Session) (piece : List ℕ) (fault : ScriptFault) (before between after : Option (List ℕ))
    → HasRead first now s before between → Consumes now new piece → EndsEarly s piece fault between after → LeavesKnown first fault new before after
leaves_in_piece None now new s piece fault before between after read took ends = tt
leaves_in_piece (Some input) now new s piece fault before between after (rest, is, (answers, at, written)) took ends =
    let (later, now_later, split) = consumed rest piece new (subst (λ o. Consumes o new piece) is took) in
    leaves_all input new answers fault before between after written (ends input later new answers (subst (λ xs. Follows input s xs answers) split at))

-- all whole lines that were read were answered
is_left : (input rest : List ℕ) (left : Option (List ℕ)) (s : Session) (answers : List Said) → left ≡ Some rest → Follows input s rest answers → IsLeft input left answers
is_left input rest left s answers is at =
    record { begun = s.pending; rest = rest; has = is; is_begun = at.pending; before = answered_before input s rest answers at }

-- the reader failed
pub leaves_at_read : (first now new : Option (List ℕ)) (s : Session) (fault : ScriptFault) (before after : Option (List ℕ))
    → HasRead first now s before after → (fault ≡ faults.Read) × Keeps now new → LeavesKnown first fault new before after
leaves_at_read None now new s fault before after read failed = tt
leaves_at_read (Some input) now new s fault before after (rest, is, (answers, at, written)) failed =
    subst (λ f. Leaves f input new before after) (sym failed.0) (answers, is_left input rest new s answers (still rest now new is failed.1) at, written)

-- the reader was asked too often
pub leaves_spent : (first now : Option (List ℕ)) (s : Session) (before after : Option (List ℕ))
    → HasRead first now s before after → LeavesKnown first faults.TurnsSpent now before after
leaves_spent None now s before after read = tt
leaves_spent (Some input) now s before after (rest, is, (answers, at, written)) = (answers, is_left input rest now s answers is at, written)

at_end : (rest : List ℕ) (new : Option (List ℕ)) → new ≡ Some rest → IsAtEnd new → rest ≡ []
at_end rest new is ended = subst IsAtEnd is ended

pub leaves_in_last : (first now : Option (List ℕ)) (s : Session) (fault : ScriptFault) (before between after : Option (List ℕ))
    → HasRead first now s before between → IsAtEnd now → EndsInLast s fault between after → LeavesKnown first fault now before after
leaves_in_last None now s fault before between after read ended ends = tt
leaves_in_last (Some input) now s fault before between after (rest, is, (answers, at, written)) ended ends =
    leaves_all input now answers fault before between after written (ends input now answers (subst (λ xs. Follows input s xs answers) (at_end rest now is ended) at))

pub done_at_end : (first now : Option (List ℕ)) (s : Session) (tally : Tally) (before between after : Option (List ℕ))
    → HasRead first now s before between → IsAtEnd now → Finishes s tally between after → IfSome first (λ input. IsDone input before after tally)
done_at_end None now s tally before between after read ended finishes = tt
done_at_end (Some input) now s tally before between after (rest, is, (answers, at, written)) ended finishes =
    let (more, state, all, told, lines_all, refused_all, fit) = finishes input answers (subst (λ xs. Follows input s xs answers) (at_end rest now is ended) at) in
    record {
      answers = answers ++ more;
      state = state;
      answered = all;
      written = text_more answers more before between after written told;
      lines = lines_all;
      refused = refused_all;
      fits = fit;
    }

-- nothing was read
pub leaves_nothing : (first before : Option (List ℕ)) → LeavesKnown first faults.NoMemory first before before
leaves_nothing None before = tt
leaves_nothing (Some input) before = ([], inl (refl, refl), Appends-nil before)
