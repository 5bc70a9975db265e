-- how a session stands to the input that it reads
use Rattle.std.proofs.Common.{◌≡◌, ℕ, ◌+◌, ◌<◌, ◌≤◌, Bool, true, false, cond, List, [], ◌∷◌, ◌++◌, length, length-append, map, refl, sym, ap, ◌∙◌, subst, append_assoc, append-nil, arith, Option, Some, None, inl, inr, ⊎_elim}
use Rattle.std.specs.List.{sum_by}
use Rattle.std.specs.Str.Lines.{lines, strip_carriage_return}
use Rattle.std.specs.Io.KnownBytes.{Appends, Keeps}
use Rattle.std.proofs.KnownBytes.{Appends-nil, Appends-trans}
use Rattle.std.proofs.lemmas.Grind.{flat_map-append}
use Rattle.std.proofs.lemmas.List.{map-append}
use Rattle.std.proofs.lemmas.List.Sums.{sum_by-append}
use Rattle.std.proofs.lemmas.List.Elements.{All-append, All-push}
use Rattle.recall_text.specs.Lines.{is_newline, IsWithinLine}
use Rattle.recall_text.specs.State.{State}
use Rattle.recall_text.specs.Answer.{Said, text_of}
use Rattle.recall_text.specs.declared.faults.ScriptFault.{ScriptFault}
use Rattle.recall_text.specs.declared.faults.ScriptFault.TheVariants as faults
use Rattle.recall_text.proofs.LineLemmas.{lines_last, no_bytes, one_line}
use Rattle.script_core.specs.Holding.{FailsToGrow}
use Rattle.script_core.specs.Kept.{state_of}
use Rattle.script_core.specs.Lines.{longest_line, IsLine, LinesFit, with_newlines}
use Rattle.script_core.specs.State.{empty}
use Rattle.script_core.specs.Script.{Takes}
use Rattle.script_core.specs.Runs.{Runs, refusals, Answered, StopsAt, Writes}
use Rattle.script_core.specs.Session.{Follows, GoesOn, LeavesMore, EndsEarly, AnswersOne, FailsInOne, Finishes, EndsInLast}
use Rattle.script_core.specs.declared.sessions.Session.{Session}
use Rattle.script_core.specs.declared.tallies.Tally.{Tally}
use Rattle.script_core.proofs.WholeLines.{lines_whole, lines_fit, with_one_more, no_line}

-- ---- answers

Runs-snoc : (s : State) (ls : List (List ℕ)) (said : List Said) (t : State) (l : List ℕ) (a : Said) (u : State)
    → Runs s ls said t → Takes t l a u → Runs s (ls ++ l ∷ []) (said ++ a ∷ []) u
Runs-snoc s [] said t l a u run one =
    (a, [], u, ap (λ xs. xs ++ a ∷ []) run.0, subst (λ z. Takes z l a u) run.1 one, (refl, refl))
Runs-snoc s (k ∷ ls) said t l a u (b, more, next, is, first, rest) one =
    (b, more ++ a ∷ [], next, ap (λ xs. xs ++ a ∷ []) is, first, Runs-snoc next ls more t l a u rest one)

-- one whole line more is answered
answered_more : (whole : List (List ℕ)) (line : List ℕ) (answers more : List Said) (s : State) (a : Said) (t : State)
    → Runs empty (map strip_carriage_return whole) (answers ++ more) s → Takes s (strip_carriage_return line) a t
    → Runs empty (map strip_carriage_return (whole ++ line ∷ [])) (answers ++ (more ++ a ∷ [])) t
answered_more whole line answers more s a t run one =
    subst (λ ls. Runs empty ls (answers ++ (more ++ a ∷ [])) t) (sym (map-append strip_carriage_return whole (line ∷ [])))
    (subst (λ xs. Runs empty (map strip_carriage_return whole ++ strip_carriage_return line ∷ []) xs t) (append_assoc answers more (a ∷ []))
    (Runs-snoc empty (map strip_carriage_return whole) (answers ++ more) s (strip_carriage_return line) a t run one))

refusals-append : (xs ys : List Said) → refusals (xs ++ ys) ≡ refusals xs + refusals ys
refusals-append xs ys = sum_by-append (λ a. cond a.refused 1 0) xs ys

one_more : (n : ℕ) (a : Said) (m : ℕ) → n ≡ m → cond a.refused (n + 1) n ≡ m + refusals (a ∷ [])
one_more n a m e = elim a.refused as (λ b. cond b (n + 1) n ≡ m + sum_by (λ (c : Bool). cond c 1 0) (b ∷ [])) [ true ↦ omega arith | false ↦ omega arith ]

-- the text of further answers comes behind
pub text_more : (answers more : List Said) (before between after : Option (List ℕ))
    → Appends before between (text_of answers) → Appends between after (text_of more) → Appends before after (text_of (answers ++ more))
text_more answers more before between after written told =
    subst (Appends before after) (sym (flat_map-append (λ a. a.text) answers more)) (Appends-trans before between after (text_of answers) (text_of more) written told)

text_of_one : (a : Said) → text_of (a ∷ []) ≡ a.text
text_of_one a = append-nil a.text

-- ---- a session continues

-- it begins where it is
pub goes_start : (s : Session) (piece : List ℕ) (before : Option (List ℕ)) → GoesOn s piece s piece before before
goes_start s piece before input later answers follows =
    ([], subst (λ xs. Follows input s (piece ++ later) xs) (sym (append-nil answers)) follows, Appends-nil before)

-- bytes that move from the piece to the pending ones
moved : (pending bytes rest later : List ℕ) → pending ++ ((bytes ++ rest) ++ later) ≡ (pending ++ bytes) ++ (rest ++ later)
moved pending bytes rest later = ap (λ xs. pending ++ xs) (append_assoc bytes rest later) ∙ sym (append_assoc pending bytes (rest ++ later))

-- bytes without a LF move from the piece to the pending ones
pub goes_grow : (old : Session) (piece : List ℕ) (s : Session) (bytes rest : List ℕ) (t : Session) (before after : Option (List ℕ))
    → GoesOn old piece s (bytes ++ rest) before after → IsWithinLine bytes → length t.pending ≤ longest_line
    → t.pending ≡ s.pending ++ bytes → t.script ≡ s.script → t.lines ≡ s.lines → t.refused ≡ s.refused
    → GoesOn old piece t rest before after
goes_grow old piece s bytes rest t before after goes within fits pending script lines_same refused_same input later answers follows =
    let (more, at, written) = goes input later answers follows in (
      more,
      record {
        whole = at.whole;
        is = at.is ∙ ap (λ xs. with_newlines at.whole ++ xs) (moved s.pending bytes rest later ∙ ap (λ xs. xs ++ (rest ++ later)) (sym pending));
        each = at.each;
        pending = record { within = subst IsWithinLine (sym pending) (All-append (λ b. is_newline b ≡ false) s.pending bytes at.pending.within within); fits = fits };
        answered = subst (λ z. Runs empty (map strip_carriage_return at.whole) (answers ++ more) z) (sym (ap state_of script)) at.answered;
        lines = lines_same ∙ at.lines;
        refused = refused_same ∙ at.refused;
      },
      written,
    )

-- a line is taken at its LF
pub goes_line : (old : Session) (piece : List ℕ) (s : Session) (rest : List ℕ) (t : Session) (before between after : Option (List ℕ))
    → GoesOn old piece s (10 ∷ rest) before between → AnswersOne s (strip_carriage_return s.pending) t between after
    → GoesOn old piece t rest before after
goes_line old piece s rest t before between after goes one input later answers follows =
    let (more, at, written) = goes input later answers follows in
    let line = s.pending in (
      more ++ one.answer ∷ [],
      record {
        whole = at.whole ++ line ∷ [];
        is = at.is ∙ with_one_more at.whole line (rest ++ later) ∙ ap (λ xs. with_newlines (at.whole ++ line ∷ []) ++ (xs ++ (rest ++ later))) (sym one.pending);
        each = All-push IsLine at.whole line at.each at.pending;
        pending = subst IsLine (sym one.pending) no_line;
        answered = answered_more at.whole line answers more (state_of s.script) one.answer (state_of t.script) at.answered one.takes;
        lines = one.lines ∙ ap (λ n. n + 1) at.lines ∙ sym (length-append at.whole (line ∷ []));
        refused = one.refused ∙ one_more s.refused one.answer (refusals (answers ++ more)) at.refused
            ∙ sym (refusals-append (answers ++ more) (one.answer ∷ [])) ∙ ap refusals (append_assoc answers more (one.answer ∷ []));
      },
      text_more more (one.answer ∷ []) before between after written (subst (Appends between after) (sym (text_of_one one.answer)) one.written),
    )

-- ---- a session ends early

-- what a fault writes comes behind what was written before
pub writes_after : (fault : ScriptFault) (before between after : Option (List ℕ)) (text more : List ℕ)
    → Appends before between text → Writes fault between after more → Writes fault before after (text ++ more)
writes_after faults.NoMemory before between after text more written told = Appends-trans before between after text more written told
writes_after faults.Read before between after text more written told = Appends-trans before between after text more written told
writes_after faults.Write before between after text more written (begin, end, parts, told) =
    (text ++ begin, end, ap (λ xs. text ++ xs) parts ∙ sym (append_assoc text begin end), Appends-trans before between after text begin written told)
writes_after faults.LineTooLong before between after text more written told = Appends-trans before between after text more written told
writes_after faults.TurnsSpent before between after text more written told = Appends-trans before between after text more written told

-- a fault that writes nothing
writes_nothing : (fault : ScriptFault) (before after : Option (List ℕ)) → Appends before after [] → Writes fault before after []
writes_nothing faults.NoMemory before after kept = kept
writes_nothing faults.Read before after kept = kept
writes_nothing faults.Write before after kept = ([], [], refl, kept)
writes_nothing faults.LineTooLong before after kept = kept
writes_nothing faults.TurnsSpent before after kept = kept

-- further answers come behind those before
pub leaves_after : (input : List ℕ) (left : Option (List ℕ)) (answers more : List Said) (fault : ScriptFault) (before between after : Option (List ℕ))
    → Appends before between (text_of more) → LeavesMore input left (answers ++ more) fault between after → LeavesMore input left answers fault before after
leaves_after input left answers more fault before between after written (further, stops, told) = (
  more ++ further,
  subst (StopsAt fault input left) (append_assoc answers more further) stops,
  subst (Writes fault before after) (sym (flat_map-append (λ a. a.text) more further)) (writes_after fault before between after (text_of more) (text_of further) written told),
)

-- nothing more was answered
pub leaves_here : (input : List ℕ) (left : Option (List ℕ)) (answers : List Said) (fault : ScriptFault) (before after : Option (List ℕ))
    → StopsAt fault input left answers → Appends before after [] → LeavesMore input left answers fault before after
leaves_here input left answers fault before after stops kept =
    ([], subst (StopsAt fault input left) (sym (append-nil answers)) stops, writes_nothing fault before after kept)

-- the whole lines that were taken, before the pending bytes
abbrev pub answered_before : (input : List ℕ) (s : Session) (rest : List ℕ) (answers : List Said) → Follows input s rest answers
    → Answered input (s.pending ++ rest) answers
answered_before input s rest answers at = record { whole = at.whole; state = state_of s.script; is = at.is; each = at.each; answered = at.answered }

Appends-kept : (a b : Option (List ℕ)) → Keeps a b → Appends a b []
Appends-kept None b p = tt
Appends-kept (Some x) None p = p
Appends-kept (Some x) (Some y) p = p ∙ sym (append-nil x)

-- the pending bytes can't grow
pub ends_to_grow : (s : Session) (bytes rest : List ℕ) (fault : ScriptFault) (before : Option (List ℕ))
    → IsWithinLine bytes → FailsToGrow s.pending bytes fault → EndsEarly s (bytes ++ rest) fault before before
ends_to_grow s bytes rest fault before within fails input later left answers at =
    let all = All-append (λ b. is_newline b ≡ false) s.pending bytes at.pending.within within in
    let there : Answered input ((s.pending ++ bytes) ++ (rest ++ later)) answers =
    subst (λ xs. Answered input xs answers) (moved s.pending bytes rest later) (answered_before input s ((bytes ++ rest) ++ later) answers at) in
    ⊎_elim (λ short. subst (λ f. LeavesMore input left answers f before before) (sym short.0)
    (leaves_here input left answers faults.NoMemory before before
    (inr (record { line = s.pending ++ bytes; rest = rest ++ later; within = all; before = there; wants = inl (omega (arith, short.1, length-append s.pending bytes)) }))
    (Appends-nil before)))
    (λ too. subst (λ f. LeavesMore input left answers f before before) (sym too.0)
    (leaves_here input left answers faults.LineTooLong before before
    (record {
      line = s.pending ++ bytes;
      rest = rest ++ later;
      too_long = record { within = all; exceeds = omega (arith, too.1, length-append s.pending bytes) };
      before = there;
    }) (Appends-nil before)))
    fails

-- within a line
ends_in_line : (old : Session) (piece : List ℕ) (s : Session) (rest : List ℕ) (fault : ScriptFault) (before between after : Option (List ℕ))
    → GoesOn old piece s (10 ∷ rest) before between → FailsInOne s (strip_carriage_return s.pending) fault between after
    → EndsEarly old piece fault before after
ends_in_line old piece s rest fault before between after goes fails input later left answers follows =
    let (more, at, written) = goes input later answers follows in
    let line = strip_carriage_return s.pending in
    leaves_after input left answers more fault before between after written
    (⊎_elim (λ kept. subst (λ f. LeavesMore input left (answers ++ more) f between after) (sym kept.0)
    (leaves_here input left (answers ++ more) faults.NoMemory between after
    (inr (record {
      line = s.pending;
      rest = 10 ∷ (rest ++ later);
      within = at.pending.within;
      before = answered_before input s (10 ∷ (rest ++ later)) (answers ++ more) at;
      wants = inr (line, inr (rest ++ later, refl, refl), kept.1);
    })) (Appends-kept between after kept.2)))
    (λ broken. let (is_write, answer, next, takes, (begin, end, parts, some)) = broken in
    subst (λ f. LeavesMore input left (answers ++ more) f between after) (sym is_write) (
      answer ∷ [],
      record {
        taken = map strip_carriage_return at.whole ++ line ∷ [];
        left = lines (rest ++ later);
        state = next;
        front = front_of input s (rest ++ later) (answers ++ more) at;
        answered = Runs-snoc empty (map strip_carriage_return at.whole) (answers ++ more) (state_of s.script) line answer next at.answered takes;
      },
      (begin, end, text_of_one answer ∙ parts, some),
    ))
    fails) where
      front_of : (input : List ℕ) (s : Session) (rest : List ℕ) (answers : List Said) (at : Follows input s (10 ∷ rest) answers)
          → lines input ≡ (map strip_carriage_return at.whole ++ strip_carriage_return s.pending ∷ []) ++ lines rest
      front_of input s rest answers at =
          ap lines (at.is ∙ with_one_more at.whole s.pending rest)
          ∙ lines_whole (at.whole ++ s.pending ∷ []) rest (All-push IsLine at.whole s.pending at.each at.pending)
          ∙ ap (λ ls. ls ++ lines rest) (map-append strip_carriage_return at.whole (s.pending ∷ []))

-- ---- one step after another

pub goes_trans : (old : Session) (piece : List ℕ) (s : Session) (front rest all : List ℕ) (t : Session) (before between after : Option (List ℕ))
    → GoesOn old piece s all before between → all ≡ front ++ rest → GoesOn s front t [] between after → GoesOn old piece t rest before after
goes_trans old piece s front rest all t before between after first split second input later answers follows =
    let (more, at, written) = first input later answers follows in
    let at' : Follows input s (front ++ (rest ++ later)) (answers ++ more) =
    subst (λ xs. Follows input s xs (answers ++ more)) (ap (λ xs. xs ++ later) split ∙ append_assoc front rest later) at in
    let (further, there, told) = second input (rest ++ later) (answers ++ more) at' in (
      more ++ further,
      subst (λ xs. Follows input t (rest ++ later) xs) (append_assoc answers more further) there,
      text_more more further before between after written told,
    )

pub ends_trans : (old : Session) (piece : List ℕ) (s : Session) (front rest all : List ℕ) (fault : ScriptFault) (before between after : Option (List ℕ))
    → GoesOn old piece s all before between → all ≡ front ++ rest → EndsEarly s front fault between after → EndsEarly old piece fault before after
ends_trans old piece s front rest all fault before between after first split second input later left answers follows =
    let (more, at, written) = first input later answers follows in
    let at' : Follows input s (front ++ (rest ++ later)) (answers ++ more) =
    subst (λ xs. Follows input s xs (answers ++ more)) (ap (λ xs. xs ++ later) split ∙ append_assoc front rest later) at in
    leaves_after input left answers more fault before between after written (second input (rest ++ later) left (answers ++ more) at')

-- bytes without a LF are held
pub goes_held : (s : Session) (bytes : List ℕ) (t : Session) (before : Option (List ℕ))
    → IsWithinLine bytes → length t.pending ≤ longest_line
    → t.pending ≡ s.pending ++ bytes → t.script ≡ s.script → t.lines ≡ s.lines → t.refused ≡ s.refused
    → GoesOn s bytes t [] before before
goes_held s bytes t before within fits pending script lines_same refused_same =
    goes_grow s bytes s bytes [] t before before
    (subst (λ xs. GoesOn s bytes s xs before before) (sym (append-nil bytes)) (goes_start s bytes before))
    within fits pending script lines_same refused_same

pub ends_held : (s : Session) (bytes : List ℕ) (fault : ScriptFault) (before : Option (List ℕ))
    → IsWithinLine bytes → FailsToGrow s.pending bytes fault → EndsEarly s bytes fault before before
ends_held s bytes fault before within fails =
    subst (λ xs. EndsEarly s xs fault before before) (append-nil bytes) (ends_to_grow s bytes [] fault before within fails)

-- a line that ends at LF is taken
pub goes_taken : (s : Session) (bytes : List ℕ) (held t : Session) (before after : Option (List ℕ))
    → IsWithinLine bytes → length held.pending ≤ longest_line
    → held.pending ≡ s.pending ++ bytes → held.script ≡ s.script → held.lines ≡ s.lines → held.refused ≡ s.refused
    → AnswersOne held (strip_carriage_return held.pending) t before after → GoesOn s (bytes ++ 10 ∷ []) t [] before after
goes_taken s bytes held t before after within fits pending script lines_same refused_same one =
    goes_line s (bytes ++ 10 ∷ []) held [] t before before after
    (goes_grow s (bytes ++ 10 ∷ []) s bytes (10 ∷ []) held before before (goes_start s (bytes ++ 10 ∷ []) before) within fits pending script lines_same refused_same) one

pub ends_taken : (s : Session) (bytes : List ℕ) (held : Session) (fault : ScriptFault) (before after : Option (List ℕ))
    → IsWithinLine bytes → length held.pending ≤ longest_line
    → held.pending ≡ s.pending ++ bytes → held.script ≡ s.script → held.lines ≡ s.lines → held.refused ≡ s.refused
    → FailsInOne held (strip_carriage_return held.pending) fault before after → EndsEarly s (bytes ++ 10 ∷ []) fault before after
ends_taken s bytes held fault before after within fits pending script lines_same refused_same fails =
    ends_in_line s (bytes ++ 10 ∷ []) held [] fault before before after
    (goes_grow s (bytes ++ 10 ∷ []) s bytes (10 ∷ []) held before before (goes_start s (bytes ++ 10 ∷ []) before) within fits pending script lines_same refused_same) fails

-- ---- the end of the input

all_lines : (input : List ℕ) (s : Session) (answers : List Said) (at : Follows input s [] answers)
    → lines input ≡ map strip_carriage_return at.whole ++ lines s.pending
all_lines input s answers at =
    ap lines (at.is ∙ ap (λ xs. with_newlines at.whole ++ xs) (append-nil s.pending)) ∙ lines_whole at.whole s.pending at.each

all_fit : (input : List ℕ) (s : Session) (answers : List Said) → Follows input s [] answers → LinesFit input
all_fit input s answers at =
    subst LinesFit (sym (at.is ∙ ap (λ xs. with_newlines at.whole ++ xs) (append-nil s.pending))) (lines_fit at.whole s.pending at.each at.pending)

length_lines : (whole : List (List ℕ)) → length (map strip_carriage_return whole) ≡ length whole
length_lines [] = refl
length_lines (line ∷ whole) = omega (arith, length_lines whole)

-- nothing is pending
pub finishes_at_line : (s : Session) (tally : Tally) (before : Option (List ℕ)) → length s.pending ≡ 0
    → tally.lines ≡ s.lines → tally.refused ≡ s.refused → Finishes s tally before before
finishes_at_line s tally before none lines_same refused_same input answers at =
    let all : lines input ≡ map strip_carriage_return at.whole =
    all_lines input s answers at ∙ ap (λ xs. map strip_carriage_return at.whole ++ lines xs) (no_bytes s.pending none) ∙ append-nil (map strip_carriage_return at.whole) in (
      [],
      state_of s.script,
      subst (λ ls. Runs empty ls (answers ++ []) (state_of s.script)) (sym all) (subst (λ xs. Runs empty (map strip_carriage_return at.whole) xs (state_of s.script)) (sym (append-nil answers)) at.answered),
      Appends-nil before,
      lines_same ∙ at.lines ∙ sym (length_lines at.whole) ∙ ap length (sym all),
      refused_same ∙ at.refused ∙ ap refusals (sym (append-nil answers)),
      all_fit input s answers at,
    )

last_line : (input : List ℕ) (s : Session) (answers : List Said) (at : Follows input s [] answers) → 0 < length s.pending
    → lines input ≡ map strip_carriage_return at.whole ++ s.pending ∷ []
last_line input s answers at some =
    all_lines input s answers at ∙ ap (λ ls. map strip_carriage_return at.whole ++ ls) (lines_last s.pending at.pending.within ∙ one_line s.pending some)

-- the pending bytes are the last line
pub finishes_after_line : (s t : Session) (tally : Tally) (before after : Option (List ℕ)) → 0 < length s.pending
    → AnswersOne s s.pending t before after → tally.lines ≡ t.lines → tally.refused ≡ t.refused → Finishes s tally before after
finishes_after_line s t tally before after some one lines_same refused_same input answers at =
    let front = map strip_carriage_return at.whole in
    let all = last_line input s answers at some in (
      one.answer ∷ [],
      state_of t.script,
      subst (λ ls. Runs empty ls (answers ++ one.answer ∷ []) (state_of t.script)) (sym all) (Runs-snoc empty front answers (state_of s.script) s.pending one.answer (state_of t.script) at.answered one.takes),
      subst (Appends before after) (sym (text_of_one one.answer)) one.written,
      lines_same ∙ one.lines ∙ ap (λ n. n + 1) (at.lines ∙ sym (length_lines at.whole)) ∙ sym (length-append front (s.pending ∷ [])) ∙ ap length (sym all),
      refused_same ∙ one.refused ∙ one_more s.refused one.answer (refusals answers) at.refused ∙ sym (refusals-append answers (one.answer ∷ [])),
      all_fit input s answers at,
    )

pub ends_in_last : (s : Session) (fault : ScriptFault) (before after : Option (List ℕ)) → 0 < length s.pending
    → FailsInOne s s.pending fault before after → EndsInLast s fault before after
ends_in_last s fault before after some fails input left answers at =
    ⊎_elim (λ kept. subst (λ f. LeavesMore input left answers f before after) (sym kept.0)
    (leaves_here input left answers faults.NoMemory before after
    (inr (record {
      line = s.pending;
      rest = [];
      within = at.pending.within;
      before = answered_before input s [] answers at;
      wants = inr (s.pending, inl (refl, refl), kept.1);
    })) (Appends-kept before after kept.2)))
    (λ broken. let (is_write, answer, next, takes, (begin, end, parts, written)) = broken in
    subst (λ f. LeavesMore input left answers f before after) (sym is_write) (
      answer ∷ [],
      record {
        taken = map strip_carriage_return at.whole ++ s.pending ∷ [];
        left = [];
        state = next;
        front = last_line input s answers at some ∙ sym (append-nil (map strip_carriage_return at.whole ++ s.pending ∷ []));
        answered = Runs-snoc empty (map strip_carriage_return at.whole) answers (state_of s.script) s.pending answer next at.answered takes;
      },
      (begin, end, text_of_one answer ∙ parts, written),
    ))
    fails
