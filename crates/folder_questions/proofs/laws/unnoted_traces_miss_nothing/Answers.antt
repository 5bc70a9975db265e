use Rattle.std.proofs.Common.{◌≡◌, ℕ, List, [], length, subst, ⊎_elim, arith}
use Rattle.std.specs.List.{Contains}
use Rattle.recall_outcomes.specs.declared.notes.Notes.TheVariants as notes
use Rattle.site_recovery.specs.Fit.{Fits}
use Rattle.site_recovery.specs.Laws.{captured_of}
use Rattle.site_recovery.specs.Looks.{world_of}
use Rattle.trace_core.proofs.Members.{contains_none}
use Rattle.trace_core.specs.declared.pairs.Pair.{Pair}
use Rattle.gap_core.specs.Inside.{AreInside}
use Rattle.gap_core.proofs.MissedReach.{nothing_missed}
use Rattle.folder_questions.specs.Beside.{Beside}
use Rattle.folder_questions.specs.MissedNotes.{NotesMissed}
use Rattle.site_core.specs.Records.{Record}
use Rattle.recall_outcomes.specs.declared.notes.Notes.{Notes}
use Rattle.folder_questions.proofs.laws.unnoted_traces_miss_nothing.Goals as goal

-- where nothing is noted, the records agree, and nothing else is noted
nothing_noted : (records : List Record) (Else : Notes → Type 0) → Beside records Else notes.Nothing → Fits (world_of records) [] × Else notes.Nothing
nothing_noted records Else beside = ⊎_elim (λ (misfit, is, so). absurd (let no : notes.Nothing ≡ notes.Misfit misfit = is in cc)) (λ rest. rest) beside

-- nothing is among none
none_in : (items : List (List ℕ)) (i : List ℕ) → 0 ≡ length items → Contains items i → ⊥
none_in items i none (k, below, at) = omega (arith, below, none)

pub returns : goal.returns
returns c = λ records site item ways events trace told behind answers.
    let is = answers.1 in
    let (fits, (missing, (inside, lie, none))) = nothing_noted records (NotesMissed records trace.pairs trace.root) answers.4 in
    let its : AreInside (captured_of records) item inside = subst (λ (r : Pair). AreInside (captured_of records) r.item inside) is.root lie in
    let agree = nothing_missed (captured_of records) trace.root (λ p reached missed. contains_none p ((missing.exact p).1 ((is.exact p).1 reached, missed))) in (
      fits,
      λ p. (λ there. (agree.0 p).1 ((is.exact p).0 there), λ wide. (is.exact p).1 ((agree.0 p).0 wide)),
      λ s i text there told. agree.1 s i text there ((is.exact (record { site = s.me; item = i })).0 told),
      λ i lies. none_in inside i none ((its.exact i).1 lies),
    )
