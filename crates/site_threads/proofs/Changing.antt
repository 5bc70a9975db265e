-- Steps, and the inputs of those in which the record changed.
use Rattle.std.proofs.Common.{◌≡◌, List, [], ◌∷◌, ◌++◌, refl, sym, ap, ◌∙◌, append_assoc, append-nil}
use Rattle.site_core.specs.Records.{Record}
use Rattle.site_core.specs.declared.inputs.SiteInput.{SiteInput}
use Rattle.world_core.specs.KeptSteps.{StandsAfter}
use Rattle.world_core.proofs.KeptSteps.{stands_append}
use Rattle.site_threads.specs.Jobs.{Enters, EntersMarked, IsChange, Keeps, WithMarks, with_marks}
use Rattle.site_threads.specs.declared.jobs.Entry.{Entry}

pub entered_so : (old : WithMarks) (xs : List Entry) (new : WithMarks) → StandsAfter EntersMarked old xs new → StandsAfter Enters old.stood xs new.stood
entered_so old [] new k = ap (λ (m : WithMarks). m.stood) k
entered_so old (x ∷ xs) new k = (k.0.stood, k.1.0, entered_so k.0 xs new k.2)

pub entered_none : (start : WithMarks) (marked : List SiteInput) (r : Record) → marked ≡ start.marked → r ≡ start.stood → StandsAfter EntersMarked start [] (with_marks r marked)
entered_none start marked r is same = λ i. with_marks (same i) (is i)

-- one step more
pub entered_more : (start : WithMarks) (xs : List Entry) (marked : List SiteInput) (x : Entry) (r new : Record) (more marked' : List SiteInput)
    → StandsAfter EntersMarked start xs (with_marks r marked) → Keeps x.reply r x.input new → IsChange r x.input new more → marked' ≡ marked ++ more → StandsAfter EntersMarked start (xs ++ x ∷ []) (with_marks new marked')
entered_more start xs marked x r new more marked' so s c is =
    stands_append EntersMarked xs (x ∷ []) start (with_marks r marked) (with_marks new marked') so (with_marks new marked', (s, more, c, is), refl)

-- the steps don't ask what was marked before them
behind : (before : List SiteInput) (old : WithMarks) (xs : List Entry) (new : WithMarks) → StandsAfter EntersMarked old xs new
    → StandsAfter EntersMarked (with_marks old.stood (before ++ old.marked)) xs (with_marks new.stood (before ++ new.marked))
behind before old [] new k = ap (λ (m : WithMarks). with_marks m.stood (before ++ m.marked)) k
behind before old (x ∷ xs) new k =
    let step = k.1 in
    let is = ap (λ (m : List SiteInput). before ++ m) step.3 ∙ sym (append_assoc before old.marked step.1) in
    (with_marks k.0.stood (before ++ k.0.marked), (step.0, step.1, step.2, is), behind before k.0 xs new k.2)

pub entered_alone : (old : WithMarks) (xs : List Entry) (new : WithMarks) → StandsAfter EntersMarked old xs new
    → (changes : List SiteInput) × (new.marked ≡ old.marked ++ changes) × StandsAfter EntersMarked (with_marks old.stood []) xs (with_marks new.stood changes)
entered_alone old [] new k = ([], ap (λ (m : WithMarks). m.marked) k ∙ sym (append-nil old.marked), ap (λ (m : WithMarks). with_marks m.stood []) k)
entered_alone old (x ∷ xs) new k =
    let step = k.1 in
    let more = entered_alone k.0 xs new k.2 in (
      step.1 ++ more.0,
      more.1 ∙ ap (λ m. m ++ more.0) step.3 ∙ append_assoc old.marked step.1 more.0,
      (
        with_marks k.0.stood (step.1 ++ []),
        (step.0, step.1, step.2, append-nil step.1),
        behind step.1 (with_marks k.0.stood []) xs (with_marks new.stood more.0) more.2,
      ),
    )
