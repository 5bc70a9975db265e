-- runs that are made one after another
use Rattle.std.proofs.Common.{◌≡◌, ◌≢◌, ◌+◌, ◌∙◌, ◌++◌, ℕ, Bool, not, true, false, Option, Result, List, [], ◌∷◌, length, refl, sym, subst, arith, inl, inr, length-append}
use Rattle.std.specs.Prelude.{nat_eq}
use Rattle.std.specs.Cmp.Lexicographic.{pointwise}
use Rattle.std.proofs.lemmas.Bool.{true≢false}
use Rattle.std.proofs.lemmas.Bool.Decides.{Decides-eqb}
use Rattle.std.proofs.lemmas.Slice.Eq.{slice_eq-Decides}
use Rattle.std.proofs.lemmas.Slice.Zip.{AllZip-long}
use Rattle.site_core.specs.Records.{Record}
use Rattle.keeper_core.specs.declared.faults.Unopened.{Unopened}
use Rattle.recall_outcomes.specs.declared.faults.Fault.{Fault}
use Rattle.recall_outcomes.specs.declared.outcomes.Outcome.{Outcome}
use Rattle.site_folders.specs.Keepers.{AreShown}
use Rattle.site_threads.specs.Gathering.{Began, IsKept}
use Rattle.folder_commands.specs.Runs.{AnswersRun, AnswersRounds, AreStill, FailsRounds, FailsRun, GoesOn, GoOn, HasRested, HaveTraffic, TellsWhether, leaves_open}
use Rattle.folder_commands.specs.declared.notes.RunEnd.{RunEnd}
use Rattle.folder_commands.specs.declared.rounds.TheConstants.{MOST_ROUNDS}
use Rattle.folder_commands.specs.declared.runs.RunTerms.{RunTerms}
use Rattle.folder_commands.proofs.RunLemmas.{came_open}

-- ---- one of them

module _ {K : Type 0} (shown : K → Option Record) (old new : List K) where
  -- what the sites have dealt with isn't what it was before
  pub has_moved : (before traffic : List ℕ) → HaveTraffic shown old before → HaveTraffic shown new traffic → traffic ≢ before → ((rs : List Record) × AreShown shown old rs)
      → ((rs : List Record) × AreShown shown new rs) → AreStill shown old new → ⊥
  has_moved before traffic had have differ (rs, shows) (qs, shows_new) still = differ (have qs shows_new ∙ sym (still rs qs shows shows_new) ∙ sym (had rs shows))

  -- and here it is
  pub is_still : (before : List ℕ) → HaveTraffic shown old before → HaveTraffic shown new before → AreStill shown old new
  is_still before had have rs qs shows shows_new = sym (had rs shows) ∙ have qs shows_new

not_false : (b : Bool) → not b ≡ false → b ≡ true
not_false true is = refl
not_false false is = absurd (true≢false is)

not_true : (b : Bool) → not b ≡ true → b ≡ false
not_true true is = absurd (true≢false (sym is))
not_true false is = refl

-- whether what the sites have dealt with isn't what it was
pub tells_whether : {K : Type 0} (shown : K → Option Record) (before traffic : List ℕ) (keepers : List K) (end : Option RunEnd) (r : Bool) → leaves_open end ≡ true → HaveTraffic shown keepers traffic
    → r ≡ not (pointwise nat_eq traffic before) → TellsWhether shown before keepers end r
tells_whether shown before traffic keepers end true left have is =
    (left, traffic, have, λ same. true≢false (sym ((slice_eq-Decides Decides-eqb traffic before _ refl).1 same) ∙ not_true _ (sym is)))
tells_whether shown before traffic keepers end false left have is =
    inr (subst (HaveTraffic shown keepers) ((slice_eq-Decides Decides-eqb traffic before _ refl).0 (not_false _ (sym is))) have)

-- the same of what is read, and of what was
pub told_whether : {K : Type 0} (shown : K → Option Record) (xs before : List ℕ) (ks new : List K) (end : Option RunEnd) (r b : Bool) → xs ≡ before → ks ≡ new → r ≡ b → TellsWhether shown xs ks end r → TellsWhether shown before new end b
told_whether {K} shown xs before ks new end r b had have is told =
    subst (λ (y : Bool). TellsWhether shown before new end y) is
    (subst (λ (ls : List K). TellsWhether shown before ls end r) have (subst (λ (ys : List ℕ). TellsWhether shown ys ks end r) had told))

module _ {K : Type 0} (shown : K → Option Record) (failed : K → ℕ) (may : K → Record → Type 0) (terms : RunTerms) where
  -- the keepers show records after a run that leaves a recall open
  pub open_shown : (old new : List K) (outcome : Outcome) (end : Option RunEnd) → AnswersRun shown failed may terms old new outcome end → leaves_open end ≡ true → (rs : List Record) × AreShown shown new rs
  open_shown old new outcome end answers left =
      let came = came_open shown failed may terms old new outcome end answers left in
      (came.2.told.records, came.2.told.shows)

  pub goes_on : (old new : List K) (outcome : Outcome) (end : Option RunEnd) → AnswersRun shown failed may terms old new outcome end → leaves_open end ≡ true → (AreStill shown old new → ⊥) → GoesOn shown failed may terms old new
  goes_on old new outcome end answers left moved =
      let came = came_open shown failed may terms old new outcome end answers left in
      record { recalls = came.0; end = came.1; came = came.2; unended = came.3; moved = moved }

  -- so another one follows
  pub goes_on_told : (before : List ℕ) (old new : List K) (outcome : Outcome) (end : Option RunEnd) → HaveTraffic shown old before → ((rs : List Record) × AreShown shown old rs) → AnswersRun shown failed may terms old new outcome end
      → TellsWhether shown before new end true → GoesOn shown failed may terms old new
  goes_on_told before old new outcome end had shows answers (left, traffic, have, differ) =
      goes_on old new outcome end answers left (has_moved shown old new before traffic had have differ shows (open_shown old new outcome end answers left))

  -- and here none does
  pub rested_told : (before : List ℕ) (old new : List K) (end : Option RunEnd) → HaveTraffic shown old before → TellsWhether shown before new end false → HasRested shown old new end
  rested_told before old new end had (inl ended) = inl ended
  rested_told before old new end had (inr have) = inr (is_still shown old new before had have)

  pub goes_on_many : (old new : List K) → GoesOn shown failed may terms old new → length new ≡ length old
  goes_on_many old new one = sym (AllZip-long (IsKept shown) new one.came.lists one.came.kept) ∙ AllZip-long (Began shown) old one.came.lists one.came.began

  -- ---- several

  go_on_more : (between : List (List K)) (old mid new : List K) → GoOn shown failed may terms between old mid → GoesOn shown failed may terms mid new → GoOn shown failed may terms (between ++ new ∷ []) old new
  go_on_more [] old mid new led one = (subst (λ (ks : List K). GoesOn shown failed may terms ks new) led one, refl)
  go_on_more (m ∷ between) old mid new led one = (led.0, go_on_more between m mid new led.1 one)

  -- so many runs that go on lead from these keepers to those, which are as many and open
  abbrev pub SoFar : List K → List K → ℕ → Type 0
  SoFar old new number =
      ((between : List (List K)) × GoOn shown failed may terms between old new × (length between + 1 ≡ number))
      × (length new ≡ length old) × ((rs : List Record) × AreShown shown new rs)

  pub none_so_far : (old : List K) → ((rs : List Record) × AreShown shown old rs) → SoFar old old 1
  none_so_far old shows = (([], refl, refl), refl, shows)

  pub more_so_far : (old mid new : List K) (number : ℕ) → SoFar old mid number → GoesOn shown failed may terms mid new → SoFar old new (number + 1)
  more_so_far old mid new number ((between, led, counted), many, shows) one =
      let long = length-append between (new ∷ []) in
      let more : length (between ++ new ∷ []) + 1 ≡ number + 1 = omega (arith, long, counted) in
      ((between ++ new ∷ [], go_on_more between old mid new led one, more), goes_on_many mid new one ∙ many, (one.came.told.records, one.came.told.shows))

-- ---- the last one

module _ {K : Type 0} (shown : K → Option Record) (failed : K → ℕ) (may : K → Record → Type 0) (terms : RunTerms) where
  pub once : (old new : List K) (outcome : Outcome) (end : Option RunEnd) → terms.until_ended ≡ false → AnswersRun shown failed may terms old new outcome end → AnswersRounds shown failed may terms old new outcome end
  once old new outcome end single answers = record {
    between = [];
    asked = λ s. refl;
    last = old;
    led = refl;
    answers = answers;
    over = λ asked. absurd (let no : true ≡ false = sym asked ∙ single in cc);
  }

  -- nothing moves any more, or no recall is open
  pub over_rested : (old mid new : List K) (outcome : Outcome) (end : Option RunEnd) (number : ℕ) → not terms.until_ended ≡ false → SoFar shown failed may terms old mid number → AnswersRun shown failed may terms mid new outcome end × HasRested shown mid new end
      → AnswersRounds shown failed may terms old new outcome end
  over_rested old mid new outcome end number goes ((between, led, counted), many, shows) (answers, rested) = record {
    between = between;
    asked = λ single. absurd (true≢false (sym (not_false _ goes) ∙ single));
    last = mid;
    led = led;
    answers = answers;
    over = λ s. inl rested;
  }

  -- as many were made as are made at most
  pub over_full : (old mid new : List K) (outcome : Outcome) (end : Option RunEnd) (number : ℕ) → not terms.until_ended ≡ false → SoFar shown failed may terms old mid number → number ≡ MOST_ROUNDS → AnswersRun shown failed may terms mid new outcome end
      → AnswersRounds shown failed may terms old new outcome end
  over_full old mid new outcome end number goes ((between, led, counted), many, shows) full answers = record {
    between = between;
    asked = λ single. absurd (true≢false (sym (not_false _ goes) ∙ single));
    last = mid;
    led = led;
    answers = answers;
    over = λ s. inr (counted ∙ full);
  }

-- it has no outcome
pub fails_last : {K G : Type 0} (shown : K → Option Record) (failed : K → ℕ) (may : K → Record → Type 0) (reopens : K → Result K (Unopened K) → Type 0) (gives_up : G → ℕ → ℕ → Type 0) (terms : RunTerms) (old mid new : List K) (fault : Fault) (number : ℕ)
    → not terms.until_ended ≡ false → SoFar shown failed may terms old mid number → FailsRun shown may reopens gives_up terms.turns mid new fault → FailsRounds shown failed may reopens gives_up terms old new fault
fails_last shown failed may reopens gives_up terms old mid new fault number goes ((between, led, counted), many, shows) fails = record {
  between = between;
  asked = λ single. absurd (true≢false (sym (not_false _ goes) ∙ single));
  last = mid;
  led = led;
  fails = fails;
}
