-- what the keepers show after a run
use Rattle.std.proofs.Common.{◌≡◌, ◌≤◌, ◌∙◌, ◌⊎◌, ⊎_elim, inl, inr, ℕ, suc, true, Option, None, Some, IsSome, List, [], ◌∷◌, All, length, map, refl, sym, ap, subst, arith}
use Rattle.std.proofs.lemmas.List.{length-map}
use Rattle.std.proofs.lemmas.List.Elements.{All-cons, All-nil}
use Rattle.std.specs.List.{AllZip}
use Rattle.std.specs.Prelude.{Result, Ok, Err, IfErr}
use Rattle.keeper_core.specs.declared.faults.Unopened.{Unopened}
use Rattle.recall_outcomes.specs.declared.faults.Fault.{Fault}
use Rattle.recall_outcomes.specs.declared.faults.Fault.TheVariants as faults
use Rattle.event_json.specs.Sites.{Site}
use Rattle.recall_outcomes.specs.declared.outcomes.Outcome.{Outcome}
use Rattle.recall_outcomes.specs.declared.outcomes.Outcome.TheVariants as outcomes
use Rattle.recall_outcomes.specs.declared.outcomes.StartedRecall.{StartedRecall}
use Rattle.site_core.specs.Records.{Record}
use Rattle.site_threads.proofs.NoJobs.{all_of_frames}
use Rattle.site_threads.specs.Gathering.{Began, Explains, FitAfter, GivesListsBack, HasEnd, HasTurned, HindersRun, IsKept, KeepersFit, RanAsAWorld, StandTogether}
use Rattle.site_threads.specs.declared.gathered.GatherFault.{GatherFault}
use Rattle.site_threads.specs.declared.desks.DeskOut.{DeskOut}
use Rattle.site_threads.specs.declared.gather.GatherCause.{GatherCause}
use Rattle.site_threads.specs.declared.gather.GatherCause.TheVariants.{NotAWorld, NoMemory, SiteLost, GaveUp}
use Rattle.site_threads.specs.declared.lists.RunLog.{RunLog}
use Rattle.wire_core.specs.Rule.{world_up}
use Rattle.wire_core.proofs.Running.{up_records}
use Rattle.world_core.specs.Keepers.{AllShow, StandsAs}
use Rattle.world_core.specs.Worlds.{Up}
use Rattle.world_core.specs.declared.faults.WorldFault.TheVariants as worlds
use Rattle.site_folders.specs.FileCalls.{FileCall}
use Rattle.site_folders.specs.Keepers.{AreShown}
use Rattle.site_folders.proofs.CallsInTurn.{are_shown}
use Rattle.folder_commands.specs.Runs.{AnswersRounds, AnswersRun, AnswersUnless, BreaksRun, CameToItsEnd, FailsRounds, FailsRun, GoOn, TellsCause, TellsRecalls, Withholds, gather_fault, leaves_open}
use Rattle.folder_commands.specs.Notes.{AreOfSites, EndsSo}
use Rattle.trace_core.specs.declared.pairs.Pair.{Pair}
use Rattle.folder_commands.specs.declared.notes.RunEnd.{RunEnd}
use Rattle.folder_commands.specs.declared.runs.RunTerms.{RunTerms}

module _ {K : Type 0} (shown : K → Option Record) where
  -- a keeper that stands where its list leads is open
  pub all_kept_open : (keepers : List K) (lists : List RunLog) → AllZip (IsKept shown) keepers lists → All (λ k. IsSome (shown k)) keepers
  all_kept_open [] [] all = All-nil (λ (k : K). IsSome (shown k))
  all_kept_open (k ∷ keepers) (l ∷ lists) all =
      All-cons (λ (x : K). IsSome (shown x)) k keepers (subst (λ o. IsSome o) (sym all.0.stands) refl) (all_kept_open keepers lists all.1)
  all_kept_open [] (l ∷ lists) all = absurd all
  all_kept_open (k ∷ keepers) [] all = absurd all

  as_many : (new : List K) (lists : List RunLog) → AllZip (IsKept shown) new lists → length new ≡ length lists
  as_many [] [] kept = refl
  as_many (k ∷ new) (l ∷ lists) kept = ap suc (as_many new lists kept.1)
  as_many [] (l ∷ lists) kept = absurd kept
  as_many (k ∷ new) [] kept = absurd kept

  -- as many counts and keepers as lists
  pub of_sites : (failed : K → ℕ) (old new : List K) (lists : List RunLog) (before : List ℕ) → AllZip (IsKept shown) new lists → length new ≡ length old → length old ≤ 16 → before ≡ map failed old → AreOfSites before (map failed new) lists
  of_sites failed old new lists before kept back few counts =
      let many = as_many new lists kept in
      let long = ap length counts ∙ length-map old failed in
      record { few = omega (arith, many, back, few); befores = omega (arith, long, many, back); afters = length-map new failed ∙ many }

  -- what is reported after a run of sites whose desks take no jobs
  pub came_to_its_end : (failed : K → ℕ) (may : K → Record → Type 0) (terms : RunTerms) (old new : List K) (ds : List DeskOut) (lists : List RunLog) (recalls : List StartedRecall) (end : RunEnd) (before : List ℕ) → AllZip (Began shown) old lists → AllZip (IsKept shown) new lists
      → All (λ (d : DeskOut). d.limit ≡ 0) ds → AllZip HasEnd ds lists → AllZip (HasTurned shown terms.turns) new lists → RanAsAWorld shown may old new lists → before ≡ map failed old
      → TellsRecalls shown new recalls → EndsSo before (map failed new) lists recalls end → CameToItsEnd shown failed may terms old new recalls end
  came_to_its_end failed may terms old new ds lists recalls end before began kept none ends turned run counts told noted = record {
    lists = lists;
    began = began;
    kept = kept;
    frames = all_of_frames shown ds new lists none ends kept;
    turned = turned;
    run = run;
    told = told;
    noted = subst (λ bs. EndsSo bs (map failed new) lists recalls end) counts noted;
  }

  module _ (may : K → Record → Type 0) where
    -- what sites did whose run has no answer
    pub ran_if_any : (turns : ℕ) (old : List K) (ds : List DeskOut) (e : GatherFault K) → GivesListsBack shown may turns old ds e → (e.keepers.items ≡ old) ⊎ ((lists : List RunLog) × RanAsAWorld shown may old e.keepers.items lists)
    ran_if_any turns old ds e (inl none) = inl none.1
    ran_if_any turns old ds e (inr lists) = inr (e.lists.items, lists.run)

    module _ {G : Type 0} (reopens : K → Result K (Unopened K) → Type 0) (gives_up : G → ℕ → ℕ → Type 0) (turns : ℕ) (old new : List K) where
      -- the run is done, and memory ran out for what is told of it
      pub run_untold : (lists : List RunLog) → KeepersFit shown may new → RanAsAWorld shown may old new lists → FailsRun shown may reopens gives_up turns old new faults.NoMemory
      run_untold lists fit ran = record { cause = NoMemory; hinders = tt; fit = fit; explained = tt; fault_is = refl; ran = inr (lists, ran) }

      -- the fault of a cause
      pub run_failed_so : {R : Type 0} (cause : GatherCause) (r : Result R Fault) → HindersRun shown new cause → FitAfter shown may old cause new → Explains shown reopens gives_up turns new cause
          → (new ≡ old) ⊎ ((lists : List RunLog) × RanAsAWorld shown may old new lists) → IfErr r (λ fault. gather_fault cause ≡ Some fault) → IfErr r (FailsRun shown may reopens gives_up turns old new)
      run_failed_so cause (Ok ran) hinders fit explained did told = tt
      run_failed_so cause (Err fault) hinders fit explained did told = record { cause = cause; hinders = hinders; fit = fit; explained = explained; fault_is = told; ran = did }

    all_up : (keepers : List K) (rs : List Record) → AllShow shown keepers rs → AllZip (λ k standing. StandsAs (shown k) (may k) standing) keepers (map (λ r. Up r) rs)
    all_up [] [] all = tt
    all_up (k ∷ keepers) (r ∷ rs) all = (all.0, all_up keepers rs all.1)
    all_up [] (r ∷ rs) all = absurd all
    all_up (k ∷ keepers) [] all = absurd all

    -- records that are shown stand together
    pub shown_stand : (keepers : List K) (rs : List Record) → KeepersFit shown may keepers → AllShow shown keepers rs → StandTogether rs
    shown_stand keepers rs fit all =
        let up = all_up keepers rs all in
        subst StandTogether (up_records rs) (record { world = fit.again (world_up rs []) (up, refl); exact = fit.exact (world_up rs []) (up, refl) })

    -- inconsistent records are the outcome, and nothing else that prevents a run
    pub misfit_told : (failed : K → ℕ) (terms : RunTerms) (old new : List K) (cause : GatherCause) (outcome : Outcome) (end : Option RunEnd) → HindersRun shown new cause → FitAfter shown may old cause new → TellsCause cause outcome → end ≡ None
        → AnswersRun shown failed may terms old new outcome end
    misfit_told failed terms old new (NotAWorld (worlds.Misfit misfit)) outcome end (records, shows, dont) fit told none =
        subst (λ o. AnswersRun shown failed may terms old new o end) (sym told) (
          record {
            records = records;
            shows = subst (λ ks. AreShown shown ks records) fit (are_shown shown new records shows);
            is_misfit = dont.1;
          },
          fit,
          none,
        )
    misfit_told failed terms old new (NotAWorld worlds.NoMemory) outcome end hinders fit told none = absurd told
    misfit_told failed terms old new (NotAWorld (worlds.OtherSites place)) outcome end hinders fit told none = absurd told
    misfit_told failed terms old new (NotAWorld (worlds.Closed place)) outcome end hinders fit told none = absurd told
    misfit_told failed terms old new NoMemory outcome end hinders fit told none = absurd told
    misfit_told failed terms old new (SiteLost site) outcome end hinders fit told none = absurd told
    misfit_told failed terms old new (GaveUp site) outcome end hinders fit told none = absurd told

-- a run has an outcome where it came to its end, or where nothing was done
module _ {K : Type 0} (shown : K → Option Record) (failed : K → ℕ) (may : K → Record → Type 0) (terms : RunTerms) (old new : List K) where
  abbrev CameOrNot : Option RunEnd → Type 0
  CameOrNot end = ((new ≡ old) × (end ≡ None)) ⊎ ((recalls : List StartedRecall) × (last : RunEnd) × (end ≡ Some last) × CameToItsEnd shown failed may terms old new recalls last)

  came_or_not : (outcome : Outcome) (end : Option RunEnd) → AnswersRun shown failed may terms old new outcome end → CameOrNot end
  came_or_not (outcomes.Ran recalls coded) (Some end) answers = inr (recalls.items, end, refl, answers.1)
  came_or_not (outcomes.Inconsistent misfit) end answers = inl (answers.1, answers.2)
  came_or_not (outcomes.Ran recalls coded) None answers = absurd answers
  came_or_not outcomes.Withheld end answers = absurd answers
  came_or_not outcomes.Created end answers = absurd answers
  came_or_not (outcomes.Stepped effects) end answers = absurd answers
  came_or_not (outcomes.Reported recall report ways events) end answers = absurd answers
  came_or_not (outcomes.Traced trace ways events) end answers = absurd answers
  came_or_not (outcomes.TracedBack trace ways events) end answers = absurd answers
  came_or_not (outcomes.Standing recalls coded) end answers = absurd answers
  came_or_not (outcomes.Waiting detail coded) end answers = absurd answers
  came_or_not (outcomes.Known site items) end answers = absurd answers
  came_or_not (outcomes.Covered sites) end answers = absurd answers
  came_or_not (outcomes.WouldStart plan ended) end answers = absurd answers
  came_or_not (outcomes.Audited recalls ended coded) end answers = absurd answers
  came_or_not (outcomes.Gaps gaps coded) end answers = absurd answers
  came_or_not (outcomes.Missed recall missed coded) end answers = absurd answers
  came_or_not (outcomes.Refused whys) end answers = absurd answers

  pub ran_or_not : (outcome : Outcome) (end : Option RunEnd) → AnswersRun shown failed may terms old new outcome end → (new ≡ old) ⊎ ((lists : List RunLog) × RanAsAWorld shown may old new lists)
  ran_or_not outcome end answers = ⊎_elim
      (λ (none : (new ≡ old) × (end ≡ None)). inl none.0)
      (λ (came : (recalls : List StartedRecall) × (last : RunEnd) × (end ≡ Some last) × CameToItsEnd shown failed may terms old new recalls last). inr (came.3.lists, came.3.run))
      (came_or_not outcome end answers)

  -- a recall is open after it, so it came to its end
  pub came_open : (outcome : Outcome) (end : Option RunEnd) → AnswersRun shown failed may terms old new outcome end → leaves_open end ≡ true
      → (recalls : List StartedRecall) × (last : RunEnd) × CameToItsEnd shown failed may terms old new recalls last × (last.unended ≡ true)
  came_open outcome end answers left = ⊎_elim
      (λ (none : (new ≡ old) × (end ≡ None)). absurd (let no : leaves_open None ≡ true = subst (λ (o : Option RunEnd). leaves_open o ≡ true) none.1 left in cc))
      (λ (came : (recalls : List StartedRecall) × (last : RunEnd) × (end ≡ Some last) × CameToItsEnd shown failed may terms old new recalls last).
      (came.0, came.1, came.3, subst (λ (o : Option RunEnd). leaves_open o ≡ true) came.2 left))
      (came_or_not outcome end answers)

-- runs one after another, of which each but the last one leaves the keepers open
module _ {K : Type 0} (shown : K → Option Record) (may : K → Record → Type 0) where
  abbrev pub RanOn : List (List K) → List K → List K → Type 0
  RanOn [] old new = (lists : List RunLog) × RanAsAWorld shown may old new lists
  RanOn (mid ∷ between) old new = ((lists : List RunLog) × RanAsAWorld shown may old mid lists) × ((rs : List Record) × AreShown shown mid rs) × RanOn between mid new

  -- there was one, or the keepers are as they were
  abbrev pub RanOrNot : List K → List K → Type 0
  RanOrNot old new = (new ≡ old) ⊎ ((between : List (List K)) × RanOn between old new)

  -- of runs that go on, and of a last one, where there was one
  pub go_on_then : (failed : K → ℕ) (terms : RunTerms) (between : List (List K)) (old last new : List K) → GoOn shown failed may terms between old last → (new ≡ last) ⊎ ((lists : List RunLog) × RanAsAWorld shown may last new lists) → RanOrNot old new
  go_on_then failed terms [] old last new led (inl same) = inl (same ∙ led)
  go_on_then failed terms [] old last new led (inr (lists, ran)) = inr ([], (lists, subst (λ (ks : List K). RanAsAWorld shown may ks new lists) led ran))
  go_on_then failed terms (mid ∷ between) old last new led did =
      ⊎_elim
      (λ (same : new ≡ mid). inr ([], (led.0.came.lists, subst (λ (ks : List K). RanAsAWorld shown may old ks led.0.came.lists) (sym same) led.0.came.run)))
      (λ (more : (between : List (List K)) × RanOn between mid new). inr (mid ∷ more.0, ((led.0.came.lists, led.0.came.run), (led.0.came.told.records, led.0.came.told.shows), more.1)))
      (go_on_then failed terms between mid last new led.1 did)

-- a run that may be withheld has an outcome where it ran, or where nothing was done
pub unless_or_not : {K : Type 0} (shown : K → Option Record) (failed : K → ℕ) (may : K → Record → Type 0) (terms : RunTerms) (old new : List K) (missed : List Pair) (outcome : Outcome) (end : Option RunEnd) → AnswersUnless shown failed may terms missed old new outcome end → RanOrNot shown may old new
unless_or_not shown failed may terms old new missed outcome end answers = ⊎_elim
    (λ (w : Withholds shown failed may terms missed old new outcome end). inl w.3)
    (λ (r : (terms.unless_gaps ≡ true → missed ≡ []) × AnswersRounds shown failed may terms old new outcome end).
    go_on_then shown may failed terms r.1.between old r.1.last new r.1.led (ran_or_not shown failed may terms r.1.last new outcome end r.1.answers))
    answers

-- so it is of a run that broke off
pub broke_or_not : {K G : Type 0} (shown : K → Option Record) (failed : K → ℕ) (may : K → Record → Type 0) (reopens : K → Result K (Unopened K) → Type 0) (gives_up : G → ℕ → ℕ → Type 0) (stored : K → Type 0) (folder : List ℕ) (terms : RunTerms) (fault : Fault) (sites : List Site) (calls : List (FileCall K))
    → (broke : BreaksRun shown failed may reopens gives_up stored folder terms fault sites calls) → RanOrNot shown may broke.keepers broke.after
broke_or_not {K} {G} shown failed may reopens gives_up stored folder terms fault sites calls broke =
    ⊎_elim
    (λ (f : FailsRounds shown failed may reopens gives_up terms broke.keepers broke.after fault). go_on_then shown may failed terms f.between broke.keepers f.last broke.after f.led f.fails.ran)
    (λ (m : (fault ≡ faults.NoMemory) × (missed : List Pair) × (outcome : Outcome) × (end : Option RunEnd) × AnswersUnless shown failed may terms missed broke.keepers broke.after outcome end). unless_or_not shown failed may terms broke.keepers broke.after m.1 m.2 m.3 m.4) broke.came

-- so it is of an outcome and an end that are these
pub told_by : {K : Type 0} (shown : K → Option Record) (failed : K → ℕ) (may : K → Record → Type 0) (terms : RunTerms) (missed : List Pair) (old new : List K) (outcome told : Outcome) (end last : Option RunEnd) → outcome ≡ told → end ≡ last
    → AnswersUnless shown failed may terms missed old new outcome end → AnswersUnless shown failed may terms missed old new told last
told_by shown failed may terms missed old new outcome told end last is ends answers =
    subst (λ (e : Option RunEnd). AnswersUnless shown failed may terms missed old new told e) ends (subst (λ (o : Outcome). AnswersUnless shown failed may terms missed old new o end) is answers)
