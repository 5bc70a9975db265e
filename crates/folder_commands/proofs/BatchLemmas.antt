-- inputs that are taken one after another, and faults behind some
use Rattle.std.proofs.Common.{◌≡◌, ◌⊎◌, ℕ, List, [], ◌∷◌, ◌++◌, inl, inr, refl, sym, ap, ◌∙◌, subst, append_assoc, Option, Some, Contains}
use Rattle.std.specs.Prelude.{MatchResult, Result}
use Rattle.std.proofs.lemmas.List.Elements.{Contains-append_right}
use Rattle.event_json.specs.Sites.{Site, named}
use Rattle.recall_outcomes.specs.declared.batches.InputOutcome.{InputOutcome}
use Rattle.recall_outcomes.specs.declared.batches.Task.{Task}
use Rattle.recall_outcomes.specs.declared.faults.Fault.{Fault}
use Rattle.recall_outcomes.specs.declared.faults.Fault.TheVariants.{NoMemory}
use Rattle.site_core.specs.Records.{Record}
use Rattle.site_folders.specs.FileCalls.{Calls, ClosedSite, FileCall, Failed, Led}
use Rattle.site_folders.specs.Keepers.{KeepsSite, opens_site}
use Rattle.site_folders.specs.Lists.{ListsSites}
use Rattle.site_folders.proofs.CallsInTurn.{behind_list, calls_then, led_so}
use Rattle.site_folders.proofs.VainLemmas.{is_first}
use Rattle.folder_commands.specs.Batches.{BatchFails, BreaksBatch, BreaksBehind, BreaksEach, BreaksInput, BreaksOff, Standing, Stands, Takes, TakesAll, TakesEach, TakesRead, TakesThose, TakesWhere, no_counts, standing}
use Rattle.folder_commands.specs.declared.batches.BatchCame.TheVariants as batches
use Rattle.folder_commands.specs.declared.batches.BatchOutput.{BatchOutput}
use Rattle.folder_commands.specs.declared.batches.BatchRun.{BatchRun}
use Rattle.folder_commands.specs.declared.batches.Counts.{Counts}
use Rattle.folder_commands.specs.Inputs.{Input}
use Rattle.folder_commands.specs.Words.{BeginsFrom, BeginsWord, BeginsWords, FailsToRead, InputsFrom, ReadsFrom, ReadsNone, ReadsWord, ReadsWords, Texts, task_from}
use Rattle.folder_commands.specs.declared.words.WordKind.{WordKind}
use Rattle.folder_commands.proofs.StepLemmas.{match_so}
use Rattle.folder_commands.proofs.WordLemmas.{reads_word}

module _ {S : Type 0} (takes : S → List Site → List ℕ → InputOutcome → S → Type 0) (sites : List Site) where
  -- some inputs, and then others
  pub takes_both : (a b c : Standing S) (first rest : List Input) → Takes takes sites a first b → Takes takes sites b rest c → Takes takes sites a (first ++ rest) c
  takes_both a b c [] rest none others = subst (λ (s : Standing S). Takes takes sites s rest c) none others
  takes_both a b c (d ∷ first) rest (mid, one, more) others = (mid, one, takes_both mid b c first rest more others)

  module _ {K : Type 0} (shown : K → Option Record) (may : K → Record → Type 0) where
    -- the fault came of the only input
    pub breaks_one : (start : Standing S) (input : Input) (kept : K) (sink : S) (fault : Fault) → BreaksInput takes sites shown may start input kept sink fault
        → BreaksEach takes sites shown may (input ∷ []) start kept sink fault
    breaks_one start input kept sink fault broke = record { first = []; input = input; more = []; parts = refl; last = start; taken = refl; broke = broke }

    -- the fault came of one of these, behind others
    pub breaks_behind : (start mid : Standing S) (all done part after : List Input) (kept : K) (sink : S) (fault : Fault) → all ≡ done ++ (part ++ after) → Takes takes sites start done mid
        → BreaksEach takes sites shown may part mid kept sink fault → BreaksEach takes sites shown may all start kept sink fault
    breaks_behind start mid all done part after kept sink fault is taken b = record {
      first = done ++ b.first;
      input = b.input;
      more = b.more ++ after;
      parts =
          is ∙ ap (λ p. done ++ (p ++ after)) b.parts ∙ ap (λ t. done ++ t) (append_assoc b.first (b.input ∷ b.more) after)
          ∙ sym (append_assoc done b.first (b.input ∷ (b.more ++ after)));
      last = b.last;
      taken = takes_both start mid b.last done b.first taken b.taken;
      broke = b.broke;
    }

    -- of inputs that were read
    pub off_of_each : (Begins : List Input → List (FileCall K) → Type 0) (start mid : Standing S) (done part : List Input) (kept : K) (sink : S) (fault : Fault) (calls : List (FileCall K)) → Begins (done ++ part) calls
        → Takes takes sites start done mid → BreaksEach takes sites shown may part mid kept sink fault → BreaksOff takes sites shown may Begins start kept sink fault calls
    off_of_each Begins start mid done part kept sink fault calls begins taken b = record {
      first = done ++ b.first;
      rest = b.input ∷ b.more;
      begun = subst (λ (ins : List Input). Begins ins calls) (ap (λ p. done ++ p) b.parts ∙ sym (append_assoc done b.first (b.input ∷ b.more))) begins;
      last = b.last;
      taken = takes_both start mid b.last done b.first taken b.taken;
      broke = inr (b.input, b.more, refl, b.broke);
    }

    -- the fault came of a file or of memory, behind those that were taken
    pub off_behind : (Begins : List Input → List (FileCall K) → Type 0) (start last : Standing S) (done rest : List Input) (kept : K) (sink : S) (fault : Fault) (calls : List (FileCall K)) → Begins (done ++ rest) calls
        → Takes takes sites start done last → shown kept ≡ Some last.site → last.sink ≡ sink → ((path : List ℕ) × Contains calls (Failed path fault)) ⊎ (fault ≡ NoMemory)
        → BreaksOff takes sites shown may Begins start kept sink fault calls
    off_behind Begins start last done rest kept sink fault calls begins taken shows hears cause =
        record { first = done; rest = rest; begun = begins; last = last; taken = taken; broke = inl (shows, sym hears, cause) }

    -- ---- a word

    -- that can't be read
    pub word_unread : {F : Type 0} (does : F → FileCall K → F → Type 0) (kind : WordKind) (path : List ℕ) (start : Standing S) (kept : K) (sink : S) (fault : Fault) (old new : F)
        → ((calls : List (FileCall K)) → ReadsNone path calls → BeginsWord kind path [] calls) → shown kept ≡ Some start.site → start.sink ≡ sink
        → Led does old new (FailsToRead path fault) → Led does old new (BreaksOff takes sites shown may (BeginsWord kind path) start kept sink fault)
    word_unread does kind path start kept sink fault old new begins shows hears fails = led_so does old new by fails where
      by : (calls : List (FileCall K)) → FailsToRead path fault calls → BreaksOff takes sites shown may (BeginsWord kind path) start kept sink fault calls
      by calls (inl is) =
          off_behind (BeginsWord kind path) start start [] [] kept sink fault calls (begins calls (inl (inr (fault, is)))) refl shows hears
          (inl (path, subst (λ cs. Contains cs (Failed path fault)) (sym is) (is_first (Failed path fault) [])))
      by calls (inr (out, inl is)) = off_behind (BeginsWord kind path) start start [] [] kept sink fault calls (begins calls (inl (inl is))) refl shows hears (inr out)
      by calls (inr (out, inr (bytes, is))) = off_behind (BeginsWord kind path) start start [] [] kept sink fault calls (begins calls (inr (bytes, is))) refl shows hears (inr out)

    -- all of which was read
    pub word_broke : {F : Type 0} (does : F → FileCall K → F → Type 0) (kind : WordKind) (word : List ℕ) (start : Standing S) (inputs : List Input) (kept : K) (sink : S) (fault : Fault) (old new : F)
        → ((calls : List (FileCall K)) → ReadsWord kind word inputs calls → BeginsWord kind word inputs calls) → Led does old new (ReadsWord kind word inputs)
        → BreaksEach takes sites shown may inputs start kept sink fault → Led does old new (BreaksOff takes sites shown may (BeginsWord kind word) start kept sink fault)
    word_broke does kind word start inputs kept sink fault old new begins read broke =
        led_so does old new (λ calls is. off_of_each (BeginsWord kind word) start start [] inputs kept sink fault calls (begins calls is) refl broke) read

    -- a word behind others
    pub words_broke : {F : Type 0} (does : F → FileCall K → F → Type 0) (kind : WordKind) (words first : List (List ℕ)) (word : List ℕ) (others : List (List ℕ)) (start mid : Standing S) (kept : K) (sink : S) (fault : Fault)
        (old between new : F) → words ≡ first ++ word ∷ others → Led does old between (TakesThose takes sites (ReadsWords kind first) start mid)
        → Led does between new (BreaksOff takes sites shown may (BeginsWord kind word) mid kept sink fault) → Led does old new (BreaksOff takes sites shown may (BeginsWords kind words) start kept sink fault)
    words_broke does kind words first word others start mid kept sink fault old between new words_are some more =
        let those = some.are in
        let off = more.are in record {
          calls = some.calls ++ more.calls;
          are = record {
            first = those.inputs ++ off.first;
            rest = off.rest;
            begun = record {
              first = first;
              word = word;
              others = others;
              words_are = words_are;
              before = those.inputs;
              reads = some.calls;
              read = those.read;
              here = off.first ++ off.rest;
              more = more.calls;
              begun = off.begun;
              inputs_are = append_assoc those.inputs off.first off.rest;
              calls_are = refl;
            };
            last = off.last;
            taken = takes_both start mid off.last those.inputs off.first those.taken off.taken;
            broke = later off.last off.rest off.broke;
          };
          led = calls_then does old between new some.calls more.calls some.led more.led;
        }
      where
        later : (last : Standing S) (rest : List Input) → BreaksBehind takes sites shown may last rest kept sink fault more.calls → BreaksBehind takes sites shown may last rest kept sink fault (some.calls ++ more.calls)
        later last rest (inl (shows, same, inl (path, failed))) = inl (shows, same, inl (path, Contains-append_right some.calls more.calls (Failed path fault) failed))
        later last rest (inl (shows, same, inr out)) = inl (shows, same, inr out)
        later last rest (inr one) = inr one

  -- ---- all of it

  module _ {F K : Type 0} (does : F → FileCall K → F → Type 0) where
    -- a word more
    pub words_more : (kind : WordKind) (old mid new : F) (words : List (List ℕ)) (word : List ℕ) (a b c : Standing S) → Led does old mid (TakesThose takes sites (ReadsWords kind words) a b)
        → Led does mid new (TakesThose takes sites (ReadsWord kind word) b c) → Led does old new (TakesThose takes sites (ReadsWords kind (words ++ word ∷ [])) a c)
    words_more kind old mid new words word a b c some more = record {
      calls = some.calls ++ more.calls;
      are = record {
        inputs = some.are.inputs ++ more.are.inputs;
        read = reads_word kind words word some.are.inputs more.are.inputs some.calls more.calls some.are.read more.are.read;
        taken = takes_both a b c some.are.inputs more.are.inputs some.are.taken more.are.taken;
      };
      led = calls_then does old mid new some.calls more.calls some.led more.led;
    }

    -- those that were read
    pub read_taken : (Reads : List Input → List (FileCall K) → Type 0) (old new : F) (inputs : List Input) (a b : Standing S) → Led does old new (Reads inputs) → Takes takes sites a inputs b
        → Led does old new (TakesThose takes sites Reads a b)
    read_taken Reads old new inputs a b read taken = record { calls = read.calls; are = record { inputs = inputs; read = read.are; taken = taken }; led = read.led }

-- ---- from where a batch stands

module _ {S K : Type 0} (shown : K → Option Record) (may : K → Record → Type 0) (stored : K → Type 0) (takes : S → List Site → List ℕ → InputOutcome → S → Type 0) where
  -- a word that was read at once
  pub word_taken : {F : Type 0} (does : F → FileCall K → F → Type 0) (kind : WordKind) (word : List ℕ) (inputs : List Input) (old new : F) (was run : BatchRun K) (heard hears : S) (result : Result Unit Fault)
      → ((calls : List (FileCall K)) → ReadsWord kind word inputs calls → BeginsWord kind word inputs calls) → Led does old new (ReadsWord kind word inputs)
      → TakesEach shown may stored takes inputs was run heard hears result → TakesRead shown may stored takes does (ReadsWord kind word) (BeginsWord kind word) old new was run heard hears result
  word_taken does kind word inputs old new was run heard hears result begins read did = record {
    lasts = did.lasts;
    came = λ start at.
        match_so result
        (λ u (end, stands, taken). (end, stands, read_taken takes was.sites does (ReadsWord kind word) old new inputs start end read taken))
        (λ fault broke. word_broke takes was.sites shown may does kind word start inputs run.keeper hears fault old new begins read broke)
        (did.came start at);
  }

module _ {S K : Type 0} (shown : K → Option Record) (may : K → Record → Type 0) (stored : K → Type 0) (takes : S → List Site → List ℕ → InputOutcome → S → Type 0) (sites : List Site) where
  -- these inputs were taken, or a fault came of one of them
  pub each_from : (inputs : List Input) (was run : BatchRun K) (heard hears : S) (result : Result Unit Fault) (mid : Standing S) → Stands shown sites was heard mid → TakesEach shown may stored takes inputs was run heard hears result
      → MatchResult result (λ u. (end : Standing S) × Stands shown sites run hears end × Takes takes sites mid inputs end) (BreaksEach takes sites shown may inputs mid run.keeper hears)
  each_from inputs was run heard hears result mid at did =
      subst (λ ss. MatchResult result (λ u. (end : Standing S) × Stands shown ss run hears end × Takes takes ss mid inputs end) (BreaksEach takes ss shown may inputs mid run.keeper hears)) at.lists
      (did.came mid (record { shows = at.shows; hears = at.hears; counts = at.counts; lists = refl }))

  -- the same of inputs that were read
  pub read_from : {F : Type 0} (does : F → FileCall K → F → Type 0) (Reads Begins : List Input → List (FileCall K) → Type 0) (old new : F) (was run : BatchRun K) (heard hears : S) (result : Result Unit Fault) (mid : Standing S)
      → Stands shown sites was heard mid → TakesRead shown may stored takes does Reads Begins old new was run heard hears result
      → MatchResult result (λ u. (end : Standing S) × Stands shown sites run hears end × Led does old new (TakesThose takes sites Reads mid end)) (λ fault. Led does old new (BreaksOff takes sites shown may Begins mid run.keeper hears fault))
  read_from does Reads Begins old new was run heard hears result mid at did =
      subst
      (λ ss. MatchResult result (λ u. (end : Standing S) × Stands shown ss run hears end × Led does old new (TakesThose takes ss Reads mid end)) (λ fault. Led does old new (BreaksOff takes ss shown may Begins mid run.keeper hears fault)))
      at.lists (did.came mid (record { shows = at.shows; hears = at.hears; counts = at.counts; lists = refl }))

-- ---- inputs that are given

module _ {S K : Type 0} (shown : K → Option Record) (may : K → Record → Type 0) (takes : S → List Site → List ℕ → InputOutcome → S → Type 0) (sites : List Site) {F : Type 0} (does : F → FileCall K → F → Type 0) (task : Task) (inputs : List Input) (files : F) (start : Standing S) where
  pub texts_taken : (end : Standing S) → Takes takes sites start inputs end → Led does files files (TakesThose takes sites (ReadsFrom (Texts task inputs)) start end)
  texts_taken end taken = record { calls = []; are = record { inputs = inputs; read = (refl, refl); taken = taken }; led = refl }

  pub texts_broke : (kept : K) (sink : S) (fault : Fault) → BreaksEach takes sites shown may inputs start kept sink fault
      → Led does files files (BreaksOff takes sites shown may (BeginsFrom (Texts task inputs)) start kept sink fault)
  texts_broke kept sink fault broke = record { calls = []; are = off_of_each takes sites shown may (BeginsFrom (Texts task inputs)) start start [] inputs kept sink fault [] (refl, refl) refl broke; led = refl }

-- ---- the whole

module _ {S K F : Type 0} (shown : K → Option Record) (may : K → Record → Type 0) (stored : K → Type 0) (takes : S → List Site → List ℕ → InputOutcome → S → Type 0) (does : F → FileCall K → F → Type 0) (folder name : List ℕ) (from : InputsFrom)
    (old first opened_files mid new : F) (sites : List Site) (site : ℕ) (keeper : K) (r : Record) (listed : Led does old first (ListsSites folder sites)) (known : named sites name ≡ Some site)
    (keeps : KeepsSite shown stored sites site keeper r) (opens : does first (opens_site folder sites site keeper) opened_files) (run : BatchRun K) (heard hears : S) (lasts : stored run.keeper) (closes : does mid (ClosedSite run.keeper) new) where
  abbrev calls_of : List (FileCall K) → List (FileCall K)
  calls_of reads = opens_site folder sites site keeper ∷ reads ++ ClosedSite run.keeper ∷ []

  led_of : (reads : List (FileCall K)) → Calls does opened_files reads mid → Calls does first (calls_of reads) new
  led_of reads read = (opened_files, opens, calls_then does opened_files mid new reads (ClosedSite run.keeper ∷ []) read (new, closes, refl))

  pub batch_broke : (fault : Fault) → Led does opened_files mid (BreaksOff takes sites shown may (BeginsFrom from) (standing r heard (no_counts (task_from from))) run.keeper hears fault)
      → Led does old new (BatchFails shown stored takes folder name from may heard hears fault)
  batch_broke fault broke =
      led_so does old new (λ calls is. inr is)
      (behind_list does folder (BreaksBatch shown stored takes folder name from may heard hears fault) old first new sites listed
      (record {
        calls = calls_of broke.calls;
        are = record {
          site = site;
          known = known;
          keeper = keeper;
          record_before = r;
          opened = keeps;
          reads = broke.calls;
          kept = run.keeper;
          broke = broke.are;
          lasts = lasts;
          calls_are = refl;
        };
        led = led_of broke.calls broke.led;
      }))

  pub batch_taken : (output : BatchOutput) (end : Standing S) → output.sites ≡ sites → output.came ≡ batches.Taken run.counts.totals run.counts.noted → Stands shown sites run hears end
      → Led does opened_files mid (TakesThose takes sites (ReadsFrom from) (standing r heard (no_counts (task_from from))) end) → Led does old new (TakesAll shown stored takes folder name from heard hears output)
  batch_taken output end same came at some =
      behind_list does folder (λ ss rest. (output.sites ≡ ss) × TakesWhere shown stored takes folder name from (named ss name) ss heard hears output.came rest) old first new sites listed
      (record {
        calls = calls_of some.calls;
        are = (
          same,
          subst (λ s. TakesWhere shown stored takes folder name from s sites heard hears output.came (calls_of some.calls)) (sym known)
              (record {
                keeper = keeper;
                record_before = r;
                opened = keeps;
                reads = some.calls;
                last = end;
                taken = some.are;
                told = sym at.hears;
                came_is = came ∙ sym (ap (λ (counts : Counts). batches.Taken counts.totals counts.noted) at.counts);
                kept = run.keeper;
                shows = at.shows;
                lasts = lasts;
                calls_are = refl;
              }),
        );
        led = led_of some.calls some.led;
      })
