-- What the contract of each command says of its calls, as acts of the folder's sites.
use Rattle.std.proofs.Common.{◌≡◌, ◌⊎◌, ℕ, Bool, true, false, Option, Some, None, List, [], ◌∷◌, ◌++◌, Contains, length, refl, sym, ◌∙◌, ap, subst, inl, inr, ⊎_elim, append-nil, slice_get}
use Rattle.std.specs.Prelude.{Result, Ok, Err}
use Rattle.std.proofs.lemmas.List.Elements.{Contains-append_cases, Contains-append_left, Contains-append_right, All-contains}
use Rattle.std.proofs.lemmas.Option.{same_Some}
use Rattle.trace_core.proofs.Members.{contains_cases, contains_none}
use Rattle.event_json.specs.Sites.{Site, named}
use Rattle.item_spellings.specs.Keys.{item_reading}
use Rattle.item_spellings.specs.declared.faults.SpellingFault.{SpellingFault}
use Rattle.item_spellings.specs.declared.spellings.Spelled.{Spelled}
use Rattle.keeper_core.specs.declared.faults.Unopened.{Unopened}
use Rattle.recall_outcomes.specs.declared.batches.InputOutcome.{InputOutcome}
use Rattle.recall_outcomes.specs.declared.faults.Fault.{Fault}
use Rattle.recall_outcomes.specs.declared.notes.Notes.{Notes}
use Rattle.recall_outcomes.specs.declared.outcomes.Output.{Output}
use Rattle.site_core.specs.Records.{Record}
use Rattle.site_core.specs.declared.inputs.SiteInput.TheVariants as inputs
use Rattle.site_core.specs.declared.outcomes.Effects.{Effects}
use Rattle.site_core.specs.declared.outcomes.Refusal.{Refusal}
use Rattle.world_core.specs.Keepers.{StandsAs}
use Rattle.world_core.specs.Worlds.{Standing, Up, Down, record_of}
use Rattle.site_folders.specs.Faults.{IsHarmless, OnlyAsks}
use Rattle.site_folders.specs.FileCalls.{FileCall, ClosedSite, OpenedSite, ReadFile}
use Rattle.site_folders.specs.Keepers.{KeepFrom, closes_all, opens_from, opens_site}
use Rattle.site_folders.specs.Lists.{AfterList}
use Rattle.site_folders.specs.Paths.{file_path, list_path}
use Rattle.site_folders.specs.Questions.{TellsAll, TellsSite}
use Rattle.site_folders.proofs.VainLemmas.{asks_first, asks_then, closes_ask, none_asks}
use Rattle.recall_text.specs.Words.{name_at}
use Rattle.folder_questions.specs.declared.knowers.KnowersOf.{KnowersOf}
use Rattle.folder_commands.specs.Batches.{BatchFails, TakesAll, TakesWhere, BreaksBatch}
use Rattle.folder_commands.specs.declared.runs.RunTerms.{RunTerms}
use Rattle.folder_commands.specs.Runs.{BreaksRun, RunFails, RunsAll, RunsAt}
use Rattle.folder_commands.specs.Steps.{AtSite, BreaksCapture, BreaksStart, CaptureFails, CapturesAt, CapturesFile, StartFails, StartsAt, StartsItem, StartsRecall, Steps, TellsStep}
use Rattle.folder_commands.proofs.RunLemmas.{RanOrNot, broke_or_not, unless_or_not}
use Rattle.folder_commands.specs.declared.batches.BatchCame.{BatchCame}
use Rattle.folder_commands.specs.declared.batches.BatchOutput.{BatchOutput}
use Rattle.folder_commands.specs.Words.{InputsFrom}
use Rattle.command_line.specs.Lives.{ActTogether, FilesAreContinued, FilesAreLeft, IsOfSite}
use Rattle.command_line.specs.UnknownItems.{AndWho, TellsBehind, TellsWho, is_unknown}
use Rattle.command_line.proofs.Lived.{broke_off, taken_all, CameTo}
use Rattle.command_line.proofs.LivedCommands.{acted_unchanged, all_ran, broke_at, from_begun_quiet, from_quiet, listed, one_reading, one_site, only_asked, stepped_at, two_reading, vain}
use Rattle.command_line.proofs.LivedRows.{closed_same, opened_first}

-- ---- questions

module _ {K : Type 0} (shown : K → Option Record) (stored : K → Type 0) (folder : List ℕ) where
  one_read : (text : List ℕ) (rest : List (FileCall K)) → OnlyAsks rest → OnlyAsks (ReadFile (list_path folder) text ∷ rest)
  one_read text rest asks = asks_first (ReadFile (list_path folder) text) rest tt asks

  none_left : (rest : List (FileCall K)) → rest ≡ [] → OnlyAsks rest
  none_left rest none = subst (λ (cs : List (FileCall K)). OnlyAsks cs) (sym none) none_asks

  pub all_told : {A : Type 0} {sites : List Site} {Tells : List Record → A → Type 0} {answer : A} {calls : List (FileCall K)} → TellsAll shown stored folder sites Tells answer calls → OnlyAsks calls
  all_told {sites = sites} told = subst (λ (cs : List (FileCall K)). OnlyAsks cs) (sym told.calls_are) (closes_ask folder sites 0 told.keepers)

  pub site_told : {A : Type 0} {sites : List Site} {site : ℕ} {Tells : Record → A → Type 0} {answer : A} {calls : List (FileCall K)} → TellsSite shown stored folder sites site Tells answer calls → OnlyAsks calls
  site_told {sites = sites} {site = site} told = subst (λ (cs : List (FileCall K)). OnlyAsks cs) (sym told.calls_are) (closes_ask folder sites site (told.keeper ∷ []))

  -- the question was refused by the list alone, or it was asked
  pub refused_or : {P R : Type 0} {rest : List (FileCall K)} → (P × (rest ≡ [])) ⊎ R → (R → OnlyAsks rest) → OnlyAsks rest
  refused_or {rest = rest} (inl refused) so = none_left rest refused.1
  refused_or (inr told) so = so told

  pub after_asks : {Then : List Site → List (FileCall K) → Type 0} {calls : List (FileCall K)} → AfterList folder Then calls → ((sites : List Site) (rest : List (FileCall K)) → Then sites rest → OnlyAsks rest) → OnlyAsks calls
  after_asks after so = subst (λ (cs : List (FileCall K)). OnlyAsks cs) (sym after.calls_are) (one_read after.text after.rest (so after.sites after.rest after.done))

  asks_who : (question : KnowersOf) (notes : Notes) (calls : List (FileCall K)) → TellsWho shown stored folder question notes calls → OnlyAsks calls
  asks_who question notes calls (inl (sites, asked)) = after_asks asked (λ ss rest told. refused_or told.1 (λ t. all_told t.2))
  asks_who question notes calls (inr (none, fault, ends)) = ends.harmless

  who_behind : (question : KnowersOf) (unknown : Bool) (first told : Output) (calls : List (FileCall K)) → TellsBehind shown stored folder question unknown first told calls → OnlyAsks calls
  who_behind question true first told calls behind = asks_who question told.notes calls behind.2
  who_behind question false first told calls behind = subst (λ (cs : List (FileCall K)). OnlyAsks cs) (sym behind.1) none_asks

  -- behind a question it may be asked who knows the item
  pub asks_behind : (question : KnowersOf) (Leads : Output → List (FileCall K) → Type 0) → ((output : Output) (calls : List (FileCall K)) → Leads output calls → OnlyAsks calls) → (told : Output) (calls : List (FileCall K)) → AndWho shown stored folder question Leads told calls → OnlyAsks calls
  asks_behind question Leads asks told calls who =
      subst (λ (cs : List (FileCall K)). OnlyAsks cs) (sym who.calls_are) (asks_then who.its who.rest (asks who.first who.its who.leads) (who_behind question (is_unknown who.first.outcome) who.first told who.rest who.behind))

module _ {K : Type 0} (shown : K → Option Record) (may : K → Record → Type 0) (opens : (k : K) → shown k ≡ None → (r : Record) × may k r) (stored : K → Type 0) (folder : List ℕ) (sites : List Site) (old new : List Standing) (many : length old ≡ length sites)
    (calls : List (FileCall K)) (continued : FilesAreContinued shown may sites old calls) (left : FilesAreLeft shown may old new calls) where
  asked : OnlyAsks calls → ActTogether old new
  asked = only_asked shown may opens stored folder sites old new many calls continued left

  at_once : (Then : List Site → List (FileCall K) → Type 0) → (after : AfterList folder Then calls) → Then sites after.rest
  at_once Then after = listed shown may opens stored folder sites old new many calls continued left Then calls (λ call c. c) after

  read_alone : (text : List ℕ) (rest : List (FileCall K)) → calls ≡ ReadFile (list_path folder) text ∷ rest → rest ≡ [] → ActTogether old new
  read_alone text rest is none = asked (subst (λ (cs : List (FileCall K)). OnlyAsks cs) (sym (is ∙ ap (λ l. ReadFile (list_path folder) text ∷ l) none)) (one_read shown stored folder text [] none_asks))

  -- ---- captures and starts

  captured_by : (name file : List ℕ) (output : Output) (text : List ℕ) (rest : List (FileCall K)) (found : Option ℕ) → calls ≡ ReadFile (list_path folder) text ∷ rest → AtSite name found (CapturesFile shown stored folder sites file) output rest → ActTogether old new
  captured_by name file output text rest None is (refuses, notes, none) = read_alone text rest is none
  captured_by name file output text rest (Some site) is c =
      stepped_at shown may opens stored folder sites old new many calls continued left site (inputs.Capture c.document) refl c.done
      (ReadFile (list_path folder) text ∷ ReadFile file c.document ∷ []) c.rest (two_reading K (list_path folder) text file c.document) (is ∙ ap (λ l. ReadFile (list_path folder) text ∷ l) c.calls_are) c.steps

  pub captured : (name file : List ℕ) (output : Output) → CapturesAt shown stored folder name file output calls → ActTogether old new
  captured name file output after =
      captured_by name file output after.text after.rest (named sites name) after.calls_are (at_once (λ ss rest. (output.sites ≡ ss) × AtSite name (named ss name) (CapturesFile shown stored folder ss file) output rest) after).1

  pub capture_failed : (failed : K → ℕ) (name file : List ℕ) (fault : Fault) → CaptureFails shown may failed stored folder name file fault calls → ActTogether old new
  capture_failed failed name file fault (inl ends) = vain shown may opens stored folder sites old new many calls continued left fault ends
  capture_failed failed name file fault (inr after) =
      let c = at_once (BreaksCapture shown may failed stored folder name file fault) after in
      broke_at shown may opens stored folder sites old new many calls continued left failed c.site (inputs.Capture c.document) refl fault
      (ReadFile (list_path folder) after.text ∷ ReadFile file c.document ∷ []) c.rest (two_reading K (list_path folder) after.text file c.document) (after.calls_are ∙ ap (λ l. ReadFile (list_path folder) after.text ∷ l) c.calls_are) c.step

  started_by : (name : List ℕ) (item : Result (List ℕ) SpellingFault) (output : Output) (text : List ℕ) (rest : List (FileCall K)) (found : Option ℕ) → calls ≡ ReadFile (list_path folder) text ∷ rest → AtSite name found (StartsItem shown stored folder sites item) output rest → ActTogether old new
  started_by name item output text rest None is (refuses, notes, none) = read_alone text rest is none
  started_by name (Err fault) output text rest (Some site) is (refuses, notes, none) = read_alone text rest is none
  started_by name (Ok item) output text rest (Some site) is c =
      stepped_at shown may opens stored folder sites old new many calls continued left site (inputs.Start item) refl c.done (ReadFile (list_path folder) text ∷ []) rest (one_reading K (list_path folder) text) is c.steps

  started_alone : (name : List ℕ) (item : Spelled) (output : Output) → StartsAt shown stored folder name item output calls → ActTogether old new
  started_alone name item output after =
      started_by name (item_reading item) output after.text after.rest (named sites name) after.calls_are (at_once (λ ss rest. (output.sites ≡ ss) × AtSite name (named ss name) (StartsItem shown stored folder ss (item_reading item)) output rest) after).1

  pub start_failed : (failed : K → ℕ) (name : List ℕ) (item : Spelled) (fault : Fault) → StartFails shown may failed stored folder name item fault calls → ActTogether old new
  start_failed failed name item fault (inl ends) = vain shown may opens stored folder sites old new many calls continued left fault ends
  start_failed failed name item fault (inr after) =
      let c = at_once (BreaksStart shown may failed stored folder name item fault) after in
      broke_at shown may opens stored folder sites old new many calls continued left failed c.site (inputs.Start c.item) refl fault (ReadFile (list_path folder) after.text ∷ []) after.rest (one_reading K (list_path folder) after.text) after.calls_are c.step

  -- ---- a start that was refused, behind which it was asked who knows the item

  refused_shows : (before : Record) (k : K) (o : Option Record) (done : Result Effects Refusal) (input : _) (output : Output) → shown k ≡ o → Steps before input o done → TellsStep done output.outcome → is_unknown output.outcome ≡ true → shown k ≡ Some before
  refused_shows before k (Some x) (Ok effects) input output at steps told unknown = absurd (let z : false ≡ true = sym (ap is_unknown told) ∙ unknown in cc)
  refused_shows before k (Some x) (Err why) input output at (refused, same) told unknown = at ∙ ap Some same
  refused_shows before k None done input output at steps told unknown = absurd steps

  module _ (its rest : List (FileCall K)) (is : calls ≡ its ++ rest) (asks : OnlyAsks rest) where
    has_its : (call : FileCall K) → Contains its call → Contains calls call
    has_its call c = subst (λ (cs : List (FileCall K)). Contains cs call) (sym is) (Contains-append_left its rest call c)

    has_rest : (call : FileCall K) → Contains rest call → Contains calls call
    has_rest call c = subst (λ (cs : List (FileCall K)). Contains cs call) (sym is) (Contains-append_right its rest call c)

    refused_stands : (site : ℕ) (item : List ℕ) (output : Output) (part : List (FileCall K)) → ((call : FileCall K) → Contains part call → Contains calls call) → StartsRecall shown stored folder sites item site output part → is_unknown output.outcome ≡ true
        → (k : K) (at : ℕ) (stood : Standing) → Contains part (ClosedSite k) → IsOfSite shown may at k → slice_get old at ≡ Some stood → shown k ≡ Some (record_of stood)
    refused_stands site item output part has c unknown k at stood closed of there =
        let steps = c.steps in
        let opening = opens_site folder sites site steps.keeper in
        let still : shown steps.after ≡ Some steps.before = refused_shows steps.before steps.after (shown steps.after) c.done (inputs.Start item) output refl steps.stepped c.told unknown in
        let same : k ≡ steps.after = closed_of k (subst (λ (cs : List (FileCall K)). Contains cs (ClosedSite k)) steps.calls_are closed) in
        let shows : shown k ≡ Some steps.before = ap shown same ∙ still in
        let me : steps.before.engagement.me ≡ at = me_of k at steps.before shows of in
        let opened = has opening (subst (λ (cs : List (FileCall K)). Contains cs opening) (sym steps.calls_are) (opened_first opening (ClosedSite steps.after ∷ []))) in
        shows ∙ sym steps.opened.shows.shows ∙ continued.shows (file_path folder (name_at sites site)) (name_at sites site) steps.keeper at stood opened (Up steps.before, steps.opened.shows.shows, me) there
      where
        closed_of : (k : K) → Contains (opens_site folder sites site c.steps.keeper ∷ ClosedSite c.steps.after ∷ []) (ClosedSite k) → k ≡ c.steps.after
        closed_of k h = ⊎_elim (λ (e : opens_site folder sites site c.steps.keeper ≡ ClosedSite k). absurd (let z : opens_site folder sites site c.steps.keeper ≡ ClosedSite k = e in cc))
            (λ d. ⊎_elim (λ (e : ClosedSite c.steps.after ≡ ClosedSite k). sym (closed_same c.steps.after k e)) (λ n. absurd (contains_none (ClosedSite k) n)) (contains_cases (ClosedSite c.steps.after) (ClosedSite k) [] d))
            (contains_cases (opens_site folder sites site c.steps.keeper) (ClosedSite k) (ClosedSite c.steps.after ∷ []) h)

        me_of : (k : K) (at : ℕ) (r : Record) → shown k ≡ Some r → IsOfSite shown may at k → r.engagement.me ≡ at
        me_of k at r shows (Up x, stands, me) = ap (λ (y : Record). y.engagement.me) (same_Some r x (sym shows ∙ stands)) ∙ me
        me_of k at r shows (Down x, stands, me) = absurd (let z : Some r ≡ None = sym shows ∙ stands.0 in cc)

    no_closing : (part : List (FileCall K)) → part ≡ [] → (k : K) → Contains part (ClosedSite k) → ⊥
    no_closing part none k c = contains_none (ClosedSite k) (subst (λ (cs : List (FileCall K)). Contains cs (ClosedSite k)) none c)

    refused_by : (name : List ℕ) (item : Result (List ℕ) SpellingFault) (output : Output) (part : List (FileCall K)) (found : Option ℕ) → ((call : FileCall K) → Contains part call → Contains calls call) → AtSite name found (StartsItem shown stored folder sites item) output part → is_unknown output.outcome ≡ true
        → (k : K) (at : ℕ) (stood : Standing) → Contains part (ClosedSite k) → IsOfSite shown may at k → slice_get old at ≡ Some stood → shown k ≡ Some (record_of stood)
    refused_by name item output part None has (refuses, notes, none) unknown k at stood closed of there = absurd (no_closing part none k closed)
    refused_by name (Err fault) output part (Some site) has (refuses, notes, none) unknown k at stood closed of there = absurd (no_closing part none k closed)
    refused_by name (Ok item) output part (Some site) has c unknown k at stood closed of there = refused_stands site item output part has c unknown k at stood closed of there

    refused_start : (name : List ℕ) (item : Spelled) (output : Output) → StartsAt shown stored folder name item output its → is_unknown output.outcome ≡ true → ActTogether old new
    refused_start name item output after unknown =
        let at = listed shown may opens stored folder sites old new many calls continued left (λ ss part. (output.sites ≡ ss) × AtSite name (named ss name) (StartsItem shown stored folder ss (item_reading item)) output part) its has_its after in
        let read = ReadFile (list_path folder) after.text in
        let in_its : (call : FileCall K) → Contains after.rest call → Contains its call = λ call c. subst (λ (cs : List (FileCall K)). Contains cs call) (sym after.calls_are) (Contains-append_right (read ∷ []) after.rest call c) in
        acted_unchanged shown may opens stored folder sites old new many calls continued left
        (λ k site stood closed of there. ⊎_elim
        (λ (c : Contains its (ClosedSite k)). refused_by name (item_reading item) output after.rest (named sites name) (λ call d. has_its call (in_its call d)) at.1 unknown k site stood
        (behind_read read after.rest k (λ e. absurd (let z : read ≡ ClosedSite k = e in cc)) (subst (λ (cs : List (FileCall K)). Contains cs (ClosedSite k)) after.calls_are c)) of there)
        (λ (c : Contains rest (ClosedSite k)).
        let (path, name', opened) : IsHarmless rest (ClosedSite k) = All-contains (IsHarmless rest) rest (ClosedSite k) asks c in
        continued.shows path name' k site stood (has_rest (OpenedSite path name' k) opened) of there)
        (Contains-append_cases its rest (ClosedSite k) (subst (λ (cs : List (FileCall K)). Contains cs (ClosedSite k)) is closed)))
      where
        behind_read : (first : FileCall K) (more : List (FileCall K)) (k : K) → (first ≡ ClosedSite k → ⊥) → Contains (first ∷ more) (ClosedSite k) → Contains more (ClosedSite k)
        behind_read first more k not c = ⊎_elim (λ (e : first ≡ ClosedSite k). absurd (not e)) (λ d. d) (contains_cases first (ClosedSite k) more c)

  started_where : (question : KnowersOf) (name : List ℕ) (item : Spelled) (told first : Output) (its rest : List (FileCall K)) (unknown : Bool) → calls ≡ its ++ rest → is_unknown first.outcome ≡ unknown → StartsAt shown stored folder name item first its
      → TellsBehind shown stored folder question unknown first told rest → ActTogether old new
  started_where question name item told first its rest true is unknown leads behind = refused_start its rest is (who_behind shown stored folder question true first told rest behind) name item first leads unknown
  started_where question name item told first its rest false is unknown leads behind =
      started_alone name item first (subst (λ (cs : List (FileCall K)). StartsAt shown stored folder name item first cs) (sym (is ∙ ap (λ l. its ++ l) behind.1 ∙ append-nil its)) leads)

  pub started : (question : KnowersOf) (name : List ℕ) (item : Spelled) (told : Output) → AndWho shown stored folder question (StartsAt shown stored folder name item) told calls → ActTogether old new
  started question name item told who = started_where question name item told who.first who.its who.rest (is_unknown who.first.outcome) who.calls_are refl who.leads who.behind

  -- ---- runs

  ran_all : (text : List ℕ) (keepers after : List K) (rs : List Record) → calls ≡ ReadFile (list_path folder) text ∷ opens_from folder sites 0 keepers ++ closes_all after → KeepFrom shown stored sites 0 keepers rs → length keepers ≡ length sites
      → RanOrNot shown may keepers after → ActTogether old new
  ran_all text keepers after rs is keep number (inl same) =
      asked (subst (λ (cs : List (FileCall K)). OnlyAsks cs) (sym (is ∙ ap (λ (ks : List K). ReadFile (list_path folder) text ∷ opens_from folder sites 0 keepers ++ closes_all ks) same))
      (one_read shown stored folder text (opens_from folder sites 0 keepers ++ closes_all keepers) (closes_ask folder sites 0 keepers)))
  ran_all text keepers after rs is keep number (inr (between, ran)) = all_ran shown may opens stored folder sites old new many calls continued left text keepers after rs between is keep number ran

  pub has_run : (knows : List ℕ → List ℕ → Type 0) (failed : K → ℕ) (terms : RunTerms) (output : Output) → RunsAt knows shown failed may stored folder terms output calls → ActTogether old new
  has_run knows failed terms output after =
      let r = (at_once (λ ss rest. (output.sites ≡ ss) × RunsAll knows shown failed may stored folder ss terms output rest) after).1 in
      ran_all after.text r.keepers r.after r.records (after.calls_are ∙ ap (λ l. ReadFile (list_path folder) after.text ∷ l) r.calls_are) r.opened r.number (unless_or_not shown failed may terms r.keepers r.after r.missed output.outcome r.end r.told)

  pub run_failed : {G : Type 0} (failed : K → ℕ) (reopens : K → Result K (Unopened K) → Type 0) (gives_up : G → ℕ → ℕ → Type 0) (terms : RunTerms) (fault : Fault) → RunFails shown failed may reopens gives_up stored folder terms fault calls → ActTogether old new
  run_failed failed reopens gives_up terms fault (inl ends) = vain shown may opens stored folder sites old new many calls continued left fault ends
  run_failed {G} failed reopens gives_up terms fault (inr after) =
      let r = at_once (BreaksRun shown failed may reopens gives_up stored folder terms fault) after in
      ran_all after.text r.keepers r.after r.records (after.calls_are ∙ ap (λ l. ReadFile (list_path folder) after.text ∷ l) r.calls_are) r.opened r.number
      (broke_or_not shown failed may reopens gives_up stored folder terms fault sites after.rest r)

  -- ---- several inputs

  module _ {S : Type 0} (takes : S → List Site → List ℕ → InputOutcome → S → Type 0) (name : List ℕ) (from : InputsFrom) where
    taken_where : (text : List ℕ) (rest : List (FileCall K)) (found : Option ℕ) (heard hears : S) (came : BatchCame) → calls ≡ ReadFile (list_path folder) text ∷ rest → TakesWhere shown stored takes folder name from found sites heard hears came rest → ActTogether old new
    taken_where text rest None heard hears came is (refused, same, none) = read_alone text rest is none
    taken_where text rest (Some site) heard hears came is t =
        one_site shown may opens stored folder sites old new many calls continued left site t.keeper t.kept t.record_before (ReadFile (list_path folder) text ∷ []) t.reads (one_reading K (list_path folder) text) (from_quiet from t.taken.inputs t.reads t.taken.read)
        (is ∙ ap (λ l. ReadFile (list_path folder) text ∷ l) t.calls_are) t.opened
        (λ stands at. stands_in site t.record_before t.last.site t.kept stands (taken_all site takes sites _ t.taken.inputs t.last t.opened.shows.me t.taken.taken) t.shows at)
      where
        stands_in : (site : ℕ) (before last : Record) (kept : K) (stands : Standing) → CameTo site before (Up last) → shown kept ≡ Some last → StandsAs (shown kept) (may kept) stands → CameTo site before stands
        stands_in site before last kept (Up r) came shows at = subst (λ (x : Record). CameTo site before (Up x)) (same_Some last r (sym shows ∙ at)) came
        stands_in site before last kept (Down r) came shows at = absurd (let z : Some last ≡ None = sym shows ∙ at.0 in cc)

    pub batch_taken : (heard hears : S) (output : BatchOutput) → TakesAll shown stored takes folder name from heard hears output calls → ActTogether old new
    batch_taken heard hears output after =
        taken_where after.text after.rest (named sites name) heard hears output.came after.calls_are (at_once (λ ss rest. (output.sites ≡ ss) × TakesWhere shown stored takes folder name from (named ss name) ss heard hears output.came rest) after).1

    pub batch_failed : (heard hears : S) (fault : Fault) → BatchFails shown stored takes folder name from may heard hears fault calls → ActTogether old new
    batch_failed heard hears fault (inl (ends, same)) = vain shown may opens stored folder sites old new many calls continued left fault ends
    batch_failed heard hears fault (inr after) =
        let b = at_once (BreaksBatch shown stored takes folder name from may heard hears fault) after in
        one_site shown may opens stored folder sites old new many calls continued left b.site b.keeper b.kept b.record_before (ReadFile (list_path folder) after.text ∷ []) b.reads (one_reading K (list_path folder) after.text)
        (from_begun_quiet from (b.broke.first ++ b.broke.rest) b.reads b.broke.begun) (after.calls_are ∙ ap (λ l. ReadFile (list_path folder) after.text ∷ l) b.calls_are) b.opened
        (λ stands at. broke_off b.site takes sites shown may _ _ b.kept hears fault b.reads stands b.opened.shows.me b.broke at)
