-- A command on a folder, however it ended, is acts of the folder's sites.
use Rattle.std.proofs.Common.{◌≡◌, ℕ, zero, suc, ◌+◌, Option, Some, None, List, [], ◌∷◌, ◌++◌, Contains, length, map, refl, sym, ◌∙◌, ap, subst, inl, inr, ⊎_elim, arith, slice_get}
use Rattle.std.specs.Prelude.{⊤}
use Rattle.std.specs.List.{AllByRecursion}
use Rattle.std.proofs.lemmas.List.{length-map}
use Rattle.std.proofs.lemmas.List.Elements.{Contains-append_cases, Contains-append_left, Contains-append_right}
use Rattle.std.proofs.lemmas.Option.{same_Some}
use Rattle.trace_core.proofs.Members.{contains-map, contains_cases, contains_none}
use Rattle.event_json.specs.Sites.{Site}
use Rattle.frame_core.specs.declared.frames.Frame.{Frame}
use Rattle.recall_outcomes.specs.declared.faults.Fault.{Fault}
use Rattle.site_core.specs.Records.{Record}
use Rattle.site_core.specs.declared.inputs.SiteInput.{SiteInput}
use Rattle.world_core.specs.Keepers.{AllShow, StandsAs}
use Rattle.world_core.specs.Worlds.{Standing, Up, Down, record_of}
use Rattle.world_core.proofs.RunParts.{runs_are_parts}
use Rattle.wire_core.specs.Rule.{world_up}
use Rattle.wire_core.proofs.Running.{up_records}
use Rattle.site_threads.specs.Gathering.{AllStandThere, RanAsAWorld, StandsThere, WorldLeadsTo}
use Rattle.site_threads.specs.declared.lists.RunLog.{RunLog}
use Rattle.site_folders.specs.Faults.{EndsInVain, OnlyAsks}
use Rattle.site_folders.specs.FileCalls.{FileCall, Blamed, ClosedSite, Failed, LookedFor, MadeSite, OpenedSite, ReadFile, ReadLine, WroteFile}
use Rattle.site_folders.specs.Keepers.{AreShown, KeepFrom, KeepsSite, closes_all, opens_from, opens_site}
use Rattle.site_folders.proofs.CallsInTurn.{are_shown, shown_once}
use Rattle.site_folders.specs.Lists.{AfterList}
use Rattle.site_folders.specs.Paths.{file_path, list_path}
use Rattle.recall_text.specs.Words.{name_at}
use Rattle.folder_commands.specs.Inputs.{Input}
use Rattle.folder_commands.specs.Steps.{BreaksStep, StepsAt}
use Rattle.folder_commands.specs.Words.{BeginsFrom, InputsFrom, ReadsFrom, Texts, Words, BeginsLines, BeginsWord, BeginsWords, IsUnread, ReadsLines, ReadsNone, ReadsWord, ReadsWords, reads_lines}
use Rattle.folder_commands.specs.declared.words.WordKind.{WordKind}
use Rattle.folder_commands.specs.declared.words.WordKind.TheVariants as kinds
use Rattle.command_line.specs.Lives.{ActTogether, AllStandWhereLed, FilesAreContinued, FilesAreLeft, IsOwn}
use Rattle.command_line.proofs.Lived.{CameTo, failed_to, stepped_to}
use Rattle.command_line.proofs.LivedRows.{StepsAlone, Unchanged, asks_unchanged, closed_same, opened_first, steps_acted, unchanged_acted}
use Rattle.command_line.proofs.LivedRuns.{acted_on, left_there, run_acted, there_me}
use Rattle.folder_commands.proofs.RunLemmas.{RanOn}

module _ {K : Type 0} where
  -- ---- calls that read alone

  pub IsReading : FileCall K → Type 0
  IsReading (ReadFile path bytes) = ⊤
  IsReading (ReadLine path line) = ⊤
  IsReading (Failed path fault) = ⊤
  IsReading (LookedFor path found) = ⊥
  IsReading (MadeSite path r) = ⊥
  IsReading (OpenedSite path name keeper) = ⊥
  IsReading (ClosedSite keeper) = ⊥
  IsReading (WroteFile path bytes) = ⊥
  IsReading (Blamed path) = ⊥

  abbrev pub Quiet : List (FileCall K) → Type 0
  Quiet calls = AllByRecursion IsReading calls

  quiet_both : (xs ys : List (FileCall K)) → Quiet xs → Quiet ys → Quiet (xs ++ ys)
  quiet_both [] ys h k = k
  quiet_both (x ∷ xs) ys h k = (h.0, quiet_both xs ys h.1 k)

  quiet_in : (calls : List (FileCall K)) (call : FileCall K) → Quiet calls → Contains calls call → IsReading call
  quiet_in [] call h c = absurd (contains_none call c)
  quiet_in (x ∷ xs) call h c = ⊎_elim (λ (e : x ≡ call). subst IsReading e h.0) (λ d. quiet_in xs call h.1 d) (contains_cases x call xs c)

  not_closed : (calls : List (FileCall K)) (k : K) → Quiet calls → Contains calls (ClosedSite k) → ⊥
  unfolding IsReading
  not_closed calls k h c = quiet_in calls (ClosedSite k) h c

-- reading a file, and two
pub one_reading : (K : Type 0) (path bytes : List ℕ) → Quiet {K = K} (ReadFile path bytes ∷ [])
unfolding IsReading
one_reading K path bytes = (tt, tt)

pub two_reading : (K : Type 0) (path bytes other more : List ℕ) → Quiet {K = K} (ReadFile path bytes ∷ ReadFile other more ∷ [])
unfolding IsReading
two_reading K path bytes other more = (tt, (tt, tt))

quiet_lines : (K : Type 0) (path : List ℕ) (texts : List (List ℕ)) → Quiet {K = K} (reads_lines path texts)
unfolding IsReading
quiet_lines K path [] = tt
quiet_lines K path (text ∷ texts) = (tt, quiet_lines K path texts)

module _ {K : Type 0} where
  reads_quiet : (doing : _) (path : List ℕ) (given : List Input) (calls : List (FileCall K)) → ReadsLines doing path given calls → Quiet calls
  unfolding IsReading
  reads_quiet doing path given calls (texts, are, is) = subst Quiet (sym is) (quiet_both (reads_lines path texts) (ReadLine path None ∷ []) (quiet_lines K path texts) (tt, tt))

  word_quiet : (kind : WordKind) (word : List ℕ) (given : List Input) (calls : List (FileCall K)) → ReadsWord kind word given calls → Quiet calls
  unfolding IsReading
  word_quiet kinds.Document word given calls (bytes, are, is) = subst Quiet (sym is) (tt, tt)
  word_quiet kinds.DocumentLines word given calls reads = reads_quiet _ word given calls reads
  word_quiet kinds.DocumentEvents word given calls (bytes, are, is) = subst Quiet (sym is) (tt, tt)
  word_quiet (kinds.Epc spelling) word given calls (are, is) = subst Quiet (sym is) tt
  word_quiet (kinds.EpcLines spelling) word given calls reads = reads_quiet _ word given calls reads

  words_quiet : (kind : WordKind) (words : List (List ℕ)) (given : List Input) (calls : List (FileCall K)) → ReadsWords kind words given calls → Quiet calls
  unfolding IsReading
  words_quiet kind [] given calls (are, is) = subst Quiet (sym is) tt
  words_quiet kind (word ∷ more) given calls (first, rest, here, there, one, others, are, is) =
      subst Quiet (sym is) (quiet_both here there (word_quiet kind word first here one) (words_quiet kind more rest there others))

  unread_quiet : (path : List ℕ) (calls : List (FileCall K)) → IsUnread path calls → Quiet calls
  unfolding IsReading
  unread_quiet path calls (inl is) = subst Quiet (sym is) tt
  unread_quiet path calls (inr (fault, is)) = subst Quiet (sym is) (tt, tt)

  none_quiet : (path : List ℕ) (calls : List (FileCall K)) → ReadsNone path calls → Quiet calls
  unfolding IsReading
  none_quiet path calls (inl unread) = unread_quiet path calls unread
  none_quiet path calls (inr (bytes, is)) = subst Quiet (sym is) (tt, tt)

  lines_begun_quiet : (doing : _) (path : List ℕ) (given : List Input) (calls : List (FileCall K)) → BeginsLines doing path given calls → Quiet calls
  lines_begun_quiet doing path given calls (texts, last, are, unread, is) = subst Quiet (sym is) (quiet_both (reads_lines path texts) last (quiet_lines K path texts) (unread_quiet path last unread))

  word_begun_quiet : (kind : WordKind) (word : List ℕ) (given : List Input) (calls : List (FileCall K)) → BeginsWord kind word given calls → Quiet calls
  word_begun_quiet kinds.DocumentLines word given calls begun = lines_begun_quiet _ word given calls begun
  word_begun_quiet (kinds.EpcLines spelling) word given calls begun = lines_begun_quiet _ word given calls begun
  word_begun_quiet kinds.Document word given calls begun = ⊎_elim (word_quiet kinds.Document word given calls) (λ none. none_quiet word calls none.1) begun
  word_begun_quiet kinds.DocumentEvents word given calls begun = ⊎_elim (word_quiet kinds.DocumentEvents word given calls) (λ none. none_quiet word calls none.1) begun
  word_begun_quiet (kinds.Epc spelling) word given calls begun = ⊎_elim (word_quiet (kinds.Epc spelling) word given calls) (λ none. none_quiet word calls none.1) begun

  begun_quiet : (kind : WordKind) (words : List (List ℕ)) (given : List Input) (calls : List (FileCall K)) → BeginsWords kind words given calls → Quiet calls
  begun_quiet kind words given calls begun =
      subst Quiet (sym begun.calls_are) (quiet_both begun.reads begun.more (words_quiet kind begun.first begun.before begun.reads begun.read) (word_begun_quiet kind begun.word begun.here begun.more begun.begun))

  -- wherever the inputs come from
  pub from_quiet : (from : InputsFrom) (given : List Input) (calls : List (FileCall K)) → ReadsFrom from given calls → Quiet calls
  from_quiet (Words kind words) given calls read = words_quiet kind words given calls read
  from_quiet (Texts task inputs) given calls (are, none) = subst Quiet (sym none) tt

  pub from_begun_quiet : (from : InputsFrom) (given : List Input) (calls : List (FileCall K)) → BeginsFrom from given calls → Quiet calls
  from_begun_quiet (Words kind words) given calls begun = begun_quiet kind words given calls begun
  from_begun_quiet (Texts task inputs) given calls (are, none) = subst Quiet (sym none) tt

  -- ---- calls that open and close

  opens_there : (folder : List ℕ) (sites : List Site) (a : ℕ) (keepers : List K) (i : ℕ) (k : K) → slice_get keepers i ≡ Some k → Contains (opens_from folder sites a keepers) (opens_site folder sites (a + i) k)
  opens_there folder sites a [] i k at = absurd (let z : None ≡ Some k = at in cc)
  opens_there folder sites a (x ∷ xs) zero k at =
      (0, omega arith, ap (λ (y : K). opens_site folder sites a y) (same_Some x k at) ∙ ap (λ (n : ℕ). opens_site folder sites n k) (let z : a ≡ a + 0 = omega arith in z))
  opens_there folder sites a (x ∷ xs) (suc i) k at =
      subst (λ (n : ℕ). Contains (opens_from folder sites a (x ∷ xs)) (opens_site folder sites n k)) (let z : a + 1 + i ≡ a + suc i = omega arith in z)
      (Contains-append_right (opens_site folder sites a x ∷ []) (opens_from folder sites (a + 1) xs) (opens_site folder sites (a + 1 + i) k) (opens_there folder sites (a + 1) xs i k at))

in_list : {X : Type 0} (xs : List X) (i : ℕ) (x : X) → slice_get xs i ≡ Some x → Contains xs x
in_list [] i x at = absurd (let z : None ≡ Some x = at in cc)
in_list (y ∷ ys) zero x at = (0, omega arith, same_Some y x at)
in_list (y ∷ ys) (suc i) x at = Contains-append_right (y ∷ []) ys x (in_list ys i x at)

-- what stood at the sites is what the keepers showed that were opened
same_before : {K : Type 0} (shown : K → Option Record) (stored : K → Type 0) (sites : List Site) (a : ℕ) (keepers : List K) (rs before : List Record) (olds : List Standing) → KeepFrom shown stored sites a keepers rs → AllShow shown keepers before → length olds ≡ length keepers
    → ((i : ℕ) (k : K) (r : Record) (o : Standing) → slice_get keepers i ≡ Some k → KeepsSite shown stored sites (a + i) k r → slice_get olds i ≡ Some o → shown k ≡ Some (record_of o)) → before ≡ map record_of olds
same_before shown stored sites a [] [] [] [] keep show many each = refl
same_before shown stored sites a (k ∷ ks) (r ∷ rs) (b ∷ bs) (o ∷ olds) keep show many each =
    let is : b ≡ record_of o = same_Some b (record_of o) (sym show.0 ∙ each 0 k r o refl (subst (λ (n : ℕ). KeepsSite shown stored sites n k r) (let z : a ≡ a + 0 = omega arith in z) keep.0) refl) in
    let rest = same_before shown stored sites (a + 1) ks rs bs olds keep.1 show.1 (omega (arith, many))
    (λ i x y p at kept to. each (suc i) x y p at (subst (λ (n : ℕ). KeepsSite shown stored sites n x y) (let z : a + 1 + i ≡ a + suc i = omega arith in z) kept) to) in
    λ i. is i ∷ rest i
same_before shown stored sites a [] (r ∷ rs) before olds keep show many each = absurd keep
same_before shown stored sites a (k ∷ ks) [] before olds keep show many each = absurd keep
same_before shown stored sites a [] [] (b ∷ bs) olds keep show many each = absurd show
same_before shown stored sites a (k ∷ ks) (r ∷ rs) [] olds keep show many each = absurd show
same_before shown stored sites a [] [] [] (o ∷ olds) keep show many each = absurd (omega (arith, many))
same_before shown stored sites a (k ∷ ks) (r ∷ rs) (b ∷ bs) [] keep show many each = absurd (omega (arith, many))

as_many_shown : {K : Type 0} (shown : K → Option Record) (keepers : List K) (rs : List Record) → AllShow shown keepers rs → length rs ≡ length keepers
as_many_shown shown [] [] show = refl
as_many_shown shown (k ∷ ks) (r ∷ rs) show = ap suc (as_many_shown shown ks rs show.1)
as_many_shown shown [] (r ∷ rs) show = absurd show
as_many_shown shown (k ∷ ks) [] show = absurd show

-- keepers that are open show as many records, and stand in these
as_many_open : {K : Type 0} (shown : K → Option Record) (keepers : List K) (rs : List Record) → AreShown shown keepers rs → length rs ≡ length keepers
as_many_open shown [] [] show = refl
as_many_open shown (k ∷ ks) (r ∷ rs) show = ap suc (as_many_open shown ks rs show.1)
as_many_open shown [] (r ∷ rs) show = absurd show
as_many_open shown (k ∷ ks) [] show = absurd show

open_stands : {K : Type 0} (shown : K → Option Record) (may : K → Record → Type 0) (keepers : List K) (rs : List Record) → AreShown shown keepers rs → (i : ℕ) (k : K) (s : Standing) → slice_get keepers i ≡ Some k → slice_get (map (λ r. Up r) rs) i ≡ Some s → StandsAs (shown k) (may k) s
open_stands shown may [] rs show i k s at to = absurd (let z : None ≡ Some k = at in cc)
open_stands shown may (x ∷ xs) [] show i k s at to = absurd show
open_stands shown may (x ∷ xs) (r ∷ rs) show zero k s at to =
    subst (λ (y : Standing). StandsAs (shown k) (may k) y) (same_Some (Up r) s to) (ap shown (sym (same_Some x k at)) ∙ show.0)
open_stands shown may (x ∷ xs) (r ∷ rs) show (suc i) k s at to = open_stands shown may xs rs show.1 i k s at to

records_up : (rs : List Record) → map record_of (map (λ r. Up r) rs) ≡ rs
records_up [] = refl
records_up (r ∷ rs) = ap (λ (l : List Record). r ∷ l) (records_up rs)

as_many_there_shown : {K : Type 0} (shown : K → Option Record) (may : K → Record → Type 0) (sent : List Frame) (a : ℕ) (keepers : List K) (last : List Record) → AllStandThere shown may sent a keepers last → length last ≡ length keepers
as_many_there_shown shown may sent a [] [] stand = refl
as_many_there_shown shown may sent a (k ∷ ks) (r ∷ rs) stand = ap suc (as_many_there_shown shown may sent (a + 1) ks rs stand.1)
as_many_there_shown shown may sent a [] (r ∷ rs) stand = absurd stand
as_many_there_shown shown may sent a (k ∷ ks) [] stand = absurd stand

as_many_led : (before last : List Record) → WorldLeadsTo before last → length last ≡ length before
as_many_led before last leads =
    let (ds, are, came, is) = runs_are_parts (world_up before []) leads.events leads.answers (world_up last leads.sent) leads.out.run in
    sym (length-map last (λ r. Up r)) ∙ are.count ∙ length-map before (λ r. Up r)

-- a run leaves each record in its place
last_me : (before last : List Record) → WorldLeadsTo before last → (i : ℕ) (r : Record) → slice_get last i ≡ Some r → r.engagement.me ≡ i
last_me before last leads i r at =
    let again = (leads.out.again (world_up last leads.sent) leads.out.moments.1).one in
    (again.2.each i r (subst (λ (l : List Record). slice_get l i ≡ Some r) (sym (up_records last)) at)).1

stand_at : {K : Type 0} (shown : K → Option Record) (may : K → Record → Type 0) (sent : List Frame) (a : ℕ) (keepers : List K) (last : List Record) → AllStandThere shown may sent a keepers last → (i : ℕ) (k : K) → slice_get keepers i ≡ Some k
    → (r : Record) × (slice_get last i ≡ Some r) × ((standing : Standing) → StandsAs (shown k) (may k) standing → StandsThere sent (a + i) r standing)
stand_at shown may sent a [] last stand i k at = absurd (let z : None ≡ Some k = at in cc)
stand_at shown may sent a (x ∷ xs) [] stand i k at = absurd stand
stand_at shown may sent a (x ∷ xs) (r ∷ rs) stand zero k at =
    (r, refl, λ standing is. subst (λ (n : ℕ). StandsThere sent n r standing) (let z : a ≡ a + 0 = omega arith in z) (stand.0 standing (subst (λ (y : _). StandsAs (shown y) (may y) standing) (sym (same_Some x k at)) is)))
stand_at shown may sent a (x ∷ xs) (r ∷ rs) stand (suc i) k at =
    let (s, there, rest) = stand_at shown may sent (a + 1) xs rs stand.1 i k at in
    (s, there, λ standing is. subst (λ (n : ℕ). StandsThere sent n s standing) (let z : a + 1 + i ≡ a + suc i = omega arith in z) (rest standing is))

module _ {K : Type 0} (shown : K → Option Record) (may : K → Record → Type 0) (opens : (k : K) → shown k ≡ None → (r : Record) × may k r) (stored : K → Type 0) (folder : List ℕ) (sites : List Site) (old new : List Standing) (many : length old ≡ length sites)
    (calls : List (FileCall K)) (continued : FilesAreContinued shown may sites old calls) (left : FilesAreLeft shown may old new calls) where
  abbrev Alone : ℕ → Record → K → Type 0
  Alone site before after = StepsAlone shown may opens folder sites old new calls continued left site before after

  pub acted_unchanged : Unchanged shown may opens folder sites old new calls continued left → ActTogether old new
  acted_unchanged same = unchanged_acted shown may opens folder sites old new calls continued left same

  pub only_asked : OnlyAsks calls → ActTogether old new
  only_asked asks = acted_unchanged (asks_unchanged shown may opens folder sites old new calls continued left asks)

  -- the folder's list was read, which lists its sites
  pub listed : (Then : List Site → List (FileCall K) → Type 0) (its : List (FileCall K)) → ((call : FileCall K) → Contains its call → Contains calls call) → (after : AfterList folder Then its) → Then sites after.rest
  listed Then its has after =
      let read = ReadFile (list_path folder) after.text in
      let there = has read (subst (λ (cs : List (FileCall K)). Contains cs read) (sym after.calls_are) (opened_first read after.rest)) in
      subst (λ (ss : List Site). Then ss after.rest) (continued.lists folder after.text after.sites there after.lists) after.done

  -- the file of one site was opened, steps were taken, and it was closed
  pub one_site : (site : ℕ) (keeper after : K) (before : Record) (first mids : List (FileCall K)) → Quiet first → Quiet mids → calls ≡ first ++ (opens_site folder sites site keeper ∷ mids ++ ClosedSite after ∷ [])
      → KeepsSite shown stored sites site keeper before → ((stands : Standing) → StandsAs (shown after) (may after) stands → CameTo site before stands) → ActTogether old new
  one_site site keeper after before first mids quiet still is keeps came =
      let opening = opens_site folder sites site keeper in
      let ends : List (FileCall K) = opening ∷ mids ++ ClosedSite after ∷ [] in
      let has : (call : FileCall K) → Contains ends call → Contains calls call = λ call c. subst (λ (cs : List (FileCall K)). Contains cs call) (sym is) (Contains-append_right first ends call c) in
      let alone : Alone site before after = record {
        keeper = keeper;
        path = file_path folder (name_at sites site);
        name = name_at sites site;
        opened = has opening (opened_first opening (mids ++ ClosedSite after ∷ []));
        shows = keeps.shows.shows;
        me = keeps.shows.me;
        closed = has (ClosedSite after) (Contains-append_right (opening ∷ mids) (ClosedSite after ∷ []) (ClosedSite after) (opened_first (ClosedSite after) []));
        only = λ k c. closed_there k (subst (λ (cs : List (FileCall K)). Contains cs (ClosedSite k)) is c);
        came = λ stands at. let c = came stands at in (c.by, c.me);
      } in
      steps_acted shown may opens folder sites old new calls continued left site before after alone
    where
      closed_last : (k : K) → Contains (ClosedSite after ∷ []) (ClosedSite k) → k ≡ after
      closed_last k c = ⊎_elim (λ (e : ClosedSite after ≡ ClosedSite k). sym (closed_same after k e)) (λ d. absurd (contains_none (ClosedSite k) d)) (contains_cases (ClosedSite after) (ClosedSite k) [] c)

      closed_mid : (k : K) → Contains (mids ++ ClosedSite after ∷ []) (ClosedSite k) → k ≡ after
      closed_mid k c = ⊎_elim (λ d. absurd (not_closed mids k still d)) (closed_last k) (Contains-append_cases mids (ClosedSite after ∷ []) (ClosedSite k) c)

      closed_end : (k : K) → Contains (opens_site folder sites site keeper ∷ mids ++ ClosedSite after ∷ []) (ClosedSite k) → k ≡ after
      closed_end k c = ⊎_elim (λ (e : opens_site folder sites site keeper ≡ ClosedSite k). absurd (let z : opens_site folder sites site keeper ≡ ClosedSite k = e in cc)) (closed_mid k)
          (contains_cases (opens_site folder sites site keeper) (ClosedSite k) (mids ++ ClosedSite after ∷ []) c)

      closed_there : (k : K) → Contains (first ++ (opens_site folder sites site keeper ∷ mids ++ ClosedSite after ∷ [])) (ClosedSite k) → k ≡ after
      closed_there k c = ⊎_elim (λ d. absurd (not_closed first k quiet d)) (closed_end k) (Contains-append_cases first (opens_site folder sites site keeper ∷ mids ++ ClosedSite after ∷ []) (ClosedSite k) c)

  -- the sites stand where a run led whose keepers were closed
  closed_there : (keepers after : List K) (lists : List RunLog) → length keepers ≡ length sites → ((k : K) → Contains after k → Contains calls (ClosedSite k))
      → (ran : RanAsAWorld shown may keepers after lists) → AllStandWhereLed ran.ran.leads.sent 0 ran.ran.after new
  closed_there keepers after lists number closes ran =
      let last = ran.ran.after in
      let sent = ran.ran.leads.sent in
      let count = as_many_led ran.before last ran.ran.leads in
      let shown_many = as_many_shown shown keepers ran.before ran.began in
      let stays_many = left.count in
      left_there shown may sent 0 after last new ran.ran.stand (omega (arith, count, shown_many, stays_many, many, number))
      (λ i k s at to.
      let (r, in_last, stand) = stand_at shown may sent 0 after last ran.ran.stand i k at in
      let (standing, stands) = some_standing k (shown k) refl in
      let me = there_me sent (0 + i) r standing (stand standing stands) ∙ last_me ran.before last ran.ran.leads i r in_last in
      left.closed k i s (closes k (in_list after i k at)) (standing, stands, me) to)
    where
      some_standing : (k : K) (o : Option Record) → shown k ≡ o → (standing : Standing) × StandsAs (shown k) (may k) standing
      some_standing k (Some r) at = (Up r, at)
      some_standing k None at = let some = opens k at in (Down some.0, (at, some.1))

  -- runs one after another, from how the sites of these keepers stand
  runs_on : (between : List (List K)) (keepers after : List K) (stood : List Standing) → length keepers ≡ length sites → ((k : K) → Contains after k → Contains calls (ClosedSite k))
      → ((before : List Record) → AllShow shown keepers before → before ≡ map record_of stood) → RanOn shown may between keepers after → ActTogether stood new
  runs_on [] keepers after stood number closes same (lists, ran) =
      run_acted stood new ran.before ran.ran.after (same ran.before ran.began) ran.ran.leads (closed_there keepers after lists number closes ran)
  runs_on (mid ∷ between) keepers after stood number closes same ((lists, ran), (rs, shows), on) =
      let last = ran.ran.after in
      let sent = ran.ran.leads.sent in
      let ups : List Standing = map (λ r. Up r) rs in
      let many_there : length last ≡ length mid = as_many_there_shown shown may sent 0 mid last ran.ran.stand in
      let many_shown : length rs ≡ length mid = as_many_open shown mid rs shows in
      let count = as_many_led ran.before last ran.ran.leads in
      let before_many = as_many_shown shown keepers ran.before ran.began in
      let there = left_there shown may sent 0 mid last ups ran.ran.stand (length-map rs (λ r. Up r) ∙ many_shown ∙ sym many_there) (λ i k s at to. open_stands shown may mid rs shows i k s at to) in
      acted_on stood ups new (run_acted stood ups ran.before last (same ran.before ran.began) ran.ran.leads there)
      (runs_on between mid after ups (omega (arith, many_there, count, before_many, number)) closes
      (λ before show. shown_once shown mid before rs (are_shown shown mid before show) shows ∙ sym (records_up rs)) on)

  -- the files of all sites were opened, the sites ran, and they were closed
  pub all_ran : (text : List ℕ) (keepers after : List K) (rs : List Record) (between : List (List K)) → calls ≡ ReadFile (list_path folder) text ∷ opens_from folder sites 0 keepers ++ closes_all after
      → KeepFrom shown stored sites 0 keepers rs → length keepers ≡ length sites → RanOn shown may between keepers after → ActTogether old new
  all_ran text keepers after rs between is keep number ran =
      let read = ReadFile (list_path folder) text in
      let opening = opens_from folder sites 0 keepers in
      let closing = closes_all after in
      let has : (call : FileCall K) → Contains (opening ++ closing) call → Contains calls call = λ call c. subst (λ (cs : List (FileCall K)). Contains cs call) (sym is) (Contains-append_right (read ∷ []) (opening ++ closing) call c) in
      runs_on between keepers after old number
      (λ k there. has (ClosedSite k) (Contains-append_right opening closing (ClosedSite k) (contains-map (λ (x : K). ClosedSite x) after k there)))
      (λ before began. same_before shown stored sites 0 keepers rs before old keep began (omega (arith, many, number))
      (λ i k r o at kept to. continued.shows (file_path folder (name_at sites i)) (name_at sites i) k i o (has (opens_site folder sites i k) (Contains-append_left opening closing (opens_site folder sites i k)
      (subst (λ (n : ℕ). Contains opening (opens_site folder sites n k)) (let z : 0 + i ≡ i = omega arith in z) (opens_there folder sites 0 keepers i k at))))
      (Up r, kept.shows.shows, kept.shows.me ∙ (let z : 0 + i ≡ i = omega arith in z)) to)) ran

  -- ---- by rows

  pub vain : (fault : Fault) → EndsInVain shown folder fault calls → ActTogether old new
  vain fault ends = only_asked ends.harmless

  pub stepped_at : (site : ℕ) (input : SiteInput) (own : IsOwn input) (done : _) (first rest : List (FileCall K)) → Quiet first → calls ≡ first ++ rest → StepsAt shown stored folder sites site input done rest → ActTogether old new
  stepped_at site input own done first rest quiet is steps =
      one_site site steps.keeper steps.after steps.before first [] quiet tt (is ∙ ap (λ l. first ++ l) steps.calls_are) steps.opened
      (λ stands at. stepped_to site steps.before steps.opened.shows.me input own (shown steps.after) (may steps.after) done stands steps.stepped at)

  pub broke_at : (failed : K → ℕ) (site : ℕ) (input : SiteInput) (own : IsOwn input) (fault : Fault) (first rest : List (FileCall K)) → Quiet first → calls ≡ first ++ rest → BreaksStep shown may failed stored folder sites site input fault rest → ActTogether old new
  broke_at failed site input own fault first rest quiet is steps =
      one_site site steps.keeper steps.after steps.before first [] quiet tt (is ∙ ap (λ l. first ++ l) steps.calls_are) steps.opened
      (λ stands at. failed_to site steps.before steps.opened.shows.me input own (shown steps.after) (may steps.after) fault stands steps.broke at)
