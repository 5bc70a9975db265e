-- the calls that copy a folder, in turn
use Rattle.std.proofs.Common.{◌≡◌, ◌⊎◌, ℕ, ◌+◌, ◌<◌, Bool, false, List, [], ◌∷◌, ◌++◌, inl, inr, length, get_or, take, drop, refl, sym, ap, ◌∙◌, subst, arith}
use Rattle.std.specs.Prelude.{Option}
use Rattle.std.specs.Borrow.{Bor}
use Rattle.std.specs.List.{AllZip}
use Rattle.std.proofs.lemmas.List.{drop_more, map-append, take-append-drop}
use Rattle.event_json.specs.Sites.{Site}
use Rattle.recall_outcomes.specs.declared.faults.Fault.{Fault}
use Rattle.recall_outcomes.specs.declared.outcomes.CommandRefusal.{CommandRefusal}
use Rattle.recall_outcomes.specs.declared.outcomes.Outcome.{Outcome}
use Rattle.recall_outcomes.specs.declared.outcomes.Outcome.TheVariants.{Created}
use Rattle.site_core.specs.Records.{Record}
use Rattle.site_recovery.specs.Checking.{records_at}
use Rattle.site_folders.specs.Faults.{EndsInVain, OpensInVain}
use Rattle.site_folders.specs.FileCalls.{Calls, FileCall, Led, LookedFor, ReadFile}
use Rattle.site_folders.specs.Keepers.{KeepFrom, closes_all, opens_from}
use Rattle.site_folders.specs.Lists.{Lists}
use Rattle.site_folders.specs.Paths.{list_path}
use Rattle.site_folders.specs.Refusals.{AreRefused, IsExists}
use Rattle.site_folders.proofs.CallsInTurn.{calls_then}
use Rattle.site_folders.proofs.VainLemmas.{asks_first, none_asks, opens_behind, vain_behind}
use Rattle.folder_commands.specs.Copying.{CopiesFirst, CopiesListed, CopiesSites, CopiesSome, CopiesWhere, CopyFails, FailsAtList, ListedFails, StopsAt, makes_copies}
use Rattle.folder_commands.specs.Making.{LooksForList, existing, looks_from}
use Rattle.folder_commands.proofs.MakingLemmas.{list_free, looks_ask, none_exist}

-- of the records that references point to, those from this one on
pub left_at : (refs : List (Bor Record)) (i : ℕ) (state : Bor Record) → i < length refs → state ≡ get_or refs i state → records_at (drop i refs) ≡ state.now ∷ records_at (drop (i + 1) refs)
left_at refs i state below is = ap records_at (drop_more refs i state below) ∙ ap (λ (z : Bor Record). z.now ∷ records_at (drop (i + 1) refs)) (sym is)

module _ {F K : Type 0} (does : F → FileCall K → F → Type 0) (to : List ℕ) where
  -- the files of the first records were made, and then it stopped
  pub first_copied : (records made left : List Record) (old mid new : F) (fault : Fault) (rest : List (FileCall K)) → records ≡ made ++ left → Calls does old (makes_copies to made) mid
      → StopsAt to left fault rest → Calls does mid rest new → Led does old new (CopiesFirst to records fault)
  first_copied records made left old mid new fault rest parts led stops more = record {
    calls = makes_copies to made ++ rest;
    are = record { made = made; left = left; parts = parts; rest = rest; stops = stops; calls_are = refl };
    led = calls_then does old mid new (makes_copies to made) rest led more;
  }

  pub stopped_at : (refs : List (Bor Record)) (i : ℕ) (old mid new : F) (fault : Fault) (rest : List (FileCall K)) → Calls does old (makes_copies to (records_at (take i refs))) mid
      → StopsAt to (records_at (drop i refs)) fault rest → Calls does mid rest new → Led does old new (CopiesFirst to (records_at refs) fault)
  stopped_at refs i old mid new fault rest led stops more =
      let parts = ap records_at (sym (take-append-drop i refs)) ∙ map-append (λ (z : Bor Record). z.now) (take i refs) (drop i refs) in
      first_copied (records_at refs) (records_at (take i refs)) (records_at (drop i refs)) old mid new fault rest parts led stops more

-- what is there already is the outcome, and nothing is copied
pub refuses_copy : {K : Type 0} (shown : K → Option Record) (stored : K → Type 0) (folder to : List ℕ) (refused : List CommandRefusal) (sites : List Site) (text : List ℕ) (outcome : Outcome) → 0 < length refused → AreRefused refused outcome
    → CopiesWhere shown stored folder to refused sites text outcome []
refuses_copy shown stored folder to [] sites text outcome some told = absurd (omega (arith, some))
refuses_copy shown stored folder to (why ∷ whys) sites text outcome some told = (told, refl)

-- nothing is there, and all is copied
pub all_copied : {K : Type 0} (shown : K → Option Record) (stored : K → Type 0) (folder to : List ℕ) (refused : List CommandRefusal) (sites : List Site) (text : List ℕ) (outcome : Outcome) (calls : List (FileCall K)) → length refused ≡ 0 → outcome ≡ Created
    → CopiesSites shown stored folder to sites text calls → CopiesWhere shown stored folder to refused sites text outcome calls
all_copied shown stored folder to [] sites text outcome calls none told copied = (told, copied)
all_copied shown stored folder to (why ∷ whys) sites text outcome calls none told copied = absurd (omega (arith, none))

module _ {F K : Type 0} (does : F → FileCall K → F → Type 0) (shown : K → Option Record) (stored : K → Type 0) (folder to : List ℕ) (sites : List Site) where
  -- the files were opened, those of the copy were made, all or some, and they were closed
  pub some_copied : (fault : Fault) (old opened copied closed new : F) (keepers : List K) (records : List Record) (makes last : List (FileCall K)) → KeepFrom shown stored sites 0 keepers records → length keepers ≡ length sites
      → Calls does old (opens_from folder sites 0 keepers) opened → Calls does opened makes copied → Calls does copied (closes_all keepers) closed → Calls does closed last new
      → (CopiesFirst to records fault makes × (last ≡ [])) ⊎ ((makes ≡ makes_copies to records) × FailsAtList to fault last) → Led does old new (CopiesSome shown stored folder to sites fault)
  some_copied fault old opened copied closed new keepers records makes last keep number opens made closes more came =
      let opening = opens_from folder sites 0 keepers in
      let closing = closes_all keepers in
      record {
        calls = opening ++ (makes ++ (closing ++ last));
        are = record { keepers = keepers; records = records; opened = keep; number = number; makes = makes; last = last; came = came; calls_are = refl };
        led =
            calls_then does old opened new opening (makes ++ (closing ++ last)) opens
            (calls_then does opened copied new makes (closing ++ last) made (calls_then does copied closed new closing last closes more));
      }

  -- the other folder was looked through, and then all was copied, or nothing
  pub listed_copies : (text : List ℕ) (old first second new : F) (outcome : Outcome) (found : List Bool) (exist so_far refused : List CommandRefusal) → length found ≡ length sites → AllZip IsExists (existing sites 0 found) exist
      → Calls does old (looks_from to sites 0 found) first → so_far ≡ exist → Led does first second (LooksForList to so_far refused)
      → Led does second new (CopiesWhere shown stored folder to refused sites text outcome) → Led does old new (CopiesListed shown stored folder to sites text outcome)
  listed_copies text old first second new outcome found exist so_far refused number named looked is last copied =
      let looks = subst (λ whys. Led does first second (LooksForList to whys refused)) is last in
      let looking = looks_from to sites 0 found in
      record {
        calls = looking ++ (looks.calls ++ copied.calls);
        are = record {
          found = found;
          number = number;
          exist = exist;
          named = named;
          refused = refused;
          looks = looks.calls;
          last = looks.are;
          copies = copied.calls;
          copied = copied.are;
          calls_are = refl;
        };
        led =
            calls_then does old first new looking (looks.calls ++ copied.calls) looked
            (calls_then does first second new looks.calls copied.calls looks.led copied.led);
      }

  -- ---- where it fails

  -- behind the list, before anything is made
  pub behind_read : (fault : Fault) (calls : List (FileCall K)) → EndsInVain shown folder fault calls → ListedFails shown stored folder to sites fault calls
  behind_read fault calls vain = inl (λ text lists.
      let read = ReadFile (list_path folder) text in
      vain_behind shown folder fault (read ∷ []) calls (asks_first read [] tt none_asks) vain)

  -- nothing is there of the copy, and opening or making failed
  pub copying_failed : (old first second new : F) (found : List Bool) (exist so_far refused : List CommandRefusal) (fault : Fault) → Calls does old (looks_from to sites 0 found) first → length found ≡ length sites
      → AllZip IsExists (existing sites 0 found) exist → so_far ≡ exist → refused ≡ [] → Led does first second (LooksForList to so_far refused)
      → Led does second new (λ calls. OpensInVain shown folder sites fault calls ⊎ CopiesSome shown stored folder to sites fault calls) → Led does old new (ListedFails shown stored folder to sites fault)
  copying_failed old first second new found exist so_far refused fault looked number named is none look more = by more.are where
    free : (so_far ≡ []) × Calls does first (LookedFor (list_path to) false ∷ []) second
    free = list_free does to so_far refused first second none look

    all : Calls does old (looks_from to sites 0 found ++ LookedFor (list_path to) false ∷ more.calls) new
    all =
        calls_then does old first new (looks_from to sites 0 found) (LookedFor (list_path to) false ∷ more.calls) looked
        (calls_then does first second new (LookedFor (list_path to) false ∷ []) more.calls free.1 more.led)

    by : OpensInVain shown folder sites fault more.calls ⊎ CopiesSome shown stored folder to sites fault more.calls → Led does old new (ListedFails shown stored folder to sites fault)
    by (inl vain) = record {
      calls = looks_from to sites 0 found ++ LookedFor (list_path to) false ∷ more.calls;
      are = inl
          (opens_behind shown folder sites fault (looks_from to sites 0 found) (LookedFor (list_path to) false ∷ more.calls) (looks_ask to sites 0 found)
          (opens_behind shown folder sites fault (LookedFor (list_path to) false ∷ []) more.calls (asks_first (LookedFor (list_path to) false) [] tt none_asks) vain));
      led = all;
    }
    by (inr some) = record {
      calls = looks_from to sites 0 found ++ LookedFor (list_path to) false ∷ more.calls;
      are = inr (found, number, none_exist (existing sites 0 found) exist (sym is ∙ free.0) named, more.calls, some, refl);
      led = all;
    }

  -- so behind the list that was read
  pub copy_failed : (fault : Fault) (old mid new : F) (text : List ℕ) → Lists text sites → does old (ReadFile (list_path folder) text) mid → Led does mid new (ListedFails shown stored folder to sites fault)
      → Led does old new (CopyFails shown stored folder to fault)
  copy_failed fault old mid new text lists read fails =
      record { calls = ReadFile (list_path folder) text ∷ fails.calls; are = by fails.are; led = (mid, read, fails.led) }
    where
      by : ListedFails shown stored folder to sites fault fails.calls → CopyFails shown stored folder to fault (ReadFile (list_path folder) text ∷ fails.calls)
      by (inl vain) = inl (vain text lists)
      by (inr (found, number, none, rest, some, is)) =
          inr
          (record {
            text = text;
            sites = sites;
            lists = lists;
            found = found;
            number = number;
            none = none;
            rest = rest;
            copied = some;
            calls_are = ap (λ cs. ReadFile (list_path folder) text ∷ cs) is;
          })
