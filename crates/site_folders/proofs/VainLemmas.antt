-- Calls that change no site, and faults behind them.
use Rattle.std.proofs.Common.{◌≡◌, ◌+◌, ℕ, List, [], ◌∷◌, ◌++◌, All, Contains, ◌⊎◌, inl, inr, refl, sym, subst, arith}
use Rattle.std.specs.Prelude.{Option}
use Rattle.std.proofs.lemmas.List.Elements.{All-append, All-cons, All-nil, All-tail, All-weaker, Contains-append_cases, Contains-append_left, Contains-append_right}
use Rattle.event_json.specs.Sites.{Site}
use Rattle.recall_outcomes.specs.declared.faults.Fault.{Fault}
use Rattle.recall_outcomes.specs.declared.faults.Fault.TheVariants.{BadSites, NoMemory, OtherSites}
use Rattle.site_core.specs.Records.{Record}
use Rattle.site_folders.specs.Faults.{EndsInVain, IsCause, IsHarmless, OnlyAsks, OpensInVain}
use Rattle.site_folders.specs.FileCalls.{FileCall, Blamed, ClosedSite, Failed, LookedFor, MadeSite, OpenedSite, ReadFile, ReadLine, WroteFile}
use Rattle.site_folders.specs.Keepers.{ShowsSite, closes_all, opens_from, opens_site}
use Rattle.site_folders.specs.Lists.{IsBadList, ListsSites}
use Rattle.site_folders.specs.Paths.{list_path}

module _ {K : Type 0} where
  -- each call of some calls is one of others
  abbrev pub Among : List (FileCall K) → List (FileCall K) → Type 0
  Among xs ys = (call : FileCall K) → Contains xs call → Contains ys call

  -- ---- calls that change no site

  still_harmless : (xs ys : List (FileCall K)) (call : FileCall K) → Among xs ys → IsHarmless xs call → IsHarmless ys call
  still_harmless xs ys (ReadFile path bytes) more h = tt
  still_harmless xs ys (ReadLine path line) more h = tt
  still_harmless xs ys (LookedFor path found) more h = tt
  still_harmless xs ys (OpenedSite path name keeper) more h = tt
  still_harmless xs ys (ClosedSite keeper) more (path, name, opened) = (path, name, more (OpenedSite path name keeper) opened)
  still_harmless xs ys (Failed path fault) more h = tt
  still_harmless xs ys (Blamed path) more h = tt
  still_harmless xs ys (MadeSite path r) more h = absurd h
  still_harmless xs ys (WroteFile path bytes) more h = absurd h

  -- those among more calls
  pub asks_among : (xs ys : List (FileCall K)) → Among xs ys → OnlyAsks xs → All (IsHarmless ys) xs
  asks_among xs ys more asks = All-weaker (IsHarmless xs) (IsHarmless ys) (λ call h. still_harmless xs ys call more h) xs asks

  -- those behind others
  pub asks_then : (xs ys : List (FileCall K)) → OnlyAsks xs → OnlyAsks ys → OnlyAsks (xs ++ ys)
  asks_then xs ys first others =
      All-append (IsHarmless (xs ++ ys)) xs ys (asks_among xs (xs ++ ys) (λ call. Contains-append_left xs ys call) first)
      (asks_among ys (xs ++ ys) (λ call. Contains-append_right xs ys call) others)

  -- the first call
  pub is_first : (call : FileCall K) (rest : List (FileCall K)) → Contains (call ∷ rest) call
  is_first call rest = (0, omega arith, refl)

  -- no call, and one before others
  pub none_asks : OnlyAsks {K = K} []
  none_asks = All-nil (IsHarmless [])

  pub asks_first : (call : FileCall K) (rest : List (FileCall K)) → IsHarmless (call ∷ []) call → OnlyAsks rest → OnlyAsks (call ∷ rest)
  asks_first call rest h asks = asks_then (call ∷ []) rest (All-cons (IsHarmless (call ∷ [])) call [] h (All-nil (IsHarmless (call ∷ [])))) asks

  later : (call : FileCall K) (xs ys : List (FileCall K)) → Among (call ∷ xs) ys → Among xs ys
  later call xs ys more = λ c there. more c (Contains-append_right (call ∷ []) xs c there)

  -- opening sites
  opens_among : (folder : List ℕ) (sites : List Site) (site : ℕ) (keepers : List K) (calls : List (FileCall K)) → All (IsHarmless calls) (opens_from folder sites site keepers)
  opens_among folder sites site [] calls = All-nil (IsHarmless calls)
  opens_among folder sites site (k ∷ keepers) calls =
      All-cons (IsHarmless calls) (opens_site folder sites site k) (opens_from folder sites (site + 1) keepers) tt (opens_among folder sites (site + 1) keepers calls)

  pub opens_ask : (folder : List ℕ) (sites : List Site) (site : ℕ) (keepers : List K) → OnlyAsks (opens_from folder sites site keepers)
  opens_ask folder sites site keepers = opens_among folder sites site keepers (opens_from folder sites site keepers)

  -- and closing those that were opened
  closes_among : (folder : List ℕ) (sites : List Site) (site : ℕ) (keepers : List K) (calls : List (FileCall K)) → Among (opens_from folder sites site keepers) calls
      → All (IsHarmless calls) (closes_all keepers)
  closes_among folder sites site [] calls more = All-nil (IsHarmless calls)
  closes_among folder sites site (k ∷ keepers) calls more =
      let first = opens_site folder sites site k in
      let rest = opens_from folder sites (site + 1) keepers in
      All-cons (IsHarmless calls) (ClosedSite k) (closes_all keepers) (_, _, more first (is_first first rest))
      (closes_among folder sites (site + 1) keepers calls (later first rest calls more))

  pub closes_ask : (folder : List ℕ) (sites : List Site) (site : ℕ) (keepers : List K) → OnlyAsks (opens_from folder sites site keepers ++ closes_all keepers)
  closes_ask folder sites site keepers =
      let opens = opens_from folder sites site keepers in
      let all = opens ++ closes_all keepers in
      All-append (IsHarmless all) opens (closes_all keepers) (opens_among folder sites site keepers all)
      (closes_among folder sites site keepers all (λ call. Contains-append_left opens (closes_all keepers) call))

  -- reading the folder's list
  pub lists_ask : (folder : List ℕ) (sites : List Site) (calls : List (FileCall K)) → ListsSites folder sites calls → OnlyAsks calls
  lists_ask folder sites calls listed =
      let read = ReadFile (list_path folder) listed.text in
      subst (λ cs. OnlyAsks cs) (sym listed.calls_are) (asks_first read [] tt none_asks)

module _ {K : Type 0} (shown : K → Option Record) (folder : List ℕ) where
  -- ---- faults

  still_cause : (fault : Fault) (xs ys : List (FileCall K)) → Among xs ys → IsCause shown folder fault xs → IsCause shown folder fault ys
  still_cause fault xs ys more (inl (path, failed)) = inl (path, more (Failed path fault) failed)
  still_cause fault xs ys more (inr (inl (is, bad))) = inr (inl (is, record { text = bad.text; bad = bad.bad; read = more (ReadFile (list_path folder) bad.text) bad.read }))
  still_cause fault xs ys more (inr (inr (inl (is, o)))) =
      inr
      (inr
      (inl (
        is,
        record {
          text = o.text;
          sites = o.sites;
          lists = o.lists;
          read = more (ReadFile (list_path folder) o.text) o.read;
          site = o.site;
          keeper = o.keeper;
          other = o.other;
          opened = more (opens_site folder o.sites o.site o.keeper) o.opened;
        },
      )))
  still_cause fault xs ys more (inr (inr (inr out))) = inr (inr (inr out))

  -- behind calls that change no site
  pub vain_behind : (fault : Fault) (xs ys : List (FileCall K)) → OnlyAsks xs → EndsInVain shown folder fault ys → EndsInVain shown folder fault (xs ++ ys)
  vain_behind fault xs ys asks vain = record {
    cause = still_cause fault ys (xs ++ ys) (λ call. Contains-append_right xs ys call) vain.cause;
    harmless = asks_then xs ys asks vain.harmless;
  }

  -- memory ran out behind them
  pub ran_out : (fault : Fault) (calls : List (FileCall K)) → fault ≡ NoMemory → OnlyAsks calls → EndsInVain shown folder fault calls
  ran_out fault calls is asks = record { cause = inr (inr (inr is)); harmless = asks }

  -- a call failed
  pub call_failed : (path : List ℕ) (fault : Fault) → EndsInVain shown folder fault (Failed path fault ∷ [])
  call_failed path fault = record { cause = inl (path, is_first (Failed path fault) []); harmless = asks_first (Failed path fault) [] tt none_asks }

  -- the folder's list is a bad one
  pub list_bad : (text path : List ℕ) → IsBadList text → EndsInVain shown folder BadSites (ReadFile (list_path folder) text ∷ Blamed path ∷ [])
  list_bad text path bad =
      let read = ReadFile (list_path folder) text in
      let rest = Blamed path ∷ [] in
      record {
        cause = inr (inl (refl, record { text = text; bad = bad; read = is_first read rest }));
        harmless = asks_first read rest tt (asks_first (Blamed path) [] tt none_asks);
      }

  module _ (sites : List Site) where
    -- the same behind the folder's list, of which this is the first call
    pub opens_behind : (fault : Fault) (xs ys : List (FileCall K)) → OnlyAsks xs → OpensInVain shown folder sites fault ys → OpensInVain shown folder sites fault (xs ++ ys)
    opens_behind fault xs ys asks vain = λ text lists.
        let read = ReadFile (list_path folder) text in
        let all = read ∷ (xs ++ ys) in
        let there = vain text lists in
        let inside = among_all read xs ys in
        record {
          cause = still_cause fault (read ∷ ys) all inside there.cause;
          harmless =
              All-cons (IsHarmless all) read (xs ++ ys) tt
              (All-append (IsHarmless all) xs ys
              (asks_among xs all (λ call at. Contains-append_right (read ∷ []) (xs ++ ys) call (Contains-append_left xs ys call at)) asks)
              (All-tail (IsHarmless all) read ys (asks_among (read ∷ ys) all inside there.harmless)));
        }
      where
        of_two : (read : FileCall K) (xs ys : List (FileCall K)) (call : FileCall K) → Contains (read ∷ []) call ⊎ Contains ys call → Contains (read ∷ (xs ++ ys)) call
        of_two read xs ys call (inl first) = Contains-append_left (read ∷ []) (xs ++ ys) call first
        of_two read xs ys call (inr rest) = Contains-append_right (read ∷ []) (xs ++ ys) call (Contains-append_right xs ys call rest)

        among_all : (read : FileCall K) (xs ys : List (FileCall K)) → Among (read ∷ ys) (read ∷ (xs ++ ys))
        among_all read xs ys = λ call there. of_two read xs ys call (Contains-append_cases (read ∷ []) ys call there)

    pub opens_out : (fault : Fault) (calls : List (FileCall K)) → fault ≡ NoMemory → OnlyAsks calls → OpensInVain shown folder sites fault calls
    opens_out fault calls is asks = λ text lists.
        let read = ReadFile (list_path folder) text in
        ran_out fault (read ∷ calls) is (asks_first read calls tt asks)

    pub opens_failed : (path : List ℕ) (fault : Fault) → OpensInVain shown folder sites fault (Failed path fault ∷ [])
    opens_failed path fault = λ text lists.
        let read = ReadFile (list_path folder) text in
        vain_behind fault (read ∷ []) (Failed path fault ∷ []) (asks_first read [] tt none_asks) (call_failed path fault)

    pub opens_other : (site : ℕ) (keeper : K) (path : List ℕ) → ((r : Record) → ShowsSite shown sites site keeper r → ⊥)
        → OpensInVain shown folder sites OtherSites (opens_site folder sites site keeper ∷ Blamed path ∷ [])
    opens_other site keeper path other = λ text lists.
        let read = ReadFile (list_path folder) text in
        let opens = opens_site folder sites site keeper in
        let rest = opens ∷ Blamed path ∷ [] in
        record {
          cause =
              inr
              (inr
              (inl (
                refl,
                record {
                  text = text;
                  sites = sites;
                  lists = lists;
                  read = is_first read rest;
                  site = site;
                  keeper = keeper;
                  other = other;
                  opened = Contains-append_right (read ∷ []) rest opens (is_first opens (Blamed path ∷ []));
                },
              )));
          harmless = asks_first read rest tt (asks_first opens (Blamed path ∷ []) tt (asks_first (Blamed path) [] tt none_asks));
        }

    -- a file that is to be opened behind the folder's list
    pub vain_listed : (fault : Fault) (xs ys : List (FileCall K)) → ListsSites folder sites xs → OpensInVain shown folder sites fault ys → EndsInVain shown folder fault (xs ++ ys)
    vain_listed fault xs ys listed vain = subst (λ cs. EndsInVain shown folder fault (cs ++ ys)) (sym listed.calls_are) (vain listed.text listed.lists)
