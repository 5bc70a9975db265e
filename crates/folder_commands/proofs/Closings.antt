-- calls that close no site, and such that close a site which they opened
use Rattle.std.proofs.Common.{◌≡◌, ◌⊎◌, ℕ, zero, suc, ◌+◌, Bool, false, List, [], ◌∷◌, ◌++◌, Contains, length, sym, ap, subst, inl, inr, ⊎_elim, append_assoc, arith, ◌∙◌}
use Rattle.std.specs.Prelude.{⊤, Option}
use Rattle.std.specs.List.{AllByRecursion}
use Rattle.std.proofs.lemmas.List.Elements.{All-contains, Contains-append_cases, Contains-append_left, Contains-append_right}
use Rattle.event_json.specs.Sites.{Site}
use Rattle.recall_outcomes.specs.declared.faults.Fault.{Fault}
use Rattle.recall_outcomes.specs.declared.outcomes.CommandRefusal.{CommandRefusal}
use Rattle.recall_outcomes.specs.declared.outcomes.Outcome.{Outcome}
use Rattle.recall_outcomes.specs.declared.outcomes.Output.{Output}
use Rattle.site_core.specs.Records.{Record}
use Rattle.site_folders.specs.Faults.{IsHarmless}
use Rattle.site_folders.specs.FileCalls.{FileCall, Blamed, ClosedSite, Failed, LookedFor, MadeSite, OpenedSite, ReadFile, ReadLine, WroteFile}
use Rattle.site_folders.specs.Keepers.{closes_all, opens_from}
use Rattle.site_folders.specs.Paths.{list_path}
use Rattle.site_folders.proofs.VainLemmas.{closes_ask}
use Rattle.folder_commands.specs.Copying.{CopiesAt, CopiesFirst, CopiesSome, CopiesThen, CopiesWhere, FailsAtList, StopsAt, makes_copies}
use Rattle.folder_commands.specs.Making.{InitsAt, ListMakesThen, LooksForList, MakesSome, MakesWhere, looks_from, makes_from}

-- ---- calls that close no site

module _ {K : Type 0} where
  pub IsNoClosing : FileCall K → Type 0
  IsNoClosing (ClosedSite keeper) = ⊥
  IsNoClosing (ReadFile path bytes) = ⊤
  IsNoClosing (ReadLine path line) = ⊤
  IsNoClosing (Failed path fault) = ⊤
  IsNoClosing (LookedFor path found) = ⊤
  IsNoClosing (MadeSite path r) = ⊤
  IsNoClosing (OpenedSite path name keeper) = ⊤
  IsNoClosing (WroteFile path bytes) = ⊤
  IsNoClosing (Blamed path) = ⊤

  abbrev pub CloseNone : List (FileCall K) → Type 0
  CloseNone calls = AllByRecursion IsNoClosing calls

  none_both : (xs ys : List (FileCall K)) → CloseNone xs → CloseNone ys → CloseNone (xs ++ ys)
  none_both [] ys h k = k
  none_both (x ∷ xs) ys h k = (h.0, none_both xs ys h.1 k)

  pub none_closed : (calls : List (FileCall K)) (k : K) → CloseNone calls → Contains calls (ClosedSite k) → ⊥
  unfolding IsNoClosing
  none_closed [] k h (place, below, is) = absurd (omega (arith, below))
  none_closed (x ∷ xs) k h (zero, below, is) = subst IsNoClosing is h.0
  none_closed (x ∷ xs) k h (suc place, below, is) = none_closed xs k h.1 (place, omega (arith, below), is)

pub no_calls_close : (K : Type 0) → CloseNone {K = K} []
no_calls_close K = tt

looks_none : (K : Type 0) (folder : List ℕ) (sites : List Site) (site : ℕ) (found : List Bool) → CloseNone {K = K} (looks_from folder sites site found)
unfolding IsNoClosing
looks_none K folder sites site [] = tt
looks_none K folder sites site (f ∷ found) = (tt, looks_none K folder sites (site + 1) found)

makes_none : (K : Type 0) (folder : List ℕ) (sites : List Site) (site count : ℕ) → CloseNone {K = K} (makes_from folder sites site count)
unfolding IsNoClosing
makes_none K folder sites site zero = tt
makes_none K folder sites site (suc count) = (tt, makes_none K folder sites (site + 1) count)

copies_none : (K : Type 0) (to : List ℕ) (records : List Record) → CloseNone {K = K} (makes_copies to records)
unfolding IsNoClosing
copies_none K to [] = tt
copies_none K to (r ∷ records) = (tt, copies_none K to records)

module _ {K : Type 0} where
  opens_none : (folder : List ℕ) (sites : List Site) (site : ℕ) (keepers : List K) → CloseNone (opens_from folder sites site keepers)
  unfolding IsNoClosing
  opens_none folder sites site [] = tt
  opens_none folder sites site (k ∷ keepers) = (tt, opens_none folder sites (site + 1) keepers)

  list_none : (folder : List ℕ) (before refused : List CommandRefusal) (calls : List (FileCall K)) → LooksForList folder before refused calls → CloseNone calls
  unfolding IsNoClosing
  list_none folder [] refused calls (found, are, is) = subst CloseNone (sym is) (tt, tt)
  list_none folder (why ∷ whys) refused calls (are, is) = subst CloseNone (sym is) tt

  where_none : (folder : List ℕ) (refused : List CommandRefusal) (sites : List Site) (text : List ℕ) (outcome : Outcome) (calls : List (FileCall K)) → MakesWhere folder refused sites text outcome calls → CloseNone calls
  unfolding IsNoClosing
  where_none folder [] sites text outcome calls (made, is) = subst CloseNone (sym is) (none_both (makes_from folder sites 0 (length sites)) (WroteFile (list_path folder) text ∷ []) (makes_none K folder sites 0 (length sites)) (tt, tt))
  where_none folder (why ∷ whys) sites text outcome calls (refused, is) = subst CloseNone (sym is) tt

  pub inits_none : (folder list : List ℕ) (output : Output) (calls : List (FileCall K)) → InitsAt folder list output calls → CloseNone calls
  unfolding IsNoClosing
  inits_none folder list output calls at =
      let m = at.made in
      let looked = none_both (looks_from folder at.listed.sites 0 m.found) m.looks (looks_none K folder at.listed.sites 0 m.found) (list_none folder _ m.refused m.looks m.last) in
      let here = none_both (looks_from folder at.listed.sites 0 m.found ++ m.looks) m.makes looked (where_none folder m.refused at.listed.sites at.text output.outcome m.makes m.made) in
      subst CloseNone (sym at.calls_are) (tt, subst CloseNone (sym m.calls_are) here)

  some_none : (folder : List ℕ) (sites : List Site) (fault : Fault) (calls : List (FileCall K)) → MakesSome folder sites fault calls → CloseNone calls
  unfolding IsNoClosing
  some_none folder sites fault calls some =
      subst CloseNone (sym some.calls_are) (none_both (makes_from folder sites 0 some.made) some.rest (makes_none K folder sites 0 some.made)
      (⊎_elim (λ a. subst CloseNone (sym a.1) (tt, tt)) (λ b. ⊎_elim (λ a. subst CloseNone (sym a.1) (tt, tt)) (λ a. subst CloseNone (sym a.1) tt) b) some.came))

  pub then_none : (folder list : List ℕ) (fault : Fault) (calls : List (FileCall K)) → ListMakesThen folder list fault calls → CloseNone calls
  unfolding IsNoClosing
  then_none folder list fault calls at =
      let m = at.made in
      let here = none_both (looks_from folder at.listed.sites 0 m.found) (LookedFor (list_path folder) false ∷ m.rest) (looks_none K folder at.listed.sites 0 m.found) (tt, some_none folder at.listed.sites fault m.rest m.made) in
      subst CloseNone (sym at.calls_are) (tt, subst CloseNone (sym m.calls_are) here)

  stops_none : (to : List ℕ) (records : List Record) (fault : Fault) (calls : List (FileCall K)) → StopsAt to records fault calls → CloseNone calls
  unfolding IsNoClosing
  stops_none to records fault calls (inl (r, more, are, is)) = subst CloseNone (sym is) (tt, tt)
  stops_none to records fault calls (inr (out, is)) = subst CloseNone (sym is) tt

  first_none : (to : List ℕ) (records : List Record) (fault : Fault) (calls : List (FileCall K)) → CopiesFirst to records fault calls → CloseNone calls
  first_none to records fault calls first =
      subst CloseNone (sym first.calls_are) (none_both (makes_copies to first.made) first.rest (copies_none K to first.made) (stops_none to first.left fault first.rest first.stops))

  unlisted_none : (to : List ℕ) (fault : Fault) (calls : List (FileCall K)) → FailsAtList to fault calls → CloseNone calls
  unfolding IsNoClosing
  unlisted_none to fault calls (inl is) = subst CloseNone (sym is) (tt, tt)
  unlisted_none to fault calls (inr (out, is)) = subst CloseNone (sym is) tt

  -- ---- calls that close what they opened

  -- each site that was closed had been opened
  abbrev pub CloseOpened : List (FileCall K) → Type 0
  CloseOpened calls = (keeper : K) → Contains calls (ClosedSite keeper) → (path : List ℕ) × (name : List ℕ) × Contains calls (OpenedSite path name keeper)

  none_opened : (calls : List (FileCall K)) → CloseNone calls → CloseOpened calls
  none_opened calls none k closed = absurd (none_closed calls k none closed)

  -- of such calls only those in one place close a site
  only_there : (opening closing before makes last : List (FileCall K)) (k : K) → CloseNone before → CloseNone opening → CloseNone makes → CloseNone last
      → Contains (before ++ (opening ++ (makes ++ (closing ++ last)))) (ClosedSite k) → Contains closing (ClosedSite k)
  only_there opening closing before makes last k none_before none_opening none_made none_last closed = ⊎_elim
      (λ c. absurd (none_closed before k none_before c))
      (λ c. ⊎_elim (λ d. absurd (none_closed opening k none_opening d))
      (λ d. ⊎_elim (λ e. absurd (none_closed makes k none_made e))
      (λ e. ⊎_elim (λ (f : Contains closing (ClosedSite k)). f) (λ f. absurd (none_closed last k none_last f)) (Contains-append_cases closing last (ClosedSite k) e))
      (Contains-append_cases makes (closing ++ last) (ClosedSite k) d))
      (Contains-append_cases opening (makes ++ (closing ++ last)) (ClosedSite k) c))
      (Contains-append_cases before (opening ++ (makes ++ (closing ++ last))) (ClosedSite k) closed)

  among_all : (opening closing before makes last : List (FileCall K)) (call : FileCall K) → Contains (opening ++ closing) call → Contains (before ++ (opening ++ (makes ++ (closing ++ last)))) call
  among_all opening closing before makes last call there =
      Contains-append_right before (opening ++ (makes ++ (closing ++ last))) call
      (⊎_elim (λ o. Contains-append_left opening (makes ++ (closing ++ last)) call o)
      (λ o. Contains-append_right opening (makes ++ (closing ++ last)) call (Contains-append_right makes (closing ++ last) call (Contains-append_left closing last call o)))
      (Contains-append_cases opening closing call there))

  all_opened : (folder : List ℕ) (sites : List Site) (keepers : List K) (before makes last : List (FileCall K)) → CloseNone before → CloseNone makes → CloseNone last
      → CloseOpened (before ++ (opens_from folder sites 0 keepers ++ (makes ++ (closes_all keepers ++ last))))
  all_opened folder sites keepers before makes last none_before none_made none_last k closed =
      let opening = opens_from folder sites 0 keepers in
      let closing : List (FileCall K) = closes_all keepers in
      let both : List (FileCall K) = opening ++ closing in
      let there = only_there opening closing before makes last k none_before (opens_none folder sites 0 keepers) none_made none_last closed in
      let (path, name, opened) : IsHarmless both (ClosedSite k) =
      All-contains (IsHarmless both) both (ClosedSite k) (closes_ask folder sites 0 keepers) (Contains-append_right opening closing (ClosedSite k) there) in
      (path, name, among_all opening closing before makes last (OpenedSite path name k) opened)

module _ {K : Type 0} (shown : K → Option Record) (stored : K → Type 0) (folder to : List ℕ) where
  where_opened : (refused : List CommandRefusal) (sites : List Site) (text : List ℕ) (outcome : Outcome) (before copies : List (FileCall K)) → CloseNone before → CopiesWhere shown stored folder to refused sites text outcome copies
      → CloseOpened (before ++ copies)
  unfolding IsNoClosing
  where_opened [] sites text outcome before copies none (made, all) =
      subst (λ cs. CloseOpened (before ++ cs)) (sym all.calls_are)
      (all_opened folder sites all.keepers before (makes_copies to all.records) (WroteFile (list_path to) text ∷ []) none (copies_none K to all.records) (tt, tt))
  where_opened (why ∷ whys) sites text outcome before copies none (refused, is) = none_opened (before ++ copies) (none_both before copies none (subst CloseNone (sym is) tt))

  pub copies_opened : (output : Output) (calls : List (FileCall K)) → CopiesAt shown stored folder to output calls → CloseOpened calls
  unfolding IsNoClosing
  copies_opened output calls at =
      let c = at.copied in
      let read = ReadFile (list_path folder) at.text in
      let looking = looks_from to output.sites 0 c.found in
      let looked : CloseNone (read ∷ (looking ++ c.looks)) = (tt, none_both looking c.looks (looks_none K to output.sites 0 c.found) (list_none to c.exist c.refused c.looks c.last)) in
      let is : calls ≡ (read ∷ (looking ++ c.looks)) ++ c.copies = at.calls_are ∙ ap (λ cs. read ∷ cs) (c.calls_are ∙ sym (append_assoc looking c.looks c.copies)) in
      subst CloseOpened (sym is) (where_opened c.refused output.sites at.text output.outcome (read ∷ (looking ++ c.looks)) c.copies looked c.copied)

  some_opened : (sites : List Site) (fault : Fault) (before rest : List (FileCall K)) → CloseNone before → CopiesSome shown stored folder to sites fault rest → CloseOpened (before ++ rest)
  some_opened sites fault before rest none some = subst (λ cs. CloseOpened (before ++ cs)) (sym some.calls_are) (all_opened folder sites some.keepers before some.makes some.last none (made some.came) (left some.came))
    where
      made : (CopiesFirst to some.records fault some.makes × (some.last ≡ [])) ⊎ ((some.makes ≡ makes_copies to some.records) × FailsAtList to fault some.last) → CloseNone some.makes
      made (inl (first, is)) = first_none to some.records fault some.makes first
      made (inr (is, fails)) = subst CloseNone (sym is) (copies_none K to some.records)

      left : (CopiesFirst to some.records fault some.makes × (some.last ≡ [])) ⊎ ((some.makes ≡ makes_copies to some.records) × FailsAtList to fault some.last) → CloseNone some.last
      left (inl (first, is)) = subst CloseNone (sym is) (no_calls_close K)
      left (inr (is, fails)) = unlisted_none to fault some.last fails

  pub some_copies_opened : (fault : Fault) (calls : List (FileCall K)) → CopiesThen shown stored folder to fault calls → CloseOpened calls
  unfolding IsNoClosing
  some_copies_opened fault calls at =
      let read = ReadFile (list_path folder) at.text in
      let look = LookedFor (list_path to) false in
      let looking = looks_from to at.sites 0 at.found in
      let looked : CloseNone (read ∷ (looking ++ look ∷ [])) = (tt, none_both looking (look ∷ []) (looks_none K to at.sites 0 at.found) (tt, tt)) in
      let is : calls ≡ (read ∷ (looking ++ look ∷ [])) ++ at.rest = at.calls_are ∙ ap (λ cs. read ∷ cs) (sym (append_assoc looking (look ∷ []) at.rest)) in
      subst CloseOpened (sym is) (some_opened at.sites fault (read ∷ (looking ++ look ∷ [])) at.rest looked at.copied)
