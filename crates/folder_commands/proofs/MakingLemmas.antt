-- the files that `init` looks for and makes, in turn
use Rattle.std.proofs.Common.{◌≡◌, ◌⊎◌, ℕ, ◌+◌, ◌<◌, ◌≤◌, zero, suc, Bool, true, false, List, [], ◌∷◌, ◌++◌, codes, inl, inr, length, refl, sym, ap, ◌∙◌, subst, arith, append_assoc, append-nil}
use Rattle.std.specs.List.{AllZip}
use Rattle.event_json.specs.Sites.{Site}
use Rattle.recall_text.specs.SiteLists.{IsSiteList}
use Rattle.recall_text.specs.Words.{name_at}
use Rattle.recall_outcomes.specs.declared.outcomes.CommandRefusal.{CommandRefusal}
use Rattle.recall_outcomes.specs.declared.outcomes.Outcome.{Outcome}
use Rattle.recall_outcomes.specs.declared.outcomes.Outcome.TheVariants.{Created}
use Rattle.site_core.specs.Records.{fresh}
use Rattle.site_folders.specs.Paths.{file_path, list_path}
use Rattle.site_folders.specs.FileCalls.{Calls, Failed, FileCall, Led, LookedFor, MadeSite, ReadFile}
use Rattle.folder_commands.specs.Making.{InitFails, LooksForList, MakesListed, MakesSome, MakesThen, MakesWhere, existing, looks_from, makes_all, makes_from, name_where, refused_lines, too_few}
use Rattle.site_folders.specs.Refusals.{AreRefused, IsExists}
use Rattle.recall_text.specs.declared.site_lists.SiteList.{SiteList}
use Rattle.recall_outcomes.specs.declared.faults.Fault.{Fault}
use Rattle.recall_outcomes.specs.declared.faults.Fault.TheVariants.{NoMemory}
use Rattle.site_core.specs.Records.{Record}
use Rattle.site_folders.specs.Faults.{EndsInVain, OnlyAsks}
use Rattle.site_folders.proofs.VainLemmas.{asks_first, none_asks, ran_out, vain_behind}
use Rattle.std.specs.Prelude.{Option}
use Rattle.site_folders.proofs.CallsInTurn.{calls_then}

-- one site more has a file, or not
pub existing_more : (sites : List Site) (site : ℕ) (found : List Bool) (one : Bool)
    → existing sites site (found ++ one ∷ []) ≡ existing sites site found ++ name_where one (name_at sites (site + length found))
existing_more sites site [] one =
    let here : site + 0 ≡ site = omega arith in
    append-nil (name_where one (name_at sites site)) ∙ ap (λ (n : ℕ). name_where one (name_at sites n)) (sym here)
existing_more sites site (f ∷ found) one =
    let later : (site + 1) + length found ≡ site + length (f ∷ found) = omega arith in
    ap (λ rest. name_where f (name_at sites site) ++ rest) (existing_more sites (site + 1) found one ∙ ap (λ (n : ℕ). existing sites (site + 1) found ++ name_where one (name_at sites n)) later)
    ∙ sym (append_assoc (name_where f (name_at sites site)) (existing sites (site + 1) found) (name_where one (name_at sites (site + length (f ∷ found)))))

-- two lists, and then two others
pub zip_both : {A B : Type 0} (R : A → B → Type 0) (xs more : List A) (ys others : List B) → AllZip R xs ys → AllZip R more others → AllZip R (xs ++ more) (ys ++ others)
zip_both R [] more [] others a b = b
zip_both R (x ∷ xs) more (y ∷ ys) others a b = (a.0, zip_both R xs more ys others a.1 b)
zip_both R [] more (y ∷ ys) others a b = absurd a
zip_both R (x ∷ xs) more [] others a b = absurd a

-- one file more is looked for
pub looks_more : {K : Type 0} (folder : List ℕ) (sites : List Site) (site : ℕ) (found : List Bool) (one : Bool)
    → looks_from {K = K} folder sites site (found ++ one ∷ []) ≡ looks_from folder sites site found ++ LookedFor (file_path folder (name_at sites (site + length found))) one ∷ []
looks_more folder sites site [] one =
    let here : site ≡ site + 0 = omega arith in
    ap (λ (n : ℕ). LookedFor (file_path folder (name_at sites n)) one ∷ []) here
looks_more folder sites site (f ∷ found) one =
    let later : (site + 1) + length found ≡ site + length (f ∷ found) = omega arith in
    ap (λ rest. LookedFor (file_path folder (name_at sites site)) f ∷ rest)
    (looks_more folder sites (site + 1) found one
    ∙ ap (λ (n : ℕ). looks_from folder sites (site + 1) found ++ LookedFor (file_path folder (name_at sites n)) one ∷ []) later)

-- one file more is made
pub makes_more : {K : Type 0} (folder : List ℕ) (sites : List Site) (site count : ℕ)
    → makes_from {K = K} folder sites site (suc count) ≡ makes_from folder sites site count ++ MadeSite (file_path folder (name_at sites (site + count))) (fresh sites (site + count)) ∷ []
makes_more folder sites site zero =
    let here : site ≡ site + 0 = omega arith in
    ap (λ (n : ℕ). MadeSite (file_path folder (name_at sites n)) (fresh sites n) ∷ []) here
makes_more folder sites site (suc count) =
    let later : (site + 1) + count ≡ site + suc count = omega arith in
    ap (λ rest. MadeSite (file_path folder (name_at sites site)) (fresh sites site) ∷ rest)
    (makes_more folder sites (site + 1) count
    ∙ ap (λ (n : ℕ). makes_from folder sites (site + 1) count ++ MadeSite (file_path folder (name_at sites n)) (fresh sites n) ∷ []) later)

-- what is refused is the outcome, and nothing is made
pub refuses : (K : Type 0) (folder : List ℕ) (refused : List CommandRefusal) (sites : List Site) (text : List ℕ) (outcome : Outcome) → 0 < length refused → AreRefused refused outcome
    → MakesWhere {K = K} folder refused sites text outcome []
refuses K folder [] sites text outcome some told = absurd (omega arith)
refuses K folder (why ∷ whys) sites text outcome some told = (told, refl)

-- nothing is refused, and all is made
pub all_made : (K : Type 0) (folder : List ℕ) (refused : List CommandRefusal) (sites : List Site) (text : List ℕ) (outcome : Outcome) → length refused ≡ 0 → outcome ≡ Created
    → MakesWhere {K = K} folder refused sites text outcome (makes_all folder sites text)
all_made K folder [] sites text outcome none told = (told, refl)
all_made K folder (why ∷ whys) sites text outcome none told = absurd (omega arith)

-- the sites' files were looked for, then the list, and then all was made, or nothing
pub listed_calls : {F K : Type 0} (does : F → FileCall K → F → Type 0) (folder : List ℕ) (listed : SiteList) (text : List ℕ) (old first second new : F) (outcome : Outcome) (found : List Bool) (exist so_far refused : List CommandRefusal)
    (makes : List (FileCall K)) → length found ≡ length listed.sites → AllZip IsExists (existing listed.sites 0 found) exist → Calls does old (looks_from folder listed.sites 0 found) first
    → so_far ≡ (refused_lines listed ++ too_few listed.sites) ++ exist → Led does first second (LooksForList folder so_far refused)
    → MakesWhere folder refused listed.sites text outcome makes → Calls does second makes new → Led does old new (MakesListed folder listed text outcome)
listed_calls does folder listed text old first second new outcome found exist so_far refused makes number named looked is last made led =
    let looks = subst (λ whys. Led does first second (LooksForList folder whys refused)) is last in
    record {
      calls = looks_from folder listed.sites 0 found ++ looks.calls ++ makes;
      are = record {
        found = found;
        number = number;
        exist = exist;
        named = named;
        refused = refused;
        looks = looks.calls;
        last = looks.are;
        makes = makes;
        made = made;
        calls_are = refl;
      };
      led =
          calls_then does old second new (looks_from folder listed.sites 0 found ++ looks.calls) makes
          (calls_then does old first second (looks_from folder listed.sites 0 found) looks.calls looked looks.led) led;
    }

-- ---- where it fails

-- nothing is refused by lines, numbers or files
nil_parts : {A : Type 0} (xs ys : List A) → xs ++ ys ≡ [] → (xs ≡ []) × (ys ≡ [])
nil_parts [] ys is = (refl, is)
nil_parts (x ∷ xs) ys is = absurd (let none : ⊥ = cc in none)

pub none_exist : (names : List (List ℕ)) (refused : List CommandRefusal) → refused ≡ [] → AllZip IsExists names refused → names ≡ []
none_exist [] refused none all = refl
none_exist (name ∷ names) refused none all = absurd (subst (λ rs. AllZip IsExists (name ∷ names) rs) none all)

-- looks change nothing
pub looks_ask : {K : Type 0} (folder : List ℕ) (sites : List Site) (site : ℕ) (found : List Bool) → OnlyAsks {K = K} (looks_from folder sites site found)
looks_ask folder sites site [] = none_asks
looks_ask folder sites site (f ∷ found) = asks_first (LookedFor (file_path folder (name_at sites site)) f) (looks_from folder sites (site + 1) found) tt (looks_ask folder sites (site + 1) found)

module _ {F K : Type 0} (does : F → FileCall K → F → Type 0) (folder : List ℕ) where
  -- a fault behind calls that change nothing, or memory ran out behind them
  pub vain_then : (shown : K → Option Record) (fault : Fault) (old mid new : F) (calls : List (FileCall K)) → OnlyAsks calls → Calls does old calls mid → Led does mid new (EndsInVain shown folder fault)
      → Led does old new (EndsInVain shown folder fault)
  vain_then shown fault old mid new calls asks led vain = record { calls = calls ++ vain.calls; are = vain_behind shown folder fault calls vain.calls asks vain.are; led = calls_then does old mid new calls vain.calls led vain.led }

  pub out_then : (shown : K → Option Record) (old new : F) (calls : List (FileCall K)) → OnlyAsks calls → Calls does old calls new → Led does old new (EndsInVain shown folder NoMemory)
  out_then shown old new calls asks led = record { calls = calls; are = ran_out shown folder NoMemory calls refl asks; led = led }

  -- the folder's list was looked for and not found, where nothing is refused then
  pub list_free : (before refused : List CommandRefusal) (old new : F) → refused ≡ [] → Led does old new (LooksForList folder before refused)
      → (before ≡ []) × Calls does old (LookedFor (list_path folder) false ∷ []) new
  list_free [] refused old new none led = (refl, by_found led.are.0 led.are.1 led.are.2) where
    by_found : (found : Bool) → AllZip IsExists (name_where found (codes "sites")) refused → led.calls ≡ LookedFor (list_path folder) found ∷ []
        → Calls does old (LookedFor (list_path folder) false ∷ []) new
    by_found false named is = subst (λ cs. Calls does old cs new) is led.led
    by_found true named is = absurd (subst (λ rs. AllZip IsExists (codes "sites" ∷ []) rs) none named)
  list_free (why ∷ whys) refused old new none led = let bad = sym led.are.0 ∙ none in absurd (let no : ⊥ = cc in no)

  -- some were made, and then this
  pub made_then : (sites : List Site) (old mid new : F) (made : ℕ) (fault : Fault) (rest : List (FileCall K)) → Calls does old (makes_from folder sites 0 made) mid → made ≤ length sites
      → ((made < length sites) × (rest ≡ Failed (file_path folder (name_at sites made)) fault ∷ [])) ⊎ (((made ≡ length sites) × (rest ≡ Failed (list_path folder) fault ∷ [])) ⊎ ((fault ≡ NoMemory) × (rest ≡ [])))
      → Calls does mid rest new → Led does old new (MakesSome folder sites fault)
  made_then sites old mid new made fault rest led few came more = record {
    calls = makes_from folder sites 0 made ++ rest;
    are = record { made = made; few = few; rest = rest; came = came; calls_are = refl };
    led = calls_then does old mid new (makes_from folder sites 0 made) rest led more;
  }

  -- nothing is refused, and what is made failed
  pub making_failed : (listed : SiteList) (old first second new : F) (found : List Bool) (exist before refused : List CommandRefusal) (fault : Fault) → Calls does old (looks_from folder listed.sites 0 found) first → length found ≡ length listed.sites
      → AllZip IsExists (existing listed.sites 0 found) exist → before ≡ (refused_lines listed ++ too_few listed.sites) ++ exist → refused ≡ [] → Led does first second (LooksForList folder before refused)
      → Led does second new (MakesSome folder listed.sites fault) → Led does old new (MakesThen folder listed fault)
  making_failed listed old first second new found exist before refused fault led number named is none look more =
      let free = list_free before refused first second none look in
      let parts = nil_parts (refused_lines listed ++ too_few listed.sites) exist (sym is ∙ free.0) in
      let both = nil_parts (refused_lines listed) (too_few listed.sites) parts.0 in
      record {
        calls = looks_from folder listed.sites 0 found ++ LookedFor (list_path folder) false ∷ more.calls;
        are = record {
          lines = both.0;
          enough = both.1;
          found = found;
          number = number;
          none = none_exist (existing listed.sites 0 found) exist parts.1 named;
          rest = more.calls;
          made = more.are;
          calls_are = refl;
        };
        led =
            calls_then does old first new (looks_from folder listed.sites 0 found) (LookedFor (list_path folder) false ∷ more.calls) led
            (calls_then does first second new (LookedFor (list_path folder) false ∷ []) more.calls free.1 more.led);
      }

  -- so behind the list
  pub init_failed : (shown : K → Option Record) (list : List ℕ) (fault : Fault) (old mid new : F) (text : List ℕ) (listed : SiteList) → IsSiteList text listed → does old (ReadFile list text) mid
      → Led does mid new (λ calls. EndsInVain shown folder fault calls ⊎ MakesThen folder listed fault calls) → Led does old new (InitFails folder shown list fault)
  init_failed shown list fault old mid new text listed is read fails =
      record { calls = ReadFile list text ∷ fails.calls; are = by fails.are; led = (mid, read, fails.led) }
    where
      by : EndsInVain shown folder fault fails.calls ⊎ MakesThen folder listed fault fails.calls → InitFails folder shown list fault (ReadFile list text ∷ fails.calls)
      by (inl vain) = inl (vain_behind shown folder fault (ReadFile list text ∷ []) fails.calls (asks_first (ReadFile list text) [] tt none_asks) vain)
      by (inr made) = inr (record { text = text; listed = listed; is_list = is; rest = fails.calls; made = made; calls_are = refl })
