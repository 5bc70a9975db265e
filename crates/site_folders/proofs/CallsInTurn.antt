-- Calls one after another, and keepers opened in turn.
use Rattle.std.proofs.Common.{◌≡◌, ◌<◌, ℕ, ◌+◌, zero, suc, List, [], ◌∷◌, All, ◌++◌, length, get_or, Some, refl, sym, ap, ◌∙◌, subst, arith}
use Rattle.std.specs.Prelude.{Option, Result, Ok, Err, IfOk, IfErr, IsErrAnd, IsSome, OnOk}
use Rattle.std.proofs.lemmas.List.Elements.{All-cons, All-nil}
use Rattle.std.proofs.lemmas.Option.{same_Some}
use Rattle.event_json.specs.Sites.{Site}
use Rattle.site_core.specs.Records.{Record, fresh}
use Rattle.site_recovery.specs.FittingAt.{AreAllSites, IsOneOf}
use Rattle.recall_outcomes.specs.declared.faults.Fault.{Fault}
use Rattle.world_core.specs.Keepers.{AllShow}
use Rattle.site_folders.specs.Keepers.{AreShown, KeepFrom, KeepsSite, opens_from, opens_site}
use Rattle.site_folders.specs.Lists.{AfterList, ListsSites}
use Rattle.site_folders.specs.FileCalls.{Began, Blamed, Calls, Failed, FileCall, Led, OpenedSite, ReadFile}
use Rattle.site_folders.specs.Paths.{list_path}

module _ {F K : Type 0} (does : F → FileCall K → F → Type 0) where
  -- calls, and then others
  pub calls_then : (old mid new : F) (xs ys : List (FileCall K)) → Calls does old xs mid → Calls does mid ys new → Calls does old (xs ++ ys) new
  calls_then old mid new [] ys none others = subst (λ m. Calls does m ys new) none others
  calls_then old mid new (x ∷ xs) ys (next, first, rest) others = (next, first, calls_then next mid new xs ys rest others)

  -- calls, and then one more
  pub call_more : (old mid new : F) (xs : List (FileCall K)) (call : FileCall K) → Calls does old xs mid → does mid call new → Calls does old (xs ++ call ∷ []) new
  call_more old mid new xs call all one = calls_then old mid new xs (call ∷ []) all (new, one, refl)

  -- the folder's list was read, and then these calls came
  pub list_then : (old mid new : F) (folder : List ℕ) (sites : List Site) (listed : Led does old mid (ListsSites folder sites)) (calls : List (FileCall K)) → Calls does mid calls new
      → Calls does old (ReadFile (list_path folder) listed.are.text ∷ calls) new
  list_then old mid new folder sites listed calls more =
      calls_then old mid new (ReadFile (list_path folder) listed.are.text ∷ []) calls (subst (λ cs. Calls does old cs mid) listed.are.calls_are listed.led) more

  -- calls of which one thing is said, and then others of which another is
  pub led_then : {A B C : List (FileCall K) → Type 0} (old mid new : F) → ((xs ys : List (FileCall K)) → A xs → B ys → C (xs ++ ys)) → Led does old mid A → Led does mid new B → Led does old new C
  led_then old mid new both first others = record {
    calls = first.calls ++ others.calls;
    are = both first.calls others.calls first.are others.are;
    led = calls_then old mid new first.calls others.calls first.led others.led;
  }

  -- other words for the same calls
  pub led_so : {A B : List (FileCall K) → Type 0} (old new : F) → ((calls : List (FileCall K)) → A calls → B calls) → Led does old new A → Led does old new B
  led_so old new h led = record { calls = led.calls; are = h led.calls led.are; led = led.led }

  -- the folder's list was read, and then this came
  pub behind_list : (folder : List ℕ) (Then : List Site → List (FileCall K) → Type 0) (old mid new : F) (sites : List Site) → Led does old mid (ListsSites folder sites) → Led does mid new (Then sites)
      → Led does old new (AfterList folder Then)
  behind_list folder Then old mid new sites listed more = record {
    calls = ReadFile (list_path folder) listed.are.text ∷ more.calls;
    are = record { text = listed.are.text; sites = sites; lists = listed.are.lists; rest = more.calls; done = more.are; calls_are = refl };
    led = list_then old mid new folder sites listed more.calls more.led;
  }

  -- no call came
  pub began_none : (old : F) (Are : List (FileCall K) → Type 0) → Are [] → Began does old Are
  began_none old Are are = record { mid = old; begun = record { calls = []; are = are; led = refl } }

  -- a call for a path failed
  pub failed_at : (old new : F) (path asked : List ℕ) (fault : Fault) → asked ≡ path → does old (Failed asked fault) new → Calls does old (Failed path fault ∷ []) new
  failed_at old new path asked fault e one = (new, subst (λ p. does old (Failed p fault) new) e one, refl)

  -- the folder's list was read, and then perhaps blamed
  pub list_read : (old new : F) (path asked bytes : List ℕ) → asked ≡ path → does old (ReadFile asked bytes) new → does old (ReadFile path bytes) new
  list_read old new path asked bytes e one = subst (λ p. does old (ReadFile p bytes) new) e one

  pub blamed : (old new : F) (path asked : List ℕ) → asked ≡ path → does old (Blamed asked) new → does old (Blamed path) new
  blamed old new path asked e one = subst (λ p. does old (Blamed p) new) e one

  -- a file was opened
  pub opened_as : (old new : F) (path asked name called : List ℕ) (keeper : K) → asked ≡ path → called ≡ name → does old (OpenedSite asked called keeper) new → does old (OpenedSite path name keeper) new
  opened_as old new path asked name called keeper e f one = subst (λ p. does old (OpenedSite p name keeper) new) e (subst (λ n. does old (OpenedSite asked n keeper) new) f one)

-- the call that opens one file more
pub opens_more : {K : Type 0} (folder : List ℕ) (sites : List Site) (site : ℕ) (keepers : List K) (keeper : K)
    → opens_from folder sites site (keepers ++ keeper ∷ []) ≡ opens_from folder sites site keepers ++ opens_site folder sites (site + length keepers) keeper ∷ []
opens_more folder sites site [] keeper =
    let here : site ≡ site + 0 = omega arith in
    ap (λ (n : ℕ). opens_site folder sites n keeper ∷ []) here
opens_more folder sites site (k ∷ keepers) keeper =
    let later : (site + 1) + length keepers ≡ site + length (k ∷ keepers) = omega arith in
    ap (λ rest. opens_site folder sites site k ∷ rest)
    (opens_more folder sites (site + 1) keepers keeper ∙ ap (λ (n : ℕ). opens_from folder sites (site + 1) keepers ++ opens_site folder sites n keeper ∷ []) later)

module _ {K : Type 0} (shown : K → Option Record) (stored : K → Type 0) (sites : List Site) where
  -- one keeper more
  pub keep_more : (site : ℕ) (keepers : List K) (rs : List Record) (keeper : K) (r : Record) → KeepFrom shown stored sites site keepers rs
      → KeepsSite shown stored sites (site + length keepers) keeper r → KeepFrom shown stored sites site (keepers ++ keeper ∷ []) (rs ++ r ∷ [])
  keep_more site [] [] keeper r all one =
      let here : site + 0 ≡ site = omega arith in
      (subst (λ (n : ℕ). KeepsSite shown stored sites n keeper r) here one, tt)
  keep_more site (k ∷ keepers) (q ∷ rs) keeper r (first, rest) one =
      let later : site + length (k ∷ keepers) ≡ (site + 1) + length keepers = omega arith in
      (first, keep_more (site + 1) keepers rs keeper r rest (subst (λ (n : ℕ). KeepsSite shown stored sites n keeper r) later one))
  keep_more site [] (q ∷ rs) keeper r all one = absurd all
  keep_more site (k ∷ keepers) [] keeper r all one = absurd all

  -- what they keep is shown
  pub kept_shown : (site : ℕ) (keepers : List K) (rs : List Record) → KeepFrom shown stored sites site keepers rs → AreShown shown keepers rs
  kept_shown site [] [] all = tt
  kept_shown site (k ∷ keepers) (r ∷ rs) (first, rest) = (first.shows.shows, kept_shown (site + 1) keepers rs rest)
  kept_shown site [] (r ∷ rs) all = absurd all
  kept_shown site (k ∷ keepers) [] all = absurd all

  -- and a crash leaves it on its file
  pub kept_stored : (site : ℕ) (keepers : List K) (rs : List Record) → KeepFrom shown stored sites site keepers rs → All stored keepers
  kept_stored site [] [] all = All-nil stored
  kept_stored site (k ∷ keepers) (r ∷ rs) (first, rest) = All-cons stored k keepers first.lasts (kept_stored (site + 1) keepers rs rest)
  kept_stored site [] (r ∷ rs) all = absurd all
  kept_stored site (k ∷ keepers) [] all = absurd all

  -- what keepers keep are the records of the sites in their places
  kept_at : (site : ℕ) (keepers : List K) (rs : List Record) (d : Record) (s : ℕ) → KeepFrom shown stored sites site keepers rs → s < length rs → IsOneOf (length sites) (site + s) (get_or rs s d)
  kept_at site (k ∷ keepers) (r ∷ rs) d zero (first, rest) below =
      let here : site ≡ site + 0 = omega arith in
      let me = first.shows.me ∙ here in
      record { place = record { captured = first.sound.one_site ∙ me; engagement = me }; sound = first.sound; all = ap length first.shows.lists }
  kept_at site (k ∷ keepers) (r ∷ rs) d (suc s) (first, rest) below =
      let later : (site + 1) + s ≡ site + suc s = omega arith in
      subst (λ (n : ℕ). IsOneOf (length sites) n (get_or rs s d)) later (kept_at (site + 1) keepers rs d s rest (omega (arith, below)))
  kept_at site [] [] d s all below = absurd (omega (arith, below))
  kept_at site [] (r ∷ rs) d s all below = absurd all
  kept_at site (k ∷ keepers) [] d s all below = absurd all

  as_many : (site : ℕ) (keepers : List K) (rs : List Record) → KeepFrom shown stored sites site keepers rs → length rs ≡ length keepers
  as_many site [] [] all = refl
  as_many site (k ∷ keepers) (r ∷ rs) (first, rest) = ap suc (as_many (site + 1) keepers rs rest)
  as_many site [] (r ∷ rs) all = absurd all
  as_many site (k ∷ keepers) [] all = absurd all

  -- so they are those of all sites
  pub kept_all : (keepers : List K) (rs : List Record) → KeepFrom shown stored sites 0 keepers rs → length keepers ≡ length sites → AreAllSites rs
  kept_all keepers rs all number = λ s below.
      let place : 0 + s ≡ s = omega arith in
      let many : length sites ≡ length rs = sym number ∙ sym (as_many 0 keepers rs all) in
      subst (λ (n : ℕ). IsOneOf n s (get_or rs s (fresh [] s))) many (subst (λ (p : ℕ). IsOneOf (length sites) p (get_or rs s (fresh [] s))) place (kept_at 0 keepers rs (fresh [] s) s all below))

-- one record more is shown
pub shown_more : {K : Type 0} (shown : K → Option Record) (keepers : List K) (rs : List Record) (keeper : K) (r : Record) → AreShown shown keepers rs → shown keeper ≡ Some r → AreShown shown (keepers ++ keeper ∷ []) (rs ++ r ∷ [])
shown_more shown [] [] keeper r all one = (one, tt)
shown_more shown (k ∷ keepers) (q ∷ rs) keeper r (first, rest) one = (first, shown_more shown keepers rs keeper r rest one)
shown_more shown [] (q ∷ rs) keeper r all one = absurd all
shown_more shown (k ∷ keepers) [] keeper r all one = absurd all

-- keepers show one list of records
pub shown_once : {K : Type 0} (shown : K → Option Record) (keepers : List K) (rs qs : List Record) → AreShown shown keepers rs → AreShown shown keepers qs → rs ≡ qs
shown_once shown [] [] [] a b = refl
shown_once shown (k ∷ keepers) (r ∷ rs) (q ∷ qs) (a, more) (b, others) =
    let same : r ≡ q = same_Some r q (sym a ∙ b) in
    ap (λ x. x ∷ rs) same ∙ ap (λ xs. q ∷ xs) (shown_once shown keepers rs qs more others)
shown_once shown [] (r ∷ rs) qs a b = absurd a
shown_once shown [] [] (q ∷ qs) a b = absurd b
shown_once shown (k ∷ keepers) [] qs a b = absurd a
shown_once shown (k ∷ keepers) (r ∷ rs) [] a b = absurd b

-- the same, in the words of a world
pub are_shown : {K : Type 0} (shown : K → Option Record) (keepers : List K) (rs : List Record) → AllShow shown keepers rs → AreShown shown keepers rs
are_shown shown [] [] all = tt
are_shown shown (k ∷ keepers) (r ∷ rs) all = (all.0, are_shown shown keepers rs all.1)
are_shown shown [] (r ∷ rs) all = absurd all
are_shown shown (k ∷ keepers) [] all = absurd all

-- each is open
pub shown_open : {K : Type 0} (shown : K → Option Record) (keepers : List K) (rs : List Record) → AreShown shown keepers rs → All (λ k. IsSome (shown k)) keepers
shown_open shown [] [] all = All-nil (λ k. IsSome (shown k))
shown_open shown (k ∷ keepers) (r ∷ rs) (first, rest) = All-cons (λ k. IsSome (shown k)) k keepers (subst (λ o. IsSome o) (sym first) refl) (shown_open shown keepers rs rest)
shown_open shown [] (r ∷ rs) all = absurd all
shown_open shown (k ∷ keepers) [] all = absurd all

-- what follows of each answer
pub ok_so : {X E : Type 0} {P Q : X → Type 0} (r : Result X E) → ((x : X) → P x → Q x) → IfOk r P → IfOk r Q
ok_so (Ok x) f h = f x h
ok_so (Err e) f h = tt

-- and of each fault
pub err_so : {X E : Type 0} {P Q : E → Type 0} (r : Result X E) → ((e : E) → P e → Q e) → IfErr r P → IfErr r Q
err_so (Ok x) f h = tt
err_so (Err e) f h = f e h

-- and of each, by the answer that it was
pub err_was : {X E : Type 0} {P Q : E → Type 0} (r : Result X E) → ((e : E) → r ≡ Err e → P e → Q e) → IfErr r P → IfErr r Q
err_was (Ok x) f h = tt
err_was (Err e) f h = f e refl h

-- a fault that is handed on
pub handed_on : {X E : Type 0} (r : Result X E) (e : E) (Q : E → Type 0) → IsErrAnd r (λ f. f ≡ e) → Q e → IfErr r Q
handed_on (Ok x) e Q is h = tt
handed_on (Err f) e Q is h = subst Q (sym is) h

-- and of a success
pub on_ok_so : {X E P Q : Type 0} (r : Result X E) → (P → Q) → OnOk r P → OnOk r Q
on_ok_so (Ok x) f h = f h
on_ok_so (Err e) f h = tt
