-- lints, document by document
use Rattle.std.proofs.Common.{◌≡◌, ◌⊎◌, ◌<◌, ℕ, List, [], ◌∷◌, ◌++◌, Contains, Option, inl, inr, length, refl, sym, ap, ◌∙◌, subst, arith, append_assoc, append-nil}
use Rattle.std.proofs.lemmas.List.Elements.{Contains-append_right}
use Rattle.document_lint.specs.declared.findings.Lint.{Lint}
use Rattle.event_json.specs.Sites.{Site}
use Rattle.recall_outcomes.specs.declared.faults.Fault.{Fault}
use Rattle.recall_outcomes.specs.declared.faults.Fault.TheVariants.{NoMemory, Write}
use Rattle.recall_outcomes.specs.declared.outcomes.CommandRefusal.{CommandRefusal}
use Rattle.recall_text.specs.declared.site_lists.SiteList.{SiteList}
use Rattle.site_folders.specs.Faults.{OnlyAsks}
use Rattle.site_folders.specs.FileCalls.{FileCall, Failed, Led, ReadFile}
use Rattle.site_folders.proofs.CallsInTurn.{led_then}
use Rattle.site_folders.proofs.VainLemmas.{asks_first, asks_then, is_first, none_asks}
use Rattle.folder_commands.specs.Lints.{IsRefusedFor, LintFails, LintsAll, LintsEach, LintsOne, LintsWhere, Looking}
use Rattle.folder_commands.specs.declared.lints.LintCame.{LintCame}

module _ {S K : Type 0} (takes : S → List ℕ → Lint → S → Type 0) (sites : List Site) (here : Option ℕ) where
  -- one document more
  pub each_more : (paths : List (List ℕ)) (path : List ℕ) (a b c : Looking S) (calls more : List (FileCall K)) → LintsEach takes sites here paths a b calls → LintsOne takes sites here path b c more
      → LintsEach takes sites here (paths ++ path ∷ []) a c (calls ++ more)
  each_more [] path a b c calls more (same, none) one =
      (c, more, [], subst (λ (s : Looking S). LintsOne takes sites here path s c more) same one, (refl, refl), ap (λ cs. cs ++ more) none ∙ sym (append-nil more))
  each_more (p ∷ paths) path a b c calls more (mid, first, rest, head, tail, is) one =
      (mid, first, rest ++ more, head, each_more paths path mid b c rest more tail one, ap (λ cs. cs ++ more) is ∙ append_assoc first rest more)

  -- each was read, and no more
  pub each_asks : (paths : List (List ℕ)) (a b : Looking S) (calls : List (FileCall K)) → LintsEach takes sites here paths a b calls → OnlyAsks calls
  each_asks [] a b calls (same, none) = subst (λ cs. OnlyAsks cs) (sym none) none_asks
  each_asks (path ∷ paths) a b calls (mid, first, rest, head, tail, is) =
      subst (λ cs. OnlyAsks cs) (sym is)
      (asks_then first rest (subst (λ cs. OnlyAsks cs) (sym head.calls_are) (asks_first (ReadFile path head.bytes) [] tt none_asks)) (each_asks paths mid b rest tail))

-- ---- faults

module _ {F K : Type 0} (does : F → FileCall K → F → Type 0) (fault : Fault) where
  -- a file can't be read
  pub lint_unread : (path : List ℕ) (old new : F) → does old (Failed path fault) new → Led does old new (LintFails fault)
  lint_unread path old new failed = record {
    calls = Failed path fault ∷ [];
    are = record { cause = inl (path, is_first (Failed path fault) []); harmless = asks_first (Failed path fault) [] tt none_asks };
    led = (new, failed, refl);
  }

  -- it was read, and then telling failed or memory ran out
  pub lint_broke : (path bytes : List ℕ) (old new : F) → does old (ReadFile path bytes) new → (fault ≡ Write) ⊎ (fault ≡ NoMemory) → Led does old new (LintFails fault)
  lint_broke path bytes old new read cause =
      record { calls = ReadFile path bytes ∷ []; are = record { cause = inr cause; harmless = asks_first (ReadFile path bytes) [] tt none_asks }; led = (new, read, refl) }

  -- behind others
  pub lint_behind : {Are : List (FileCall K) → Type 0} (old mid new : F) → ((calls : List (FileCall K)) → Are calls → OnlyAsks calls) → Led does old mid Are → Led does mid new (LintFails fault)
      → Led does old new (LintFails fault)
  lint_behind {Are} old mid new asks first fails = led_then does old mid new both first fails where
    later : (xs ys : List (FileCall K)) → ((path : List ℕ) × Contains ys (Failed path fault)) ⊎ ((fault ≡ Write) ⊎ (fault ≡ NoMemory))
        → ((path : List ℕ) × Contains (xs ++ ys) (Failed path fault)) ⊎ ((fault ≡ Write) ⊎ (fault ≡ NoMemory))
    later xs ys (inl (path, failed)) = inl (path, Contains-append_right xs ys (Failed path fault) failed)
    later xs ys (inr other) = inr other

    both : (xs ys : List (FileCall K)) → Are xs → LintFails fault ys → LintFails fault (xs ++ ys)
    both xs ys are is = record { cause = later xs ys is.cause; harmless = asks_then xs ys (asks xs are) is.harmless }

-- ---- the list

module _ {S K : Type 0} (takes : S → List ℕ → Lint → S → Type 0) (paths : List (List ℕ)) (listed : SiteList) (here : Option ℕ) (heard hears : S) (came : LintCame) (calls : List (FileCall K)) where
  -- that isn't refused
  pub lints_listed : (whys : List CommandRefusal) → whys ≡ [] → LintsAll takes listed.sites here paths heard hears came calls → LintsWhere takes listed here whys paths heard hears came calls
  lints_listed whys none all = subst (λ ws. LintsWhere takes listed here ws paths heard hears came calls) (sym none) all

  -- or is
  pub lints_refused : (whys : List CommandRefusal) → 0 < length whys → IsRefusedFor whys came → hears ≡ heard → calls ≡ [] → LintsWhere takes listed here whys paths heard hears came calls
  lints_refused [] some refused silent none = absurd (let no : ⊥ = omega (arith, some) in no)
  lints_refused (why ∷ whys) some refused silent none = (refused, silent, none)
