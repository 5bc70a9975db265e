-- Lists of sites that are read on their own.
use Rattle.std.proofs.Common.{◌≡◌, ◌<◌, ℕ, List, [], ◌∷◌, inl, inr, length, refl, sym, subst, arith}
use Rattle.recall_outcomes.specs.declared.faults.Fault.{Fault}
use Rattle.recall_outcomes.specs.declared.faults.Fault.TheVariants.{NoMemory}
use Rattle.recall_outcomes.specs.declared.outcomes.CommandRefusal.{CommandRefusal}
use Rattle.recall_outcomes.specs.declared.notes.Notes.TheVariants.{Nothing}
use Rattle.recall_outcomes.specs.declared.outcomes.Output.{Output}
use Rattle.recall_text.specs.declared.site_lists.SiteList.{SiteList}
use Rattle.site_folders.specs.Faults.{OnlyAsks}
use Rattle.site_folders.specs.FileCalls.{FileCall, Failed, Led, ReadFile}
use Rattle.site_folders.specs.Refusals.{AreRefused}
use Rattle.site_folders.proofs.VainLemmas.{asks_first, none_asks}
use Rattle.folder_commands.specs.Listed.{ComesOf, ReadsNone, ReadsSites}
use Rattle.folder_commands.specs.declared.listed.SitesCame.{SitesCame}
use Rattle.folder_commands.specs.declared.listed.SitesCame.TheVariants as came

-- ---- what comes of it

-- a list that isn't refused
pub comes_listed : (listed : SiteList) (whys : List CommandRefusal) → whys ≡ [] → ComesOf listed whys (came.Listed listed.sites)
comes_listed listed whys none = subst (λ ws. ComesOf listed ws (came.Listed listed.sites)) (sym none) refl

-- or is
pub comes_refused : (listed : SiteList) (whys : List CommandRefusal) (output : Output) → 0 < length whys → AreRefused whys output.outcome → output.sites ≡ listed.sites → output.notes ≡ Nothing
    → ComesOf listed whys (came.Refused output)
comes_refused listed [] output some refused same silent = absurd (let no : ⊥ = omega (arith, some) in no)
comes_refused listed (why ∷ whys) output some refused same silent = (refused, same, silent)

-- ---- its calls

module _ {K : Type 0} (list : List ℕ) (calls : List (FileCall K)) where
  -- nothing is changed
  pub sites_ask : (output : SitesCame) → ReadsSites list output calls → OnlyAsks calls
  sites_ask output reads = subst (λ cs. OnlyAsks cs) (sym reads.calls_are) (asks_first (ReadFile list reads.text) [] tt none_asks)

  pub none_read_asks : (fault : Fault) → ReadsNone list fault calls → OnlyAsks calls
  none_read_asks fault (inl is) = subst (λ cs. OnlyAsks cs) (sym is) (asks_first (Failed list fault) [] tt none_asks)
  none_read_asks fault (inr (text, is, why)) = subst (λ cs. OnlyAsks cs) (sym is) (asks_first (ReadFile list text) [] tt none_asks)

-- ---- faults

module _ {F K : Type 0} (does : F → FileCall K → F → Type 0) (fault : Fault) (list : List ℕ) (old new : F) where
  -- it can't be read
  pub list_unread : does old (Failed list fault) new → Led does old new (ReadsNone list fault)
  list_unread failed = record { calls = Failed list fault ∷ []; are = inl refl; led = (new, failed, refl) }

  -- memory ran out behind that
  pub list_ran_out : (text : List ℕ) → does old (ReadFile list text) new → fault ≡ NoMemory → Led does old new (ReadsNone list fault)
  list_ran_out text read is = record { calls = ReadFile list text ∷ []; are = inr (text, refl, is); led = (new, read, refl) }
