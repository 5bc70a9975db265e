-- What is noted behind a command on an item that was refused since the site doesn't know it.
use Rattle.std.specs.Prelude.{◌≡◌, ◌⊎◌, ℕ, Bool, true, false, List, [], ◌++◌, Option}
use Rattle.std.specs.List.{list_any}
use Rattle.event_json.specs.Sites.{Site}
use Rattle.recall_outcomes.specs.declared.faults.Fault.{Fault}
use Rattle.recall_outcomes.specs.declared.notes.Notes.{Notes}
use Rattle.recall_outcomes.specs.declared.notes.Notes.TheVariants.{Nothing}
use Rattle.recall_outcomes.specs.declared.outcomes.CommandRefusal.{CommandRefusal}
use Rattle.recall_outcomes.specs.declared.outcomes.CommandRefusal.TheVariants as refusals
use Rattle.recall_outcomes.specs.declared.outcomes.Outcome.{Outcome}
use Rattle.recall_outcomes.specs.declared.outcomes.Outcome.TheVariants as outcomes
use Rattle.recall_outcomes.specs.declared.outcomes.Output.{Output}
use Rattle.site_core.specs.Records.{Record}
use Rattle.site_core.specs.declared.outcomes.Refusal.TheVariants as steps
use Rattle.site_folders.specs.Faults.{EndsInVain}
use Rattle.site_folders.specs.FileCalls.{FileCall}
use Rattle.site_folders.specs.Questions.{AsksAll}
use Rattle.folder_questions.specs.Asked.{AsksItem}
use Rattle.folder_questions.specs.Knowers.{AnswersKnowers, TellsNobody}
use Rattle.folder_questions.specs.declared.knowers.KnowersOf.{KnowersOf}

-- the site doesn't know the item
abbrev pub is_unknown_item : CommandRefusal → Bool
is_unknown_item (refusals.Step steps.UnknownItem) = true
is_unknown_item other = false

-- the command was refused since it doesn't
abbrev pub is_unknown : Outcome → Bool
is_unknown (outcomes.Refused whys) = list_any is_unknown_item whys.items
is_unknown other = false

module _ {K : Type 0} (shown : K → Option Record) (stored : K → Type 0) (folder : List ℕ) (question : KnowersOf) where
  -- it was asked who knows the item and what ends in its text, and that is noted; or the question failed, and nothing is
  abbrev pub TellsWho : Notes → List (FileCall K) → Type 0
  TellsWho notes calls =
      ((sites : List Site)
      × AsksAll {Q = ℕ × List ℕ} shown stored folder
      (λ listed answer. TellsNobody question.site.now question.item listed answer)
      (λ listed asked. AsksItem question.site.now question.item listed asked.0 asked.1)
      (λ asked rs answer. AnswersKnowers asked.0 asked.1 question.item.text.now rs answer)
      sites notes calls)
      ⊎ ((notes ≡ Nothing) × (fault : Fault) × EndsInVain shown folder fault calls)

  -- behind a command that was refused so; behind any other nothing is asked
  abbrev pub TellsBehind : Bool → Output → Output → List (FileCall K) → Type 0
  TellsBehind true first told calls = (told.sites ≡ first.sites) × (told.outcome ≡ first.outcome) × TellsWho told.notes calls
  TellsBehind false first told calls = (told ≡ first) × (calls ≡ [])

  -- the calls of the command, and those behind it
  pub record AndWho (Leads : Output → List (FileCall K) → Type 0) (told : Output) (calls : List (FileCall K)) : Type 0 where
    pub first : Output
    pub its : List (FileCall K)
    pub leads : Leads first its
    pub rest : List (FileCall K)
    pub behind : TellsBehind (is_unknown first.outcome) first told rest
    pub calls_are : calls ≡ its ++ rest
