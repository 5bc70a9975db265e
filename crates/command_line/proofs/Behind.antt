-- A command, and what is asked behind it.
use Rattle.std.proofs.Common.{◌≡◌, ℕ, List, [], ◌++◌, Bool, true, false, Option, Result, Ok, Err, inl, inr, refl, sym, ◌∙◌, subst}
use Rattle.std.specs.Prelude.{IfErr, IfOk}
use Rattle.event_json.specs.Sites.{Site}
use Rattle.recall_outcomes.specs.declared.faults.Fault.{Fault}
use Rattle.recall_outcomes.specs.declared.notes.Notes.{Notes}
use Rattle.recall_outcomes.specs.declared.notes.Notes.TheVariants.{Nothing}
use Rattle.recall_outcomes.specs.declared.outcomes.Output.{Output}
use Rattle.site_core.specs.Records.{Record}
use Rattle.site_folders.specs.Faults.{EndsInVain}
use Rattle.site_folders.specs.FileCalls.{FileCall, Led}
use Rattle.site_folders.specs.Questions.{AsksAll}
use Rattle.site_folders.proofs.CallsInTurn.{calls_then}
use Rattle.folder_questions.specs.Asked.{AsksItem}
use Rattle.folder_questions.specs.Knowers.{AnswersKnowers, TellsNobody}
use Rattle.folder_questions.specs.declared.knowers.KnowersOf.{KnowersOf}
use Rattle.command_line.specs.UnknownItems.{AndWho, TellsBehind, is_unknown}

module _ {F K : Type 0} (does : F → FileCall K → F → Type 0) (shown : K → Option Record) (stored : K → Type 0) (folder : List ℕ) (question : KnowersOf) where
  -- the calls of the command, and those behind it
  pub and_who : (Leads : Output → List (FileCall K) → Type 0) (old mid new : F) (first told : Output) → Led does old mid (Leads first)
      → Led does mid new (TellsBehind shown stored folder question (is_unknown first.outcome) first told) → Led does old new (AndWho shown stored folder question Leads told)
  and_who Leads old mid new first told led more = record {
    calls = led.calls ++ more.calls;
    are = record { first = first; its = led.calls; leads = led.are; rest = more.calls; behind = more.are; calls_are = refl };
    led = calls_then does old mid new led.calls more.calls led.led more.led;
  }

  -- nothing is asked
  pub asks_nothing : (files : F) (first : Output) (unknown : Bool) → unknown ≡ false → Led does files files (TellsBehind shown stored folder question unknown first first)
  asks_nothing files first unknown is = subst (λ b. Led does files files (TellsBehind shown stored folder question b first first)) (sym is) (record { calls = []; are = (refl, refl); led = refl })

  -- what is answered by those who know the item
  abbrev Asks : List Site × Notes → List (FileCall K) → Type 0
  Asks told calls =
      AsksAll {Q = ℕ × List ℕ} shown stored folder
      (λ listed answer. TellsNobody question.site.now question.item listed answer)
      (λ listed asked. AsksItem question.site.now question.item listed asked.0 asked.1)
      (λ asked rs answer. AnswersKnowers asked.0 asked.1 question.item.text.now rs answer)
      told.0 told.1 calls

  -- it was asked who knows the item
  pub asks_who : (old new : F) (first told : Output) (unknown : Bool) (answer : Result (List Site × Notes) Fault) (notes : Notes) → unknown ≡ true → told.sites ≡ first.sites → told.outcome ≡ first.outcome
      → IfOk answer (λ t. Led does old new (Asks t)) → IfErr answer (λ fault. Led does old new (EndsInVain shown folder fault))
      → IfOk answer (λ t. notes ≡ t.1) → IfErr answer (λ fault. notes ≡ Nothing) → told.notes ≡ notes → Led does old new (TellsBehind shown stored folder question unknown first told)
  asks_who old new first told unknown answer notes is sites outcome ok err noted silent same =
      subst (λ b. Led does old new (TellsBehind shown stored folder question b first told)) (sym is) (by answer ok err noted silent)
    where
      by : (a : Result (List Site × Notes) Fault) → IfOk a (λ t. Led does old new (Asks t)) → IfErr a (λ fault. Led does old new (EndsInVain shown folder fault))
          → IfOk a (λ t. notes ≡ t.1) → IfErr a (λ fault. notes ≡ Nothing) → Led does old new (TellsBehind shown stored folder question true first told)
      by (Ok t) so out e silent = record {
        calls = so.calls;
        are = (sites, outcome, inl (t.0, subst (λ (n : Notes). Asks (t.0, n) so.calls) (sym (same ∙ e)) so.are));
        led = so.led;
      }
      by (Err fault) so out noted e = record { calls = out.calls; are = (sites, outcome, inr (same ∙ e, fault, out.are)); led = out.led }
