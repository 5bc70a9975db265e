-- what a question and the start of a recall lead to, as the command's output
use Rattle.std.proofs.Common.{◌≡◌, ℕ, List, Bool, true, false, Option, Bor, sym, subst}
use Rattle.event_json.specs.Sites.{Site}
use Rattle.item_spellings.specs.declared.spellings.Spelled.{Spelled}
use Rattle.recall_outcomes.specs.declared.notes.Notes.{Notes}
use Rattle.recall_outcomes.specs.declared.notes.Notes.TheVariants.{Nothing}
use Rattle.recall_outcomes.specs.declared.outcomes.Outcome.{Outcome}
use Rattle.recall_outcomes.specs.declared.outcomes.Output.{Output}
use Rattle.site_core.specs.Records.{Record}
use Rattle.site_folders.specs.FileCalls.{FileCall, Led}
use Rattle.folder_commands.specs.Steps.{StartsAt}
use Rattle.command_line.specs.Leads.{DryStarts, LeadsTo, Plainly}
use Rattle.command_line.specs.UnknownItems.{TellsBehind, is_unknown}
use Rattle.command_line.specs.declared.asked.FileCommand.TheVariants.{Start}
use Rattle.command_line.proofs.Behind.{and_who}

module _ {F K : Type 0} (does : F → FileCall K → F → Type 0) where
  -- an answer beside which nothing is noted
  pub plainly_led : (Tells : List Site → Outcome → List (FileCall K) → Type 0) (old new : F) (told : List Site × Outcome) (output : Output) → output.sites ≡ told.0 → output.outcome ≡ told.1 → output.notes ≡ Nothing
      → Led does old new (Tells told.0 told.1) → Led does old new (Plainly Tells output)
  plainly_led Tells old new told output sites outcome silent led = record {
    calls = led.calls;
    are = (
      subst (λ (s : List Site). Tells s output.outcome led.calls) (sym sites) (subst (λ (o : Outcome). Tells told.0 o led.calls) (sym outcome) led.are),
      silent,
    );
    led = led.led;
  }

  -- an answer with what is noted beside it
  pub noted_led : (Tells : List Site → Outcome × Notes → List (FileCall K) → Type 0) (old new : F) (told : List Site × (Outcome × Notes)) (output : Output) → output.sites ≡ told.0 → output.outcome ≡ told.1.0 → output.notes ≡ told.1.1
      → Led does old new (Tells told.0 told.1) → Led does old new (Tells output.sites (output.outcome, output.notes))
  noted_led Tells old new told output sites outcome notes led = record {
    calls = led.calls;
    are = subst (λ (s : List Site). Tells s (output.outcome, output.notes) led.calls) (sym sites)
        (subst (λ (o : Outcome). Tells told.0 (o, output.notes) led.calls) (sym outcome) (subst (λ (n : Notes). Tells told.0 (told.1.0, n) led.calls) (sym notes) led.are));
    led = led.led;
  }

module _ {F K : Type 0} (does : F → FileCall K → F → Type 0) (knows : List ℕ → List ℕ → Type 0) (shown : K → Option Record) (failed : K → ℕ) (may : K → Record → Type 0) (stored : K → Type 0) (folder site : Bor (List ℕ)) (item : Spelled) where
  -- what a start leads to before it is asked who knows the item
  abbrev pub Firsts : Bool → Output → List (FileCall K) → Type 0
  Firsts true output calls = DryStarts shown stored folder.now site.now item output calls
  Firsts false output calls = StartsAt shown stored folder.now site.now item output calls

  -- in either way
  pub first_led : (dry way : Bool) (old mid files : F) (first output : Output) → dry ≡ way → mid ≡ files → first ≡ output → Led does old files (Firsts way output) → Led does old mid (Firsts dry first)
  first_led dry way old mid files first output is there same led =
      subst (λ b. Led does old mid (Firsts b first)) (sym is) (subst (λ (f : F). Led does old f (Firsts way first)) (sym there) (subst (λ (o : Output). Led does old files (Firsts way o)) (sym same) led))

  -- and then
  pub start_led : (dry : Bool) (old mid new : F) (first told : Output) → Led does old mid (Firsts dry first)
      → Led does mid new (TellsBehind shown stored folder.now (record { site = site; item = item }) (is_unknown first.outcome) first told) → Led does old new (LeadsTo knows shown failed may stored (Start folder site item dry) told)
  start_led true old mid new first told led more = and_who does shown stored folder.now (record { site = site; item = item }) (DryStarts shown stored folder.now site.now item) old mid new first told led more
  start_led false old mid new first told led more = and_who does shown stored folder.now (record { site = site; item = item }) (StartsAt shown stored folder.now site.now item) old mid new first told led more
