use Rattle.std.proofs.Common.{List, ℕ, [], ◌∷◌, rules, refl, subst, inl}
use Rattle.recall_text.specs.SiteLists.{IsSiteList}
use Rattle.site_folders.specs.FileCalls.{Failed, Led, ReadFile}
use Rattle.site_folders.proofs.CallsInTurn.{handed_on, led_so}
use Rattle.site_folders.proofs.VainLemmas.{asks_first, call_failed, none_asks}
use Rattle.folder_commands.specs.Making.{MakesListed}
use Rattle.folder_commands.proofs.MakingLemmas.{init_failed, out_then}
use Rattle.folder_commands.proofs.making.init.Goals as goal

pub returns-in_err-text-clause-failed : goal.returns-in_err-text-clause-failed
returns-in_err-text-clause-failed g c =
    handed_on c.from_residual.result _ _ c.from_residual.ensures.1
    (record { calls = Failed c.args.list.now _ ∷ []; are = inl (call_failed g.K.SiteKeeper.shown c.args.folder.now c.args.list.now _); led = (c.read.new.self, c.in_err-text.ensures.failed, refl) })

pub returns-in_err-list-clause-failed : goal.returns-in_err-list-clause-failed
returns-in_err-list-clause-failed g c =
    let read = ReadFile c.args.list.now c.in_ok-text.text.items in
    handed_on c.from_residual-in_err-list.result _ _ c.from_residual-in_err-list.ensures.1
    (led_so g.F.Files.does _ _ (λ calls vain. inl vain) (out_then g.F.Files.does c.args.folder.now g.K.SiteKeeper.shown _ _ (read ∷ []) (asks_first read [] tt none_asks) (c.read.new.self, c.in_ok-text.ensures.read, refl)))

pub returns-in_err-outcome-clause-failed : goal.returns-in_err-outcome-clause-failed
returns-in_err-outcome-clause-failed g c =
    let text = c.in_ok-text.text.items in
    let listed = c.in_ok-list.list in
    let is_list = subst (λ (t : List ℕ). IsSiteList t listed) c.as_slice.ensures.value c.in_ok-list.ensures in
    handed_on c.from_residual-in_err-outcome.result _ _ c.from_residual-in_err-outcome.ensures.1
    (init_failed g.F.Files.does c.args.folder.now g.K.SiteKeeper.shown c.args.list.now _ _ _ _ text listed is_list c.in_ok-text.ensures.read c.in_err-outcome.ensures.failed)

pub returns-clause-calls : goal.returns-clause-calls
returns-clause-calls g c =
    let text = c.in_ok-text.text.items in
    let listed = c.in_ok-list.list in
    let made = subst (λ (t : List ℕ). Led g.F.Files.does c.read.new.self c.make_listed.new.files (MakesListed c.args.folder.now listed t c.in_ok-outcome.outcome)) c.as_slice-2.ensures.value c.in_ok-outcome.ensures.calls in
    record {
      calls = ReadFile c.args.list.now text ∷ made.calls;
      are = record {
        text = text;
        listed = listed;
        is_list = search rules;
        same = refl;
        noted = refl;
        rest = made.calls;
        made = made.are;
        calls_are = refl;
      };
      led = (c.read.new.self, c.in_ok-text.ensures.read, made.led);
    }
