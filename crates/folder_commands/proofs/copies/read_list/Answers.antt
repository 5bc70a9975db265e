use Rattle.std.proofs.Common.{[], ◌∷◌, length, refl, ap, ◌∙◌, subst}
use Rattle.std.proofs.lemmas.List.{nil_from_length}
use Rattle.site_folders.specs.FileCalls.{Blamed, Failed, ReadFile}
use Rattle.site_folders.specs.Paths.{list_path}
use Rattle.recall_text.specs.SiteLists.{IsSiteList}
use Rattle.site_folders.proofs.CallsInTurn.{blamed, failed_at, handed_on, list_read}
use Rattle.site_folders.proofs.VainLemmas.{asks_first, call_failed, list_bad, none_asks, ran_out}
use Rattle.folder_commands.proofs.copies.read_list.Goals as goal

pub returns-then-is_good-clause-read : goal.returns-then-is_good-clause-read
returns-then-is_good-clause-read g c = list_read g.F.Files.does _ _ _ _ _ (c.as_str.ensures.value ∙ c.in_ok-path.ensures) c.in_ok-text.ensures.read

pub returns-then-is_good-clause-lists : goal.returns-then-is_good-clause-lists
returns-then-is_good-clause-lists g c =
    let good = c.if-is_good.ensures.0 refl in
    record {
      list = c.in_ok-list.list;
      is_list = subst (λ t. IsSiteList t c.in_ok-list.list) c.as_slice.ensures.value c.in_ok-list.ensures;
      good = nil_from_length _ good.0;
      same = refl;
      two = good.1;
    }

pub returns-in_err-path-clause-failed : goal.returns-in_err-path-clause-failed
returns-in_err-path-clause-failed g c = handed_on c.from_residual.result _ _ c.from_residual.ensures.1 (record { calls = []; are = ran_out g.K.SiteKeeper.shown c.args.folder.now _ [] refl none_asks; led = refl })

pub returns-in_err-text-clause-failed : goal.returns-in_err-text-clause-failed
returns-in_err-text-clause-failed g c =
    let path = c.as_str.ensures.value ∙ c.in_ok-path.ensures in
    handed_on c.from_residual-in_err-text.result _ _ c.from_residual-in_err-text.ensures.1
    (record { calls = Failed (list_path c.args.folder.now) _ ∷ []; are = call_failed g.K.SiteKeeper.shown c.args.folder.now (list_path c.args.folder.now) _; led = failed_at g.F.Files.does _ _ _ _ _ path c.in_err-text.ensures.failed })

pub returns-in_err-list-clause-failed : goal.returns-in_err-list-clause-failed
returns-in_err-list-clause-failed g c =
    let path = c.as_str.ensures.value ∙ c.in_ok-path.ensures in
    let text = c.in_ok-text.text.items in
    handed_on c.from_residual-in_err-list.result _ _ c.from_residual-in_err-list.ensures.1
    (record {
      calls = ReadFile (list_path c.args.folder.now) text ∷ [];
      are = ran_out g.K.SiteKeeper.shown c.args.folder.now _ _ refl (asks_first (ReadFile (list_path c.args.folder.now) text) [] tt none_asks);
      led = (c.read.new.self, list_read g.F.Files.does _ _ _ _ _ path c.in_ok-text.ensures.read, refl);
    })

pub returns-clause-failed : goal.returns-clause-failed
returns-clause-failed g c =
    let path = c.as_str.ensures.value ∙ c.in_ok-path.ensures in
    let text = c.in_ok-text.text.items in
    record {
      calls = ReadFile (list_path c.args.folder.now) text ∷ Blamed (list_path c.args.folder.now) ∷ [];
      are =
          list_bad g.K.SiteKeeper.shown c.args.folder.now text (list_path c.args.folder.now)
          (record {
            list = c.in_ok-list.list;
            is_list = subst (λ t. IsSiteList t c.in_ok-list.list) c.as_slice.ensures.value c.in_ok-list.ensures;
            bad = λ none two. let bad = c.if-is_good.ensures.1 (ap length none, two) in absurd (let none : ⊥ = cc in none);
          });
      led = (
        c.read.new.self,
        list_read g.F.Files.does _ _ _ _ _ path c.in_ok-text.ensures.read,
        (c.blame.new.self, blamed g.F.Files.does _ _ _ _ (c.as_str-else-is_good.ensures.value ∙ c.in_ok-path.ensures) c.blame.ensures, refl),
      );
    }
