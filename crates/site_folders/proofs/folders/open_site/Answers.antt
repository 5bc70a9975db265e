use Rattle.std.proofs.Common.{[], ◌∷◌, refl, ◌∙◌}
use Rattle.recall_text.specs.Words.{name_at}
use Rattle.site_folders.specs.Keepers.{opens_site}
use Rattle.site_folders.specs.FileCalls.{Blamed, Failed}
use Rattle.site_folders.specs.Paths.{file_path}
use Rattle.site_folders.proofs.CallsInTurn.{blamed, failed_at, handed_on, opened_as}
use Rattle.site_folders.proofs.VainLemmas.{none_asks, opens_failed, opens_other, opens_out}
use Rattle.site_folders.proofs.folders.open_site.Goals as goal

pub returns-in_err-path-clause-failed : goal.returns-in_err-path-clause-failed
returns-in_err-path-clause-failed g c = handed_on c.from_residual.result _ _ c.from_residual.ensures.1 (record { calls = []; are = opens_out g.K.SiteKeeper.shown c.args.folder.now c.args.sites.now _ [] refl none_asks; led = refl })

pub returns-in_err-keeper-clause-failed : goal.returns-in_err-keeper-clause-failed
returns-in_err-keeper-clause-failed g c =
    let path = c.as_str.ensures.value ∙ c.in_ok-path.ensures in
    handed_on c.from_residual-in_err-keeper.result _ _ c.from_residual-in_err-keeper.ensures.1
    (record { calls = Failed (file_path c.args.folder.now (name_at c.args.sites.now c.args.site)) _ ∷ []; are = opens_failed g.K.SiteKeeper.shown c.args.folder.now c.args.sites.now (file_path c.args.folder.now (name_at c.args.sites.now c.args.site)) _; led = failed_at g.F.Files.does _ _ _ _ _ path c.in_err-keeper.ensures.failed })

pub returns-then-keeps_site-clause-keeps : goal.returns-then-keeps_site-clause-keeps
returns-then-keeps_site-clause-keeps g c =
    let there = c.if-keeps_site.ensures.keeps.0 refl in
    (there.0, record { shows = there.1; sound = c.if-keeps_site.ensures.sound refl there.0 there.1.shows; lasts = c.in_ok-keeper.ensures.stored })

pub returns-clause-failed : goal.returns-clause-failed
returns-clause-failed g c =
    let path = c.as_str.ensures.value ∙ c.in_ok-path.ensures in
    let keeper = c.in_ok-keeper.keeper in
    record {
      calls = opens_site c.args.folder.now c.args.sites.now c.args.site keeper ∷ Blamed (file_path c.args.folder.now (name_at c.args.sites.now c.args.site)) ∷ [];
      are =
          opens_other g.K.SiteKeeper.shown c.args.folder.now c.args.sites.now c.args.site keeper (file_path c.args.folder.now (name_at c.args.sites.now c.args.site))
          (λ r shows. let bad = c.if-keeps_site.ensures.keeps.1 (r, shows) in absurd (let none : ⊥ = cc in none));
      led = (
        c.open_site.new.self,
        opened_as g.F.Files.does _ _ _ _ _ _ _ path c.name_of.ensures c.in_ok-keeper.ensures.opened,
        (c.blame.new.self, blamed g.F.Files.does _ _ _ _ (c.as_str-else-keeps_site.ensures.value ∙ c.in_ok-path.ensures) c.blame.ensures, refl),
      );
    }
