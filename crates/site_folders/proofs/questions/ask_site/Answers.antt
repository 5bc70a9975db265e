use Rattle.std.proofs.Common.{[], ◌∷◌, ◌++◌, refl, subst, inr}
use Rattle.std.specs.Prelude.{IfOk}
use Rattle.site_folders.specs.FileCalls.{ClosedSite}
use Rattle.site_folders.specs.Keepers.{opens_site}
use Rattle.site_folders.proofs.CallsInTurn.{behind_list, handed_on, led_then}
use Rattle.site_folders.proofs.VainLemmas.{asks_then, closes_ask, lists_ask, ran_out, vain_listed}
use Rattle.site_folders.proofs.questions.ask_site.Goals as goal

pub returns-in_err-keeper-in-Ok-clause-failed : goal.returns-in_err-keeper-in-Ok-clause-failed
returns-in_err-keeper-in-Ok-clause-failed g c =
    handed_on c.from_residual-in_err-keeper-in-Ok.result _ _ c.from_residual-in_err-keeper-in-Ok.ensures.1
    (led_then g.F.Files.does _ _ _ (vain_listed g.K.SiteKeeper.shown c.args.folder.now c.in_ok-sites.sites _) c.in_ok-sites.ensures.read c.in_err-keeper-in-Ok.ensures.failed)

pub ask_keeper-answer-requires : goal.ask_keeper-answer-requires
ask_keeper-answer-requires g c = let (r, keeps) = c.in_ok-keeper-in-Ok.ensures.keeps in (r, keeps.shows.shows)

pub returns-in_err-answer-in-Ok-clause-failed : goal.returns-in_err-answer-in-Ok-clause-failed
returns-in_err-answer-in-Ok-clause-failed g c =
    let folder = c.args.folder.now in
    let sites = c.in_ok-sites.sites in
    let site = c.in-Ok.of.0 in
    let keeper = c.in_ok-keeper-in-Ok.keeper in
    let opened = c.in_ok-keeper-in-Ok.ensures.opened in
    handed_on c.from_residual-in_err-answer-in-Ok.result _ _ c.from_residual-in_err-answer-in-Ok.ensures.1
    (led_then g.F.Files.does _ _ _ (λ xs ys listed asks. ran_out g.K.SiteKeeper.shown folder _ (xs ++ ys) refl (asks_then xs ys (lists_ask folder sites xs listed) asks)) c.in_ok-sites.ensures.read
    (record {
      calls = opens_site folder sites site keeper ∷ ClosedSite keeper ∷ [];
      are = closes_ask folder sites site (keeper ∷ []);
      led = (c.open_site.new.files, opened, (c.close_site.new.self, c.close_site.ensures, refl));
    }))

pub returns-in_ok-answer-in-Ok-clause-answered : goal.returns-in_ok-answer-in-Ok-clause-answered
returns-in_ok-answer-in-Ok-clause-answered g c =
    let folder = c.args.folder.now in
    let sites = c.in_ok-sites.sites in
    let site = c.in-Ok.of.0 in
    let asked = c.in-Ok.of.1 in
    let question = c.args.question.now in
    let keeper = c.in_ok-keeper-in-Ok.keeper in
    let opened = c.in_ok-keeper-in-Ok.ensures.opened in
    let (r, keeps) = c.in_ok-keeper-in-Ok.ensures.keeps in
    behind_list g.F.Files.does folder _ _ _ _ sites c.in_ok-sites.ensures.read
    (record {
      calls = opens_site folder sites site keeper ∷ ClosedSite keeper ∷ [];
      are = (
        refl,
        inr (
          site,
          asked,
          subst (λ read. IfOk read (λ of. g.Q.SiteQuestion.asks question sites of.0 of.1)) c.in-Ok.is c.in_ok-of.ensures.asked,
          record {
            keeper = keeper;
            r = r;
            opened = keeps;
            told = c.in_ok-answer-in-Ok.ensures.answered r keeps.shows.shows;
            calls_are = refl;
          },
        ),
      );
      led = (c.open_site.new.files, opened, (c.close_site.new.self, c.close_site.ensures, refl));
    })
