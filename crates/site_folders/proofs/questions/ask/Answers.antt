use Rattle.std.proofs.Common.{◌++◌, refl, sym, subst, inr}
use Rattle.std.specs.Prelude.{IfOk}
use Rattle.site_folders.specs.Keepers.{AreShown, closes_all, opens_from}
use Rattle.site_folders.proofs.CallsInTurn.{behind_list, calls_then, handed_on, kept_all, kept_shown, led_then}
use Rattle.site_folders.proofs.VainLemmas.{asks_then, closes_ask, lists_ask, ran_out, vain_listed}
use Rattle.site_folders.proofs.questions.ask.Goals as goal

pub returns-in_err-keepers-in-Ok-clause-failed : goal.returns-in_err-keepers-in-Ok-clause-failed
returns-in_err-keepers-in-Ok-clause-failed g c =
    handed_on c.from_residual-in_err-keepers-in-Ok.result _ _ c.from_residual-in_err-keepers-in-Ok.ensures.1
    (led_then g.F.Files.does _ _ _ (vain_listed g.K.SiteKeeper.shown c.args.folder.now c.in_ok-sites.sites _) c.in_ok-sites.ensures.read c.in_err-keepers-in-Ok.ensures.failed)

pub ask_keepers-answer-requires : goal.ask_keepers-answer-requires
ask_keepers-answer-requires g c =
    let shown = g.K.SiteKeeper.shown in
    let stored = g.K.SiteKeeper.stored in
    let sites = c.in_ok-sites.sites in
    let keepers = c.in_ok-keepers-in-Ok.keepers.items in
    let (records, keep) = c.in_ok-keepers-in-Ok.ensures.keep in (
      records,
      subst (λ ks. AreShown shown ks records) (sym c.as_slice.ensures.value) (kept_shown shown stored sites 0 keepers records keep),
      kept_all shown stored sites keepers records keep c.in_ok-keepers-in-Ok.ensures.number,
    )

pub returns-in_err-answer-in-Ok-clause-failed : goal.returns-in_err-answer-in-Ok-clause-failed
returns-in_err-answer-in-Ok-clause-failed g c =
    let folder = c.args.folder.now in
    let sites = c.in_ok-sites.sites in
    let keepers = c.in_ok-keepers-in-Ok.keepers.items in
    let opens = opens_from folder sites 0 keepers in
    handed_on c.from_residual-in_err-answer-in-Ok.result _ _ c.from_residual-in_err-answer-in-Ok.ensures.1
    (led_then g.F.Files.does _ _ _ (λ xs ys listed asks. ran_out g.K.SiteKeeper.shown folder _ (xs ++ ys) refl (asks_then xs ys (lists_ask folder sites xs listed) asks)) c.in_ok-sites.ensures.read
    (record {
      calls = opens ++ closes_all keepers;
      are = closes_ask folder sites 0 keepers;
      led = calls_then g.F.Files.does _ _ _ opens (closes_all keepers) c.in_ok-keepers-in-Ok.ensures.opened c.close_all.ensures;
    }))

pub returns-in_ok-answer-in-Ok-clause-answered : goal.returns-in_ok-answer-in-Ok-clause-answered
returns-in_ok-answer-in-Ok-clause-answered g c =
    let shown = g.K.SiteKeeper.shown in
    let folder = c.args.folder.now in
    let sites = c.in_ok-sites.sites in
    let keepers = c.in_ok-keepers-in-Ok.keepers.items in
    let opens = opens_from folder sites 0 keepers in
    let (records, keep) = c.in_ok-keepers-in-Ok.ensures.keep in
    let shows = subst (λ ks. AreShown shown ks records) (sym c.as_slice.ensures.value) (kept_shown shown g.K.SiteKeeper.stored sites 0 keepers records keep) in
    behind_list g.F.Files.does folder _ _ _ _ sites c.in_ok-sites.ensures.read
    (record {
      calls = opens ++ closes_all keepers;
      are = (
        refl,
        inr (
          c.in-Ok.asked,
          subst (λ read. IfOk read (g.Q.Question.asks c.args.question.now sites)) c.in-Ok.is c.in_ok-asked.ensures.asked,
          record {
            keepers = keepers;
            records = records;
            opened = keep;
            number = c.in_ok-keepers-in-Ok.ensures.number;
            told = c.in_ok-answer-in-Ok.ensures.answered records shows;
            calls_are = refl;
          },
        ),
      );
      led = calls_then g.F.Files.does _ _ _ opens (closes_all keepers) c.in_ok-keepers-in-Ok.ensures.opened c.close_all.ensures;
    })
