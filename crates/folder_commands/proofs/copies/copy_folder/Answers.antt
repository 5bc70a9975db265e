use Rattle.std.proofs.Common.{[], ◌∷◌, ◌++◌, refl, sym, ◌∙◌, subst, inl, inr}
use Rattle.site_folders.specs.FileCalls.{Failed, WroteFile}
use Rattle.site_folders.specs.Keepers.{AreShown, closes_all, opens_from}
use Rattle.site_folders.specs.Paths.{list_path}
use Rattle.site_folders.proofs.CallsInTurn.{calls_then, err_so, failed_at, handed_on, kept_shown, led_so, on_ok_so}
use Rattle.folder_commands.specs.Copying.{makes_copies}
use Rattle.folder_commands.proofs.CopyLemmas.{some_copied}
use Rattle.folder_commands.proofs.copies.copy_folder.Goals as goal

pub copy_keepers-made-requires : goal.copy_keepers-made-requires
copy_keepers-made-requires g c =
    let keepers = c.in_ok-keepers.keepers.items in
    let (records, keep) = c.in_ok-keepers.ensures.keep in
    (records, subst (λ ks. AreShown g.K.SiteKeeper.shown ks records) (sym c.as_slice.ensures.value) (kept_shown g.K.SiteKeeper.shown g.K.SiteKeeper.stored c.args.sites.now 0 keepers records keep))

pub returns-in_err-keepers-clause-failed : goal.returns-in_err-keepers-clause-failed
returns-in_err-keepers-clause-failed g c =
    handed_on c.from_residual.result _ _ c.from_residual.ensures.1
    (led_so g.F.Files.does _ _ (λ calls vain. inl vain) c.in_err-keepers.ensures.failed)

pub returns-in_err-made-clause-failed : goal.returns-in_err-made-clause-failed
returns-in_err-made-clause-failed g c =
    let does = g.F.Files.does in
    let shown = g.K.SiteKeeper.shown in
    let stored = g.K.SiteKeeper.stored in
    let sites = c.args.sites.now in
    let keepers = c.in_ok-keepers.keepers.items in
    let (records, keep) = c.in_ok-keepers.ensures.keep in
    let shows = subst (λ ks. AreShown shown ks records) (sym c.as_slice.ensures.value) (kept_shown shown stored sites 0 keepers records keep) in
    let made = c.in_err-made.ensures.failed records shows in
    handed_on c.from_residual-in_err-made.result _ _ c.from_residual-in_err-made.ensures.1
    (led_so does _ _ (λ calls some. inr some)
    (some_copied does shown stored c.args.folder.now c.args.to.now sites _ _ c.open_all.new.files c.copy_keepers-made.new.files c.close_all.new.files _ keepers records made.calls [] keep c.in_ok-keepers.ensures.number
    c.in_ok-keepers.ensures.opened made.led c.close_all.ensures refl (inl (made.are, refl))))

pub returns-in_err-path-clause-failed : goal.returns-in_err-path-clause-failed
returns-in_err-path-clause-failed g c =
    let does = g.F.Files.does in
    let shown = g.K.SiteKeeper.shown in
    let stored = g.K.SiteKeeper.stored in
    let to = c.args.to.now in
    let sites = c.args.sites.now in
    let keepers = c.in_ok-keepers.keepers.items in
    let (records, keep) = c.in_ok-keepers.ensures.keep in
    let shows = subst (λ ks. AreShown shown ks records) (sym c.as_slice.ensures.value) (kept_shown shown stored sites 0 keepers records keep) in
    handed_on c.from_residual-in_err-path.result _ _ c.from_residual-in_err-path.ensures.1
    (led_so does _ _ (λ calls some. inr some)
    (some_copied does shown stored c.args.folder.now to sites _ _ c.open_all.new.files c.copy_keepers-made.new.files c.close_all.new.files _ keepers records (makes_copies to records) [] keep c.in_ok-keepers.ensures.number
    c.in_ok-keepers.ensures.opened (c.in_ok-made.ensures.made records shows) c.close_all.ensures refl (inr (refl, inr (refl, refl)))))

pub returns-clause-failed : goal.returns-clause-failed
returns-clause-failed g c =
    let does = g.F.Files.does in
    let shown = g.K.SiteKeeper.shown in
    let stored = g.K.SiteKeeper.stored in
    let to = c.args.to.now in
    let sites = c.args.sites.now in
    let keepers = c.in_ok-keepers.keepers.items in
    let (records, keep) = c.in_ok-keepers.ensures.keep in
    let shows = subst (λ ks. AreShown shown ks records) (sym c.as_slice.ensures.value) (kept_shown shown stored sites 0 keepers records keep) in
    let path = c.as_str.ensures.value ∙ c.in_ok-path.ensures in
    err_so c.write_new.result
    (λ fault one. led_so does _ _ (λ calls some. inr some)
    (some_copied does shown stored c.args.folder.now to sites fault _ c.open_all.new.files c.copy_keepers-made.new.files c.close_all.new.files _ keepers records (makes_copies to records) (Failed (list_path to) fault ∷ []) keep
    c.in_ok-keepers.ensures.number c.in_ok-keepers.ensures.opened (c.in_ok-made.ensures.made records shows) c.close_all.ensures (failed_at does _ _ _ _ _ path one) (inr (refl, inl refl))))
    c.write_new.ensures.failed

pub returns-clause-copied : goal.returns-clause-copied
returns-clause-copied g c =
    let does = g.F.Files.does in
    let shown = g.K.SiteKeeper.shown in
    let stored = g.K.SiteKeeper.stored in
    let folder = c.args.folder.now in
    let to = c.args.to.now in
    let sites = c.args.sites.now in
    let text = c.args.text.now in
    let old = c.args.files.now in
    let opened = c.open_all.new.files in
    let copied = c.copy_keepers-made.new.files in
    let closed = c.close_all.new.files in
    let new = c.write_new.new.self in
    let keepers = c.in_ok-keepers.keepers.items in
    let (records, keep) = c.in_ok-keepers.ensures.keep in
    let shows = subst (λ ks. AreShown shown ks records) (sym c.as_slice.ensures.value) (kept_shown shown stored sites 0 keepers records keep) in
    let path = c.as_str.ensures.value ∙ c.in_ok-path.ensures in
    let opening = opens_from folder sites 0 keepers in
    let making = makes_copies to records in
    let closing = closes_all keepers in
    on_ok_so c.write_new.result
    (λ wrote. record {
      calls = opening ++ (making ++ (closing ++ WroteFile (list_path to) text ∷ []));
      are = record { keepers = keepers; records = records; opened = keep; number = c.in_ok-keepers.ensures.number; calls_are = refl };
      led =
          calls_then does old opened new opening (making ++ (closing ++ WroteFile (list_path to) text ∷ [])) c.in_ok-keepers.ensures.opened
          (calls_then does opened copied new making (closing ++ WroteFile (list_path to) text ∷ []) (c.in_ok-made.ensures.made records shows)
          (calls_then does copied closed new closing (WroteFile (list_path to) text ∷ []) c.close_all.ensures
          (new, subst (λ p. does closed (WroteFile p text) new) path wrote, refl)));
    })
    c.write_new.ensures.written
