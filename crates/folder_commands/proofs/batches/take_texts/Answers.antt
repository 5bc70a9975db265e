use Rattle.std.proofs.Common.{◌≡◌, [], map, refl, sym, subst, ◌∙◌, inl}
use Rattle.site_folders.proofs.CallsInTurn.{behind_list, handed_on, led_so}
use Rattle.event_json.specs.Sites.{named}
use Rattle.folder_commands.specs.Batches.{TakesWhere, no_counts, standing}
use Rattle.folder_commands.specs.Inputs.{input_of}
use Rattle.folder_commands.specs.Words.{Texts}
use Rattle.folder_commands.specs.declared.batches.BatchCame.TheVariants.{NoSite}
use Rattle.folder_commands.proofs.BatchLemmas.{batch_broke, batch_taken, texts_broke, texts_taken}
use Rattle.folder_commands.proofs.StepLemmas.{err_of, list_out, ok_of, vain_led}
use Rattle.folder_commands.proofs.batches.take_texts.Goals as goal

pub returns-in_err-sites-clause-failed : goal.returns-in_err-sites-clause-failed
returns-in_err-sites-clause-failed g c = handed_on c.from_residual.result _ _ c.from_residual.ensures.1 (led_so g.F.Files.does _ _ (λ calls vain. inl (vain, refl)) c.in_err-sites.ensures.failed)

pub returns-in_err-outcome-clause-failed : goal.returns-in_err-outcome-clause-failed
returns-in_err-outcome-clause-failed g c =
    handed_on c.from_residual-in_err-outcome.result _ _ c.from_residual-in_err-outcome.ensures.1
    (led_so g.F.Files.does _ _ (λ calls vain. inl (vain, refl)) (list_out g.F.Files.does g.K.SiteKeeper.shown c.args.folder.now _ _ c.in_ok-sites.sites c.in_ok-sites.ensures.read))

pub returns-in_default-clause-all : goal.returns-in_default-clause-all
returns-in_default-clause-all g c =
    let does = g.F.Files.does in
    let sites = c.in_ok-sites.sites in
    let name = c.args.site.now in
    let from = Texts c.args.task (map input_of c.args.inputs.items) in
    let Where = TakesWhere g.K.SiteKeeper.shown g.K.SiteKeeper.stored (g.S.InputSink.takes c.args.sink.now) c.args.folder.now name from in
    let unknown = sym c.find.ensures ∙ c.in_default.is in
    behind_list does c.args.folder.now (λ ss rest. (_ ≡ ss) × Where (named ss name) ss c.args.output.now c.args.output.now _ rest) _ _ _ sites c.in_ok-sites.ensures.read
    (record { calls = []; are = (refl, subst (λ s. Where s sites c.args.output.now c.args.output.now (NoSite c.in_ok-outcome.outcome) []) (sym unknown) (c.in_ok-outcome.ensures, refl, refl)); led = refl })

pub returns-in_err-keeper-clause-failed : goal.returns-in_err-keeper-clause-failed
returns-in_err-keeper-clause-failed g c =
    handed_on c.from_residual-in_err-keeper.result _ _ c.from_residual-in_err-keeper.ensures.1
    (led_so g.F.Files.does _ _ (λ calls vain. inl (vain, refl)) (vain_led g.F.Files.does g.K.SiteKeeper.shown c.args.folder.now _ _ _ _ c.in_ok-sites.sites c.in_ok-sites.ensures.read c.in_err-keeper.ensures.failed))

pub returns-in_err-done-clause-failed : goal.returns-in_err-done-clause-failed
returns-in_err-done-clause-failed g c =
    let shown = g.K.SiteKeeper.shown in
    let may = g.K.SiteKeeper.may in
    let stored = g.K.SiteKeeper.stored in
    let takes = (g.S.InputSink.takes c.args.sink.now) in
    let does = g.F.Files.does in
    let from = Texts c.args.task (map input_of c.args.inputs.items) in
    let (r, keeps) = c.in_ok-keeper.ensures.keeps in
    let start = standing r c.args.output.now (no_counts c.args.task) in
    let counts = c.no_counts-counts.ensures in
    let did = c.take_each-done.ensures.came start (record { shows = keeps.shows.shows; hears = refl; counts = sym counts; lists = refl }) in
    handed_on c.from_residual-in_err-done.result _ _ c.from_residual-in_err-done.ensures.1
    (batch_broke shown may stored takes does c.args.folder.now c.args.site.now from _ _ _ _ _ c.in_ok-sites.sites c.in-Some.number c.in_ok-keeper.keeper r c.in_ok-sites.ensures.read (sym c.find.ensures ∙ c.in-Some.is) keeps c.in_ok-keeper.ensures.opened c.take_each-done.new.run c.args.output.now c.take_each-done.new.output (c.take_each-done.ensures.lasts keeps.lasts) c.close_site.ensures _
    (texts_broke shown may takes c.in_ok-sites.sites does c.args.task (map input_of c.args.inputs.items) _ start _ _ _ (err_of _ _ c.take_each-done.result _ c.in_err-done.was did)))

pub returns-clause-all : goal.returns-clause-all
returns-clause-all g c =
    let shown = g.K.SiteKeeper.shown in
    let may = g.K.SiteKeeper.may in
    let stored = g.K.SiteKeeper.stored in
    let takes = (g.S.InputSink.takes c.args.sink.now) in
    let does = g.F.Files.does in
    let from = Texts c.args.task (map input_of c.args.inputs.items) in
    let (r, keeps) = c.in_ok-keeper.ensures.keeps in
    let start = standing r c.args.output.now (no_counts c.args.task) in
    let counts = c.no_counts-counts.ensures in
    let did = c.take_each-done.ensures.came start (record { shows = keeps.shows.shows; hears = refl; counts = sym counts; lists = refl }) in
    let (end, stands, taken) = ok_of _ _ c.take_each-done.result _ c.in_ok-done.was did in
    batch_taken shown may stored takes does c.args.folder.now c.args.site.now from _ _ _ _ _ c.in_ok-sites.sites c.in-Some.number c.in_ok-keeper.keeper r c.in_ok-sites.ensures.read (sym c.find.ensures ∙ c.in-Some.is) keeps c.in_ok-keeper.ensures.opened c.take_each-done.new.run c.args.output.now c.take_each-done.new.output (c.take_each-done.ensures.lasts keeps.lasts) c.close_site.ensures _ end stands.lists refl stands
    (texts_taken shown may takes c.in_ok-sites.sites does c.args.task (map input_of c.args.inputs.items) _ start end taken)
