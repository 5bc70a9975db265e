use Rattle.std.proofs.Common.{◌≡◌, ◌+◌, ℕ, [], ◌∷◌, ◌++◌, length, length-append, refl, sym, ap, ◌∙◌, subst, arith}
use Rattle.site_folders.specs.Keepers.{KeepFrom, KeepsSite, opens_from, opens_site}
use Rattle.site_folders.specs.FileCalls.{Calls}
use Rattle.site_folders.proofs.CallsInTurn.{call_more, calls_then, handed_on, keep_more, opens_more}
use Rattle.site_folders.proofs.VainLemmas.{asks_first, asks_then, none_asks, opens_ask, opens_behind, opens_out}
use Rattle.site_folders.proofs.folders.open_all.Goals as goal

pub loop-number-preserved : goal.loop-number-preserved
loop-number-preserved g c =
    let does = g.F.Files.does in
    let stored = g.K.SiteKeeper.stored in
    let shown = g.K.SiteKeeper.shown in
    let folder = c.args.folder.now in
    let sites = c.args.sites.now in
    let old = c.args.files.now in
    let mid = c.loop-number.files in
    let new = c.open_site.new.files in
    let (led, (rs, keep), count, few) = c.loop-number.invariant in
    let keepers = c.loop-number.keepers.items in
    let keeper = c.in_ok-open_site.field-0 in
    let (r, one) = c.in_ok-open_site.ensures.keeps in
    let place : c.in-Some.site ≡ 0 + length keepers = let none : length keepers ≡ 0 + length keepers = omega arith in c.in-Some.ensures.value ∙ sym count ∙ none in
    let call = subst (λ (n : ℕ). does mid (opens_site folder sites n keeper) new) place c.in_ok-open_site.ensures.opened in
    let calls = subst (λ cs. Calls does old cs new) (sym (opens_more folder sites 0 keepers keeper))
    (call_more does old mid new (opens_from folder sites 0 keepers) (opens_site folder sites (0 + length keepers) keeper) led call) in
    let all = keep_more shown stored sites 0 keepers rs keeper r keep (subst (λ (n : ℕ). KeepsSite shown stored sites n keeper r) place one) in
    let items : c.push.new.self.items ≡ keepers ++ keeper ∷ [] = c.in_ok-push.ensures.items in (
      subst (λ ks. Calls does old (opens_from folder sites 0 ks) new) (sym items) calls,
      (rs ++ r ∷ [], subst (λ ks. KeepFrom shown stored sites 0 ks (rs ++ r ∷ [])) (sym items) all),
      ap length items ∙ length-append keepers (keeper ∷ []) ∙ ap (λ (n : ℕ). n + 1) count,
      omega (arith, c.loop-number-test.true),
    )

pub returns-in_err-open_site-clause-failed : goal.returns-in_err-open_site-clause-failed
returns-in_err-open_site-clause-failed g c =
    let folder = c.args.folder.now in
    let sites = c.args.sites.now in
    let opens = opens_from folder sites 0 c.loop-number.keepers.items in
    let more = c.in_err-open_site.ensures.failed in
    handed_on c.from_residual.result _ _ c.from_residual.ensures.1
    (record {
      calls = opens ++ more.calls;
      are = opens_behind g.K.SiteKeeper.shown folder sites _ opens more.calls (opens_ask folder sites 0 c.loop-number.keepers.items) more.are;
      led = calls_then g.F.Files.does _ _ _ opens more.calls c.loop-number.invariant.0 more.led;
    })

pub returns-in_err-push-clause-failed : goal.returns-in_err-push-clause-failed
returns-in_err-push-clause-failed g c =
    let folder = c.args.folder.now in
    let sites = c.args.sites.now in
    let opens = opens_from folder sites 0 c.loop-number.keepers.items in
    let one = opens_site folder sites c.in-Some.site c.in_ok-open_site.field-0 in
    handed_on c.from_residual-in_err-push.result _ _ c.from_residual-in_err-push.ensures.1
    (record {
      calls = opens ++ one ∷ [];
      are = opens_out g.K.SiteKeeper.shown folder sites _ (opens ++ one ∷ []) refl (asks_then opens (one ∷ []) (opens_ask folder sites 0 c.loop-number.keepers.items) (asks_first one [] tt none_asks));
      led = call_more g.F.Files.does _ _ _ opens one c.loop-number.invariant.0 c.in_ok-open_site.ensures.opened;
    })
