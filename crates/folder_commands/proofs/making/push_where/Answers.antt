use Rattle.std.proofs.Common.{[], ◌∷◌, refl}
use Rattle.site_folders.specs.FileCalls.{Failed, LookedFor}
use Rattle.site_folders.proofs.CallsInTurn.{handed_on}
use Rattle.site_folders.proofs.VainLemmas.{asks_first, call_failed, none_asks}
use Rattle.folder_commands.proofs.MakingLemmas.{out_then}
use Rattle.folder_commands.proofs.making.push_where.Goals as goal

pub returns-in_err-exists-clause-failed : goal.returns-in_err-exists-clause-failed
returns-in_err-exists-clause-failed g c = λ of.
    handed_on c.from_residual.result _ _ c.from_residual.ensures.1
    (record { calls = Failed c.args.path.now _ ∷ []; are = call_failed g.K.SiteKeeper.shown of c.args.path.now _; led = (c.exists.new.self, c.in_err-exists.ensures.failed, refl) })

pub returns-in_err-name-clause-failed : goal.returns-in_err-name-clause-failed
returns-in_err-name-clause-failed g c = λ of.
    let look = LookedFor c.args.path.now c.in_ok-exists.field-0 in
    handed_on c.from_residual-in_err-name.result _ _ c.from_residual-in_err-name.ensures.1
    (out_then g.F.Files.does of g.K.SiteKeeper.shown _ _ (look ∷ []) (asks_first look [] tt none_asks) (c.exists.new.self, c.in_ok-exists.ensures.looked, refl))

pub returns-in_err-push-clause-failed : goal.returns-in_err-push-clause-failed
returns-in_err-push-clause-failed g c = λ of.
    let look = LookedFor c.args.path.now c.in_ok-exists.field-0 in
    handed_on c.from_residual-in_err-push.result _ _ c.from_residual-in_err-push.ensures.1
    (out_then g.F.Files.does of g.K.SiteKeeper.shown _ _ (look ∷ []) (asks_first look [] tt none_asks) (c.exists.new.self, c.in_ok-exists.ensures.looked, refl))
