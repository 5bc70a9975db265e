use Rattle.std.proofs.Common.{◌≡◌, ◌+◌, length, [], ◌∷◌, ◌++◌, is_some, sym, subst}
use Rattle.std.specs.Prelude.{IfOk, cond, is_ok}
use Rattle.site_threads.specs.Keepers.{shown_if}
use Rattle.site_threads.specs.Passing.{EntersFrames}
use Rattle.site_threads.proofs.Delivering.{delivers_one, same_back}
use Rattle.site_threads.proofs.Wired.{enters_one, kept_back}
use Rattle.site_threads.proofs.sites.RunningSite.enter.Goals as goal

pub returns-clause-frames : goal.returns-clause-frames
returns-clause-frames g c =
    let t = c.take_in-taken in
    let shown = g.K.SiteKeeper.shown in
    let old = c.args.self.now.entries in
    let now = is_some (shown_if shown t.new.self.keeper) in
    let entered = subst (λ i. IfOk t.result (λ p. t.new.self.entries ≡ old ++ (record { number = length old + 1; input = i; reply = p }) ∷ [])) c.of-asked.ensures t.ensures.entered in
    let Enters = EntersFrames (is_some (shown_if shown c.args.self.now.keeper)) now (c.args.frame ∷ []) old t.new.self.entries in
    subst (λ n. Enters n c.count_entered.result.lost) (sym c.count_entered.ensures.entered)
    (subst (λ n. Enters (cond (is_ok t.result) 1 0) n) (sym c.count_entered.ensures.lost)
    (enters_one old t.new.self.entries (is_some (shown_if shown c.args.self.now.keeper)) (is_some (shown_if shown t.new.self.keeper)) c.requires.open _ c.args.frame t.result entered t.ensures.stopped (kept_back _ _ _ _ _ t.result t.ensures.back)))

pub returns-clause-delivered : goal.returns-clause-delivered
returns-clause-delivered g c noted came is =
    let t = c.take_in-taken in
    let K = g.K.SiteKeeper in
    let old = c.args.self.now in
    let entered = subst (λ i. IfOk t.result (λ p. t.new.self.entries ≡ old.entries ++ (record { number = length old.entries + 1; input = i; reply = p }) ∷ [])) c.of-asked.ensures t.ensures.entered in
    delivers_one K.shown K.may K.applies _ c.args.frame old.keeper t.new.self.keeper noted came old.entries t.new.self.entries is t.result entered t.ensures.told (same_back _ _ _ _ t.result t.ensures.back) t.ensures.short
