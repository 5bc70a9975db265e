use Rattle.std.proofs.Common.{◌≡◌, ◌+◌, ◌∷◌, ◌++◌, [], Some, refl, sym, ap, ◌∙◌, subst, arith, rules}
use Rattle.std.specs.Prelude.{IfSome, vec_len}
use Rattle.keeper_core.specs.Keeping.{Applies}
use Rattle.site_threads.specs.Inputs.{is_delivery}
use Rattle.site_threads.specs.Jobs.{reply_to}
use Rattle.site_threads.specs.Keepers.{shown_if, may_if}
use Rattle.site_threads.specs.Running.{MarksChange, MayDeliver, MayFollow}
use Rattle.site_threads.proofs.Answered.{told_so, stays_open}
use Rattle.site_threads.proofs.Delivering.{is_short}
use Rattle.site_threads.proofs.Rounding.{may_follow_rounds}
use Rattle.site_threads.proofs.Wired.{may_follow_pass}
use Rattle.site_threads.proofs.Taking.{no_memory, may_follow, took_in}
use Rattle.site_threads.proofs.sites.RunningSite.take_in.Goals as goal

pub invariant_of-self : goal.invariant_of-self
invariant_of-self g c = record {
  seat = c.self.invariant.seat;
  there = c.apply_to.ensures.there;
  runs = (no_memory _ _ _ _ _ _ _ c.self.invariant.runs (rw (← c.self.view_is) at c.requires.open) c.args.input c.apply_to.result c.is_delivery-frame.result _ _ c.apply_to.ensures.step (sym c.in_default.is ∙ c.answered.ensures)).0;
  rounds = c.self.invariant.rounds;
  out = c.self.invariant.out;
}

pub returns-in_default-clause-back : goal.returns-in_default-clause-back
returns-in_default-clause-back g c =
    rw (← c.self.view_is) (refl, refl, (no_memory _ _ _ _ _ _ _ c.self.invariant.runs (rw (← c.self.view_is) at c.requires.open) c.args.input c.apply_to.result c.is_delivery-frame.result _ (may_if g.K.SiteKeeper.may c.apply_to.new.keeper) c.apply_to.ensures.step (sym c.in_default.is ∙ c.answered.ensures)).1)

pub follow_shown-self-inside-requires-clause-may : goal.follow_shown-self-inside-requires-clause-may
follow_shown-self-inside-requires-clause-may g c =
    let same = sym c.requires.asked in
    subst (λ i. IfSome (shown_if g.K.SiteKeeper.shown c.apply_to.new.keeper) (MayFollow c.self.inside.seat.logs c.self.inside.stamp i)) (sym c.input.ensures)
    (may_follow _ _ _ _ _ _ _ c.self.invariant.runs (rw (← c.self.view_is) at c.requires.open) c.args.asked c.apply_to.result c.is_delivery-frame.result _ (may_if g.K.SiteKeeper.may c.apply_to.new.keeper)
    (λ old is. subst (λ i. Applies old i c.apply_to.result (shown_if g.K.SiteKeeper.shown c.apply_to.new.keeper) (may_if g.K.SiteKeeper.may c.apply_to.new.keeper)) same (c.apply_to.ensures.step old is)) (rw (← c.self.view_is) at c.requires.few)
    (subst (λ i. MayDeliver i c.self.inside.seat.logs) same (rw (← c.self.view_is) at c.requires.noted)))

pub invariant_of-self-2 : goal.invariant_of-self-2
invariant_of-self-2 g c =
    let same = sym c.requires.asked in
    let p = c.in-Some.reply in
    let e : Some p ≡ reply_to c.is_delivery-frame.result c.apply_to.result = sym c.in-Some.is ∙ c.answered.ensures in
    let items : c.push.new.self.items ≡ c.self.inside.entries.items ++ (record { number = vec_len c.self.inside.entries + 1; input = c.args.asked; reply = p }) ∷ [] = search rules in
    record {
      seat = c.follow_shown-self-inside.ensures.seat;
      there = c.apply_to.ensures.there;
      runs = took_in _ _ _ _ _ _ _ c.self.invariant.runs (rw (← c.self.view_is) at c.requires.open) c.args.asked c.apply_to.result c.is_delivery-frame.result _ (may_if g.K.SiteKeeper.may c.apply_to.new.keeper)
          (λ old is. subst (λ i. Applies old i c.apply_to.result (shown_if g.K.SiteKeeper.shown c.apply_to.new.keeper) (may_if g.K.SiteKeeper.may c.apply_to.new.keeper)) same (c.apply_to.ensures.step old is))
          p _ _ _ _ (c.is_delivery-frame.ensures ∙ ap is_delivery same) e (subst (λ i. MayDeliver i c.self.inside.seat.logs) same (rw (← c.self.view_is) at c.requires.noted)) c.follow_shown-self-inside.ensures.follows
          (subst (λ i. IfSome (shown_if g.K.SiteKeeper.shown c.apply_to.new.keeper) (λ r. MarksChange c.self.inside.seat.logs i r c.follow_shown-self-inside.new.seat.logs)) c.input.ensures c.follow_shown-self-inside.ensures.marks)
          (let l = c.self.inside.entries.ok.0 in omega arith) items;
      rounds = may_follow_rounds _ c.self.inside.seat.logs c.follow_shown-self-inside.new.seat.logs _ _ c.args.asked c.self.inside.rounds
          (may_follow _ _ _ _ _ _ _ c.self.invariant.runs (rw (← c.self.view_is) at c.requires.open) c.args.asked c.apply_to.result c.is_delivery-frame.result _ (may_if g.K.SiteKeeper.may c.apply_to.new.keeper)
          (λ old is. subst (λ i. Applies old i c.apply_to.result (shown_if g.K.SiteKeeper.shown c.apply_to.new.keeper) (may_if g.K.SiteKeeper.may c.apply_to.new.keeper)) same (c.apply_to.ensures.step old is)) (rw (← c.self.view_is) at c.requires.few)
          (subst (λ i. MayDeliver i c.self.inside.seat.logs) same (rw (← c.self.view_is) at c.requires.noted)))
          c.follow_shown-self-inside.ensures.follows c.self.invariant.rounds;
      out = c.self.invariant.out;
    }

pub returns-clause-told : goal.returns-clause-told
returns-clause-told g c =
    rw (← c.self.view_is)
    (told_so g.K.SiteKeeper.shown g.K.SiteKeeper.may g.K.SiteKeeper.applies c.self.inside.keeper c.apply_to.new.keeper c.args.input c.apply_to.result c.is_delivery-frame.result c.in-Some.reply (rw (← c.self.view_is) at c.requires.open) c.apply_to.ensures.asked c.apply_to.ensures.step
    c.is_delivery-frame.ensures (sym c.in-Some.is ∙ c.answered.ensures))

pub returns-clause-stopped : goal.returns-clause-stopped
returns-clause-stopped g c =
    stays_open (shown_if g.K.SiteKeeper.shown c.self.inside.keeper) _ (may_if g.K.SiteKeeper.may c.apply_to.new.keeper) c.args.input c.apply_to.result c.is_delivery-frame.result c.in-Some.reply (rw (← c.self.view_is) at c.requires.open) c.apply_to.ensures.step (sym c.in-Some.is ∙ c.answered.ensures)

pub returns-clause-passes : goal.returns-clause-passes
returns-clause-passes g c = let h = c.self.invariant.runs in let p = may_follow_pass _ h.log c.self.inside.seat.logs c.follow_shown-self-inside.new.seat.logs _ _ h.alone c.follow_shown-self-inside.ensures.follows in rw (← c.self.view_is) (p.0, (p.1, refl))

pub returns-in_default-clause-short : goal.returns-in_default-clause-short
returns-in_default-clause-short g c =
    rw (← c.self.view_is)
    (is_short g.K.SiteKeeper.shown g.K.SiteKeeper.may g.K.SiteKeeper.applies c.self.inside.keeper c.apply_to.new.keeper c.args.input c.apply_to.result c.is_delivery-frame.result (rw (← c.self.view_is) at c.requires.open) c.apply_to.ensures.asked c.apply_to.ensures.memory (sym c.in_default.is ∙ c.answered.ensures))
