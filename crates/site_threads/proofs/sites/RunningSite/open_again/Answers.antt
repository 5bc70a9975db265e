use Rattle.std.proofs.Common.{◌≡◌, ◌-◌, length, Some, None, refl, sym, ap, ◌∙◌, subst, rules}
use Rattle.std.specs.Prelude.{slice_get}
use Rattle.keeper_core.specs.Keeping.{StaysClosed}
use Rattle.site_threads.specs.Keepers.{shown_if, may_if}
use Rattle.site_core.specs.Records.{Record}
use Rattle.site_core.specs.declared.inputs.SiteInput.{SiteInput}
use Rattle.site_threads.specs.Running.{Follows, MarksChange, MayFollow}
use Rattle.site_threads.specs.Stamps.{stamp}
use Rattle.site_threads.proofs.Rounding.{followed_rounds}
use Rattle.site_threads.proofs.Wired.{follows_pass}
use Rattle.site_threads.proofs.Steps.{opened_follows, opened_runs, unopened_runs}
use Rattle.site_threads.proofs.sites.RunningSite.open_again.Goals as goal

pub follow-self-inside-requires-clause-may : goal.follow-self-inside-requires-clause-may
follow-self-inside-requires-clause-may g c =
    let s = c.self.inside in
    let closed : shown_if g.K.SiteKeeper.shown s.keeper ≡ None = search rules in
    let here : g.K.SiteKeeper.shown c.in-Some.keeper ≡ None = ap (shown_if g.K.SiteKeeper.shown) c.in-Some.ensures.value ∙ closed in
    let m = c.in-Ok.ensures.opened here in
    let same : c.in-Some-view.record.now ≡ m.0 = search rules in
    let kept = subst (λ k. may_if g.K.SiteKeeper.may k c.in-Some-view.record.now) c.in-Some.ensures.value (subst (g.K.SiteKeeper.may c.in-Some.keeper) (sym same) m.1) in
    let at : Some c.in-Some-last.entry.now ≡ slice_get s.entries.items (length s.entries.items - 1) = search rules in
    subst (λ i. MayFollow s.seat.logs s.stamp i c.in-Some-view.record.now) (sym c.input.ensures)
    (opened_follows _ _ _ _ _ _ _ c.self.invariant.runs c.in-Some-last.entry.now c.in-Some-view.record.now closed (rw (← c.self.view_is) at c.requires.few) at kept)

pub invariant_of-self : goal.invariant_of-self
invariant_of-self g c =
    let s = c.self.inside in
    let closed : shown_if g.K.SiteKeeper.shown s.keeper ≡ None = search rules in
    let keeper = c.in-Err.unopened.keeper in
    record {
      seat = c.self.invariant.seat;
      there = refl;
      runs = unopened_runs _ _ _ _ _ _ _ c.self.invariant.runs _ _ closed (subst (λ k. StaysClosed (may_if g.K.SiteKeeper.may k) (g.K.SiteKeeper.shown keeper) (g.K.SiteKeeper.may keeper)) c.in-Some.ensures.value c.in-Err.ensures.unopened.1);
      rounds = c.self.invariant.rounds;
      out = c.self.invariant.out;
    }

pub invariant_of-self-in-Ok : goal.invariant_of-self-in-Ok
invariant_of-self-in-Ok g c =
    let s = c.self.inside in
    let closed : shown_if g.K.SiteKeeper.shown s.keeper ≡ None = search rules in
    let here : g.K.SiteKeeper.shown c.in-Some.keeper ≡ None = ap (shown_if g.K.SiteKeeper.shown) c.in-Some.ensures.value ∙ closed in
    let m = c.in-Ok.ensures.opened here in
    let same : c.in-Some-view.record.now ≡ m.0 = search rules in
    let kept = subst (λ k. may_if g.K.SiteKeeper.may k m.0) c.in-Some.ensures.value m.1 in
    let f = c.follow-self-inside.ensures in
    let entry = c.in-Some-last.entry.now in
    let at : Some entry ≡ slice_get s.entries.items (length s.entries.items - 1) = search rules in
    record {
      seat = f.seat;
      there = refl;
      runs = opened_runs _ _ _ _ _ _ _ c.self.invariant.runs _ _ entry m.0 _ _ closed m.2 at kept (subst (λ r. Follows s.seat.logs r c.follow-self-inside.new.seat.logs) same f.follows)
          (subst (λ (y : SiteInput × Record). MarksChange s.seat.logs y.0 y.1 c.follow-self-inside.new.seat.logs) (λ i. (c.input.ensures i, same i)) f.marks) (f.stamped ∙ ap stamp same);
      rounds = followed_rounds s.seat.logs c.follow-self-inside.new.seat.logs s.stamp entry.input c.in-Some-view.record.now s.rounds
          (opened_follows _ _ _ _ _ _ _ c.self.invariant.runs entry c.in-Some-view.record.now closed (rw (← c.self.view_is) at c.requires.few) at (subst (may_if g.K.SiteKeeper.may s.keeper) (sym same) kept))
          f.follows c.self.invariant.rounds;
      out = c.self.invariant.out;
    }

pub returns-in-Some-last-clause-passes : goal.returns-in-Some-last-clause-passes
returns-in-Some-last-clause-passes g c = let h = c.self.invariant.runs in let p = follows_pass h.log c.self.inside.seat.logs c.follow-self-inside.new.seat.logs c.in-Some-view.record.now h.alone c.follow-self-inside.ensures.follows in rw (← c.self.view_is) (p.0, (p.1, refl))

pub returns-in-Err-clause-closed : goal.returns-in-Err-clause-closed
returns-in-Err-clause-closed g c =
    let closed : shown_if g.K.SiteKeeper.shown c.self.inside.keeper ≡ None = search rules in
    let here : g.K.SiteKeeper.shown c.in-Some.keeper ≡ None = ap (shown_if g.K.SiteKeeper.shown) c.in-Some.ensures.value ∙ closed in
    let e = c.in-Err.ensures in
    rw (← c.self.view_is) (e.unopened.0, record { was = c.in-Some.keeper; left = c.in-Err.unopened; old_is = sym c.in-Some.ensures.value; closed = here; refused = e.kind; fault_is = refl; new_is = refl; stays = e.unopened.1.0 })
