use Rattle.std.proofs.Common.{◌+◌, ◌≢◌, ◌≡◌, ◌<◌, length, set, sym, subst, None, is_some, true, refl, ap, ◌∙◌, rules}
use Rattle.std.proofs.lemmas.Bool.{eqb-true}
use Rattle.wire_core.specs.Changes.{asks, receives}
use Rattle.site_threads.specs.Keepers.{shown_if}
use Rattle.site_threads.specs.Offers.{message_of}
use Rattle.site_threads.specs.Passing.{Incoming, OwesFor, TakesFrames, incoming}
use Rattle.site_threads.specs.Views.{running}
use Rattle.site_threads.proofs.Passed.{asked_runs, may_take, noted_runs, taken_delivers}
use Rattle.site_threads.proofs.Delivering.{delivers_none}
use Rattle.site_threads.proofs.Owing.{owes_none, owes_one}
use Rattle.site_threads.proofs.Rounding.{changed_rounds}
use Rattle.site_threads.proofs.Wired.{asked_one, noted_one, takes_closed, takes_in_vain, takes_itself, takes_one}
use Rattle.site_threads.proofs.sites.RunningSite.receive.Goals as goal

pub returns-then-eq-clause-frames : goal.returns-then-eq-clause-frames
returns-then-eq-clause-frames g c =
    let s = running c.self.inside in
    let b = is_some (shown_if g.K.SiteKeeper.shown s.keeper) in
    let same : s.me ≡ c.args.number = sym (eqb-true _ _ (sym c.eq.ensures ∙ c.if-eq.true)) ∙ c.in-Some.ensures.value in
    rw (← c.self.view_is, c.none.ensures) (subst (λ k. TakesFrames s.me k (k + 1) (incoming s.seat.logs) (incoming s.seat.logs) b b s.entries s.entries 0 0) same (takes_itself s.me (incoming s.seat.logs) b s.entries))

pub take-requires-clause-may : goal.take-requires-clause-may
take-requires-clause-may g c =
    let apart : c.in-Some.other ≢ c.self.inside.me = search rules in
    let there = rw (← c.self.view_is) at c.requires.there in
    may_take _ _ _ _ _ _ _ c.self.invariant.runs _ _ apart (rw c.in-Some.ensures.value there.0)

pub invariant_of-self : goal.invariant_of-self
invariant_of-self g c =
    let i = c.self.invariant in
    let h = i.runs in
    let a = c.in_default-take.ensures.answer in
    record {
      seat = c.in_default-take.ensures.seat;
      there = i.there;
      runs = asked_runs _ _ _ _ _ _ _ h c.in-Some.other _ a.0;
      rounds = changed_rounds (asks c.in-Some.other) h.log _ _ _ _ h.alone h.own.site a.0 refl i.rounds;
      out = i.out;
    }

pub invariant_of-self-2 : goal.invariant_of-self-2
invariant_of-self-2 g c =
    let i = c.self.invariant in
    let h = i.runs in
    let a = c.in-Some-take.ensures.answer in
    let f = c.in-Some-take.frame in
    record {
      seat = c.in-Some-take.ensures.seat;
      there = i.there;
      runs = noted_runs _ _ _ _ _ _ _ h c.in-Some.other f _ a.0;
      rounds = changed_rounds (receives c.in-Some.other f) h.log _ _ _ _ h.alone h.own.site a.0 refl i.rounds;
      out = i.out;
    }

pub enter-requires-clause-noted : goal.enter-requires-clause-noted
enter-requires-clause-noted g c = taken_delivers _ _ _ _ _ _ _ c.self.invariant.runs c.in-Some.other c.in-Some-take.frame _ c.in-Some-take.ensures.answer.0

pub returns-then-is_none-clause-frames : goal.returns-then-is_none-clause-frames
returns-then-is_none-clause-frames g c =
    let s = running c.self.inside in
    let shut : shown_if g.K.SiteKeeper.shown s.keeper ≡ None = search rules in
    rw (← c.self.view_is, c.none-then-is_none.ensures) (takes_closed s.me c.args.number (incoming s.seat.logs) _ s.entries (ap is_some shut))

pub returns-in_default-take-clause-frames : goal.returns-in_default-take-clause-frames
returns-in_default-take-clause-frames g c =
    let h = c.self.invariant.runs in
    let up : is_some (shown_if g.K.SiteKeeper.shown c.self.inside.keeper) ≡ true = search rules in
    let apart : c.in-Some.other ≢ c.self.inside.me = search rules in
    let one = asked_one h.log _ _ _ h.alone h.own.site c.in-Some.other c.in_default-take.ensures.answer.0 in
    rw (← c.in-Some.ensures.value, ← c.self.view_is, c.none-in_default-take.ensures) (takes_in_vain _ c.in-Some.other _ _ _ _ apart up one.0 one.1)

pub returns-clause-frames : goal.returns-clause-frames
returns-clause-frames g c =
    let h = c.self.invariant.runs in
    let a = c.in-Some-take.ensures.answer in
    let e = c.enter.ensures in
    let up : is_some (shown_if g.K.SiteKeeper.shown c.self.inside.keeper) ≡ true = search rules in
    let apart : c.in-Some.other ≢ c.self.inside.me = search rules in
    let one = noted_one h.log _ _ _ h.alone h.own.site c.in-Some.other c.in-Some-take.frame a.0 in
    rw (← c.in-Some.ensures.value, ← c.self.view_is) (takes_one _ _ _ _ _ c.in-Some-take.frame _ _ _ _ _ _ one.0 one.1 e.passes.0 a.1 a.2 apart up e.frames)

pub returns-clause-posts : goal.returns-clause-posts
returns-clause-posts g c =
    let h = c.self.invariant.runs in
    let p = c.enter.ensures.passes.1 in
    rw (← c.self.view_is) (p.0 ∙ (noted_one h.log _ _ _ h.alone h.own.site c.in-Some.other c.in-Some-take.frame c.in-Some-take.ensures.answer.0).2, p.1)

pub returns-in_default-take-clause-owed : goal.returns-in_default-take-clause-owed
returns-in_default-take-clause-owed g c =
    let h = c.self.invariant.runs in
    rw (← c.self.view_is) (owes_none _ _ c.self.inside.owed (asked_one h.log _ _ _ h.alone h.own.site c.in-Some.other c.in_default-take.ensures.answer.0).0)

pub returns-clause-owed : goal.returns-clause-owed
returns-clause-owed g c =
    let h = c.self.invariant.runs in
    let a = c.in-Some-take.ensures.answer in
    let f = c.in-Some-take.frame in
    let one = noted_one h.log _ _ _ h.alone h.own.site c.in-Some.other f a.0 in
    let s = c.self.inside in
    let there : c.number.result < length s.owed = search rules in
    let owed : c.enter.new.self.owed ≡ set s.owed c.in-Some.other (message_of f) = c.enter.ensures.owed ∙ (λ i. set s.owed (c.number.ensures.value i) (c.message_of.ensures i)) in
    rw (← c.self.view_is)
    (subst (λ o. OwesFor (incoming s.seat.logs).noted (incoming c.enter.new.self.seat.logs).noted s.owed o) (sym owed)
    (owes_one _ _ s.owed f c.in-Some.other (ap (λ (n : Incoming). n.noted) c.enter.ensures.passes.0 ∙ one.0) a.1 (subst (λ k. k < length s.owed) c.number.ensures.value there)))

pub returns-in_default-take-clause-delivered : goal.returns-in_default-take-clause-delivered
returns-in_default-take-clause-delivered g c =
    let h = c.self.invariant.runs in
    rw (← c.self.view_is)
    (delivers_none g.K.SiteKeeper.shown g.K.SiteKeeper.may g.K.SiteKeeper.applies _ _ _ _ _ _ refl (asked_one h.log _ _ _ h.alone h.own.site c.in-Some.other c.in_default-take.ensures.answer.0).0 refl)

pub returns-clause-delivered : goal.returns-clause-delivered
returns-clause-delivered g c =
    let h = c.self.invariant.runs in
    let one = noted_one h.log _ _ _ h.alone h.own.site c.in-Some.other c.in-Some-take.frame c.in-Some-take.ensures.answer.0 in
    rw (← c.self.view_is) (c.enter.ensures.delivered _ _ (ap (λ (i : Incoming). i.noted) c.enter.ensures.passes.0 ∙ one.0))

pub returns-then-eq-clause-owed : goal.returns-then-eq-clause-owed
returns-then-eq-clause-owed g c = owes_none _ _ c.args.self.now.owed refl

pub returns-then-is_none-clause-owed : goal.returns-then-is_none-clause-owed
returns-then-is_none-clause-owed g c = owes_none _ _ c.args.self.now.owed refl
