use Rattle.std.proofs.Common.{ap, ◌∙◌}
use Rattle.site_threads.specs.Passing.{Incoming}
use Rattle.site_threads.proofs.Passed.{other_entries, jobs_done}
use Rattle.site_threads.proofs.Wired.{turn_takes}
use Rattle.site_threads.proofs.Delivering.{turn_answers}
use Rattle.site_threads.proofs.Posting.{same_places, turn_posts}
use Rattle.site_threads.proofs.Telling.{receipts_done}
use Rattle.site_threads.proofs.sites.RunningSite.turn.Goals as goal

pub invariant_of-self : goal.invariant_of-self
invariant_of-self g c = let i = c.self.invariant in record { seat = i.seat; there = i.there; runs = other_entries _ _ _ _ _ _ _ i.runs _ c.reserve.ensures.items; rounds = i.rounds; out = i.out }

pub invariant_of-self-in-Ok : goal.invariant_of-self-in-Ok
invariant_of-self-in-Ok g c = let i = c.self.invariant in record { seat = i.seat; there = i.there; runs = other_entries _ _ _ _ _ _ _ i.runs _ c.reserve.ensures.items; rounds = i.rounds; out = i.out }

pub invariant_of-self-in-Err-of : goal.invariant_of-self-in-Err-of
invariant_of-self-in-Err-of g c = let i = c.self.invariant in record { seat = i.seat; there = i.there; runs = other_entries _ _ _ _ _ _ _ i.runs _ c.reserve.ensures.items; rounds = i.rounds; out = i.out }

pub returns-in-Ok-clause-jobs : goal.returns-in-Ok-clause-jobs
returns-in-Ok-clause-jobs g c =
    let b = rw (← c.self.view_is) at c.begin.ensures in
    jobs_done _ _ _ _ _ _ _ c.go_on.result _ _ _ _ _ (c.reserve.ensures.items ∙ b.entries) c.in-Ok.ensures.ok c.go_on.ensures.job c.go_on.ensures.entered

pub returns-in-Ok-clause-receipts : goal.returns-in-Ok-clause-receipts
returns-in-Ok-clause-receipts g c =
    let b = rw (← c.self.view_is) at c.begin.ensures in
    receipts_done _ _ _ _ _ _ _ _ c.go_on.result _ _ _ (c.reserve.ensures.items ∙ b.entries) b.same.me c.go_on.ensures.job c.go_on.ensures.entered

pub returns-in-Ok-clause-entered : goal.returns-in-Ok-clause-entered
returns-in-Ok-clause-entered g c =
    let b = rw (← c.self.view_is) at c.begin.ensures in
    rw (← b.same.wire) (turn_takes c.go_on.result _ _ _ _ _ _ _ _ _ _ b.same.me b.passes.0 (c.reserve.ensures.items ∙ b.entries) c.go_on.ensures.entered)

pub returns-in-Ok-clause-sent : goal.returns-in-Ok-clause-sent
returns-in-Ok-clause-sent g c =
    let b = rw (← c.self.view_is) at c.begin.ensures in
    rw (← b.same.wire) (turn_posts c.go_on.result _ _ _ _ _ _ _ _ _ _ _ _ _ b.same.me (ap (λ (n : Incoming). n.noted) b.passes.0) b.passes.1.0 (same_places _ _ b.passes.1.1) c.go_on.ensures.sent)

pub returns-in-Ok-clause-answers : goal.returns-in-Ok-clause-answers
returns-in-Ok-clause-answers g c =
    let K = g.K.SiteKeeper in
    let b = rw (← c.self.view_is) at c.begin.ensures in
    let opened = rw (← c.self.view_is) at c.in_default.ensures.opened in
    turn_answers K.shown K.may K.applies K.reopens c.go_on.result _ _ _ _ _ _ _ _ _ opened (ap (λ (n : Incoming). n.noted) b.passes.0) (c.reserve.ensures.items ∙ b.entries) c.go_on.ensures.answers
