use Rattle.std.proofs.Common.{◌∙◌, ◌++◌, ap, refl, sym}
use Rattle.site_threads.specs.Passing.{Incoming, owed_in}
use Rattle.site_threads.specs.Offers.{owed_by}
use Rattle.site_threads.specs.Keepers.{shown_if}
use Rattle.std.specs.Prelude.{is_some}
use Rattle.site_threads.proofs.Wired.{takes_as}
use Rattle.site_threads.proofs.Delivering.{delivers_as}
use Rattle.site_threads.proofs.Posting.{posts_as, same_owed, same_places}
use Rattle.site_threads.proofs.sites.RunningSite.go_on.Goals as goal

pub returns-in-Ok-clause-entered : goal.returns-in-Ok-clause-entered
returns-in-Ok-clause-entered g c =
    let shown = g.K.SiteKeeper.shown in
    let sent = c.send_all-given.ensures in
    let job = c.do_job.ensures in
    rw (← job.same.wire)
    (takes_as _ _ _ _ _ _ _ _ _ _ _ _ _ _ _ _ _ _ job.same.me job.passes.0 (sym sent.takes.0) c.in-Ok.ensures.stopped (sym (ap (λ k. is_some (shown_if shown k)) sent.takes.2)) c.in-Ok.ensures.entered (sym sent.takes.1) c.receive_all-received.ensures.frames)

pub returns-in-Ok-clause-sent : goal.returns-in-Ok-clause-sent
returns-in-Ok-clause-sent g c took is =
    let job = c.do_job.ensures in
    let taken = c.receive_all-received.ensures in
    let sent = c.send_all-given.ensures in
    let came = sym (ap (λ (n : Incoming). n.noted) sent.takes.0) ∙ is ∙ ap (λ (n : Incoming). n.noted ++ took) (sym job.passes.0) in
    rw (← (taken.same.wire ∙ job.same.wire))
    (posts_as _ _ _ _ _ _ _ _ _ _ _ _ _ _ _ _ (taken.same.me ∙ job.same.me) refl (same_owed (owed_in c.receive_all-received.new.self) (owed_by took) (taken.owed took came)) (taken.posts.0 ∙ job.passes.1.0) (same_places _ _ (taken.posts.1 ∙ job.passes.1.1)) sent.posted)

pub returns-in-Ok-clause-answers : goal.returns-in-Ok-clause-answers
returns-in-Ok-clause-answers g c =
    let K = g.K.SiteKeeper in
    let job = c.do_job.ensures in
    let sent = c.send_all-given.ensures in (
      c.do_job.new.self.keeper,
      c.in-Ok.ensures.told,
      delivers_as K.shown K.may K.applies _ _ _ _ _ _ _ _ _ _ _ _ refl (sym sent.takes.2) (ap (λ (n : Incoming). n.noted) job.passes.0) (sym (ap (λ (n : Incoming). n.noted) sent.takes.0)) c.in-Ok.ensures.entered (sym sent.takes.1) c.receive_all-received.ensures.delivered,
    )
