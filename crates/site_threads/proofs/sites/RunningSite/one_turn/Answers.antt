use Rattle.std.proofs.Common.{◌∙◌, ◌++◌, ap, sym, append-nil}
use Rattle.site_threads.specs.declared.desks.DeskOut.{DeskOut}
use Rattle.site_threads.specs.Ends.{takes, tells}
use Rattle.site_threads.specs.Jobs.{jobs_in, option_items, receipts_in}
use Rattle.site_threads.specs.Views.{running}
use Rattle.site_threads.proofs.Continuing.{out_on, out_stays}
use Rattle.site_threads.proofs.Telling.{told_one}
use Rattle.site_threads.proofs.sites.RunningSite.one_turn.Goals as goal

pub returns-in-Some-clause-same : goal.returns-in-Some-clause-same
returns-in-Some-clause-same g c =
    let old = running c.self.inside in
    let mid = running c.self-2.inside in
    let t = rw (← c.self-2.view_is) at c.turn.ensures.same in
    let done = rw (← c.self-2.view_is) at c.in-Ok.ensures in
    let next = c.next_job-job.ensures in
    let before = jobs_in old.entries in
    let after = jobs_in mid.entries in
    rw (← c.self.view_is)
    (record {
      wire = t.wire;
      me = t.me;
      start = t.start;
      first = t.first;
      desk = out_on _ _ _ next.out.1 (out_on _ _ _ (out_stays _ _ t.out) c.tell.ensures.out.1);
      fits = λ h. record {
        jobs = ap (λ p. after ++ option_items p) (t.pending ∙ c.take.ensures.after) ∙ append-nil after ∙ done.jobs ∙ next.job before (ap (λ p. before ++ option_items p) c.take.ensures.value ∙ h.jobs) ∙ ap takes (sym t.out) ∙ sym c.tell.ensures.taken.0;
        told = told_one old.out mid.out c.tell.new.self c.in-Some.receipt old.me mid.me old.entries mid.entries (ap tells t.out ∙ next.told.0) (ap (λ (o : DeskOut). o.dropped) t.out ∙ next.told.1) t.me
            (done.receipts ∙ ap (λ r. receipts_in old.me old.entries ++ option_items r) c.in-Some.is) c.tell.ensures.told h.told;
      };
      keeps = t.keeps;
    })
