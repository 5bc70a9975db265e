use Rattle.std.proofs.Common.{◌≡◌, ◌∙◌, Option, Some, sym, subst, arith}
use Rattle.std.specs.Prelude.{IsTrue}
use Rattle.site_core.specs.Records.{Record}
use Rattle.site_threads.specs.declared.desks.DeskOut.{DeskOut}
use Rattle.site_threads.specs.declared.jobs.Job.{Job}
use Rattle.site_threads.specs.Keepers.{shown_if}
use Rattle.site_threads.specs.Resting.{IsDone}
use Rattle.site_threads.proofs.Continuing.{fits_still, out_stays}
use Rattle.site_threads.proofs.Refusing.{lost_hinders}
use Rattle.site_threads.proofs.sites.RunningSite.end.Goals as goal

-- a site that is done stays so while its keeper shows the same record
still_done : {K : Type 0} (shown : K → Option Record) (old new : Option K) (out out' : DeskOut) (pending pending' : Option Job) → ((r : Record) → shown_if shown old ≡ Some r → shown_if shown new ≡ Some r) → out' ≡ out → pending' ≡ pending → IsDone shown old out pending → IsDone shown new out' pending'
still_done shown old new out out' pending pending' stays same none done = record {
  gone = subst (λ (d : DeskOut). IsTrue d.gone) (sym same) done.gone;
  none = none ∙ done.none;
  record_is = done.record_is;
  stands = stays done.record_is done.stands;
  rests = done.rests;
}

pub returns-in_default-clause-same : goal.returns-in_default-clause-same
returns-in_default-clause-same g c =
    let o = c.open_again.ensures in
    let s = o.same in
    rw (← c.self.view_is)
    (record {
      wire = s.wire;
      me = s.me;
      start = s.start;
      first = s.first;
      desk = out_stays _ _ s.out;
      fits = fits_still _ _ s.me o.entries s.pending s.out;
      keeps = s.keeps;
    })

pub returns-in-Err-clause-same : goal.returns-in-Err-clause-same
returns-in-Err-clause-same g c =
    let o = rw (← c.self-2.view_is) at c.open_again.ensures in
    let s = o.same in
    rw (← c.self.view_is)
    (record {
      wire = s.wire;
      me = s.me;
      start = s.start;
      first = s.first;
      desk = out_stays _ _ s.out;
      fits = fits_still _ _ s.me o.entries s.pending s.out;
      keeps = s.keeps;
    })

pub returns-in-Err-clause-why : goal.returns-in-Err-clause-why
returns-in-Err-clause-why g c =
    let s = c.self.inside in
    let closed = rw (← c.self-2.view_is) at c.in-Err.ensures.closed in
    rw c.replace.ensures.after
    (record {
      gate = s.gate;
      turn = s.turns;
      before = s.keeper;
      asked = let same = rw (← c.self-2.view_is) at c.open_again.ensures.same.turns in omega (arith, same);
      hinders = rw c.lost.ensures (lost_hinders _ _ _ _ _ _ _ _ c.in-Err.fault closed.0 closed.1);
    })

pub returns-in_default-clause-done : goal.returns-in_default-clause-done
returns-in_default-clause-done g c done =
    let s = c.open_again.ensures.same in
    still_done g.K.SiteKeeper.shown _ _ _ _ _ _ c.open_again.ensures.stays s.out s.pending (rw (← c.self.view_is) at done)
