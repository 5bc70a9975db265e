-- The same site of the same run, one call after another.
use Rattle.std.proofs.Common.{◌≡◌, ℕ, ◌+◌, ◌≤◌, List, ◌++◌, Option, refl, sym, ap, ◌∙◌, subst, arith}
use Rattle.crossbeam_channel.specs.Ends.{receives_on, sends_on}
use Rattle.site_threads.specs.declared.desks.DeskOut.{DeskOut}
use Rattle.site_threads.specs.declared.jobs.Entry.{Entry}
use Rattle.site_threads.specs.declared.jobs.Job.{Job}
use Rattle.site_threads.specs.Ends.{takes, HasTold, SameOut}
use Rattle.site_threads.specs.Jobs.{jobs_in, option_items, receipts_in}
use Rattle.site_threads.specs.Runs.{FitsDesk, SameRun}
use Rattle.site_threads.specs.Sites.{Continues, Running}

-- the same end of a desk

pub out_on : (one two three : DeskOut) → SameOut one two → SameOut two three → SameOut one three
out_on one two three a b = record { jobs = b.jobs ∙ a.jobs; receipts = b.receipts ∙ a.receipts; limit = b.limit ∙ a.limit }

pub out_stays : (old new : DeskOut) → new ≡ old → SameOut old new
out_stays old new is = record { jobs = ap (λ (d : DeskOut). receives_on d.from) is; receipts = ap (λ (d : DeskOut). sends_on d.receipts) is; limit = ap (λ (d : DeskOut). d.limit) is }

-- a site fits its desk still, where neither changed
pub fits_still : {K G : Type 0} (old new : Running K G) → new.me ≡ old.me → new.entries ≡ old.entries → new.pending ≡ old.pending → new.out ≡ old.out → FitsDesk old → FitsDesk new
fits_still old new me entries pending out h = record {
  jobs = subst (λ (y : List Entry × (Option Job × DeskOut)). jobs_in y.0 ++ option_items y.1.0 ≡ takes y.1.1) (λ i. (sym entries i, (sym pending i, sym out i))) h.jobs;
  told = subst (λ (y : DeskOut × (ℕ × List Entry)). HasTold y.0 (receipts_in y.1.0 y.1.1)) (λ i. (sym out i, (sym me i, sym entries i))) h.told;
}

module _ {K G : Type 0} (stored : K → Type 0) where
  pub continues_none : (s : Running K G) → Continues stored 0 s s
  continues_none s = record { wire = refl; me = refl; start = refl; first = refl; marks = omega arith; room = omega arith; keeps = λ h. h; turns = refl; out = refl; pending = refl; fault = refl; ended = refl }

  pub continues_on : (m n k : ℕ) (one two three : Running K G) → m + n ≤ k → Continues stored m one two → Continues stored n two three → Continues stored k one three
  continues_on m n k one two three few a b = record {
    wire = b.wire ∙ a.wire;
    me = b.me ∙ a.me;
    start = b.start ∙ a.start;
    first = b.first ∙ a.first;
    marks = let was = a.marks in let now = b.marks in omega (arith, few, was, now);
    room = let was = a.room in let now = b.room in omega (arith, few, was, now);
    keeps = λ h. b.keeps (a.keeps h);
    turns = b.turns ∙ a.turns;
    out = b.out ∙ a.out;
    pending = b.pending ∙ a.pending;
    fault = b.fault ∙ a.fault;
    ended = b.ended ∙ a.ended;
  }

  pub same_none : (s : Running K G) → SameRun stored s s
  same_none s = record { wire = refl; me = refl; start = refl; first = refl; desk = out_stays s.out s.out refl; fits = λ h. h; keeps = λ h. h }

  pub same_on : (one two three : Running K G) → SameRun stored one two → SameRun stored two three → SameRun stored one three
  same_on one two three a b = record {
    wire = b.wire ∙ a.wire;
    me = b.me ∙ a.me;
    start = b.start ∙ a.start;
    first = b.first ∙ a.first;
    desk = out_on one.out two.out three.out a.desk b.desk;
    fits = λ h. b.fits (a.fits h);
    keeps = λ h. b.keeps (a.keeps h);
  }
