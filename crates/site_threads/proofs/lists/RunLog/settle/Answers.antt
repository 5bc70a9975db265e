use Rattle.std.proofs.Common.{IsSome, rules}
use Rattle.site_threads.specs.Jobs.{jobs_in, receipts_in}
use Rattle.site_threads.specs.Ends.{hears, puts, takes, tells}
use Rattle.site_threads.proofs.Settling.{settled}
use Rattle.site_threads.proofs.Telling.{first_entered, first_through}
use Rattle.site_threads.proofs.lists.RunLog.settle.Goals as goal

pub returns-then-is_some-clause-jobs : goal.returns-then-is_some-clause-jobs
returns-then-is_some-clause-jobs c =
    let s = c.args.self in
    let t = c.taken_of-taken.ensures.taken in
    let there : IsSome s.pending = search rules in
    settled (jobs_in s.entries.items) s.pending (takes s.out) (puts c.args.desk) c.taken_of-taken.result c.requires.jobs.jobs t.0 t.1 there

pub returns-then-is_some-clause-heard : goal.returns-then-is_some-clause-heard
returns-then-is_some-clause-heard c =
    let s = c.args.self in
    first_through (hears c.args.desk) (tells s.out) (receipts_in s.site s.entries.items) c.taken_of-taken.ensures.heard c.requires.jobs.told.first

pub returns-then-is_some-clause-confirmed : goal.returns-then-is_some-clause-confirmed
returns-then-is_some-clause-confirmed c =
    let s = c.args.self in
    first_entered s.site s.entries.items (hears c.args.desk) (first_through (hears c.args.desk) (tells s.out) (receipts_in s.site s.entries.items) c.taken_of-taken.ensures.heard c.requires.jobs.told.first)

pub returns-clause-heard : goal.returns-clause-heard
returns-clause-heard c =
    let s = c.args.self in
    first_through (hears c.args.desk) (tells s.out) (receipts_in s.site s.entries.items) c.taken_of-taken.ensures.heard c.requires.jobs.told.first

pub returns-clause-confirmed : goal.returns-clause-confirmed
returns-clause-confirmed c =
    let s = c.args.self in
    first_entered s.site s.entries.items (hears c.args.desk) (first_through (hears c.args.desk) (tells s.out) (receipts_in s.site s.entries.items) c.taken_of-taken.ensures.heard c.requires.jobs.told.first)
