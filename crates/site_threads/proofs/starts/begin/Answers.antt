use Rattle.std.proofs.Common.{rules}
use Rattle.site_threads.proofs.Telling.{told_none}
use Rattle.site_threads.proofs.starts.begin.Goals as goal

pub returns-clause-ready : goal.returns-clause-ready
returns-clause-ready g c = record {
  fits = record { jobs = search rules; told = search (told_none, rules) };
  unmarked = search rules;
  fresh = search rules;
  going = search rules;
  unasked = search rules;
  begins = search rules;
}
