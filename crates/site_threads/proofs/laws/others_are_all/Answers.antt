use Rattle.site_threads.proofs.Coming.{others_are_all}
use Rattle.site_threads.proofs.laws.others_are_all.Goals as goal

pub returns : goal.returns
returns c = others_are_all
