use Rattle.site_threads.proofs.sites.RunningSite.finish.Goals as goal

pub invariant_of-list : goal.invariant_of-list
invariant_of-list g c = record { numbered = c.self.invariant.runs.numbered }
