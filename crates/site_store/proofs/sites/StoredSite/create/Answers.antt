use Rattle.std.proofs.Common.{◌≡◌, Err}
use Rattle.keeper_core.specs.declared.faults.KeepFault.TheVariants.{Store}
use Rattle.site_store.proofs.OwnSteps.{shown_own}
use Rattle.site_store.proofs.sites.StoredSite.create.Goals as goal

pub returns-in-Ok-clause-stored : goal.returns-in-Ok-clause-stored
returns-in-Ok-clause-stored g c = c.adopt.ensures.stored c.in-Ok.ensures.stored

pub returns-in-Ok-clause-own : goal.returns-in-Ok-clause-own
returns-in-Ok-clause-own g c = shown_own c.adopt.result.link c.adopt.result.kept c.args.state c.adopt.ensures.shown (c.adopt.ensures.stored c.in-Ok.ensures.stored)

pub returns-in-Ok-clause-in_use : goal.returns-in-Ok-clause-in_use
returns-in-Ok-clause-in_use g c used = let told = (c.in-Ok.ensures.in_use used).0 in cc

pub returns-in-Err-clause-in_use : goal.returns-in-Err-clause-in_use
returns-in-Err-clause-in_use g c used =
    let both = c.in-Err.ensures.in_use used in
    let told = both.0 in
    let fault : c.in-Err.fault ≡ Store = cc in
    λ i. Err (record { conn = both.1 i; fault = fault i })

pub returns-in-Err-clause-cause : goal.returns-in-Err-clause-cause
returns-in-Err-clause-cause g c out empty clean = rw c.in-Err.is at (c.begin_tables.ensures.cause clean out empty)
