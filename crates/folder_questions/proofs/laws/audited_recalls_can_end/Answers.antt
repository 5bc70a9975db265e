use Rattle.std.proofs.Common.{sym, subst}
use Rattle.site_recovery.specs.Fit.{Fits}
use Rattle.site_recovery.specs.Looks.{world_of}
use Rattle.world_core.specs.Worlds.{records}
use Rattle.world_core.proofs.CanEnd.{every_recall_can_end}
use Rattle.world_core.proofs.InPlace.{all_sites}
use Rattle.query_core.proofs.StuckSites.{none_in_vain}
use Rattle.folder_questions.proofs.laws.audited_recalls_can_end.Goals as goal

pub returns : goal.returns
returns c = λ world recalls coded told recall root none one sound audited begun numbers.
    let rs = records world in
    let all = all_sites rs one sound in
    every_recall_can_end world recall root
    (record { places = λ s below. (all s below).place; fits = subst (Fits (world_of rs)) (sym none) audited.0 })
    (record { one = one; sound = sound; await = none_in_vain rs audited.2.0 })
    begun numbers
