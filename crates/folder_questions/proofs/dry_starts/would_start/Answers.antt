use Rattle.site_folders.proofs.CallsInTurn.{ok_so}
use Rattle.site_core.specs.declared.inputs.SiteInput.TheVariants.{Start}
use Rattle.folder_questions.proofs.DryStartLemmas.{would_answer}
use Rattle.folder_questions.proofs.dry_starts.would_start.Goals as goal

pub returns-in-Ok : goal.returns-in-Ok
returns-in-Ok c = record { answered = ok_so c.would_of.result (λ o told. would_answer c.args.state.now (Start c.args.item) c.in-Ok.stepped o c.in-Ok.ensures.done told) c.would_of.ensures.answered }
