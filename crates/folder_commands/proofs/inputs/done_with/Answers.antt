use Rattle.folder_commands.proofs.inputs.done_with.Goals as goal

pub returns-in-Capture-clause-came : goal.returns-in-Capture-clause-came
returns-in-Capture-clause-came g c = λ old shows. rw c.in-Capture.is (c.captured.ensures.came old shows)

pub returns-in-Start-clause-came : goal.returns-in-Start-clause-came
returns-in-Start-clause-came g c = λ old shows. rw c.in-Start.is (rw c.as_slice.ensures.value at (c.started.ensures.came old shows))
