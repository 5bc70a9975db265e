use Rattle.folder_commands.proofs.untraced.told_of.Goals as goal

pub returns-clause-found : goal.returns-clause-found
returns-clause-found c = λ doc read.
    let told = c.in_ok-untraced.ensures.found doc read in
    (told, c.in_ok-places.ensures.found doc read told)
