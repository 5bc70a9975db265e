use Rattle.std.proofs.Common.{sym, ◌∙◌}
use Rattle.folder_commands.proofs.DocumentLemmas.{read_untraced, read_utf8}
use Rattle.folder_commands.proofs.untraced.untraced_of.Goals as goal

pub returns-in-Err-Doc-clause-found : goal.returns-in-Err-Doc-clause-found
returns-in-Err-Doc-clause-found c = λ doc read.
    let there = read_untraced c.args.sites.now c.args.document.now doc read in
    let fails = rw c.in-Err-Doc.field-0-is at (c.in-Err-Doc.ensures.text (read_utf8 c.args.sites.now c.args.document.now doc read)) in
    let bad = sym there.1 ∙ fails in
    absurd (let none : ⊥ = cc in none)
