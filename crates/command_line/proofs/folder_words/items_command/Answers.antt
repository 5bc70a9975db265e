use Rattle.std.proofs.Common.{codes, refl, sym, ◌∙◌}
use Rattle.clap.specs.Words.{found_of}
use Rattle.clap.proofs.WalkLemmas.{first_value-rows}
use Rattle.command_line.proofs.folder_words.items_command.Goals as goal

pub returns-in_ok-spelling-in-Some : goal.returns-in_ok-spelling-in-Some
returns-in_ok-spelling-in-Some c =
    (refl, c.requires.folder, c.requires.site, c.text_of-text.ensures, sym (c.in-Some.ensures ∙ first_value-rows (found_of c.args.given.now) (codes "in")), c.in_ok-spelling-in-Some.ensures.one)

pub known_items-requires-clause-none : goal.known_items-requires-clause-none
known_items-requires-clause-none c = sym (c.in-None.ensures ∙ first_value-rows (found_of c.args.given.now) (codes "in"))
