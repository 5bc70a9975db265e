use Rattle.std.proofs.Common.{codes, refl, sym, ◌∙◌}
use mathlib.Core.Bool.{false≢true}
use Rattle.clap.specs.Words.{found_of}
use Rattle.clap.proofs.WalkLemmas.{first_value-rows}
use Rattle.command_line.proofs.pack_commands.packs_command.Goals as goal

pub returns-then-is_set : goal.returns-then-is_set
returns-then-is_set c = record {
  folder = c.in_ok-folder.ensures;
  site = c.get_str-site.ensures ∙ first_value-rows (found_of c.args.given.now) (codes "site");
  dry = c.is_set.ensures.0 c.if-is_set.true;
  terms = c.requires;
}

pub returns-else-is_set : goal.returns-else-is_set
returns-else-is_set c = record {
  folder = c.in_ok-folder.ensures;
  aim = (refl, c.get_str-site.ensures ∙ first_value-rows (found_of c.args.given.now) (codes "site"), λ set. false≢true (sym c.if-is_set.false ∙ c.is_set.ensures.1 set));
  terms = c.requires;
}
