use Rattle.std.proofs.Common.{◌≡◌, codes, Some, sym, ap, ◌∙◌, map}
use Rattle.clap.specs.Words.{found_of}
use Rattle.clap.proofs.WalkLemmas.{first_value-rows, raw_values-rows}
use Rattle.command_line.proofs.Words.{ok_there}
use Rattle.command_line.proofs.convert_commands.convert_command.Goals as goal

pub returns : goal.returns
returns c =
    let paths = sym (c.in_ok-paths.ensures ∙ raw_values-rows (found_of c.args.given.now) (codes "file")) in
    let copy = ok_there (λ v. v.items ≡ c.in_ok-paths.paths.now) c.copied.result c.in_ok-paths-2.paths c.in_ok-paths-2.ensures.value c.copied.ensures in
    record {
      files = paths ∙ ap (λ xs. Some (map (λ p. p.now) xs)) (sym copy);
      places = c.get_str-list.ensures ∙ first_value-rows (found_of c.args.given.now) (codes "places");
      placed = c.is_some.ensures;
      lots = c.is_set-lots.ensures;
      links = c.is_set-links.ensures;
      errors = c.is_set-errors.ensures;
      most = c.in_ok-most.ensures;
      form = c.requires;
    }
