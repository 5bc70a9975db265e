use Rattle.std.proofs.Common.{ℕ, List, Bor, Option, option_map, subst, sym}
use Rattle.event_json.specs.Sites.{Site}
use Rattle.command_line.specs.Converting.{EndsBy, EndsWhere}
use Rattle.command_line.proofs.convert_commands.convert_files.Goals as goal

pub returns-in-Some : goal.returns-in-Some
returns-in-Some g c = record {
  mid = c.limit_to.new.self;
  limited = c.limit_to.ensures;
  ends =
      subst (λ (o : Option (Bor (List ℕ))). EndsWhere g.F.Files.does g.W.Write.contents (option_map (λ t. t.now) o) c.args.asked.now c.limit_to.new.self c.convert_listed.new.files c.args.output.now c.convert_listed.new.output c.convert_listed.result)
      (sym c.in-Some.is) c.convert_listed.ensures;
}

pub returns-in-None : goal.returns-in-None
returns-in-None g c = record {
  mid = c.limit_all_to.new.self;
  limited = c.limit_all_to.ensures;
  ends =
      subst (λ (o : Option (Bor (List ℕ))). EndsWhere g.F.Files.does g.W.Write.contents (option_map (λ t. t.now) o) c.args.asked.now c.limit_all_to.new.self c.convert_by.new.files c.args.output.now c.convert_by.new.output c.convert_by.result)
      (sym c.in-None.is)
      (subst (λ (ss : List Site). EndsBy g.F.Files.does g.W.Write.contents ss c.args.asked.now c.limit_all_to.new.self c.convert_by.new.files c.args.output.now c.convert_by.new.output c.convert_by.result)
      c.new-sites.ensures c.convert_by.ensures);
}
