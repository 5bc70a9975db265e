-- how `clap`'s commands are put together
use Rattle.std.proofs.Common.{◌≡◌, false, true, Option, Some, None, IfSome, option_map, sym, ap, ◌∙◌, ap₂}
use Rattle.clap.specs.Words.{AddsArg, AddsSubcommand, App, Rule, app_of, rule_of, with_rule, with_subcommand}
use Rattle.clap.specs.declared.builder.arg.Arg.{Arg}
use Rattle.clap.specs.declared.builder.command.Command.{Command}
use Rattle.clap.proofs.SimpleLemmas.{plain_fields}
use Rattle.command_line.specs.CommandLines.{with_command}

-- an argument more
pub adds_rule : (old : Command) (a : Arg) (new : Command) (is : App) (rule : Rule) → AddsArg old a new → a.global ≡ false → app_of old ≡ is → rule_of a ≡ rule
    → app_of new ≡ with_rule is rule
adds_rule old a new is rule adds local was e = adds.shape local ∙ ap₂ with_rule was e

-- a subcommand more
pub adds_command : (old sub new : Command) (is below : App) → AddsSubcommand old sub new → app_of old ≡ is → app_of sub ≡ below → below.top.is_plain ≡ true
    → app_of new ≡ with_command is below
adds_command old sub new is below adds was e plain =
    adds.shape (plain_fields sub (ap (λ (a : App). a.top.is_plain) e ∙ plain)).globals ∙ ap₂ with_subcommand was (ap (λ (a : App). a.top) e)

-- what an option that is mapped to this one holds
pub mapped_some : {V T : Type 0} (f : V → T) (found : Option V) (first second : Option T) → option_map f found ≡ first → first ≡ second → IfSome found (λ v. second ≡ Some (f v))
mapped_some f None first second e d = tt
mapped_some f (Some v) first second e d = sym (e ∙ d)
