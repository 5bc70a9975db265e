use Rattle.std.proofs.Common.{ap, sym, ◌∙◌}
use Rattle.std.specs.Option.{option_map}
use Rattle.site_folders.proofs.questions.ask_keeper.Goals as goal

pub unreachable-requires : goal.unreachable-requires
unreachable-requires g c =
    let bad = sym c.requires.1 ∙ sym c.view.ensures ∙ ap (option_map (λ s. s.now)) c.in_default.is in
    absurd (let none : ⊥ = cc in none)
