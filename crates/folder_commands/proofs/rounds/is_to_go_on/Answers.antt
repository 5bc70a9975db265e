use Rattle.std.proofs.Common.{◌∙◌, ap, not, sym}
use Rattle.std.specs.Prelude.{nat_eq}
use Rattle.std.specs.Cmp.Lexicographic.{pointwise}
use Rattle.folder_commands.proofs.RoundLemmas.{tells_whether}
use Rattle.folder_commands.proofs.rounds.is_to_go_on.Goals as goal

pub returns-clause-told : goal.returns-clause-told
returns-clause-told g c =
    tells_whether g.K.SiteKeeper.shown c.args.before.now c.in_ok-traffic.traffic.items c.args.keepers.now c.args.ran.now.end c.ne.result
    (sym c.leaves_open.ensures ∙ c.if-not-leaves_open.false) c.in_ok-traffic.ensures
    (c.ne.ensures ∙ ap (λ xs. not (pointwise nat_eq xs c.args.before.now)) c.as_slice.ensures.value)
