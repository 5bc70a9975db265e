use Rattle.std.proofs.Common.{eqb-true, eq-eqb, sym, ap, ◌∙◌, subst}
use Rattle.std.proofs.lemmas.Option.{same_Some}
use Rattle.std.specs.Option.{option_map}
use Rattle.site_core.specs.Records.{Record, IsSound}
use Rattle.site_folders.proofs.folders.keeps_site.Goals as goal

pub returns-then-eq-clause-keeps : goal.returns-then-eq-clause-keeps
returns-then-eq-clause-keeps g c =
    let shows = sym c.view.ensures ∙ ap (option_map (λ s. s.now)) c.in-Some.is in
    let lists = (c.equal_is_same.ensures.2 c.sites.result.now c.args.sites.now).0 (sym c.eq.ensures ∙ c.if-eq.true) in (
      (λ is. (
        c.in-Some.state.now,
        record { shows = shows; lists = sym c.sites.ensures ∙ lists; me = sym c.me.ensures.me ∙ eqb-true c.me.result c.args.site (sym c.eq-then-eq.ensures ∙ is) },
      )),
      (λ (r, keeps).
          let same = same_Some c.in-Some.state.now r (sym shows ∙ keeps.shows) in
          c.eq-then-eq.ensures ∙ eq-eqb c.me.result c.args.site (c.me.ensures.me ∙ ap (λ (x : Record). x.engagement.me) same ∙ keeps.me)),
    )

pub returns-then-eq-clause-sound : goal.returns-then-eq-clause-sound
returns-then-eq-clause-sound g c = λ is r shown.
    let shows = sym c.view.ensures ∙ ap (option_map (λ s. s.now)) c.in-Some.is in
    subst IsSound (same_Some c.in-Some.state.now r (sym shows ∙ shown)) c.me.ensures.sound
