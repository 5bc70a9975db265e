use Rattle.std.proofs.Common.{◌≡◌, sym, subst}
use Rattle.frame_core.specs.declared.rows.Row.{Row}
use Rattle.scholten_core.specs.Changes.{signalled}
use Rattle.site_core.specs.Records.{Record}
use Rattle.site_core.specs.Steps.{HasRow}
use Rattle.site_core.proofs.Soundness.{clears_sound}
use Rattle.site_core.proofs.Taking.{cleared}
use Rattle.site_core.proofs.states.SiteState.clear.Goals as goal

pub invariant_of-self : goal.invariant_of-self
invariant_of-self c =
    let s : Record = record { sites = c.self.inside.sites; captured = c.self.inside.captured; quarantine = c.self.inside.quarantine; engagement = c.self.inside.diffusion } in
    let e = c.signalled.new.self in
    let sound = clears_sound s c.args.message c.args.by c.signalled.result (record s { engagement = e }) c.self.invariant.0
    (cleared s c.args.message c.args.by e c.signalled.result (subst (λ s. (row : Row) × HasRow s c.args.message row × (row.dest ≡ c.args.by)) (sym c.self.view_is) c.requires.stands) (subst (λ m. e ≡ (signalled c.self.inside.diffusion m.number).0) c.message.view_is c.signalled.ensures.state) (subst (λ m. c.signalled.result ≡ (signalled c.self.inside.diffusion m.number).1) c.message.view_is c.signalled.ensures.answer)) in
    (sound, c.self.invariant.1)
