use Rattle.std.proofs.Common.{ℕ, ap, subst}
use Rattle.std.specs.Prelude.{Ok}
use Rattle.site_core.specs.declared.inputs.SiteInput.TheVariants.{Capture}
use Rattle.site_core.specs.Records.{Record}
use Rattle.site_core.specs.Steps.{Captures, Refuses}
use Rattle.site_core.specs.Told.{told_capture, told_reading}
use Rattle.site_core.proofs.Closed.{shortcuts_captured}
use Rattle.site_core.proofs.Documents.{read_as, unread, captured, refused}
use Rattle.site_core.proofs.Results.{of_fault}
use Rattle.site_core.proofs.Soundness.{captures_sound}
use Rattle.site_core.proofs.states.SiteState.capture.Goals as goal

pub invariant_of-self-2 : goal.invariant_of-self-2
invariant_of-self-2 c =
    let s : Record = record { sites = c.self.inside.sites; captured = c.self.inside.captured; quarantine = c.self.inside.quarantine; engagement = c.self.inside.diffusion } in (
      captures_sound s c.args.bytes.now c.in_ok-added.added.fresh c.in_ok-added.added.known c.in_ok-doc.doc.skipped (record s { captured = c.capture_knowing.new.captured }) c.self.invariant.0 (captured s c.args.bytes.now c.in_ok-doc.doc c.into_vec-events.result.items c.capture_knowing.new.captured c.in_ok-added.added.fresh c.in_ok-added.added.known
          (read_as s.sites c.args.bytes.now (Ok c.in_ok-doc.doc) c.in_ok-doc.ensures.text c.in_ok-doc.ensures.bytes) c.into_vec-events.ensures c.in_ok-added.ensures.ok c.capture_knowing.ensures.same_site),
      shortcuts_captured s.captured s.quarantine c.self.inside.shortcuts c.self.invariant.1 c.into_vec-events.result.items (record { events = c.capture_knowing.new.captured.events; fresh = c.in_ok-added.added.fresh; known = c.in_ok-added.added.known }) c.capture_knowing.new.captured
          (ap (λ (n : ℕ). record { me = n; events = c.capture_knowing.new.captured.events }) c.capture_knowing.ensures.same_site) c.in_ok-added.ensures.ok,
    )

pub returns-clause-done : goal.returns-clause-done
returns-clause-done c =
    let s : Record = record { sites = c.self.inside.sites; captured = c.self.inside.captured; quarantine = c.self.inside.quarantine; engagement = c.self.inside.diffusion } in
    subst (λ s. Captures s c.args.bytes.now c.in_ok-added.added.fresh c.in_ok-added.added.known c.in_ok-doc.doc.skipped (record { sites = c.self.inside.sites; captured = c.capture_knowing.new.captured; quarantine = c.self.inside.quarantine; engagement = c.self.inside.diffusion })) c.self.view_is (captured s c.args.bytes.now c.in_ok-doc.doc c.into_vec-events.result.items c.capture_knowing.new.captured c.in_ok-added.added.fresh c.in_ok-added.added.known
    (read_as s.sites c.args.bytes.now (Ok c.in_ok-doc.doc) c.in_ok-doc.ensures.text c.in_ok-doc.ensures.bytes) c.into_vec-events.ensures c.in_ok-added.ensures.ok c.capture_knowing.ensures.same_site)

pub returns-in_err-doc-clause-refused : goal.returns-in_err-doc-clause-refused
returns-in_err-doc-clause-refused c =
    let s : Record = record { sites = c.self.inside.sites; captured = c.self.inside.captured; quarantine = c.self.inside.quarantine; engagement = c.self.inside.diffusion } in
    of_fault (λ why. Refuses c.args.self.now (Capture c.args.bytes.now) why) c.from_residual.result (told_reading c.in_err-doc.field-0.0) c.from_residual.ensures.1
    (subst (λ s. Refuses s (Capture c.args.bytes.now) (told_reading c.in_err-doc.field-0.0)) c.self.view_is (unread s c.args.bytes.now c.in_err-doc.field-0.0 c.in_err-doc.ensures.text c.in_err-doc.ensures.bytes))

pub returns-in_err-added-clause-refused : goal.returns-in_err-added-clause-refused
returns-in_err-added-clause-refused c =
    let s : Record = record { sites = c.self.inside.sites; captured = c.self.inside.captured; quarantine = c.self.inside.quarantine; engagement = c.self.inside.diffusion } in
    of_fault (λ why. Refuses c.args.self.now (Capture c.args.bytes.now) why) c.from_residual-in_err-added.result (told_capture c.in_err-added.field-0.0) c.from_residual-in_err-added.ensures.1
    (subst (λ s. Refuses s (Capture c.args.bytes.now) (told_capture c.in_err-added.field-0.0)) c.self.view_is
    (refused s c.args.bytes.now c.in_ok-doc.doc c.into_vec-events.result.items c.in_err-added.field-0.0 (read_as s.sites c.args.bytes.now (Ok c.in_ok-doc.doc) c.in_ok-doc.ensures.text c.in_ok-doc.ensures.bytes) c.into_vec-events.ensures c.in_err-added.ensures.fault))
