use Rattle.std.proofs.Common.{◌∙◌, List, None, Some, inl, inr, refl, subst, sym}
use mathlib.Core.Bool.{false≢true}
use Rattle.trace_core.specs.Relations.{IsChain}
use Rattle.trace_core.specs.declared.pairs.Pair.{Pair}
use Rattle.report_core.specs.Leaving.{UnderAt}
use Rattle.report_core.specs.Packings.{IsPutInto, TellsPut}
use Rattle.report_core.specs.TrailEvents.{ArePackings, IsFirstOrNone, steps_of}
use Rattle.report_core.specs.declared.packing_events.PackingEvent.{PackingEvent}
use Rattle.std.specs.List.{AllZip}
use Rattle.report_core.proofs.PackingsFound.{no_packings, packings_lead, trail_found, trail_put}
use Rattle.report_core.proofs.packing_events.packings_of.Goals as goal

pub returns-then-stands_under : goal.returns-then-stands_under
returns-then-stands_under c =
    let events = c.args.containers.now.site.now.events in
    let item = c.args.item.now in
    (item, inl (c.stands_under.ensures.0 c.if-stands_under.true, refl), subst (λ (ps : List PackingEvent). ArePackings events item ps item) (sym (c.from_vec.ensures ∙ c.new.ensures.items)) (no_packings events item))

pub returns-in_default : goal.returns-in_default
returns-in_default c = subst (λ (ps : List Pair). IsFirstOrNone (UnderAt c.args.sent.now c.args.place ps) None) c.as_slice.ensures c.in_default.ensures

-- each one has a trail
pub returns-in_default-get : goal.returns-in_default-get
returns-in_default-get c =
    let s = c.args.containers.now.site.now in
    let number = c.in-Some.number in
    let ((d, at, under), least) = subst (λ (ps : List Pair). IsFirstOrNone (UnderAt c.args.sent.now c.args.place ps) (Some number)) c.as_slice.ensures c.in-Some.ensures in
    absurd (trail_found s.events c.args.containers.now.number c.args.containers.now.packings.now c.requires.packings s.me c.args.item.now c.args.found.now c.requires.found number d at (sym c.in_default-get.ensures))

pub packings_along-requires-clause-put : goal.packings_along-requires-clause-put
packings_along-requires-clause-put c =
    let s = c.args.containers.now.site.now in
    let number = c.in-Some.number in
    let ((d, at, under), least) = subst (λ (ps : List Pair). IsFirstOrNone (UnderAt c.args.sent.now c.args.place ps) (Some number)) c.as_slice.ensures c.in-Some.ensures in
    subst (IsChain (IsPutInto s.events)) (sym (c.as_slice-2.ensures.value ∙ c.in_ok-pairs.ensures))
    (trail_put s.events c.args.containers.now.number c.args.containers.now.packings.now c.requires.packings s.me c.args.item.now c.args.found.now c.requires.found number d at c.in-Some-get.trail (sym c.in-Some-get.ensures))

pub returns : goal.returns
returns c =
    let s = c.args.containers.now.site.now in
    let number = c.in-Some.number in
    let first = subst (λ (ps : List Pair). IsFirstOrNone (UnderAt c.args.sent.now c.args.place ps) (Some number)) c.as_slice.ensures c.in-Some.ensures in
    let ((d, at, under), least) = first in
    let told = subst (λ (ps : List Pair). AllZip (TellsPut s.events) (steps_of ps) c.in_ok-packings.packings) (c.as_slice-2.ensures.value ∙ c.in_ok-pairs.ensures) c.in_ok-packings.ensures in (
      d.item,
      inr (λ kept. false≢true (sym c.if-stands_under.false ∙ c.stands_under.ensures.1 kept), (number, first, (d, at, refl))),
      packings_lead s.events c.args.containers.now.number c.args.containers.now.packings.now c.requires.packings s.me c.args.item.now c.args.found.now c.requires.found number d at c.in-Some-get.trail (sym c.in-Some-get.ensures)
          c.in_ok-packings.packings told,
    )
