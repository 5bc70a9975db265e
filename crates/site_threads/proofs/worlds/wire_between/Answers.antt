use Rattle.std.proofs.Common.{◌≡◌, Some, [], length, sym, ◌∙◌, ap, subst, arith}
use Rattle.std.proofs.lemmas.List.{length-map}
use denote.Ref.{Bor}
use Rattle.site_core.specs.Records.{Record}
use Rattle.site_recovery.specs.Checking.{records_at}
use Rattle.wire_core.specs.Fitting.{RecordsFit}
use Rattle.wire_core.specs.Rule.{logs_from}
use Rattle.world_core.proofs.Showing.{shown_once}
use Rattle.site_threads.proofs.Starting.{all_open}
use Rattle.site_threads.proofs.Zips.{as_long}
use Rattle.site_threads.proofs.worlds.wire_between.Goals as goal

pub records_of-requires : goal.records_of-requires
records_of-requires g c = let w = c.requires.world in all_open g.K.SiteKeeper.shown c.args.keepers.now w.0 w.1

pub new-requires-clause-fit : goal.new-requires-clause-fit
new-requires-clause-fit g c =
    let shown = g.K.SiteKeeper.shown in
    let w = c.requires.world in
    let same = shown_once shown g.K.SiteKeeper.may c.args.keepers.now w.0 (records_at c.in_ok-states.states.items) w.1 c.in_ok-states.ensures in
    subst (λ l. RecordsFit l []) (same ∙ sym (ap records_at c.deref.ensures.value)) record { places = w.2.places; fits = w.2.fit }

pub new-requires-clause-count : goal.new-requires-clause-count
new-requires-clause-count g c =
    let shown = g.K.SiteKeeper.shown in
    let seen = as_long (λ k r. shown k ≡ Some r) c.args.keepers.now (records_at c.in_ok-states.states.items) c.in_ok-states.ensures in
    let count = ap length c.deref.ensures.value ∙ sym (length-map c.in_ok-states.states.items (λ (r : Bor Record). r.now)) ∙ seen in
    let few = c.requires.count in
    (omega arith, omega arith)

pub returns-clause-wire : goal.returns-clause-wire
returns-clause-wire g c =
    let shown = g.K.SiteKeeper.shown in
    let seen = as_long (λ k r. shown k ≡ Some r) c.args.keepers.now (records_at c.in_ok-states.states.items) c.in_ok-states.ensures in
    let count = ap length c.deref.ensures.value ∙ sym (length-map c.in_ok-states.states.items (λ (r : Bor Record). r.now)) ∙ seen in
    let made = c.in_ok-new.ensures in
    (made.0, made.1 ∙ count)

pub returns-clause-seat : goal.returns-clause-seat
returns-clause-seat g c rs show =
    let shown = g.K.SiteKeeper.shown in
    let same = shown_once shown g.K.SiteKeeper.may c.args.keepers.now (records_at c.in_ok-states.states.items) rs c.in_ok-states.ensures show in
    let made = c.in_ok-new.ensures in
    made.2 ∙ ap (logs_from 0) (ap records_at c.deref.ensures.value ∙ same)

pub returns-clause-start : goal.returns-clause-start
returns-clause-start g c rs show =
    let shown = g.K.SiteKeeper.shown in
    let same = shown_once shown g.K.SiteKeeper.may c.args.keepers.now (records_at c.in_ok-states.states.items) rs c.in_ok-states.ensures show in
    c.in_ok-new.ensures.3 ∙ (ap records_at c.deref.ensures.value ∙ same)
