use Rattle.std.proofs.Common.{◌≡◌, ◌↔◌, ◌<◌, ℕ, List, Some, length, slice_get, sym, subst, arith}
use Rattle.std.specs.Borrow.{Bor}
use Rattle.std.specs.List.{Contains}
use Rattle.std.proofs.lemmas.List.{length-map}
use Rattle.std.proofs.lemmas.Option.{get_or_from_slice_get}
use Rattle.trace_core.specs.Chains.{sites_at}
use Rattle.trace_core.specs.Sites.{SiteEvents}
use Rattle.gap_core.proofs.Notings.{stands_in}
use Rattle.gap_core.proofs.TellingSteps.{search_begins, search_ends, search_goes_on}
use Rattle.gap_core.proofs.searches.known_packings.Goals as goal

pub loop-turn-init : goal.loop-turn-init
loop-turn-init c =
    let all : length c.args.sites.now ≡ length (sites_at c.args.sites.now) = omega (arith, length-map c.args.sites.now (λ (x : Bor SiteEvents). x.now)) in
    search_begins (sites_at c.args.sites.now) c.in_ok-index.index c.in_ok-waiting.waiting.items c.in_ok-index.ensures
    (λ k. subst (λ n. Contains c.in_ok-waiting.waiting.items k ↔ (k < n)) all (c.in_ok-waiting.ensures k))

pub tell_all-requires-clause-at : goal.tell_all-requires-clause-at
tell_all-requires-clause-at c =
    let so = subst (λ (xs : List ℕ). slice_get xs c.loop-turn.turn ≡ Some c.place_at-at.result) c.as_slice.ensures.value c.place_at-at.ensures in
    let below = c.loop-turn.invariant.within c.place_at-at.result (stands_in c.loop-turn.waiting.items c.loop-turn.turn c.place_at-at.result so) in
    omega (arith, below, length-map c.args.sites.now (λ (x : Bor SiteEvents). x.now))

pub loop-turn-preserved : goal.loop-turn-preserved
loop-turn-preserved c =
    let at = c.place_at-at.result in
    let so = subst (λ (xs : List ℕ). slice_get xs c.loop-turn.turn ≡ Some at) c.as_slice.ensures.value c.place_at-at.ensures in
    search_goes_on (sites_at c.args.sites.now) c.loop-turn.index c.tell_all.new.index c.loop-turn.waiting.items c.tell_all.new.waiting.items c.loop-turn.turn at (omega (arith, c.loop-turn-test.true))
    (sym (get_or_from_slice_get c.loop-turn.waiting.items c.loop-turn.turn at at so)) c.loop-turn.invariant c.in_ok-tell_all.ensures

pub returns : goal.returns
returns c = search_ends (sites_at c.args.sites.now) c.loop-turn.index c.loop-turn.waiting.items c.loop-turn.turn (omega (arith, c.loop-turn-test.false)) c.loop-turn.invariant
