use Rattle.std.proofs.Common.{◌≡◌, ℕ, ◌<◌, List, get_or, length, sym, subst, arith}
use Rattle.std.specs.FinMap.{empty}
use Rattle.std.specs.Prelude.{IsTrue}
use Rattle.site_core.specs.Quarantines.{Quarantine, held}
use Rattle.site_core.specs.Records.{Record}
use Rattle.site_recovery.specs.Checking.{HeldIn, NarrowsAt, world_at}
use Rattle.site_recovery.specs.Looks.{Held}
use Rattle.site_recovery.proofs.SitesInTurn.{site_of}
use Rattle.site_recovery.proofs.SitesLeft.{narrows_alike, one_place_more}
use Rattle.site_recovery.proofs.narrowing.narrow.Goals as goal

pub loop-place-preserved : goal.loop-place-preserved
loop-place-preserved c =
    let refs = c.args.sites.now in
    let W = world_at refs in
    let r = c.args.recall in
    let reached = c.args.reached.now in
    let place = c.loop-place.place in
    let state = c.index-sites-place.result in
    let old = c.loop-place.within.items in
    let new = c.narrow_at.new.within.items in
    let here : state.now ≡ W place = sym (site_of refs place state c.loop-place-test.true (sym c.index-sites-place.is)) in
    let at : NarrowsAt place ((i : List ℕ) → Held W place r i → HeldIn reached r (record { site = place; item = i })) old new =
    subst (λ (z : Record). NarrowsAt place ((i : List ℕ) → IsTrue (held z.quarantine r i) → IsTrue (held (get_or reached place empty) r i)) old new) here
    (subst (λ (q : Quarantine). NarrowsAt place ((i : List ℕ) → IsTrue (held state.now.quarantine r i) → IsTrue (held q r i)) old new) c.held_at-own.ensures c.in_ok-narrow_at.ensures) in
    one_place_more (length refs) (λ s. (i : List ℕ) → Held W s r i → HeldIn reached r (record { site = s; item = i })) c.args.within.now.items old new place c.loop-place.invariant at

pub returns : goal.returns
returns c =
    let refs = c.args.sites.now in
    let W = world_at refs in
    let r = c.args.recall in
    let P = λ (s : ℕ). (i : List ℕ) → Held W s r i → HeldIn c.args.reached.now r (record { site = s; item = i }) in
    narrows_alike (length refs) (λ s. s < c.loop-place.place → P s) P c.args.within.now.items c.loop-place.within.items (λ s below. (λ all. all (omega (arith, below, c.loop-place-test.false)), λ p _. p)) c.loop-place.invariant
