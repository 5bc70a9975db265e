-- Further events only add pairs.
use Rattle.std.proofs.Common.{◌≡◌, ℕ, ◌<◌, List, length, get_or, sym, ◌∙◌, subst, inl, inr, ⊎_elim, arith}
use Rattle.std.specs.List.{Any, AllZip, Contains}
use Rattle.std.proofs.lemmas.List.{get_or_default}
use Rattle.std.proofs.lemmas.List.Elements.{Contains-append_left, AllZip-get_or, length_all_zip}
use Rattle.event_json.specs.Events.{Content}
use Rattle.trace_core.specs.declared.pairs.Pair.{Pair}
use Rattle.trace_core.specs.Chains.{Related}
use Rattle.trace_core.specs.Laws.{IsExtendedTo}
use Rattle.trace_core.specs.Pairs.{Ships, Packs, TakesIn, GivesOut, AreOneMake, Carries, IsSentTo, IsRelated}
use Rattle.trace_core.specs.Sites.{SiteEvents}
use Rattle.trace_core.proofs.ChainLaws.{reach_widens}

-- a property of some member holds of some member of a wider list
any_widens : {X : Type 0} (P Q : X → Type 0) (xs ys : List X) → ((x : X) → Contains xs x → Contains ys x) → ((x : X) → P x → Q x) → Any P xs → Any Q ys
any_widens P Q xs ys wider implies (k, x, lt, at, h) = let there = wider x (k, lt, at) in (there.0, x, there.1, there.2, implies x h)

-- what was sent was sent among wider events
pub sent_widens : (old new : List Content) → ((e : Content) → Contains old e → Contains new e)
    → (i : List ℕ) (t : ℕ) → IsSentTo old i t → IsSentTo new i t
sent_widens old new wider i t (carrier, ships, carried) = (
  carrier,
  any_widens (λ e. Ships carrier t e.body) (λ e. Ships carrier t e.body) old new wider (λ e h. h) ships,
  reach_widens (Carries old) (Carries new)
      (λ x y. any_widens (λ e. Packs x y e.body) (λ e. Packs x y e.body) old new wider (λ e h. h)) carrier i carried,
)

-- what is related stays related among wider events of the same site
pub related_widens : (old new : SiteEvents) → new.me ≡ old.me → ((e : Content) → Contains old.events e → Contains new.events e) → (item : List ℕ) (p : Pair) → IsRelated old item p → IsRelated new item p
related_widens old new same wider item p h = ⊎_elim
    (λ (other, is, sent). inl (λ here. other (here ∙ same), is, sent_widens old.events new.events wider item p.site sent))
    (λ (here, any). inr (
      here ∙ sym same,
      any_widens
          (λ e. TakesIn item e.body × Any (λ f. AreOneMake e f × GivesOut p.item f.body) old.events)
          (λ e. TakesIn item e.body × Any (λ f. AreOneMake e f × GivesOut p.item f.body) new.events)
          old.events new.events wider
          (λ e (takes, gives). (takes, any_widens (λ f. AreOneMake e f × GivesOut p.item f.body) (λ f. AreOneMake e f × GivesOut p.item f.body) old.events new.events wider (λ f both. both) gives))
          any,
    ))
    h

pub stays_related : (old new : SiteEvents) → IsExtendedTo old new → (item : List ℕ) (p : Pair) → IsRelated old item p → IsRelated new item p
stays_related old new (more, same, events) item p h =
    related_widens old new same (λ e at. subst (λ es. Contains es e) (sym events) (Contains-append_left old.events more e at)) item p h

pub related_grows : (old new : List SiteEvents) → AllZip IsExtendedTo old new → (p q : Pair) → Related old p q → Related new p q
related_grows old new zipped p q (k, s, below, e, (same, related)) =
    let t = get_or new k s in
    let extended : IsExtendedTo s t = subst (λ x. IsExtendedTo x t) e (AllZip-get_or IsExtendedTo old new k s s zipped below) in
    let below_new : k < length new = omega (arith, length_all_zip IsExtendedTo old new zipped) in
    (k, t, below_new, get_or_default new k t s below_new, (extended.1 ∙ same, stays_related s t extended p.item q related))
