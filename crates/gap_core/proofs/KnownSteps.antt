-- What is known at sites, by the sources that are kept.
use Rattle.std.proofs.Common.{◌≡◌, ◌↔◌, ℕ, zero, suc, ◌<◌, ◌∙◌, List, Some, length, slice_get, refl, sym, ap, subst, ⊎_elim}
use Rattle.std.proofs.lemmas.Option.{slice_get_within, slice_get-get_or}
use Rattle.event_json.specs.declared.bodies.Action.TheVariants.{Add, Observe, Delete}
use Rattle.event_json.specs.declared.bodies.Body.{Body}
use Rattle.event_json.specs.declared.bodies.Body.TheVariants.{Note, Ship, Make, Pack}
use Rattle.trace_core.specs.Gaps.{SendsOn, by_known, known_over}
use Rattle.trace_core.specs.Pairs.{Carries, Packs}
use Rattle.trace_core.specs.PutIn.{filled}
use Rattle.trace_core.specs.Relations.{Reaches}
use Rattle.trace_core.specs.Sites.{SiteEvents}
use Rattle.trace_core.proofs.Carrying.{deletes, observes}
use Rattle.trace_core.proofs.ChainLaws.{reach_widens, reached_holds, reaches_step}
use Rattle.trace_core.proofs.GapClosing.{known_is_where_it_came}
use Rattle.gap_core.specs.Sources.{AreKnown, AreOwn, CameFrom, Index, IsOwn, IsTold, Keeps, LiesIn}
use Rattle.gap_core.specs.declared.sources.Source.{Source}
use Rattle.gap_core.proofs.Notings.{placed, stands_in}

-- a packing fills its parent
pub fills : (p c : List ℕ) (b : Body) → Packs p c b → filled b ≡ Some p
fills p c (Note items) h = absurd h
fills p c (Ship items sites outside) h = absurd h
fills p c (Make id ins outs) h = absurd h
fills p c (Pack Add parent children) (add, is, there) = is
fills p c (Pack Observe parent children) (add, is, there) = absurd (observes add)
fills p c (Pack Delete parent children) (add, is, there) = absurd (deletes add)

module _ (sites : List SiteEvents) (index : Index) where
  -- no source is kept from which the container didn't come
  abbrev pub IsSound : Type 0
  IsSound = (m : List ℕ × Source) → Keeps index m → CameFrom sites m.0 m.1

  -- what each site packed itself is kept
  abbrev pub HasOwn : Type 0
  HasOwn = (m : List ℕ × Source) → IsOwn sites m → Keeps index m

  -- what is known at one site of what was sent to another one is known there
  abbrev pub IsAllTold : ℕ → Type 0
  IsAllTold at = (to : ℕ) → to < length sites → (m : List ℕ × Source) → IsTold sites index at to m → Keeps index m

  module _ (sound : IsSound) where
    -- what is kept tells no more than is known
    pub lies_known : (at : ℕ) (s : SiteEvents) → slice_get sites at ≡ Some s → (x y : List ℕ) → LiesIn sites index at x y → by_known sites s x y
    lies_known at s so x y (from, keeps, (u, source, carries)) =
        let (v, t, is, also, came) = sound (x, record { at = at; from = from }) keeps in
        (known_is_where_it_came sites s (stands_in sites at s so) x y).1 (
          u,
          stands_in sites from u source,
          carries,
          subst (λ z. Reaches (SendsOn sites x) z s) (one v u (sym is ∙ source)) (subst (λ z. Reaches (SendsOn sites x) v z) (one t s (sym also ∙ so)) came),
        )
      where
        one : (a b : SiteEvents) → Some a ≡ Some b → a ≡ b
        one a b h = cc

    -- so it came from there
    pub told_came : (at to : ℕ) (m : List ℕ × Source) → IsTold sites index at to m → CameFrom sites m.0 m.1
    told_came at to m (here, (s, t, so, also, carrier, ships, chain), keeps) =
        let (u, s', source, so', came) = sound (m.0, record { at = at; from = m.1.from }) keeps in
        let sends : SendsOn sites m.0 s t = (stands_in sites at s so, (carrier, ships, reach_widens (LiesIn sites index at) (by_known sites s) (lies_known at s so) carrier m.0 chain)) in (
          u,
          t,
          source,
          subst (λ k. slice_get sites k ≡ Some t) here also,
          reaches_step (SendsOn sites m.0) u s t (subst (λ z. Reaches (SendsOn sites m.0) u z) (one s' s (sym so' ∙ so)) came) sends,
        )
      where
        one : (a b : SiteEvents) → Some a ≡ Some b → a ≡ b
        one a b h = cc

  module _ (own : HasOwn) (told : (at : ℕ) → at < length sites → IsAllTold at) where
    own_source : (at : ℕ) (s : SiteEvents) (x y : List ℕ) → slice_get sites at ≡ Some s → Carries s.events x y → Keeps index (x, record { at = at; from = at })
    own_source at s x y so (k, e, lt, is, packs) =
        own (x, record { at = at; from = at }) (at, (s, so, k, (e, slice_get-get_or s.events k e lt ∙ ap Some is, (fills x y e.body packs, refl))))

    -- all that is known is kept
    known_lies : (n : ℕ) (at : ℕ) (s : SiteEvents) → slice_get sites at ≡ Some s → (x y : List ℕ) → known_over sites n s x y → LiesIn sites index at x y
    known_lies zero at s so x y carries = (at, own_source at s x y so carries, (s, so, carries))
    known_lies (suc n) at s so x y h = ⊎_elim
        (λ before. known_lies n at s so x y before)
        (λ (k, u, lt, is, ((carrier, ships, chain), knows)).
        let su : slice_get sites k ≡ Some u = slice_get-get_or sites k u lt ∙ ap Some is in
        let (from, keeps, packed) = known_lies n k u su x y knows in (
          from,
          told k lt at (slice_get_within sites at s so) (x, record { at = at; from = from })
              (refl, (u, s, su, so, carrier, ships, reach_widens (known_over sites n u) (LiesIn sites index k) (known_lies n k u su) carrier x chain), keeps),
          packed,
        ))
        h

    by_known_lies : (at : ℕ) (s : SiteEvents) → slice_get sites at ≡ Some s → (x y : List ℕ) → by_known sites s x y → LiesIn sites index at x y
    by_known_lies at s so x y (n, h) = known_lies n at s so x y h

    -- the site that packed is a source wherever the container came from there
    abbrev IsSourceOf : SiteEvents → List ℕ → SiteEvents → Type 0
    IsSourceOf u p s = (at : ℕ) → slice_get sites at ≡ Some s → (from : ℕ) × (slice_get sites from ≡ Some u) × Keeps index (p, record { at = at; from = from })

    complete : (u s : SiteEvents) (p c : List ℕ) → Carries u.events p c → Reaches (SendsOn sites p) u s → IsSourceOf u p s
    complete u s p c carries came = reached_holds (SendsOn sites p) (IsSourceOf u p)
        (λ x y before (there, (carrier, ships, chain)) at so.
        let (k, sx) = placed sites x there in
        let (from, source, keeps) = before k sx in (
          from,
          source,
          told k (slice_get_within sites k x sx) at (slice_get_within sites at y so) (p, record { at = at; from = from })
              (refl, (x, y, sx, so, carrier, ships, reach_widens (by_known sites x) (LiesIn sites index k) (by_known_lies k x sx) carrier p chain), keeps),
        ))
        u s came (λ at so. (at, so, own_source at u p c so carries))

    pub all_known : IsSound → AreKnown sites index
    all_known sound = record {
      sound = sound;
      complete = λ at s u p c so there carries came. complete u s p c carries came at so;
    }

-- the index tells just what is known
pub lies_as_known : (sites : List SiteEvents) (index : Index) → AreKnown sites index → (at : ℕ) (s : SiteEvents) → slice_get sites at ≡ Some s → (x y : List ℕ)
    → LiesIn sites index at x y ↔ by_known sites s x y
lies_as_known sites index known at s so x y = (
  lies_known sites index known.sound at s so x y,
  λ h.
      let (u, there, carries, came) = (known_is_where_it_came sites s (stands_in sites at s so) x y).0 h in
      let (from, source, keeps) = known.complete at s u x y so there carries came in
      (from, keeps, (u, source, carries)),
)

-- so do the own packings of what each site packed
pub own_lies : (sites : List SiteEvents) (index : Index) → AreOwn sites index → (at : ℕ) (s : SiteEvents) → slice_get sites at ≡ Some s → (x y : List ℕ)
    → LiesIn sites index at x y ↔ Carries s.events x y
own_lies sites index are at s so x y = (
  λ (from, keeps, (u, source, carries)).
      let (k, (t, st, place, (e, stands, (fills, is)))) = (are (x, record { at = at; from = from })).0 keeps in
      let here : at ≡ from = sym (ap (λ (z : Source). z.at) is) ∙ ap (λ (z : Source). z.from) is in
      subst (λ (z : SiteEvents). Carries z.events x y) (one u s (sym source ∙ ap (slice_get sites) (sym here) ∙ so)) carries,
  λ (k, e, lt, is, packs).
      (at, (are (x, record { at = at; from = at })).1 (at, (s, so, k, (e, slice_get-get_or s.events k e lt ∙ ap Some is, (fills x y e.body packs, refl)))), (s, so, (k, e, lt, is, packs))),
)
  where
    one : (a b : SiteEvents) → Some a ≡ Some b → a ≡ b
    one a b h = cc
