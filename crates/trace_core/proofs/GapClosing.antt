-- Capturing packings that are known adds nothing to what is known, and closes gaps.
use Rattle.std.proofs.Common.{◌≡◌, ◌↔◌, ◌<◌, ℕ, zero, suc, Bool, IsTrue, List, ◌++◌, length, get_or, Some, refl, sym, ◌∙◌, subst, inl, inr, ⊎_elim}
use mathlib.Core.Logic.{◌⊎◌}
use Rattle.std.specs.List.{Any, AllZip, Contains}
use Rattle.std.proofs.lemmas.List.{get_or_default}
use Rattle.std.proofs.lemmas.List.Elements.{AllZip-get_or, length_all_zip, Contains-append_left, Contains-append_cases}
use Rattle.event_json.specs.Events.{Content}
use Rattle.event_json.specs.declared.bodies.Action.TheVariants.{Add}
use Rattle.event_json.specs.declared.bodies.Body.{Body}
use Rattle.event_json.specs.declared.bodies.Body.TheVariants.{Note, Ship, Make, Pack}
use Rattle.trace_core.specs.declared.pairs.Pair.{Pair}
use Rattle.trace_core.specs.Chains.{Related}
use Rattle.trace_core.specs.Gaps.{Place, ShipsTo, IsElsewhere, by_own, IsSent, CameWith, known_over, by_known, WideRelated, IsPackedGap, HasCapturedKnown, HasClosed, IsMissed, KnownStays, GapsOnlyClose, OneRoundCloses, KnownIsCapturedSomewhere, WideStays, IsClosedKnowing, KnownIsLeast, KnownIsClosed, SendsOn, KnownIsWhereItCame, IsHistory, HistoryIsKnown, PutsKnown, CapturingIsClosing, ClosedReachesAll, ClosedSendsAll}
use Rattle.trace_core.specs.Pairs.{Packs, Carries, Ships, TakesIn, GivesOut, AreOneMake, IsMade}
use Rattle.trace_core.specs.Relations.{Reaches}
use Rattle.trace_core.specs.Sites.{SiteEvents}
use Rattle.trace_core.proofs.ChainLaws.{reaches_itself, reaches_step, reached_holds, reach_widens}
use Rattle.trace_core.proofs.GapSteps.{sent_by_wider, sent_or_not, gaps_are_misses, no_gap_misses_nothing}
use Rattle.trace_core.proofs.Zips.{zip_weaker}

-- ---- how many sites it took

module _ (sites : List SiteEvents) where
  -- over none, over so many
  own_over : (n : ℕ) (s : SiteEvents) (x y : List ℕ) → Carries s.events x y → known_over sites n s x y
  own_over zero s x y h = h
  own_over (suc n) s x y h = inl (own_over n s x y h)

  abbrev plus : ℕ → ℕ → ℕ
  plus zero n = n
  plus (suc m) n = suc (plus m n)

  -- over more
  over_more : (m n : ℕ) (s : SiteEvents) (x y : List ℕ) → known_over sites n s x y → known_over sites (plus m n) s x y
  over_more zero n s x y h = h
  over_more (suc m) n s x y h = inl (over_more m n s x y h)

  over_other : (m n : ℕ) (s : SiteEvents) (x y : List ℕ) → known_over sites m s x y → known_over sites (plus m n) s x y
  over_other zero n s x y h = own_over n s x y h
  over_other (suc m) n s x y h = ⊎_elim
      (λ before. inl (over_other m n s x y before))
      (λ (k, u, lt, at, (sent, knows)). inr (
        k,
        u,
        lt,
        at,
        (
          sent_by_wider (known_over sites m) (known_over sites (plus m n)) u (over_other m n u) x (inl s.me) sent,
          over_other m n u x y knows,
        ),
      ))
      h

  -- a chain of what is known is one of what is known over some number of sites
  chain_over : (s : SiteEvents) (x y : List ℕ) → Reaches (by_known sites s) x y → (n : ℕ) × Reaches (known_over sites n s) x y
  chain_over s x y chain = reached_holds (by_known sites s) (λ z. (n : ℕ) × Reaches (known_over sites n s) x z)
      (λ z w (n, to) (m, step). (
        plus m n,
        reaches_step (known_over sites (plus m n) s) x z w
            (reach_widens (known_over sites n s) (known_over sites (plus m n) s) (over_more m n s) x z to)
            (over_other m n s z w step),
      ))
      x y chain (0, reaches_itself (known_over sites 0 s) x)

  -- what came with the goods is known
  pub came_known : (s : SiteEvents) (x y : List ℕ) → CameWith sites (by_known sites) s x y → by_known sites s x y
  came_known s x y (k, u, lt, at, ((carrier, ships, carried), (m, knows))) =
      let (n, chain) = chain_over u carrier x carried in (
        suc (plus m n),
        inr (
          k,
          u,
          lt,
          at,
          (
            (carrier, ships, reach_widens (known_over sites n u) (known_over sites (plus m n) u) (over_more m n u) carrier x chain),
            over_other m n u x y knows,
          ),
        ),
      )

-- ---- each known packing was captured somewhere

one_parent : (b : Body) (x y p c : List ℕ) → Packs x y b → Packs p c b → p ≡ x
one_parent (Note items) x y p c none _ = absurd none
one_parent (Ship items sites outside) x y p c none _ = absurd none
one_parent (Make id ins outs) x y p c none _ = absurd none
one_parent (Pack action parent children) x y p c (_, is, _) (_, also, _) = same_parent parent is also
  where
    same_parent : (o : _) → o ≡ Some x → o ≡ Some p → p ≡ x
    same_parent o is also = cc

abbrev CapturedFor : List SiteEvents → SiteEvents → List ℕ → List ℕ → Type 0
CapturedFor sites s x y =
    (u : SiteEvents) × (e : Content) × Contains sites u × Contains u.events e × Packs x y e.body
    × ((p c : List ℕ) → Packs p c e.body → by_known sites s p c)

captured_over : (sites : List SiteEvents) (n : ℕ) (s : SiteEvents) → Contains sites s → (x y : List ℕ) → known_over sites n s x y → CapturedFor sites s x y
captured_over sites zero s there x y (k, e, lt, at, packs) =
    (s, e, there, (k, lt, at), packs, λ p c also. (0, (k, e, lt, at, also)))
captured_over sites (suc n) s there x y h = ⊎_elim
    (λ before. captured_over sites n s there x y before)
    (λ (k, u, lt, at, (sent, knows)).
    let (w, e, site, event, packs, all) = captured_over sites n u (k, lt, at) x y knows in (
      w,
      e,
      site,
      event,
      packs,
      λ p c also.
          came_known sites s p c (
            k,
            u,
            lt,
            at,
            (
              subst (λ z. IsSent (by_known sites) u z (inl s.me)) (sym (one_parent e.body x y p c packs also))
                  (sent_by_wider (known_over sites n) (by_known sites) u (λ a b h. (n, h)) x (inl s.me) sent),
              all p c also,
            ),
          ),
    ))
    h

pub known_is_captured_somewhere : KnownIsCapturedSomewhere
known_is_captured_somewhere sites s there x y (n, h) = captured_over sites n s there x y h

-- ---- what is known stays

-- the site of the other list
module _ (old new : List SiteEvents) (zipped : AllZip (HasCapturedKnown old) old new) where
  was : (k : ℕ) (t : SiteEvents) → k < length new → HasCapturedKnown old (get_or old k t) (get_or new k t)
  was k t below = AllZip-get_or (HasCapturedKnown old) old new k t t zipped (subst (λ n. k < n) (sym (length_all_zip (HasCapturedKnown old) old new zipped)) below)

  forth : (n : ℕ) (s t : SiteEvents) → HasCapturedKnown old s t → (x y : List ℕ) → known_over new n t x y → by_known old s x y
  forth zero s t h x y carries = h.packs x y carries
  forth (suc n) s t h x y either = ⊎_elim
      (λ before. forth n s t h x y before)
      (λ (k, v, lt, at, ((carrier, ships, carried), knows)).
      let u = get_or old k v in
      let below : k < length old = subst (λ m. k < m) (sym (length_all_zip (HasCapturedKnown old) old new zipped)) lt in
      let is : HasCapturedKnown old u v = subst (λ z. HasCapturedKnown old u z) at (was k v lt) in
      came_known old s x y (
        k,
        u,
        below,
        get_or_default old k u v below,
        (
          (
            carrier,
            subst (λ m. Any (λ e. Ships carrier m e.body) u.events) h.same (is.ships carrier (inl t.me) ships),
            reach_widens (known_over new n v) (by_known old u) (forth n u v is) carrier x carried,
          ),
          forth n u v is x y knows,
        ),
      ))
      either

  back : (n : ℕ) (s t : SiteEvents) → HasCapturedKnown old s t → (x y : List ℕ) → known_over old n s x y → by_known new t x y
  back zero s t h x y (k, e, lt, at, packs) = let there = h.kept e (k, lt, at) in (0, (there.0, e, there.1, there.2, packs))
  back (suc n) s t h x y either = ⊎_elim
      (λ before. back n s t h x y before)
      (λ (k, u, lt, at, ((carrier, (l, e, lt', at', ships), carried), knows)).
      let v = get_or new k u in
      let below : k < length new = subst (λ m. k < m) (length_all_zip (HasCapturedKnown old) old new zipped) lt in
      let is : HasCapturedKnown old u v = subst (λ z. HasCapturedKnown old z v) at (was k u below) in
      let event = is.kept e (l, lt', at') in
      came_known new t x y (
        k,
        v,
        below,
        get_or_default new k v u below,
        (
          (
            carrier,
            (event.0, e, event.1, event.2, subst (λ m. Ships carrier m e.body) (sym h.same) ships),
            reach_widens (known_over old n u) (by_known new v) (back n u v is) carrier x carried,
          ),
          back n u v is x y knows,
        ),
      ))
      either

  pub stays_known : (s t : SiteEvents) → HasCapturedKnown old s t → (x y : List ℕ) → by_known new t x y ↔ by_known old s x y
  stays_known s t h x y = (λ (n, k). forth n s t h x y k, λ (n, k). back n s t h x y k)

  stays_sent : (s t : SiteEvents) → HasCapturedKnown old s t → (x : List ℕ) (to : Place) → IsSent (by_known new) t x to → IsSent (by_known old) s x to
  stays_sent s t h x to (carrier, ships, carried) =
      (carrier, h.ships carrier to ships, reach_widens (by_known new t) (by_known old s) (λ a b. (stays_known s t h a b).0) carrier x carried)

  kept_sent : (s t : SiteEvents) → HasCapturedKnown old s t → (x : List ℕ) (to : Place) → IsSent (by_known old) s x to → IsSent (by_known new) t x to
  kept_sent s t h x to (carrier, (l, e, lt, at, ships), carried) =
      let event = h.kept e (l, lt, at) in
      (carrier, (event.0, e, event.1, event.2, ships), reach_widens (by_known old s) (by_known new t) (λ a b. (stays_known s t h a b).1) carrier x carried)

  still_carries : (s t : SiteEvents) → HasCapturedKnown old s t → (x y : List ℕ) → Carries s.events x y → Carries t.events x y
  still_carries s t h x y (k, e, lt, at, packs) = let there = h.kept e (k, lt, at) in (there.0, e, there.1, there.2, packs)

  still_sent : (s t : SiteEvents) → HasCapturedKnown old s t → (x : List ℕ) (to : Place) → IsSent by_own s x to → IsSent by_own t x to
  still_sent s t h x to (carrier, (k, e, lt, at, ships), carried) =
      let there = h.kept e (k, lt, at) in
      (carrier, (there.0, e, there.1, there.2, ships), reach_widens (Carries s.events) (Carries t.events) (still_carries s t h) carrier x carried)

  elsewhere_as : (s t : SiteEvents) → t.me ≡ s.me → (to : Place) → IsElsewhere t to → IsElsewhere s to
  elsewhere_as s t same (inl site) other = λ here. other (here ∙ sym same)
  elsewhere_as s t same (inr text) other = tt

  pub gap_stood : (s t : SiteEvents) → HasCapturedKnown old s t → (x y : List ℕ) (to : Place) → IsPackedGap (by_known new) t x y to → IsPackedGap (by_known old) s x y to
  gap_stood s t h x y to gap = record {
    elsewhere = elsewhere_as s t h.same to gap.elsewhere;
    goes = stays_sent s t h x to gap.goes;
    known = (stays_known s t h x y).0 gap.known;
    uncaptured = λ packed. gap.uncaptured (still_carries s t h x y packed);
    untold = λ told. gap.untold (still_sent s t h y to told);
  }

pub known_stays : KnownStays
known_stays old new zipped = stays_known old new zipped

pub gaps_only_close : GapsOnlyClose
gaps_only_close old new zipped = gap_stood old new zipped

pub one_round_closes : OneRoundCloses
one_round_closes old new zipped s t h x y to gap = gap.uncaptured (h.closed x y to (gap_stood old new zipped s t h.captured x y to gap))

-- the wide relation stays
module _ (old new : List SiteEvents) (zipped : AllZip (HasCapturedKnown old) old new) where
  pub wide_forth : (p q : Pair) → WideRelated new p q → WideRelated old p q
  wide_forth p q (k, t, lt, at, (me, h)) =
      let s = get_or old k t in
      let below : k < length old = subst (λ m. k < m) (sym (length_all_zip (HasCapturedKnown old) old new zipped)) lt in
      let is : HasCapturedKnown old s t = subst (λ z. HasCapturedKnown old s z) at (was old new zipped k t lt) in (
        k,
        s,
        below,
        get_or_default old k s t below,
        (
          sym is.same ∙ me,
          ⊎_elim
              (λ (other, same, sent). inl (
                (λ here. other (here ∙ sym is.same)),
                same,
                stays_sent old new zipped s t is p.item (inl q.site) sent,
              ))
              (λ made. inr (is.made p.item q made))
              h,
        ),
      )

  pub wide_back : (p q : Pair) → WideRelated old p q → WideRelated new p q
  wide_back p q (k, s, lt, at, (me, h)) =
      let t = get_or new k s in
      let below : k < length new = subst (λ m. k < m) (length_all_zip (HasCapturedKnown old) old new zipped) lt in
      let is : HasCapturedKnown old s t = subst (λ z. HasCapturedKnown old z t) at (was old new zipped k s below) in (
        k,
        t,
        below,
        get_or_default new k t s below,
        (
          is.same ∙ me,
          ⊎_elim
              (λ (other, same, sent). inl (
                (λ here. other (here ∙ is.same)),
                same,
                kept_sent old new zipped s t is p.item (inl q.site) sent,
              ))
              (λ made. inr (still_made s t is p.item q made))
              h,
        ),
      )
    where
      still_made : (s t : SiteEvents) → HasCapturedKnown old s t → (i : List ℕ) (q : Pair) → IsMade s i q → IsMade t i q
      still_made s t is i q (here, (a, e, lt, at, (takes, (b, f, lt', at', gives)))) =
          let e' = is.kept e (a, lt, at) in
          let f' = is.kept f (b, lt', at') in
          (here ∙ sym is.same, (e'.0, e, e'.1, e'.2, (takes, (f'.0, f, f'.1, f'.2, gives))))

pub wide_stays : WideStays
wide_stays old new zipped p q = (wide_forth old new zipped p q, wide_back old new zipped p q)

-- ---- what is known is the least that has the own packings, and what came with the goods

least_over : (sites : List SiteEvents) (is_in : SiteEvents → List ℕ → List ℕ → Bool) → IsClosedKnowing sites is_in
    → (n : ℕ) (s : SiteEvents) → Contains sites s → (x y : List ℕ) → known_over sites n s x y → IsTrue (is_in s x y)
least_over sites is_in closed zero s there x y h = closed.0 s x y there h
least_over sites is_in closed (suc n) s there x y h = ⊎_elim
    (λ before. least_over sites is_in closed n s there x y before)
    (λ (k, u, lt, at, (sent, knows)).
    closed.1 s x y there (
      k,
      u,
      lt,
      at,
      (
        sent_by_wider (known_over sites n) (λ z a b. IsTrue (is_in z a b)) u (λ a b h. least_over sites is_in closed n u (k, lt, at) a b h) x (inl s.me) sent,
        least_over sites is_in closed n u (k, lt, at) x y knows,
      ),
    ))
    h

pub known_is_least : KnownIsLeast
known_is_least sites is_in closed s there x y (n, h) = least_over sites is_in closed n s there x y h

pub known_is_closed : KnownIsClosed
known_is_closed sites s x y = (λ h. (0, h), came_known sites s x y)

-- ---- where a packing came

came_over : (sites : List SiteEvents) (n : ℕ) (s : SiteEvents) → Contains sites s → (x y : List ℕ) → known_over sites n s x y
    → (u : SiteEvents) × Contains sites u × Carries u.events x y × Reaches (SendsOn sites x) u s
came_over sites zero s there x y h = (s, there, h, reaches_itself (SendsOn sites x) s)
came_over sites (suc n) s there x y h = ⊎_elim
    (λ before. came_over sites n s there x y before)
    (λ (k, u, lt, at, (sent, knows)).
    let (w, in', carries, chain) = came_over sites n u (k, lt, at) x y knows in
    (w, in', carries, reaches_step (SendsOn sites x) w u s chain ((k, lt, at), sent_by_wider (known_over sites n) (by_known sites) u (λ a b h. (n, h)) x (inl s.me) sent)))
    h

pub known_is_where_it_came : KnownIsWhereItCame
known_is_where_it_came sites s there x y = (
  λ (n, h). came_over sites n s there x y h,
  λ (u, in', carries, chain). reached_holds (SendsOn sites x) (λ t. by_known sites t x y)
      (λ v t known ((k, lt, at), sent). came_known sites t x y (k, v, lt, at, (sent, known)))
      u s chain (0, carries),
)

-- ---- what really lay in something

lay_known : (sites : List SiteEvents) (lay : ℕ → SiteEvents → List ℕ → List ℕ → Bool) → IsHistory sites lay
    → (n : ℕ) (s : SiteEvents) → Contains sites s → (x y : List ℕ) → IsTrue (lay n s x y) → by_known sites s x y
lay_known sites lay is zero s there x y h = (0, is.0 s x y there h)
lay_known sites lay is (suc n) s there x y h = ⊎_elim
    (λ before. lay_known sites lay is n s there x y before)
    (λ now. ⊎_elim
    (λ put. (0, put))
    (λ (k, u, lt, at, (sent, lies)). came_known sites s x y (
      k,
      u,
      lt,
      at,
      (
        sent_by_wider (λ v a b. IsTrue (lay n v a b)) (by_known sites) u (lay_known sites lay is n u (k, lt, at)) x (inl s.me) sent,
        lay_known sites lay is n u (k, lt, at) x y lies,
      ),
    ))
    now)
    (is.1 n s x y there h)

pub history_is_known : HistoryIsKnown
history_is_known sites lay is n s there = (
  lay_known sites lay is n s there,
  λ item to sent. sent_by_wider (λ v a b. IsTrue (lay n v a b)) (by_known sites) s (lay_known sites lay is n s there) item to sent,
)

-- ---- capturing

either_part : (P : Content → Type 0) (xs ys : List Content) → Any P (xs ++ ys) → Any P xs ⊎ Any P ys
either_part P xs ys (k, e, lt, at, h) = ⊎_elim
    (λ (l, lt', at'). inl (l, e, lt', at', h))
    (λ (l, lt', at'). inr (l, e, lt', at', h))
    (Contains-append_cases xs ys e (k, lt, at))

no_shipment : (i : List ℕ) (to : Place) (p : List ℕ) (cs : List (List ℕ)) → ShipsTo i to (Pack Add (Some p) cs) → ⊥
no_shipment i (inl site) p cs h = h
no_shipment i (inr text) p cs h = h

first_is : (p x : List ℕ) → Some p ≡ Some x → p ≡ x
first_is p x h = cc

module _ (sites : List SiteEvents) (s : SiteEvents) (more : List Content) (each : (e : Content) → Contains more e → PutsKnown sites s e) where
  ships_before : (i : List ℕ) (to : Place) → Any (λ e. ShipsTo i to e.body) (s.events ++ more) → Any (λ e. ShipsTo i to e.body) s.events
  ships_before i to any = ⊎_elim
      (λ before. before)
      (λ (k, e, lt, at, ships).
      let puts = each e (k, lt, at) in
      absurd (no_shipment i to puts.parent puts.children (subst (ShipsTo i to) puts.is ships)))
      (either_part (λ e. ShipsTo i to e.body) s.events more any)

  gives_before : (e : Content) (j : List ℕ) → Any (λ f. AreOneMake e f × GivesOut j f.body) (s.events ++ more) → Any (λ f. AreOneMake e f × GivesOut j f.body) s.events
  gives_before e j any = ⊎_elim
      (λ before. before)
      (λ (k, f, lt, at, (one, gives)). let puts = each f (k, lt, at) in absurd (subst (GivesOut j) puts.is gives))
      (either_part (λ f. AreOneMake e f × GivesOut j f.body) s.events more any)

  made_before : (i : List ℕ) (q : Pair) → IsMade (record { me = s.me; events = s.events ++ more }) i q → IsMade s i q
  made_before i q (here, any) = (
    here,
    ⊎_elim
        (λ (k, e, lt, at, (takes, gives)). (k, e, lt, at, (takes, gives_before e q.item gives)))
        (λ (k, e, lt, at, (takes, gives)). let puts = each e (k, lt, at) in absurd (subst (TakesIn i) puts.is takes))
        (either_part (λ e. TakesIn i e.body × Any (λ f. AreOneMake e f × GivesOut q.item f.body) (s.events ++ more)) s.events more any),
  )

  packs_known : (x y : List ℕ) → Carries (s.events ++ more) x y → by_known sites s x y
  packs_known x y any = ⊎_elim
      (λ before. (0, before))
      (λ (k, e, lt, at, packs).
      let puts = each e (k, lt, at) in
      let (add, parent, listed) = subst (Packs x y) puts.is packs in
      subst (λ z. by_known sites s z y) (first_is puts.parent x parent) (puts.known y listed))
      (either_part (λ e. Packs x y e.body) s.events more any)

pub capturing_is_closing : CapturingIsClosing
capturing_is_closing sites s more each = record {
  same = refl;
  kept = Contains-append_left s.events more;
  ships = ships_before sites s more each;
  made = made_before sites s more each;
  packs = packs_known sites s more each;
}

-- ---- all closed

module _ (old new : List SiteEvents) (zipped : AllZip (HasClosed old) old new) where
  captured_all : AllZip (HasCapturedKnown old) old new
  captured_all = zip_weaker (HasClosed old) (HasCapturedKnown old) (λ s t h. h.captured) old new zipped

  closed_at : (k : ℕ) (t : SiteEvents) → k < length new → HasClosed old (get_or old k t) (get_or new k t)
  closed_at k t below = AllZip-get_or (HasClosed old) old new k t t zipped (subst (λ n. k < n) (sym (length_all_zip (HasClosed old) old new zipped)) below)

  no_gap_left : (t : SiteEvents) (x y : List ℕ) (to : Place) → Contains new t → IsPackedGap (by_known new) t x y to → ⊥
  no_gap_left t x y to (k, lt, at) gap =
      one_round_closes old new captured_all (get_or old k t) t (subst (λ z. HasClosed old (get_or old k t) z) at (closed_at k t lt)) x y to gap

  pub reaches_all : (root p : Pair) → Reaches (Related new) root p ↔ Reaches (WideRelated old) root p
  reaches_all root p =
      let law = no_gap_misses_nothing.0 new root in
      let agree = law.0 (law.1 (λ t item x y to there reached gap. no_gap_left t x y to there gap)) in (
        λ reached. reach_widens (WideRelated new) (WideRelated old) (λ a b. wide_forth old new captured_all a b) root p ((agree.0 p).1 reached),
        λ wide. (agree.0 p).0 (reach_widens (WideRelated old) (WideRelated new) (λ a b. wide_back old new captured_all a b) root p wide),
      )

pub closed_reaches_all : ClosedReachesAll
closed_reaches_all old new zipped = reaches_all old new zipped

pub closed_sends_all : ClosedSendsAll
closed_sends_all old new zipped s t h item to other = (
  λ sent. stays_sent old new zipped s t h.captured item to (sent_by_wider by_own (by_known new) t (λ x y own. (0, own)) item to sent),
  λ known. ⊎_elim
      (λ told. told)
      (λ untold.
      let missed : IsMissed (by_known new) t item to = record { elsewhere = other; goes = kept_sent old new zipped s t h.captured item to known; untold = untold } in
      let (parent, child, gap, on) = (gaps_are_misses.0 new t to).1 item missed in
      absurd (one_round_closes old new zipped s t h parent child to gap))
      (sent_or_not t item to),
)
