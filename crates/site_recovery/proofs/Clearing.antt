-- A signal that clears a row keeps the records consistent, where the row's message is answered.
use Rattle.std.proofs.Common.{◌≡◌, ◌⊎◌, inl, inr, ℕ, zero, suc, ◌<◌, List, Some, refl, sym, ap, ◌∙◌, subst}
use Rattle.frame_core.specs.Numbers.{Recall, Message}
use Rattle.frame_core.specs.declared.frames.Frame.{Frame}
use Rattle.frame_core.specs.declared.frames.Frame.TheVariants as frames
use Rattle.frame_core.specs.declared.rows.Row.{Row}
use Rattle.site_core.specs.Quarantines.{held}
use Rattle.site_recovery.specs.Fit.{Fit, Climbs, FrameFits, HasRow, IsAnswered, IsEngaged, IsPassedOn, MayWait, ParentsLeadHomeFrom, ParentsStandAt, Reached, ShipmentsAreTold, WaitsRightlyAt}
use Rattle.site_recovery.specs.Looks.{World, Held, row, parent}
use Rattle.site_recovery.proofs.Chains.{makes_now, makes_before, ships_now, ships_before, reached_more}
use Rattle.site_recovery.proofs.Changes.{Clears}
use Rattle.site_recovery.proofs.Parents.{quiet_ends_follow}

module _ (V W : World) (s n : ℕ) (x : Row) (f : Fit V) (c : Clears V W s n x) where
  -- the message of the row
  abbrev sent : Message
  sent = record { site = s; number = n }

  -- what stood at the number was the row
  was_row : (t k : ℕ) (y : Row) → row V t k ≡ Some y → t ≡ s → k ≡ n → x ≡ y
  was_row t k y e here number =
      let at : row V s n ≡ Some y = subst (λ z. row V z n ≡ Some y) here (subst (λ z. row V t z ≡ Some y) number e) in
      let h : Some x ≡ Some y = sym c.was ∙ at in
      cc

  kept : (t : ℕ) (q : Recall) (i : List ℕ) → Held V t q i → Held W t q i
  kept t q i h = ap (λ z. held z q i) (c.quarantine t) ∙ h

  before : (t : ℕ) (q : Recall) (i : List ℕ) → Held W t q i → Held V t q i
  before t q i h = sym (ap (λ z. held z q i) (c.quarantine t)) ∙ h

  pub answered_clears : (t : ℕ) (id : Message) → IsAnswered V t id → IsAnswered W t id
  answered_clears t id a = ((a.0.0, c.seen t id ∙ a.0.1), λ q e. a.1 q (c.parent_origin t q id e))

  waiting_clears : (t : ℕ) → WaitsRightlyAt W t
  waiting_clears t k y e =
      elim (f.waiting t k y (c.row_origin t k y e)) as (λ _. MayWait W t y.recall) [
        | inl p ↦ elim (c.parent_kept t y.recall p.0 p.1) as (λ _. MayWait W t y.recall) [
          | inl stays ↦ inl (p.0, stays)
          | inr gone ↦ absurd (gone.2 k y (subst (λ z. row W z k ≡ Some y) gone.0 e) gone.1)
        ]
        | inr l ↦ let o = c.own_kept y.recall.site y.recall.number l.1.0 l.1.1 in
            elim o.3 as (λ _. MayWait W t y.recall) [
              | inl same ↦ inr (l.0, (o.0, o.1, same ∙ l.1.2))
              | inr over ↦ absurd (over.1.2 k y (subst (λ z. row W z k ≡ Some y) (l.0 ∙ over.1.0) e) (sym over.1.1))
            ]
      ]

  module _ (done : IsAnswered V x.dest sent) where
    pub frame_clears : (y : Frame) → FrameFits V y → FrameFits W y
    frame_clears (frames.Recall id dest q i) h = elim h as (λ _. FrameFits W (frames.Recall id dest q i)) [
      | inl stands ↦ elim (c.row_kept id.site id.number _ stands) as (λ _. FrameFits W (frames.Recall id dest q i)) [
        | inl stays ↦ inl stays
        | inr here ↦
            let one = was_row id.site id.number _ stands here.0 here.1 in
            let name : sent ≡ id = (λ j. record { site = sym here.0 j; number = sym here.1 j }) in
            inr (answered_clears dest id (subst (λ (z : Row). IsAnswered V z.dest id) one (subst (λ z. IsAnswered V x.dest z) name done)))
      ]
      | inr a ↦ inr (answered_clears dest id a)
    ]
    frame_clears (frames.Signal id by) h = answered_clears by id h

    clears_told : (u : ℕ) → ShipmentsAreTold W u
    clears_told u t q i h ships = elim ((f.told u).told t q i (before t q i h) (ships_before V W c.captured t i u ships)) as (λ _. IsPassedOn W t u q i) [
      | inl told ↦ elim (c.row_kept t told.0 _ told.1) as (λ _. IsPassedOn W t u q i) [
        | inl stays ↦ inl (told.0, stays)
        | inr here ↦ inr (kept u q i (subst (λ (z : Row). Held V z.dest z.recall z.item) (was_row t told.0 _ told.1 here.0 here.1) ((f.told x.dest).taken s n x c.was done.0.0 refl done.0.1)))
      ]
      | inr there ↦ inr (kept u q i there)
    ]

    -- a row under a parent isn't the one that was cleared, since its message is no parent
    clears_parents : (t : ℕ) → ParentsStandAt W t
    clears_parents t q p e =
        let (saw, y) = f.parents_stand t q p (c.parent_origin t q p e) in (
          c.seen t p ∙ saw,
          elim (c.row_kept p.site p.number y.0 y.1) as (λ _. HasRow W p t q) [
            | inl stays ↦ (y.0, stays, y.2, y.3)
            | inr here ↦
                let one = was_row p.site p.number y.0 y.1 here.0 here.1 in
                let name : p ≡ sent = (λ i. record { site = here.0 i; number = here.1 i }) in
                let there : t ≡ x.dest = sym y.2 ∙ ap (λ (z : Row). z.dest) (sym one) in
                absurd (done.1 q (subst (λ z. parent V z q ≡ Some sent) there (subst (λ z. parent V t q ≡ Some z) name (c.parent_origin t q p e))))
          ],
        )

    -- what is still engaged climbs as before: each site on the way has a row of the recall, so it is engaged still
    clears_climbs : (q : Recall) (k t : ℕ) → Climbs V q k t → (t ≡ q.site) ⊎ IsEngaged W t q → Climbs W q k t
    clears_climbs q zero t h e = h
    clears_climbs q (suc k) t h (inl here) = absurd (h.3 here)
    clears_climbs q (suc k) t h (inr e) =
        let same : e.0 ≡ h.0 = let g : Some e.0 ≡ Some h.0 = sym (c.parent_origin t q e.0 e.1) ∙ h.1 in cc in
        let is : parent W t q ≡ Some h.0 = subst (λ z. parent W t q ≡ Some z) same e.1 in
        let y = (clears_parents t q h.0 is).1 in (
          h.0,
          is,
          clears_climbs q k h.0.site h.2
              (elim (waiting_clears h.0.site h.0.number y.0 y.1) as (λ _. (h.0.site ≡ q.site) ⊎ IsEngaged W h.0.site q) [
                | inl p ↦ inr (subst (λ z. IsEngaged W h.0.site z) y.3 p)
                | inr l ↦ inl (l.0 ∙ ap (λ (z : Recall). z.site) y.3)
              ]),
          h.3,
        )

    clears_home : (t : ℕ) → ParentsLeadHomeFrom W t
    clears_home t q p e = let way = f.parents_lead_home t q p (c.parent_origin t q p e) in (way.0, (way.1.0, clears_climbs q way.1.0 t way.1.1 (inr (p, e))))

    pub fit_clears : Fit W
    fit_clears = record {
      closed = λ t q i j h made. kept t q j (f.closed t q i j (before t q i h) (makes_before V W c.captured t i j made));
      told = λ u. record {
        told = clears_told u;
        taken = λ t k y e q at a. kept u y.recall y.item ((f.told u).taken t k y (c.row_origin t k y e) q at (sym (c.seen u _) ∙ a));
      };
      justified = λ t. let was = f.justified t in record {
        reached = λ q i h.
            let k = was.reached q i (before t q i h) in
            let o = c.own_kept q.site q.number k.0 k.1 in
            (o.0, o.1, subst (λ z. Reached W q.site z t i) (sym o.2) (reached_more V W (makes_now V W c.captured) (ships_now V W c.captured) q.site k.0.root t i k.2));
        rooted = λ k p e. let o = c.own_origin t k p e in kept t _ p.root (subst (λ z. Held V t (record { site = t; number = k }) z) (sym o.2) (was.rooted k o.0 o.1));
        rows = λ k y e. let just = was.rows k y (c.row_origin t k y e) in (kept t y.recall y.item just.0, ships_now V W c.captured t y.item y.dest just.1);
      };
      waiting = waiting_clears;
      parents_stand = clears_parents;
      parents_lead_home = clears_home;
      ends_are_quiet = λ t. quiet_ends_follow W t (waiting_clears t) (clears_home t);
      numbers_are_below = λ t. let was = f.numbers_are_below t in record {
        rows = λ k y e. subst (λ z. k < z) (sym (c.next_message t)) (was.rows k y (c.row_origin t k y e));
        seen = λ u p q e at. subst (λ z. p.number < z) (sym (c.next_message t)) (was.seen u p q (sym (c.seen u p) ∙ e) at);
        own = λ k p e. let o = c.own_origin t k p e in subst (λ z. k < z) (sym (c.next_recall t)) (was.own k o.0 o.1);
        held = λ u q i h at. subst (λ z. q.number < z) (sym (c.next_recall t)) (was.held u q i (before u q i h) at);
      };
    }
