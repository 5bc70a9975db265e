-- A message that is taken keeps the records consistent, where its row stands.
use Rattle.std.proofs.Common.{◌≡◌, ◌≢◌, inl, inr, ℕ, zero, suc, ◌<◌, ◌≤◌, List, Some, None, refl, sym, ap, ◌∙◌, subst, arith, lt_of_lt_of_le}
use Rattle.frame_core.specs.Numbers.{Recall, Message}
use Rattle.frame_core.specs.declared.frames.Frame.{Frame}
use Rattle.frame_core.specs.declared.frames.Frame.TheVariants as frames
use Rattle.frame_core.specs.declared.rows.Row.{Row}
use Rattle.site_recovery.specs.Fit.{Fit, FrameFits, IsInReach, IsAnswered, IsJust, IsLive, IsOnTheWay, LeadsHome, MayWait, MessagesAreTaken, ParentStands, ParentsLeadHomeFrom, ParentsStandAt, Reached, WaitsRightlyAt}
use Rattle.site_recovery.specs.Looks.{World, Held, row, seen, parent, next_message, next_recall}
use Rattle.site_recovery.proofs.Chains.{makes_now, ships_now, reached_more, reached_shipped, reached_spread, spreads_itself}
use Rattle.site_recovery.proofs.Changes.{Takes}
use Rattle.site_recovery.proofs.Parents.{row_live, climbs_more, quiet_ends_follow}
use Rattle.site_recovery.proofs.Spreading.{spreads_closed, spreads_told, spreads_rows, spreads_rows_below}

module _ (V W : World) (s : ℕ) (m : Message) (r : Recall) (item : List ℕ) (f : Fit V) (c : Takes V W s m r item) where
  pub answered_takes : (t : ℕ) (id : Message) → IsAnswered V t id → IsAnswered W t id
  answered_takes t id a = (
    (a.0.0, c.seen_kept t id a.0.0 a.0.1),
    λ q e. elim (c.parent_origin t q id e) as (λ _. ⊥) [
      | inl old ↦ a.1 q old
      | inr new ↦
          let before : seen V s m ≡ Some a.0.0 = subst (λ z. seen V z m ≡ Some a.0.0) new.0 (subst (λ z. seen V t z ≡ Some a.0.0) new.2 a.0.1) in
          let no : None ≡ Some a.0.0 = sym c.unseen ∙ before in
          cc
    ],
  )

  pub frame_takes : (x : Frame) → FrameFits V x → FrameFits W x
  frame_takes (frames.Recall id dest q i) h = elim h as (λ _. FrameFits W (frames.Recall id dest q i)) [
    | inl stands ↦ inl (c.spreads.row_kept id.site id.number _ ((f.numbers_are_below id.site).rows id.number _ stands) stands)
    | inr a ↦ inr (answered_takes dest id a)
  ]
  frame_takes (frames.Signal id by) h = answered_takes by id h

  module _ (stands : row V m.site m.number ≡ Some (record { dest = s; recall = r; item = item })) where
    live : IsLive V r
    live = row_live V f m.site m.number _ stands

    just : IsJust (V m.site) (record { dest = s; recall = r; item = item })
    just = (f.justified m.site).rows m.number _ stands

    given_out : m.number < next_message V m.site
    given_out = (f.numbers_are_below m.site).rows m.number _ stands

    known : IsInReach V r m.site item
    known = (f.justified m.site).reached r item just.0

    here : Reached V r.site known.0.root s item
    unfolding known
    here = reached_shipped V r.site known.0.root m.site item s known.2 just.1

    up : LeadsHome V r m.site
    up = elim (f.waiting m.site m.number _ stands) as (λ _. LeadsHome V r m.site) [
      | inl e ↦ (f.parents_lead_home m.site r e.0 e.1).1
      | inr e ↦ (zero, e.0)
    ]

    more : (a : ℕ) (root : List ℕ) (u : ℕ) (j : List ℕ) → Reached V a root u j → Reached W a root u j
    more = reached_more V W (makes_now V W c.spreads.captured) (ships_now V W c.spreads.captured)

    -- a number that was given out isn't one of this event
    not_new : (t n : ℕ) → n < next_message V t → t ≡ s → next_message V s ≤ n → ⊥
    not_new t n low same high = let up : next_message V t ≤ n = subst (λ z. next_message V z ≤ n) (sym same) high in omega (arith, low, up)

    takes_taken : (u : ℕ) → MessagesAreTaken W u
    takes_taken u t n x e q at a = elim (c.spreads.row_origin t n x e) as (λ _. Held W u x.recall x.item) [
      | inl old ↦ elim (c.seen_origin u _ q a) as (λ _. Held W u x.recall x.item) [
        | inl was ↦ c.spreads.held_kept u x.recall x.item ((f.told u).taken t n x old q at was)
        | inr new ↦
            let it : row V t n ≡ Some (record { dest = s; recall = r; item = item }) = subst (λ (z : Message). row V z.site z.number ≡ Some (record { dest = s; recall = r; item = item })) (sym new.1) stands in
            let one : Some x ≡ Some (record { dest = s; recall = r; item = item }) = sym old ∙ it in
            let same : x ≡ record { dest = s; recall = r; item = item } = cc in
            subst (λ z. Held W z x.recall x.item) at (subst (λ (z : Row). Held W z.dest z.recall z.item) (sym same) (c.spreads.held_spread item (spreads_itself V s item)))
      ]
      | inr new ↦ elim (c.seen_origin u _ q a) as (λ _. Held W u x.recall x.item) [
        | inl was ↦ absurd (not_new t n ((f.numbers_are_below t).seen u (record { site = t; number = n }) q was refl) new.0 new.1.above)
        | inr it ↦ absurd (not_new t n (subst (λ (z : Message). z.number < next_message V z.site) (sym it.1) given_out) new.0 new.1.above)
      ]
    ]

    takes_reached : (t : ℕ) (q : Recall) (i : List ℕ) → Held W t q i → IsInReach W q t i
    takes_reached t q i h = elim (c.spreads.held_origin t q i h) as (λ _. IsInReach W q t i) [
      | inl old ↦ let k = (f.justified t).reached q i old in (k.0, c.own q.site q.number ∙ k.1, more q.site k.0.root t i k.2)
      | inr new ↦ subst (λ z. IsInReach W q z i) (sym new.0) (subst (λ z. IsInReach W z s i) (sym new.1) (
        known.0,
        c.own r.site r.number ∙ known.1,
        more r.site known.0.root s i (reached_spread V r.site known.0.root s item i here new.2),
      ))
    ]

    takes_waiting : (t : ℕ) → WaitsRightlyAt W t
    takes_waiting t n x e = elim (c.spreads.row_origin t n x e) as (λ _. MayWait W t x.recall) [
      | inl old ↦ elim (f.waiting t n x old) as (λ _. MayWait W t x.recall) [
        | inl p ↦ inl (p.0, c.parent_kept t x.recall p.0 p.1)
        | inr l ↦ inr (l.0, (l.1.0, c.own x.recall.site x.recall.number ∙ l.1.1, l.1.2))
      ]
      | inr new ↦ elim (c.engages n x (subst (λ z. row W z n ≡ Some x) new.0 e) new.1.recall) as (λ _. MayWait W t x.recall) [
        | inl p ↦ rw (new.0, new.1.recall) (inl p)
        | inr l ↦ rw (new.0, new.1.recall) (inr (l.0, (l.1.0, c.own r.site r.number ∙ l.1.1, l.1.2)))
      ]
    ]

    takes_parents : (t : ℕ) → ParentsStandAt W t
    takes_parents t q p e = elim (c.parent_origin t q p e) as (λ _. ParentStands W t q p) [
      | inl old ↦
          let (saw, x) = f.parents_stand t q p old in
          (c.seen_kept t p q saw, (x.0, c.spreads.row_kept p.site p.number x.0 ((f.numbers_are_below p.site).rows p.number x.0 x.1) x.1, x.2, x.3))
      | inr new ↦ rw (new.0, new.1, new.2) (c.seen_new, (record { dest = s; recall = r; item = item }, c.spreads.row_kept m.site m.number _ given_out stands, refl, refl))
    ]

    takes_home : (t : ℕ) → ParentsLeadHomeFrom W t
    takes_home t q p e = elim (c.parent_origin t q p e) as (λ _. IsOnTheWay W t q) [
      | inl old ↦ let way = f.parents_lead_home t q p old in (way.0, (way.1.0, climbs_more V W q (λ a b. c.parent_kept a q b) way.1.0 t way.1.1))
      | inr new ↦
          let goes : parent W s r ≡ Some m = subst (λ z. parent W z r ≡ Some m) new.0 (subst (λ z. parent W t z ≡ Some m) new.1 (subst (λ z. parent W t q ≡ Some z) new.2 e)) in
          let away : s ≢ r.site = λ h. new.3 h live in
          rw (new.0, new.1) (away, (suc up.0, (m, goes, climbs_more V W r (λ a b. c.parent_kept a r b) up.0 m.site up.1, away)))
    ]

    pub fit_takes : Fit W
    fit_takes =
        let d = c.spreads in
        record {
          closed = spreads_closed V W s r item f d;
          told = λ u. record { told = spreads_told V W s r item f d u; taken = takes_taken u };
          justified = λ t. record {
            reached = takes_reached t;
            rooted = λ k o e. d.held_kept t _ o.root ((f.justified t).rooted k o (sym (c.own t k) ∙ e));
            rows = spreads_rows V W s r item f d t;
          };
          waiting = takes_waiting;
          parents_stand = takes_parents;
          parents_lead_home = takes_home;
          ends_are_quiet = λ t. quiet_ends_follow W t (takes_waiting t) (takes_home t);
          numbers_are_below = λ t. let was = f.numbers_are_below t in record {
            rows = spreads_rows_below V W s r item f d t;
            seen = λ u p q e at. elim (c.seen_origin u p q e) as (λ _. p.number < next_message W t) [
              | inl old ↦ lt_of_lt_of_le (was.seen u p q old at) (d.next_up t)
              | inr new ↦ subst (λ z. p.number < next_message W z) at (subst (λ (z : Message). z.number < next_message W z.site) (sym new.1) (lt_of_lt_of_le given_out (d.next_up m.site)))
            ];
            own = λ k o e. subst (λ z. k < z) (sym (c.next_recall t)) (was.own k o (sym (c.own t k) ∙ e));
            held = λ u q i h at. subst (λ z. q.number < z) (sym (c.next_recall t)) (elim (d.held_origin u q i h) as (λ _. q.number < next_recall V t) [
              | inl old ↦ was.held u q i old at
              | inr new ↦ subst (λ (z : Recall). z.number < next_recall V t) (sym new.1) (was.held m.site r item just.0 (sym (ap (λ (z : Recall). z.site) new.1) ∙ at))
            ]);
          };
        }
