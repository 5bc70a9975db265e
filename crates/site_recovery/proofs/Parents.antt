-- Parents lead to the initiator: while a row of a recall stands anywhere, the recall is live.
use Rattle.std.proofs.Common.{◌≡◌, ◌↔◌, inl, inr, ℕ, zero, suc, true, false, List, Some, refl, sym, ap, ◌∙◌, subst, true≢false}
use Rattle.frame_core.specs.Numbers.{Recall, Message}
use Rattle.frame_core.specs.declared.rows.Row.{Row}
use Rattle.scholten_core.specs.declared.own_recalls.Own.{Own}
use Rattle.site_recovery.specs.Fit.{Fit, Climbs, Reached, IsLive, IsEnded, NoRows}
use Rattle.site_recovery.specs.FittingAt.{QuietEndsFollow}
use Rattle.site_recovery.specs.Looks.{World, Held, row, parent, own}
use Rattle.site_recovery.proofs.Chains.{held_from_chain}

-- at the end of a climb the initiator has a row of the recall
pub row_of_initiator : (W : World) (r : Recall) → Fit W → (k s : ℕ) (m : Message) → parent W s r ≡ Some m → Climbs W r k s → (n : ℕ) × (x : Row) × (row W r.site n ≡ Some x) × (x.recall ≡ r)
row_of_initiator W r f zero s m e c = absurd ((f.parents_lead_home s r m e).0 c)
row_of_initiator W r f (suc zero) s m e c =
    let x = (f.parents_stand s r c.0 c.1).1 in
    (c.0.number, x.0, subst (λ t. row W t c.0.number ≡ Some x.0) c.2 x.1, x.3)
row_of_initiator W r f (suc (suc k)) s m e c = row_of_initiator W r f (suc k) c.0.site c.2.0 c.2.1 c.2

pub row_live : (W : World) → Fit W → (s n : ℕ) (x : Row) → row W s n ≡ Some x → IsLive W x.recall
row_live W f s n x e =
    let known = (f.justified s).reached x.recall x.item ((f.justified s).rows n x e).0 in
    elim (f.waiting s n x e) as (λ _. IsLive W x.recall) [
      | inl up ↦
          let c = (f.parents_lead_home s x.recall up.0 up.1).1 in
          let first = row_of_initiator W x.recall f c.0 s up.0 up.1 c.1 in
          elim (known.0.ended) as (λ b. known.0.ended ≡ b → IsLive W x.recall) [
            | true ↦ λ b. absurd (f.ends_are_quiet x.recall.site x.recall refl (known.0, known.1, b) first.0 first.1 first.2 first.3)
            | false ↦ λ b. (known.0, known.1, b)
          ] refl
      | inr here ↦ here.1
    ]

-- a recall isn't both
pub live_not_ended : (W : World) (r : Recall) → IsLive W r → IsEnded W r → ⊥
live_not_ended W r live is =
    let one : is.0 ≡ live.0 = let h : Some is.0 ≡ Some live.0 = sym is.1 ∙ live.1 in cc in
    true≢false (sym is.2 ∙ ap (λ p. p.ended) one ∙ live.2)

-- where rows wait rightly, and no site is engaged for its own recall, an ended recall has no row left at its initiator
pub quiet_ends_follow : QuietEndsFollow
quiet_ends_follow W s waits home r at is n x e same = elim (waits n x e) as (λ _. ⊥) [
  | inl up ↦ (home x.recall up.0 up.1).0 (sym at ∙ sym (ap (λ (z : Recall). z.site) same))
  | inr here ↦ live_not_ended W r (subst (λ q. IsLive W q) same here.1) is
]

-- an ended recall has no rows at any site
pub ended_no_rows : (W : World) → Fit W → (r : Recall) → IsEnded W r → (s : ℕ) → NoRows W s r
ended_no_rows W f r is s n x stands same = live_not_ended W r (subst (λ q. IsLive W q) same (row_live W f s n x stands)) is

-- what an ended recall holds is just what its root reaches
pub exact_end : (W : World) → Fit W → (r : Recall) (o : Own) → own W r.site r.number ≡ Some o → o.ended ≡ true → (s : ℕ) (i : List ℕ) → Held W s r i ↔ Reached W r.site o.root s i
exact_end W f r o is e s i = (
  λ h.
      let known = (f.justified s).reached r i h in
      let one : known.0 ≡ o = let same : Some known.0 ≡ Some o = sym known.1 ∙ is in cc in
      subst (λ p. Reached W r.site p.root s i) one known.2,
  λ reach. held_from_chain W f r (ended_no_rows W f r (o, is, e)) o.root ((f.justified r.site).rooted r.number o is) s i reach,
)

-- where parents only come, climbs stay
pub climbs_more : (V W : World) (r : Recall) → ((s : ℕ) (m : Message) → parent V s r ≡ Some m → parent W s r ≡ Some m) → (k s : ℕ) → Climbs V r k s → Climbs W r k s
climbs_more V W r kept zero s c = c
climbs_more V W r kept (suc k) s c = (c.0, kept s c.0 c.1, climbs_more V W r kept k c.0.site c.2, c.3)
