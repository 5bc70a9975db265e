-- An ended recall stays ended, with the same list.
use Rattle.std.proofs.Common.{◌≡◌, inl, inr, ℕ, ◌<◌, List, Some, sym, subst, lt_irrefl}
use Rattle.frame_core.specs.Numbers.{Recall, Message}
use Rattle.frame_core.specs.declared.rows.Row.{Row}
use Rattle.scholten_core.specs.declared.own_recalls.Own.{Own}
use Rattle.site_recovery.specs.Fit.{Fit, IsEnded}
use Rattle.site_recovery.specs.Looks.{World, Held, row, own, next_recall}
use Rattle.site_recovery.proofs.Changes.{Takes, Opens, Clears}
use Rattle.site_recovery.proofs.Parents.{ended_no_rows}

-- a message of an ended recall was seen wherever it goes, so nothing more comes under the recall
pub ended_takes : (V W : World) (s : ℕ) (m : Message) (r : Recall) (item : List ℕ) → Fit V → Takes V W s m r item
    → row V m.site m.number ≡ Some (record { dest = s; recall = r; item = item })
    → (q : Recall) → IsEnded V q → (t : ℕ) (i : List ℕ) → Held W t q i → Held V t q i
ended_takes V W s m r item f c stands q is t i h = elim (c.spreads.held_origin t q i h) as (λ _. Held V t q i) [
  | inl old ↦ old
  | inr new ↦ absurd (ended_no_rows V f q is m.site m.number _ stands (sym new.1))
]

-- a recall that begins isn't one that was begun
pub begun_opens : (V W : World) (s : ℕ) (item : List ℕ) (new_own : Own) → Fit V → Opens V W s item new_own
    → (q : Recall) (o : Own) → own V q.site q.number ≡ Some o → (t : ℕ) (i : List ℕ) → Held W t q i → Held V t q i
begun_opens V W s item new_own f c q o is t i h = elim (c.spreads.held_origin t q i h) as (λ _. Held V t q i) [
  | inl old ↦ old
  | inr new ↦ absurd (lt_irrefl (next_recall V s) (subst (λ (z : Recall). z.number < next_recall V z.site) new.1 ((f.numbers_are_below q.site).own q.number o is)))
]

-- a row that is cleared is of another recall
pub ended_clears : (V W : World) (s n : ℕ) (x : Row) → Fit V → Clears V W s n x → (q : Recall) → IsEnded V q → (o : Own) → own V q.site q.number ≡ Some o → (p : Own) × (own W q.site q.number ≡ Some p) × (p.root ≡ o.root) × (p.ended ≡ o.ended)
ended_clears V W s n x f c q is o e =
    let k = c.own_kept q.site q.number o e in (
      k.0,
      k.1,
      k.2,
      elim k.3 as (λ _. k.0.ended ≡ o.ended) [
        | inl same ↦ same
        | inr over ↦ absurd (ended_no_rows V f q is s n x c.was over.1.1)
      ],
    )
