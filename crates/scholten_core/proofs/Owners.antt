-- Where a row of a recall stands, the site is engaged for the recall or is its live initiator: each change keeps that.
use Rattle.std.proofs.Common.{◌≡◌, inl, inr, ℕ, true, false, List, Some, None, refl, sym, ap, subst, ◌∙◌}
use Rattle.std.specs.Prelude.{slice_get}
use Rattle.std.specs.FinMap.{get}
use Rattle.frame_core.specs.Numbers.{Recall, Message}
use Rattle.frame_core.specs.Outboxes.{rows_of, has_rows}
use Rattle.frame_core.specs.declared.rows.Row.{Row}
use Rattle.frame_core.proofs.Deficits.{rows_are_found, no_deficit}
use Rattle.scholten_core.specs.Engagement.{Engagement}
use Rattle.scholten_core.specs.Effects.{IsLive, Begins, Takes, Clears}
use Rattle.scholten_core.specs.Laws.{RowsHaveAnOwner}

pub begins_owners : (old new : Engagement) (root : List ℕ) (out : List (ℕ × List ℕ)) → Begins old new root out → get old.own old.next_recall ≡ None → RowsHaveAnOwner old → RowsHaveAnOwner new
begins_owners old new root out c unused owned n x is = elim (c.rows.row_origin n x is) [
  | inl before ↦ elim (owned n x before) [
    | inl up ↦ inl (up.0, c.parent x.recall ∙ up.1)
    | inr live ↦ inr (record {
      mine = c.me ∙ live.mine;
      own = live.own;
      known = c.own_kept x.recall.number live.own (λ same. let twice : None ≡ Some live.own = sym unused ∙ ap (get old.own) (sym same) ∙ live.known in cc) live.known;
      unended = live.unended;
    })
  ]
  | inr fresh ↦
      let own = c.own_new in
      inr (record {
        mine = c.me ∙ ap (λ (r : Recall). r.site) (sym fresh.recall);
        own = own.0;
        known = ap (λ (r : Recall). get new.own r.number) fresh.recall ∙ own.1;
        unended = elim own.0.ended as (λ b. own.0.ended ≡ b → b ≡ false) [
          | false ↦ λ e. refl
          | true ↦ λ e. let nobody : None ≡ Some (x.dest, x.item) = ap (λ xs. slice_get xs fresh.place) (sym (own.2.ends_at_once.0 e)) ∙ fresh.message in cc
        ] refl;
      })
]

pub takes_owners : (old new : Engagement) (m : Message) (r : Recall) (out : List (ℕ × List ℕ)) → Takes old new m r out → RowsHaveAnOwner old → RowsHaveAnOwner new
takes_owners old new m r out c owned n x is =
    let as_before : (q : Recall) → IsLive old q → IsLive new q = λ q live. record { mine = c.me ∙ live.mine; own = live.own; known = c.own q.number ∙ live.known; unended = live.unended } in
    elim (c.rows.row_origin n x is) [
      | inl before ↦ elim (owned n x before) [
        | inl up ↦ inl (up.0, c.parent_kept x.recall up.0 up.1)
        | inr live ↦ inr (as_before x.recall live)
      ]
      | inr fresh ↦ elim (c.engages (record { number = n; row = x; stands = is; of_recall = fresh.recall })) [
        | inl up ↦ inl (up.0, ap (get new.parents) fresh.recall ∙ up.1)
        | inr live ↦ inr (as_before x.recall (subst (λ q. IsLive old q) (sym fresh.recall) live))
      ]
    ]

pub clears_owners : (old new : Engagement) (n : ℕ) (x : Row) → Clears old new n x → RowsHaveAnOwner old → RowsHaveAnOwner new
clears_owners old new n x c owned k y is = elim (owned k y (c.row_origin k y is)) [
  | inl up ↦ elim (c.parent_kept y.recall up.0 up.1) [
    | inl kept ↦ inl (up.0, kept)
    | inr gone ↦ absurd (gone.1 k y is gone.0)
  ]
  | inr live ↦
      let after = c.own_kept y.recall.number live.own live.known in
      elim after.3 [
        | inl as_was ↦ inr (record { mine = c.me ∙ live.mine; own = after.0; known = after.1; unended = as_was ∙ live.unended })
        | inr over ↦
            let same : y.recall ≡ x.recall = (λ i. record { site = sym live.mine i; number = y.recall.number }) ∙ sym over.1.recall in
            absurd (over.1.none_left k y is same)
      ]
]

-- a site that is neither has no rows of the recall
pub neutral_deficit : (e : Engagement) (r : Recall) → RowsHaveAnOwner e → get e.parents r ≡ None → (IsLive e r → ⊥) → rows_of e.outbox r ≡ 0
neutral_deficit e r owned free idle =
    no_deficit e.outbox r (elim (has_rows e.outbox r) as (λ b. has_rows e.outbox r ≡ b → b ≡ false) [
      | false ↦ λ h. refl
      | true ↦ λ h.
          let one = rows_are_found e.outbox r h in
          elim (owned one.number one.row one.stands) [
            | inl up ↦ let twice : None ≡ Some up.0 = sym free ∙ ap (get e.parents) (sym one.of_recall) ∙ up.1 in cc
            | inr live ↦ absurd (idle (subst (λ q. IsLive e q) one.of_recall live))
          ]
    ] refl)
