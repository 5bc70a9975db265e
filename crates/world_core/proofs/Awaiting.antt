-- Each step keeps that a site awaits the signals that it is there for.
use Rattle.std.proofs.Common.{◌≡◌, ◌≢◌, ◌⊎◌, inl, inr, ℕ, ◌+◌, ◌<◌, true, false, List, [], ◌∷◌, Some, None, refl, sym, ap, ◌∙◌, subst, true≢false}
use Rattle.std.specs.Prelude.{IsFalse}
use Rattle.std.specs.Ordering.{nat_cmp}
use Rattle.std.specs.FinMap.{FinMap, get}
use Rattle.frame_core.specs.Laws.{IsRowOf, HasNoRows}
use Rattle.frame_core.specs.Numbers.{Recall, Message}
use Rattle.frame_core.specs.Outboxes.{has_rows}
use Rattle.frame_core.specs.declared.frames.Frame.TheVariants as frames
use Rattle.frame_core.specs.declared.rows.Row.{Row}
use Rattle.frame_core.proofs.Deficits.{rows_are_found, no_row}
use Rattle.scholten_core.specs.Effects.{AddsRows, Begins, Takes, Clears, IsBegun, IsOver}
use Rattle.scholten_core.specs.Engagement.{Engagement}
use Rattle.scholten_core.specs.declared.own_recalls.Own.{Own}
use Rattle.site_core.specs.Records.{Record}
use Rattle.site_core.specs.Steps.{Does}
use Rattle.site_core.specs.declared.inputs.SiteInput.{SiteInput}
use Rattle.site_core.specs.declared.inputs.SiteInput.TheVariants.{Capture, Start, Deliver}
use Rattle.site_core.specs.declared.outcomes.Effects.{Effects}
use Rattle.site_core.specs.declared.outcomes.Effects.TheVariants as effects
use Rattle.site_core.proofs.Clearings.{signals_clear}
use Rattle.site_core.proofs.Openings.{starts_open}
use Rattle.site_core.proofs.Takings.{messages_are_taken}
use Rattle.site_recovery.proofs.OneSite.{one_place}
use Rattle.world_core.specs.EndingLaws.{AwaitsSignals}

-- a recall has rows or none
rows_or_none : (rows : FinMap nat_cmp Row) (r : Recall) → IsRowOf rows r ⊎ HasNoRows rows r
rows_or_none rows r = elim (has_rows rows r) as (λ b. has_rows rows r ≡ b → IsRowOf rows r ⊎ HasNoRows rows r) [
  | true ↦ λ is. inl (rows_are_found rows r is)
  | false ↦ λ is. inr (no_row rows r is)
] refl

-- the numbers of rows are below the next one
abbrev pub RowsAreBelow : Engagement → Type 0
RowsAreBelow e = (n : ℕ) (x : Row) → get e.outbox n ≡ Some x → n < e.next_message

-- the site isn't engaged for a recall of its own
abbrev pub OwnAreUnengaged : Engagement → Type 0
OwnAreUnengaged e = (r : Recall) (m : Message) → r.site ≡ e.me → get e.parents r ≢ Some m

kept_rows : (old new : Engagement) (r : Recall) (out : List (ℕ × List ℕ)) → AddsRows old new r out → RowsAreBelow old → (q : Recall) → IsRowOf old.outbox q → IsRowOf new.outbox q
kept_rows old new r out adds below q w = record { number = w.number; row = w.row; stands = adds.row_kept w.number w.row (inl (below w.number w.row w.stands)) w.stands; of_recall = w.of_recall }

pub await_takes : (old new : Engagement) (m : Message) (r : Recall) (out : List (ℕ × List ℕ)) → Takes old new m r out → RowsAreBelow old → AwaitsSignals old → AwaitsSignals new
await_takes old new m r out c below await q (inl (p, e)) = elim (c.parent_origin q p e) as (λ _. IsRowOf new.outbox q) [
  | inl was ↦ kept_rows old new r out c.rows below q (await q (inl (p, was)))
  | inr now ↦ subst (IsRowOf new.outbox) (sym now.0) now.3
]
await_takes old new m r out c below await q (inr live) =
    kept_rows old new r out c.rows below q (await q (inr (record { mine = sym c.me ∙ live.mine; own = live.own; known = sym (c.own q.number) ∙ live.known; unended = live.unended })))

-- a recall that was just begun, and didn't end at once, has rows
begun_waits : (old new : Engagement) (root : List ℕ) (out : List (ℕ × List ℕ)) (o : Own) (r : Recall) → AddsRows old new r out → IsBegun o root out → IsFalse o.ended → IsRowOf new.outbox r
begun_waits old new root [] o r adds begun unended = absurd (true≢false (sym (begun.ends_at_once.1 refl) ∙ unended))
begun_waits old new root (pair ∷ out) o r adds begun unended = record { number = old.next_message + 0; row = record { dest = pair.0; recall = r; item = pair.1 }; stands = adds.row_told 0 pair refl; of_recall = refl }

pub await_begins : (old new : Engagement) (root : List ℕ) (out : List (ℕ × List ℕ)) → Begins old new root out → RowsAreBelow old → AwaitsSignals old → AwaitsSignals new
await_begins old new root out c below await q (inl (p, e)) = kept_rows old new _ out c.rows below q (await q (inl (p, sym (c.parent q) ∙ e)))
await_begins old new root out c below await q (inr live) = elim (c.own_origin q.number live.own live.known) as (λ _. IsRowOf new.outbox q) [
  | inl was ↦ kept_rows old new _ out c.rows below q (await q (inr (record { mine = sym c.me ∙ live.mine; own = live.own; known = was; unended = live.unended })))
  | inr now ↦
      let site : old.me ≡ q.site = sym c.me ∙ live.mine in
      let name : record { site = old.me; number = old.next_recall } ≡ q = (λ i. record { site = site i; number = sym now.0 i }) in
      subst (IsRowOf new.outbox) name (begun_waits old new root out live.own _ c.rows now.1 live.unended)
]

module _ (old new : Engagement) (n : ℕ) (x : Row) (c : Clears old new n x) where
  -- another recall's rows stand
  stands_or_cleared : (q : Recall) → IsRowOf old.outbox q → IsRowOf new.outbox q ⊎ (x.recall ≡ q)
  stands_or_cleared q w = elim (one_place w.number n) as (λ _. IsRowOf new.outbox q ⊎ (x.recall ≡ q)) [
    | inl here ↦
        let same : Some w.row ≡ Some x = sym w.stands ∙ ap (get old.outbox) here ∙ c.was in
        let row : w.row ≡ x = cc in
        inr (ap (λ (y : Row). y.recall) (sym row) ∙ w.of_recall)
    | inr away ↦ inl (record { number = w.number; row = w.row; stands = c.row_kept w.number w.row away w.stands; of_recall = w.of_recall })
  ]

  pub await_clears : OwnAreUnengaged old → AwaitsSignals old → AwaitsSignals new
  await_clears home await q (inl (p, e)) = elim (rows_or_none new.outbox q) as (λ _. IsRowOf new.outbox q) [
    | inl some ↦ some
    | inr none ↦ elim (stands_or_cleared q (await q (inl (p, c.parent_origin q p e)))) as (λ _. IsRowOf new.outbox q) [
      | inl some ↦ some
      | inr its ↦
          let gone : get new.parents q ≡ None = subst (λ (z : Recall). get new.parents z ≡ None) its (c.parent_gone (subst (HasNoRows new.outbox) (sym its) none)) in
          absurd (let twice : None ≡ Some p = sym gone ∙ e in cc)
    ]
  ]
  await_clears home await q (inr live) = elim (rows_or_none new.outbox q) as (λ _. IsRowOf new.outbox q) [
    | inl some ↦ some
    | inr none ↦
        let was = c.own_origin q.number live.own live.known in
        elim was.3 as (λ _. IsRowOf new.outbox q) [
          | inr over ↦ absurd (true≢false (sym over.0 ∙ live.unended))
          | inl as_was ↦
              let mine : old.me ≡ q.site = sym c.me ∙ live.mine in
              elim (stands_or_cleared q (await q (inr (record { mine = mine; own = was.0; known = was.1; unended = sym as_was ∙ live.unended })))) as (λ _. IsRowOf new.outbox q) [
                | inl some ↦ some
                | inr its ↦
                    let neutral : get old.parents x.recall ≡ None = elim (get old.parents x.recall) as (λ o. get old.parents x.recall ≡ o → get old.parents x.recall ≡ None) [
                      | None ↦ λ is. is
                      | Some m ↦ λ is. absurd (home x.recall m (ap (λ (z : Recall). z.site) its ∙ sym mine) is)
                    ] refl in
                    let name : x.recall ≡ record { site = old.me; number = q.number } = its ∙ (λ i. record { site = sym mine i; number = q.number }) in
                    let over : IsOver old new x.recall q.number = record { recall = name; neutral = neutral; none_left = subst (HasNoRows new.outbox) (sym its) none } in
                    absurd (true≢false (sym (c.own_ended q.number live.own live.known over) ∙ live.unended))
              ]
        ]
  ]

-- So does each step.
pub await_steps : (s t : Record) (input : SiteInput) (e : Effects) → RowsAreBelow s.engagement → OwnAreUnengaged s.engagement → Does s input e t → AwaitsSignals s.engagement → AwaitsSignals t.engagement
await_steps s t (Capture bytes) (effects.Captured fresh known skipped) below home does await = subst AwaitsSignals (sym (ap (λ (r : Record). r.engagement) does.rest)) await
await_steps s t (Start root) (effects.Started recall quarantined numbered ended) below home does await =
    let w = (starts_open s t root recall quarantined numbered ended does).0 in
    await_begins s.engagement t.engagement root w.out w.begins below await
await_steps s t (Deliver (frames.Recall m dest r i)) (effects.Received quarantined numbered owed) below home does await =
    let w = (messages_are_taken s t m dest r i quarantined numbered owed does).1 in
    await_takes s.engagement t.engagement m r w.out w.takes below await
await_steps s t (Deliver (frames.Recall m dest r i)) effects.Repeat below home does await = subst AwaitsSignals (sym (ap (λ (r : Record). r.engagement) does.1)) await
await_steps s t (Deliver (frames.Signal m by)) effects.Stale below home does await = subst AwaitsSignals (sym (ap (λ (r : Record). r.engagement) does.1)) await
await_steps s t (Deliver (frames.Signal m by)) effects.Cleared below home does await =
    let w = (signals_clear s t m by).0 does in
    await_clears s.engagement t.engagement m.number w.row w.clears.clears home await
await_steps s t (Deliver (frames.Signal m by)) (effects.ParentDue parent) below home does await =
    let w = (signals_clear s t m by).1 parent does in
    await_clears s.engagement t.engagement m.number w.row w.clears.clears home await
await_steps s t (Deliver (frames.Signal m by)) (effects.Ended recall) below home does await =
    let w = (signals_clear s t m by).2 recall does in
    await_clears s.engagement t.engagement m.number w.row w.clears.clears home await
await_steps s t input other below home does await = absurd does
