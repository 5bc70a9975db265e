-- What consistent sites say of a recall, and that one that has ended waits for nothing.
use Rattle.std.proofs.Common.{◌≡◌, Option, sym, ℕ, Bool, true, false, cond, List, [], ◌∷◌, Some, None, refl, ap, ◌∙◌, subst, arith, Contains}
use mathlib.Core.Bool.{false≢true}
use Rattle.std.specs.Cmp.{nat_cmp_total}
use Rattle.std.specs.FinMap.{entries}
use Rattle.std.specs.List.{sum_by}
use Rattle.std.specs.Prelude.{is_some}
use Rattle.std.proofs.lemmas.Bool.{false_from_ne_true}
use Rattle.std.proofs.lemmas.Option.{get_or_from_slice_get}
use Rattle.frame_core.specs.Identifiers.{same_recall}
use Rattle.frame_core.specs.Numbers.{Recall}
use Rattle.frame_core.specs.declared.rows.Row.{Row}
use Rattle.frame_core.proofs.Deficits.{passing, passing_more}
use Rattle.frame_core.proofs.Sameness.{one_recall}
use Rattle.trace_core.proofs.Members.{contains_here, contains_there}
use Rattle.site_core.specs.Records.{fresh}
use Rattle.site_core.proofs.Entries.{entry_found}
use Rattle.site_recovery.specs.Fit.{Fit, NoRows}
use Rattle.site_recovery.specs.Looks.{World, world_of, parent, row, seen}
use Rattle.site_recovery.proofs.Parents.{ended_no_rows}
use Rattle.query_core.specs.Laws.{EndsWaitForNothing, ParentsWait, ToldItemsAreHeld}
use Rattle.query_core.specs.Recalls.{waiting_count}
use Rattle.query_core.specs.declared.recalls.WaitingMessage.{WaitingMessage}
use Rattle.query_core.proofs.Listed.{none_there}
use Rattle.query_core.proofs.RecordSums.{sum_of_none}

none_passes : (p : Row → Bool) (es : List (ℕ × Row)) → ((e : ℕ × Row) → Contains es e → p e.1 ≡ false) → passing p es ≡ 0
none_passes p [] none = refl
none_passes p (e ∷ es) none =
    let here : ◌≡◌ {A = ℕ} (cond (p e.1) 1 0) 0 = ap (λ b. cond b 1 0) (none e (contains_here e es)) in
    omega (arith, passing_more p e es, here, none_passes p es (λ d at. none d (contains_there e d es at)))

none_waits : (W : World) (s : ℕ) (recall : Recall) → NoRows W s recall → waiting_count recall (W s) ≡ 0
none_waits W s recall none =
    none_passes (λ row. same_recall row.recall recall) (entries (W s).engagement.outbox)
    (λ e at. false_from_ne_true _ (λ same. none e.0 e.1 (entry_found nat_cmp_total (W s).engagement.outbox e.0 e.1 at) (one_recall e.1.recall recall same)))

not_engaged : (W : World) → Fit W → (recall : Recall) → ((s : ℕ) → NoRows W s recall) → (s : ℕ) → parent W s recall ≡ None
not_engaged W fit recall none s = elim (parent W s recall) as (λ p. parent W s recall ≡ p → p ≡ None) [
  | None ↦ λ _. refl
  | Some m ↦ λ is. let sent = (fit.parents_stand s recall m is).1 in absurd (none m.site m.number sent.0 sent.1 sent.3)
] refl

pub ends_wait_for_nothing : EndsWaitForNothing
ends_wait_for_nothing records recall detail fit ended is =
    let W = world_of records in
    let none : (s : ℕ) → NoRows W s recall = ended_no_rows W fit recall ended in (
      none_there detail.waiting (λ x at. none x.message.site x.message.number _ ((is.waiting.exact x).0 at).row refl),
      is.status.waiting ∙ ap (λ (r : Recall). sum_by (waiting_count r) records) is.of_recall
          ∙ sum_of_none (waiting_count recall) records (λ j r at. subst (λ z. waiting_count recall z ≡ 0) (get_or_from_slice_get records j r (fresh [] j) at) (none_waits W j recall (none j))),
      λ x at.
          let standing = (is.sites.exact x).0 at in
          (standing.waiting ∙ none_waits W x.site recall (none x.site), standing.engaged_by ∙ not_engaged W fit recall none x.site),
    )

-- ---- one that hasn't ended

pub parents_wait : ParentsWait
parents_wait records recall detail standing m fit is among engaged =
    let W = world_of records in
    let at : parent W standing.site recall ≡ Some m = sym ((is.sites.exact standing).0 among).engaged_by ∙ engaged in
    let (saw, sent) = fit.parents_stand standing.site recall m at in
    let x : Row = sent.0 in
    let stands : row W m.site m.number ≡ Some (record { dest = standing.site; recall = recall; item = x.item }) = sent.1 ∙ ap Some (λ i. record { dest = sent.2 i; recall = sent.3 i; item = x.item }) in
    let told : true ≡ is_some (seen W standing.site m) = sym (ap is_some saw) in
    let waiting : WaitingMessage = record { message = m; to = standing.site; item = x.item; told = true } in
    (waiting, (is.waiting.exact waiting).1 (record { row = stands; told = told }), refl, refl, refl)

seen_under : (found : Option Recall) → is_some found ≡ true → (q : Recall) × (found ≡ Some q)
seen_under None is = absurd (false≢true is)
seen_under (Some q) is = (q, refl)

pub told_items_are_held : ToldItemsAreHeld
told_items_are_held records recall detail waiting fit is among told =
    let W = world_of records in
    let stands = (is.waiting.exact waiting).0 among in
    let under = seen_under (seen W waiting.to waiting.message) (sym stands.told ∙ told) in
    (fit.told waiting.to).taken waiting.message.site waiting.message.number (record { dest = waiting.to; recall = recall; item = waiting.item }) stands.row under.0 refl under.1
