-- The sites that are told to be stuck are those that take part in a recall without a message of it.
use Rattle.std.proofs.Common.{◌≡◌, ◌↔◌, inl, inr, ℕ, zero, suc, Bool, true, false, not, ◌&&◌, List, [], ◌∷◌, slice_get, Some, None, refl, sym, ap, ◌∙◌, subst, arith, eqb, true≢false, Contains}
use Rattle.std.specs.Cmp.{nat_cmp_total}
use Rattle.std.specs.FinMap.{entries, nat_cmp-IsAntisymmetric}
use Rattle.std.specs.List.{flat_map}
use Rattle.std.specs.Prelude.{filter}
use Rattle.std.proofs.lemmas.Option.{same_Some}
use Rattle.std.proofs.lemmas.List.Elements.{Contains-append_cases, Contains-append_left, Contains-append_right}
use Rattle.frame_core.specs.Laws.{IsRowOf}
use Rattle.frame_core.specs.Numbers.{Recall, Message}
use Rattle.frame_core.specs.Orders.{recall_exact, recall_total}
use Rattle.frame_core.specs.Outboxes.{has_rows}
use Rattle.frame_core.proofs.Deficits.{found_rows, no_deficit, no_rows_left, rows_are_found}
use Rattle.scholten_core.specs.Effects.{IsEngaged, IsLive}
use Rattle.scholten_core.specs.Engagement.{Engagement}
use Rattle.scholten_core.specs.Laws.{IsOwned}
use Rattle.scholten_core.specs.declared.own_recalls.Own.{Own}
use Rattle.trace_core.proofs.Members.{contains-map, contains_none}
use Rattle.site_core.specs.Records.{Record}
use Rattle.site_core.proofs.Entries.{entry_found, entry_there}
use Rattle.query_core.specs.Stuck.{IsStuck, awaits_none, own_of, stuck_as, stuck_engaged, stuck_from, stuck_own}
use Rattle.query_core.specs.declared.stuck.StuckRecall.{StuckRecall}
use Rattle.query_core.proofs.Listed.{filtered, filtered_in}
use Rattle.query_core.proofs.SiteLists.{of_map}

module _ (e : Engagement) where
  -- no message counted is no row
  none_stands : (r : Recall) → awaits_none e r ≡ true → IsRowOf e.outbox r → ⊥
  none_stands r none row = let stands : has_rows e.outbox r ≡ true = found_rows e.outbox r row in grind (no_rows_left e.outbox r, none, stands, arith)

  none_counted : (r : Recall) → (IsRowOf e.outbox r → ⊥) → awaits_none e r ≡ true
  none_counted r none = elim (has_rows e.outbox r) as (λ b. has_rows e.outbox r ≡ b → awaits_none e r ≡ true) [
    | true ↦ λ is. absurd (none (rows_are_found e.outbox r is))
    | false ↦ λ is. ap (λ n. eqb n 0) (no_deficit e.outbox r is)
  ] refl

  abbrev engaged_in_vain : Recall × Message → Bool
  engaged_in_vain p = awaits_none e p.0

  abbrev own_in_vain : ℕ × Own → Bool
  own_in_vain p = not p.1.ended && awaits_none e (own_of e p.0)

  engaged_told : (x : StuckRecall) → Contains (stuck_engaged e) x → IsStuck e x
  engaged_told x at =
      let m = of_map (λ (p : Recall × Message). stuck_as e p.0) (filter engaged_in_vain (entries e.parents)) x at in
      let kept = filtered engaged_in_vain (entries e.parents) m.0 m.1 in
      subst (IsStuck e) m.2 (record {
        site = refl;
        owned = inl (m.0.1, entry_found recall_total e.parents m.0.0 m.0.1 kept.0);
        none = none_stands m.0.0 kept.1;
      })

  own_told : (x : StuckRecall) → Contains (stuck_own e) x → IsStuck e x
  own_told x at =
      let m = of_map (λ (p : ℕ × Own). stuck_as e (own_of e p.0)) (filter own_in_vain (entries e.own)) x at in
      let kept = filtered own_in_vain (entries e.own) m.0 m.1 in
      subst (IsStuck e) m.2 (record {
        site = refl;
        owned = inr (record { mine = refl; own = m.0.1; known = entry_found nat_cmp_total e.own m.0.0 m.0.1 kept.0; unended = unended m.0 kept.1 });
        none = none_stands (own_of e m.0.0) (in_vain m.0 kept.1);
      }) where
        unended : (p : ℕ × Own) → own_in_vain p ≡ true → p.1.ended ≡ false
        unended p is = elim p.1.ended as (λ b. (not b && awaits_none e (own_of e p.0)) ≡ true → b ≡ false) [
          | true ↦ λ h. cc
          | false ↦ λ _. refl
        ] is

        in_vain : (p : ℕ × Own) → own_in_vain p ≡ true → awaits_none e (own_of e p.0) ≡ true
        in_vain p is = elim p.1.ended as (λ b. (not b && awaits_none e (own_of e p.0)) ≡ true → awaits_none e (own_of e p.0) ≡ true) [
          | true ↦ λ h. cc
          | false ↦ λ h. h
        ] is

  engaged_there : (x : StuckRecall) → IsEngaged e x.recall → awaits_none e x.recall ≡ true → x.site ≡ e.me → Contains (stuck_engaged e) x
  engaged_there x engaged none here =
      let among = entry_there recall_total recall_exact e.parents x.recall engaged.0 engaged.1 in
      let kept = filtered_in engaged_in_vain (entries e.parents) (x.recall, engaged.0) among none in
      let same : stuck_as e x.recall ≡ x = λ i. record { recall = x.recall; site = sym here i } in
      subst (Contains (stuck_engaged e)) same (contains-map (λ (p : Recall × Message). stuck_as e p.0) (filter engaged_in_vain (entries e.parents)) (x.recall, engaged.0) kept)

  own_there : (x : StuckRecall) → IsLive e x.recall → awaits_none e x.recall ≡ true → x.site ≡ e.me → Contains (stuck_own e) x
  own_there x live none here =
      let it : own_of e x.recall.number ≡ x.recall = λ i. record { site = live.mine i; number = x.recall.number } in
      let among = entry_there nat_cmp_total nat_cmp-IsAntisymmetric e.own x.recall.number live.own live.known in
      let passes : own_in_vain (x.recall.number, live.own) ≡ true = ap (λ b. not b && awaits_none e (own_of e x.recall.number)) live.unended ∙ ap (awaits_none e) it ∙ none in
      let kept = filtered_in own_in_vain (entries e.own) (x.recall.number, live.own) among passes in
      let same : stuck_as e (own_of e x.recall.number) ≡ x = λ i. record { recall = it i; site = sym here i } in
      subst (Contains (stuck_own e)) same (contains-map (λ (p : ℕ × Own). stuck_as e (own_of e p.0)) (filter own_in_vain (entries e.own)) (x.recall.number, live.own) kept)

pub stuck_are_told : (r : Record) (x : StuckRecall) → Contains (stuck_from r) x ↔ IsStuck r.engagement x
stuck_are_told r x = (
  λ at. elim (Contains-append_cases (stuck_engaged r.engagement) (stuck_own r.engagement) x at) as (λ _. IsStuck r.engagement x) [
    | inl engaged ↦ engaged_told r.engagement x engaged
    | inr own ↦ own_told r.engagement x own
  ],
  λ is.
      let none = none_counted r.engagement x.recall is.none in
      elim is.owned as (λ _. Contains (stuck_from r) x) [
        | inl engaged ↦ Contains-append_left (stuck_engaged r.engagement) (stuck_own r.engagement) x (engaged_there r.engagement x engaged none is.site)
        | inr live ↦ Contains-append_right (stuck_engaged r.engagement) (stuck_own r.engagement) x (own_there r.engagement x live none is.site)
      ],
)

among_all : (rs : List Record) (place : ℕ) (r : Record) (x : StuckRecall) → slice_get rs place ≡ Some r → Contains (stuck_from r) x → Contains (flat_map stuck_from rs) x
among_all [] place r x at there = let n : None ≡ Some r = at in cc
among_all (s ∷ rs) zero r x at there = Contains-append_left (stuck_from s) (flat_map stuck_from rs) x (subst (λ (t : Record). Contains (stuck_from t) x) (sym (same_Some s r at)) there)
among_all (s ∷ rs) (suc place) r x at there = Contains-append_right (stuck_from s) (flat_map stuck_from rs) x (among_all rs place r x at there)

-- where no site is told, each recall that a site takes part in has a message there
pub none_in_vain : (rs : List Record) → flat_map stuck_from rs ≡ [] → (place : ℕ) (r : Record) → slice_get rs place ≡ Some r → (q : Recall) → IsOwned r.engagement q → IsRowOf r.engagement.outbox q
none_in_vain rs none place r at q owned = elim (has_rows r.engagement.outbox q) as (λ b. has_rows r.engagement.outbox q ≡ b → IsRowOf r.engagement.outbox q) [
  | true ↦ λ is. rows_are_found r.engagement.outbox q is
  | false ↦ λ is.
      let x : StuckRecall = record { recall = q; site = r.engagement.me } in
      let unsent : IsRowOf r.engagement.outbox q → ⊥ = λ row. true≢false (sym (found_rows r.engagement.outbox q row) ∙ is) in
      let told : Contains (stuck_from r) x = (stuck_are_told r x).1 (record { site = refl; owned = owned; none = unsent }) in
      absurd (contains_none x (subst (λ (xs : List StuckRecall). Contains xs x) none (among_all rs place r x at told)))
] refl
