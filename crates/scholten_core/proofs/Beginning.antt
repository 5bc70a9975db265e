-- What beginning a recall leaves, and the rows that numbering adds.
use Rattle.std.proofs.Common.{◌≡◌, inl, inr, ℕ, ◌+◌, ◌==◌, true, List, [], ◌∷◌, length, Some, refl, sym, ap, subst, ◌∙◌, arith}
use Rattle.std.specs.Cmp.{nat_cmp_total}
use Rattle.std.specs.FinMap.{nat_cmp-IsAntisymmetric, get, insert}
use Rattle.std.proofs.lemmas.Bool.Decides.{nat_tests}
use Rattle.frame_core.specs.Numbers.{Recall}
use Rattle.frame_core.specs.Outboxes.{numbered}
use Rattle.frame_core.proofs.Lookups.{one_key, get_here, get_apart}
use Rattle.frame_core.proofs.Numbering.{numbered_kept, numbered_above, numbered_told, numbered_origin}
use Rattle.scholten_core.specs.declared.own_recalls.Own.{Own}
use Rattle.scholten_core.specs.Engagement.{Engagement}
use Rattle.scholten_core.specs.Changes.{next_own, begun, began}
use Rattle.scholten_core.specs.Effects.{AddsRows, IsBegun, Begins}
use Rattle.scholten_core.specs.Replies.{TellsBegun}

-- rows that are numbered are added, whatever else changes
pub adds_rows : (e new : Engagement) (r : Recall) (out : List (ℕ × List ℕ)) → new.outbox ≡ numbered e.outbox e.next_message r out → new.next_message ≡ e.next_message + length out → AddsRows e new r out
adds_rows e new r out rows next = record {
  row_kept = λ n x at is. ap (λ m. get m n) rows ∙ elim at [
    | inl below ↦ numbered_kept e.outbox e.next_message r out n below
    | inr above ↦ numbered_above e.outbox e.next_message r out n (omega (arith, above, next))
  ] ∙ is;
  row_origin = λ n x is. numbered_origin e.outbox e.next_message r out n x (sym (ap (λ m. get m n) rows) ∙ is);
  row_told = λ place pair is. ap (λ m. get m (e.next_message + place)) rows ∙ numbered_told e.outbox e.next_message r out place (e.next_message + place) pair is refl;
  next_message = next;
}

nobody : {A : Type 0} (out : List A) → (length out == 0) ≡ true → out ≡ []
nobody [] h = refl
nobody (x ∷ out) h = absurd (grind (arith, nat_tests))

pub begun_begins : (e : Engagement) (root : List ℕ) (out : List (ℕ × List ℕ)) → Begins e (begun e root out) root out
begun_begins e root out =
    let own : Own = record { root = root; ended = length out == 0 } in
    let is_begun : IsBegun own root out = record { begun_with = refl; ends_at_once = (nobody out, λ empty. ap (λ (xs : List (ℕ × List ℕ)). length xs == 0) empty) } in
    record {
      me = refl;
      rows = adds_rows e (begun e root out) (next_own e) out refl refl;
      next_recall = refl;
      seen = λ p. refl;
      parent = λ q. refl;
      own_kept = λ k o ne is. get_apart nat_cmp_total nat_cmp-IsAntisymmetric e.own e.next_recall own k ne ∙ is;
      own_origin = λ k o is. elim (one_key nat_cmp_total nat_cmp-IsAntisymmetric k e.next_recall) [
        | inl same ↦
            let here : Some own ≡ Some o = sym (get_here nat_cmp_total nat_cmp-IsAntisymmetric e.own e.next_recall own) ∙ ap (get (insert e.own e.next_recall own)) (sym same) ∙ is in
            let one : own ≡ o = cc in
            inr (same, subst (λ (z : Own). IsBegun z root out) one is_begun)
        | inr ne ↦ inl (sym (get_apart nat_cmp_total nat_cmp-IsAntisymmetric e.own e.next_recall own k ne) ∙ is)
      ];
      own_new = (own, get_here nat_cmp_total nat_cmp-IsAntisymmetric e.own e.next_recall own, is_begun);
    }

pub begun_tells : (e : Engagement) (root : List ℕ) (out : List (ℕ × List ℕ)) → TellsBegun e (begun e root out) (began e out)
begun_tells e root out =
    let own : Own = record { root = root; ended = length out == 0 } in
    record { recall = refl; numbered = refl; ended = (own, get_here nat_cmp_total nat_cmp-IsAntisymmetric e.own e.next_recall own, refl) }
