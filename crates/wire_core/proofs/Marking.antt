-- Mark and cut keep the rule.
use Rattle.std.proofs.Common.{◌≡◌, ◌≢◌, ℕ, ◌+◌, ◌%◌, ◌^◌, ◌<◌, ◌≤◌, ⊎_elim, List, [], ◌∷◌, ◌++◌, length, set, slice_index, Contains, sym, refl, ap, ◌∙◌, subst, arith, length-set, mod-eq_of_lt}
use Rattle.std.proofs.lemmas.List.{length_push, set-get_or}
use mathlib.Core.Option.{some}
use lib.ListN.{get_elem?}
use Rattle.atomic_table.specs.Table.{keeps, Allows}
use Rattle.atomic_table.proofs.Lists.{at_set, set_else}
use Rattle.event_json.specs.declared.limits.TheConstants.{MAX_SITES}
use Rattle.site_core.specs.Records.{Record}
use Rattle.frame_core.specs.declared.frames.Frame.{Frame}
use Rattle.site_core.specs.declared.inputs.SiteInput.{SiteInput}
use Rattle.wire_core.specs.declared.views.Log.{Log}
use Rattle.wire_core.specs.declared.views.View.{View}
use Rattle.world_core.specs.Turns.{addressee}
use Rattle.keeper_core.specs.Keeping.{IsAfter}
use Rattle.wire_core.specs.Frames.{DeliversOneOf}
use Rattle.wire_core.specs.Mailboxes.{Mailbox, word_of}
use Rattle.wire_core.specs.Rule.{IsRun, Ruled, Wired, Knows, frames}
use Rattle.wire_core.specs.Changes.{changed, marks, Marked, Cut}
use Rattle.wire_core.proofs.Lists.{within, index_is, set_at}
use Rattle.wire_core.proofs.Running.{run_marked}
use Rattle.wire_core.proofs.Seating.{held, Shared_changed, all_set}
use Rattle.wire_core.proofs.Shown.{Like, Nowhere, was, like_kept, grow}
use Rattle.wire_core.proofs.Boxes.{Table}

module _ (rs : List Record) (id : ℕ) (v : View) (i : ℕ) (e : Log) (c : Contains v.sites e) (same : e.site ≡ i) (input : SiteInput) (new : Record) (room : length e.inputs < 2 ^ 62) (ok : IsAfter e.last input new) (known : DeliversOneOf e.noted input) where
  module _ (s : Table) (h : Ruled rs s) (at : get_elem? s.views id ≡ some v) where
    logs' : List Log
    logs' = set h.0 i (marks input new e)

    ei : get_elem? h.0 i ≡ some e
    ei = (held s.views h.1 h.0 h.4 id v at e i c same).1

    found : slice_index s.words i ≡ length e.inputs
    found = index_is s.words i (length e.inputs) 0 (h.5.progress i e ei)

    Wired_marked : Wired rs (set s.words i ((slice_index s.words i + 1) % 2 ^ 64)) s.homes (set h.0 i (marks input new e))
    Wired_marked = record { progress = progress; noted = noted; mailbox = mailbox; run = run }
      where
        m : ℕ
        m = (slice_index s.words i + 1) % 2 ^ 64

        counted : (slice_index s.words i + 1) % 2 ^ 64 ≡ length (e.inputs ++ input ∷ [])
        counted = let l = length_push e.inputs input in mod-eq_of_lt (let f = found in omega arith) ∙ ap (λ k. k + 1) found ∙ sym l

        progress : (x : ℕ) (b : Log) → get_elem? (set h.0 i (marks input new e)) x ≡ some b → get_elem? (set s.words i ((slice_index s.words i + 1) % 2 ^ 64)) x ≡ some (length b.inputs)
        progress x b there = ⊎_elim
            (λ (t : (x ≡ i) × (marks input new e ≡ b)). ap (get_elem? (set s.words i ((slice_index s.words i + 1) % 2 ^ 64))) t.0 ∙ set_at s.words i (length e.inputs) ((slice_index s.words i + 1) % 2 ^ 64) (h.5.progress i e ei)
            ∙ ap some (counted ∙ ap (λ (z : Log). length z.inputs) t.1))
            (λ (t : (x ≢ i) × (get_elem? h.0 x ≡ some b)). set_else s.words i x _ t.0 ∙ h.5.progress x b t.1) (at_set h.0 i x (marks input new e) b there)

        noted : (x : ℕ) (b : Log) (f : Frame) → get_elem? (set h.0 i (marks input new e)) x ≡ some b → Contains b.noted f → ((addressee f) ≡ x) × Contains (frames (set h.0 i (marks input new e))) f
        noted x b f there d =
            let o = ⊎_elim
            (λ (t : (x ≡ i) × (marks input new e ≡ b)). let k = h.5.noted i e f ei (subst (λ (z : Log). Contains z.noted f) (sym t.1) d) in (k.0 ∙ sym t.0, k.1))
            (λ (t : (x ≢ i) × (get_elem? h.0 x ≡ some b)). h.5.noted x b f t.1 d) (at_set h.0 i x (marks input new e) b there) in
            (o.0, grow h.0 i e (marks input new e) ei (λ g k. k) f o.1)

        like : Like Nowhere i e (marks input new e)
        like = ((λ y p. (refl, refl)), (λ y p. (refl, refl)))

        mailbox : (x y : ℕ) (a b : Log) → get_elem? (set h.0 i (marks input new e)) x ≡ some a → get_elem? (set h.0 i (marks input new e)) y ≡ some b → x ≢ y → Mailbox (set s.words i ((slice_index s.words i + 1) % 2 ^ 64)) s.homes x y a b
        mailbox x y a b ax by apart =
            let p = was h.0 i e (marks input new e) ei Nowhere like x a ax in
            let q = was h.0 i e (marks input new e) ei Nowhere like y b by in
            let hi = within h.0 i e ei in
            let few = h.3 in
            like_kept Nowhere s.words (set s.words i ((slice_index s.words i + 1) % 2 ^ 64)) s.homes s.homes x y p.0 a q.0 b (h.5.mailbox x y p.0 q.0 p.1 q.1 apart) (λ z. z) p.2 q.2 (sym (set_else s.words i (word_of x y) _ (λ eq. omega arith))) refl

        run : IsRun rs (set h.0 i (marks input new e))
        run = (run_marked rs h.0 h.5.run i e (marks input new e) ei refl input ok.0 ok.1 (λ f is. let k = h.5.noted i e f ei (known f is) in (k.1, k.0)) refl refl).longer

  pub marks_one : (slots : ℕ) → Allows (Ruled rs) slots id (v, []) i (λ x. (x + 1) % 2 ^ 64) (λ _. Marked i (marks input new) (v, []))
  marks_one slots s h len at small = (
    changed i (marks input new) v,
    keeps,
    tt,
    (
      set h.0 i (marks input new e),
      h.1,
      length-set h.0 i (marks input new e) ∙ h.2,
      subst (λ k. k ≤ MAX_SITES) (sym (length-set h.0 i (marks input new e))) h.3,
      Shared_changed s.views h.1 h.0 h.4 id v at i e (marks input new) c same (λ x. refl),
      Wired_marked s h at,
    ),
    refl,
  )

pub cuts : (rs : List Record) (id : ℕ) (v : View) (cut slots : ℕ) → Allows (Ruled rs) slots id (v, []) 0 (λ x. x) (λ _. Cut cut (v, []))
cuts rs id v cut slots s h len at small =
    let w : View = record { sites = v.sites; cut = cut } in (
      w,
      keeps,
      tt,
      (
        h.0,
        h.1,
        h.2,
        h.3,
        record {
          own = h.4.own;
          seated = λ i k. subst (λ m. h.1 i < m) (sym (length-set s.views id w)) (h.4.seated i k);
          known = all_set (Knows h.1 h.0) s.views id w (h.4.known id v at) (λ j u ne there. h.4.known j u there);
        },
        subst (λ ws. Wired rs ws s.homes h.0) (sym (set-get_or s.words 0 0)) h.5,
      ),
      refl,
    )
