-- What words and slots show, as one log changes and at most one mailbox with it.
use Rattle.std.proofs.Common.{◌≡◌, ◌≢◌, ℕ, ◌<◌, ◌≤◌, ◌⊎◌, inl, inr, ⊎_elim, Bool, List, length, set, Contains, Option as Maybe, sym, refl, ap, ◌∙◌, subst, arith}
use mathlib.Core.Option.{Option, some, some-injective}
use mathlib.Core.Logic.{dite}
use native.Mathlib.Decide.{ℕ_discrete}
use lib.ListN.{get_elem?}
use Rattle.atomic_table.proofs.Lists.{at_set, set_else}
use Rattle.event_json.specs.declared.limits.TheConstants.{MAX_SITES}
use Rattle.frame_core.specs.declared.frames.Frame.{Frame}
use Rattle.site_core.specs.Records.{Record}
use Rattle.wire_core.specs.declared.views.Log.{Log}
use Rattle.world_core.specs.Turns.{addressee}
use Rattle.wire_core.specs.Mailboxes.{Box, Mailbox, writes, reads, word_of, slot_of}
use Rattle.wire_core.specs.Changes.{plain}
use Rattle.wire_core.specs.Frames.{way}
use Rattle.wire_core.specs.Rule.{IsRun, Wired, frames}
use Rattle.wire_core.proofs.Lists.{within, in_flat, from_flat, flat_set_same, set_at}
use Rattle.wire_core.proofs.Running.{run_same}

-- of the mailboxes of site x, b shows what a does, but for those of P
abbrev pub Like : (ℕ → ℕ → Type 0) → ℕ → Log → Log → Type 0
Like P x a b =
    ((y : ℕ) → ¬ P x y → (way x y a.sent ≡ way x y b.sent) × (writes a.doing y ≡ writes b.doing y))
    × ((y : ℕ) → ¬ P y x → (way y x a.noted ≡ way y x b.noted) × (reads a.doing y ≡ reads b.doing y))

pub like_itself : (P : ℕ → ℕ → Type 0) (x : ℕ) (a : Log) → Like P x a a
like_itself P x a = ((λ y n. (refl, refl)), (λ y n. (refl, refl)))

abbrev pub Homes : Type 0
Homes = List (Option (Maybe Frame))

pub like_kept : (P : ℕ → ℕ → Type 0) (words words' : List ℕ) (homes homes' : Homes) (x y : ℕ) (a a' b b' : Log) → Mailbox words homes x y a b → ¬ P x y → Like P x a a' → Like P y b b'
    → get_elem? words (word_of x y) ≡ get_elem? words' (word_of x y) → get_elem? homes (slot_of x y) ≡ get_elem? homes' (slot_of x y) → Mailbox words' homes' x y a' b'
like_kept P words words' homes homes' x y a a' b b' box n la lb ew eh =
    let s = la.0 y n in
    let r = lb.1 x n in
    subst (λ (t : Option ℕ × Option (Option (Maybe Frame)) × List Frame × List Frame × Bool × Bool). Box t.0 t.1 t.2 t.3 t.4 t.5) (λ k. (ew k, eh k, s.0 k, r.0 k, s.1 k, r.1 k)) box

module _ (logs : List Log) (s : ℕ) (e e' : Log) (at : get_elem? logs s ≡ some e) where
  -- each log after the change, and the one before it
  pub was : (P : ℕ → ℕ → Type 0) → Like P s e e' → (x : ℕ) (b : Log) → get_elem? (set logs s e') x ≡ some b → (a : Log) × (get_elem? logs x ≡ some a) × Like P x a b
  was P like x b there = ⊎_elim
      (λ (t : (x ≡ s) × (e' ≡ b)). (e, ap (get_elem? logs) t.0 ∙ at, subst (λ (z : ℕ × Log). Like P z.0 e z.1) (λ k. (sym t.0 k, t.1 k)) like))
      (λ (t : (x ≢ s) × (get_elem? logs x ≡ some b)). (b, t.1, like_itself P x b)) (at_set logs s x e' b there)

  pub grow : ((f : Frame) → Contains e.sent f → Contains e'.sent f) → (f : Frame) → Contains (frames logs) f → Contains (frames (set logs s e')) f
  grow more f c =
      let p = from_flat (λ (x : Log). x.sent) logs f c in
      dite (ℕ_discrete p.0 s)
      (λ eq. in_flat (λ (x : Log). x.sent) (set logs s e') s e' f (set_at logs s e e' at) (more f (subst (λ (x : Log). Contains x.sent f) (some-injective p.1 e (sym p.2 ∙ ap (get_elem? logs) eq ∙ at)) p.3)))
      (λ ne. in_flat (λ (x : Log). x.sent) (set logs s e') p.0 p.1 f (set_else logs s p.0 e' ne ∙ p.2) p.3)

abbrev pub Nowhere : ℕ → ℕ → Type 0
Nowhere x y = ⊥

abbrev pub Pair : ℕ → ℕ → ℕ → ℕ → Type 0
Pair i j x y = (x ≡ i) × (y ≡ j)

pub is_pair : (i j x y : ℕ) → Pair i j x y ⊎ (¬ Pair i j x y)
is_pair i j x y = dite (ℕ_discrete x i) (λ a. dite (ℕ_discrete y j) (λ b. inl (a, b)) (λ b. inr (λ p. b p.1))) (λ a. inr (λ p. a p.0))

-- A change of one mailbox, from site i to site j, and of the log of s
module _ (start : List Record) (words : List ℕ) (homes : Homes) (logs : List Log) (W : Wired start words homes logs) (few : length logs ≤ MAX_SITES) (s : ℕ) (e e' : Log) (at : get_elem? logs s ≡ some e) where
  pub Wired_box : (i j m : ℕ) (h : Option (Maybe Frame)) → i < length logs → j < length logs → Like (Pair i j) s e e'
      → length e'.inputs ≡ length e.inputs
      → ((f : Frame) → Contains e.sent f → Contains e'.sent f)
      → ((f : Frame) → Contains e'.noted f → Contains e.noted f ⊎ (((addressee f) ≡ s) × Contains (frames logs) f))
      → ((a b : Log) → get_elem? (set logs s e') i ≡ some a → get_elem? (set logs s e') j ≡ some b → Mailbox (set words (word_of i j) m) (set homes (slot_of i j) h) i j a b)
      → IsRun start (set logs s e')
      → Wired start (set words (word_of i j) m) (set homes (slot_of i j) h) (set logs s e')
  Wired_box i j m h hi hj like same_count more news new run = record { progress = progress; noted = noted; mailbox = mailbox; run = run }
    where
      words' : List ℕ
      words' = set words (word_of i j) m

      progress : (x : ℕ) (b : Log) → get_elem? (set logs s e') x ≡ some b → get_elem? (set words (word_of i j) m) x ≡ some (length b.inputs)
      progress x b there =
          let p = was logs s e e' at (Pair i j) like x b there in
          let hx = within logs x p.0 p.1 in
          set_else words (word_of i j) x m (λ eq. omega arith) ∙ ⊎_elim
          (λ (t : (x ≡ s) × (e' ≡ b)). W.progress x e (ap (get_elem? logs) t.0 ∙ at) ∙ ap some (sym same_count ∙ ap (λ (z : Log). length z.inputs) t.1))
          (λ (t : (x ≢ s) × (get_elem? logs x ≡ some b)). W.progress x b t.1)
          (at_set logs s x e' b there)

      noted : (x : ℕ) (b : Log) (f : Frame) → get_elem? (set logs s e') x ≡ some b → Contains b.noted f → ((addressee f) ≡ x) × Contains (frames (set logs s e')) f
      noted x b f there c = ⊎_elim
          (λ (t : (x ≡ s) × (e' ≡ b)).
          ⊎_elim
          (λ (d : Contains e.noted f). let o = W.noted s e f at d in (o.0 ∙ sym t.0, grow logs s e e' at more f o.1))
          (λ (d : ((addressee f) ≡ s) × Contains (frames logs) f). (d.0 ∙ sym t.0, grow logs s e e' at more f d.1))
          (news f (subst (λ (z : Log). Contains z.noted f) (sym t.1) c)))
          (λ (t : (x ≢ s) × (get_elem? logs x ≡ some b)). let o = W.noted x b f t.1 c in (o.0, grow logs s e e' at more f o.1))
          (at_set logs s x e' b there)

      mailbox : (x y : ℕ) (a b : Log) → get_elem? (set logs s e') x ≡ some a → get_elem? (set logs s e') y ≡ some b → x ≢ y → Mailbox (set words (word_of i j) m) (set homes (slot_of i j) h) x y a b
      mailbox x y a b ax by apart = ⊎_elim
          (λ (p : Pair i j x y). subst (λ (z : ℕ × ℕ). Mailbox (set words (word_of i j) m) (set homes (slot_of i j) h) z.0 z.1 a b) (λ k. (sym p.0 k, sym p.1 k))
          (new a b (ap (get_elem? (set logs s e')) (sym p.0) ∙ ax) (ap (get_elem? (set logs s e')) (sym p.1) ∙ by)))
          (λ (n : ¬ Pair i j x y).
          let p = was logs s e e' at (Pair i j) like x a ax in
          let q = was logs s e e' at (Pair i j) like y b by in
          let hx = within logs x p.0 p.1 in
          let hy = within logs y q.0 q.1 in
          like_kept (Pair i j) words (set words (word_of i j) m) homes (set homes (slot_of i j) h) x y p.0 a q.0 b (W.mailbox x y p.0 q.0 p.1 q.1 apart) n p.2 q.2
          (sym (set_else words (word_of i j) (word_of x y) m (λ eq. n (omega arith, omega arith))))
          (sym (set_else homes (slot_of i j) (slot_of x y) h (λ eq. n (omega arith, omega arith)))))
          (is_pair i j x y)

  -- A change of what was asked or offered alone
  pub Wired_still : plain e' ≡ plain e → Wired start words homes (set logs s e')
  Wired_still same = record {
    progress = λ x b there. ⊎_elim
        (λ (t : (x ≡ s) × (e' ≡ b)). W.progress x e (ap (get_elem? logs) t.0 ∙ at) ∙ ap (λ (z : Log). some (length z.inputs)) (sym same) ∙ ap (λ (z : Log). some (length z.inputs)) t.1)
        (λ (t : (x ≢ s) × (get_elem? logs x ≡ some b)). W.progress x b t.1) (at_set logs s x e' b there);
    noted = λ x b f there c. subst (λ (l : List Frame). (addressee f ≡ x) × Contains l f) (sym (flat_set_same (λ (z : Log). z.sent) logs s e e' at (ap (λ (z : Log). z.sent) same)))
        (⊎_elim
        (λ (t : (x ≡ s) × (e' ≡ b)). W.noted x e f (ap (get_elem? logs) t.0 ∙ at) (subst (λ (z : Log). Contains z.noted f) same (subst (λ (z : Log). Contains z.noted f) (sym t.1) c)))
        (λ (t : (x ≢ s) × (get_elem? logs x ≡ some b)). W.noted x b f t.1 c) (at_set logs s x e' b there));
    mailbox = λ x y a b ax by apart.
        let p = was logs s e e' at Nowhere like x a ax in
        let q = was logs s e e' at Nowhere like y b by in
        like_kept Nowhere words words homes homes x y p.0 a q.0 b (W.mailbox x y p.0 q.0 p.1 q.1 apart) (λ z. z) p.2 q.2 refl refl;
    run = (run_same start logs W.run s e e' at (ap (λ (z : Log). z.opening) same) (ap (λ (z : Log). z.last) same) (ap (λ (z : Log). z.sent) same) (ap (λ (z : Log). z.inputs) same)).longer;
  }
    where
      like : Like Nowhere s e e'
      like = (
        (λ y p. (ap (λ (z : Log). way s y z.sent) (sym same), ap (λ (z : Log). writes z.doing y) (sym same))),
        (λ y p. (ap (λ (z : Log). way y s z.noted) (sym same), ap (λ (z : Log). reads z.doing y) (sym same))),
      )
