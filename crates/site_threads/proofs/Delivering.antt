-- Frames that are delivered, one after another.
use Rattle.std.proofs.Common.{◌≡◌, ℕ, inl, inr, Bool, true, false, true≢false, Option, Some, None, Result, Ok, Err, List, [], ◌∷◌, ◌++◌, map, refl, sym, ap, ◌∙◌, subst, append_assoc, append-nil}
use Rattle.std.specs.Prelude.{IfOk, IfErr, IsSome}
use Rattle.frame_core.specs.declared.frames.Frame.{Frame}
use Rattle.keeper_core.specs.declared.faults.KeepFault.{KeepFault}
use Rattle.keeper_core.specs.declared.faults.KeepFault.TheVariants as faults
use Rattle.keeper_core.specs.declared.faults.Unopened.{Unopened}
use Rattle.site_core.specs.Records.{Record}
use Rattle.site_core.specs.Steps.{CopiesRecord}
use Rattle.site_core.specs.declared.inputs.SiteInput.{SiteInput}
use Rattle.site_core.specs.declared.inputs.SiteInput.TheVariants.{Deliver}
use Rattle.site_core.specs.declared.outcomes.Effects.{Effects}
use Rattle.site_threads.specs.Answering.{Deliveries, Delivers, DoesJob, IsShort, Opened, AnsweredStep}
use Rattle.site_threads.specs.Jobs.{entry_of, option_items, reply_to}
use Rattle.site_threads.specs.Keepers.{shown_if}
use Rattle.site_threads.specs.declared.jobs.Entry.{Entry}
use Rattle.site_threads.specs.declared.jobs.Reply.{Reply}
use Rattle.site_threads.specs.declared.turns.TurnReport.{TurnReport}
use Rattle.site_threads.proofs.Taking.{Answer, none≢some}

-- only out of memory has no reply
short_of : (a : Answer) (f : Bool) → None ≡ reply_to f a → a ≡ Err faults.NoMemory
short_of (Ok d) f e = absurd (none≢some e)
short_of (Err faults.NoMemory) f e = refl
short_of (Err (faults.Refused why)) true e = absurd (none≢some e)
short_of (Err (faults.Refused why)) false e = absurd (none≢some e)
short_of (Err faults.Device) f e = absurd (none≢some e)
short_of (Err faults.Store) f e = absurd (none≢some e)
short_of (Err faults.Closed) f e = absurd (none≢some e)

-- the list is left as it was, of what is said of an error
pub same_back : {A E L : Type 0} (B C : E → Type 0) (new old : L) (r : Result A E) → IfErr r (λ e. B e × (new ≡ old) × C e) → IfErr r (λ e. new ≡ old)
same_back B C new old (Ok a) h = tt
same_back B C new old (Err e) h = h.1

module _ {K : Type 0} (shown : K → Option Record) (may : K → Record → Type 0) (applies : K → SiteInput → Result Effects KeepFault → K → Type 0) where
  there : (old : Option K) → IsSome (shown_if shown old) → (k : K) × (old ≡ Some k)
  there None up = absurd (true≢false (sym up))
  there (Some k) up = (k, refl)

  pub is_short : (old new : Option K) (input : SiteInput) (a : Answer) (f : Bool) → IsSome (shown_if shown old) → ((k : K) → old ≡ Some k → (l : K) × (new ≡ Some l) × applies k input a l)
      → ((r : Record) → shown_if shown old ≡ Some r → a ≡ Err faults.NoMemory → CopiesRecord r input) → None ≡ reply_to f a → IsShort shown may applies old input new
  is_short old new input a f up asked memory e =
      let k = there old up in
      let l = asked k.0 k.1 in
      let short = short_of a f e in
      record { was = k.0; left = l.0; old_is = k.1; new_is = l.1; applied = subst (λ b. applies k.0 input b l.0) short l.2; copies = λ r is. memory r (ap (shown_if shown) k.1 ∙ is) short }

  deliveries_more : (old mid new : Option K) (fs gs : List Frame) (xs ys : List Entry) → Deliveries shown may applies old fs xs mid → Deliveries shown may applies mid gs ys new → Deliveries shown may applies old (fs ++ gs) (xs ++ ys) new
  deliveries_more old mid new [] gs xs ys (none, same) t =
      subst (λ k. Deliveries shown may applies k gs (xs ++ ys) new) same (subst (λ l. Deliveries shown may applies mid gs (l ++ ys) new) (sym none) t)
  deliveries_more old mid new (f ∷ fs) gs xs ys (next, inl (short, later)) t = (next, inl (short, deliveries_more next mid new fs gs xs ys later t))
  deliveries_more old mid new (f ∷ fs) gs xs ys (next, inr (x, rest, is, input, told, later)) t = (next, inr (x, rest ++ ys, ap (λ l. l ++ ys) is, input, told, deliveries_more next mid new fs gs rest ys later t))

  -- no frame came
  pub delivers_none : (old new : Option K) (noted noted' : List Frame) (steps steps' : List Entry) → new ≡ old → noted' ≡ noted → steps' ≡ steps → Delivers shown may applies old new noted noted' steps steps'
  delivers_none old new noted noted' steps steps' same is at = record { took = []; frames = []; noted = is ∙ sym (append-nil noted); entered = at ∙ sym (append-nil steps); deliveries = (refl, same) }

  pub delivers_more : (old mid new : Option K) (noted between noted' : List Frame) (steps further steps' : List Entry) → Delivers shown may applies old mid noted between steps further → Delivers shown may applies mid new between noted' further steps' → Delivers shown may applies old new noted noted' steps steps'
  delivers_more old mid new noted between noted' steps further steps' s t = record {
    took = s.took ++ t.took;
    frames = s.frames ++ t.frames;
    noted = t.noted ∙ ap (λ l. l ++ t.took) s.noted ∙ append_assoc noted s.took t.took;
    entered = t.entered ∙ ap (λ l. l ++ t.frames) s.entered ∙ append_assoc steps s.frames t.frames;
    deliveries = deliveries_more old mid new s.took t.took s.frames t.frames s.deliveries t.deliveries;
  }

  -- one came
  module _ {E : Type 0} (n : ℕ) (f : Frame) (old new : Option K) (noted noted' : List Frame) (steps steps' : List Entry) (is : noted' ≡ noted ++ f ∷ []) where
    pub delivers_one : (r : Result Reply E) → IfOk r (λ p. steps' ≡ steps ++ (record { number = n; input = Deliver f; reply = p }) ∷ []) → IfOk r (λ p. AnsweredStep shown may applies old (Deliver f) p new) → IfErr r (λ e. steps' ≡ steps) → IfErr r (λ e. IsShort shown may applies old (Deliver f) new)
        → Delivers shown may applies old new noted noted' steps steps'
    delivers_one (Ok p) entered told back short =
        let x : Entry = record { number = n; input = Deliver f; reply = p } in
        record { took = f ∷ []; frames = x ∷ []; noted = is; entered = entered; deliveries = (new, inr (x, [], refl, refl, told, (refl, refl))) }
    delivers_one (Err e) entered told back short = record { took = f ∷ []; frames = []; noted = is; entered = back ∙ sym (append-nil steps); deliveries = (new, inl (short, (refl, refl))) }

  -- of other names of the same values
  pub delivers_as : (old old' new new' : Option K) (noted between noted' after : List Frame) (steps further steps' ended : List Entry) → old ≡ old' → new ≡ new' → noted ≡ between → noted' ≡ after → steps ≡ further → steps' ≡ ended
      → Delivers shown may applies old new noted noted' steps steps' → Delivers shown may applies old' new' between after further ended
  delivers_as old old' new new' noted between noted' after steps further steps' ended a b c d e f t =
      subst (λ (y : Option K × (Option K × (List Frame × (List Frame × (List Entry × List Entry))))). Delivers shown may applies y.0 y.1.0 y.1.1.0 y.1.1.1.0 y.1.1.1.1.0 y.1.1.1.1.1) (λ i. (a i, (b i, (c i, (d i, (e i, f i)))))) t

  -- a turn's, from before it began
  pub turn_answers : {E : Type 0} (reopens : K → Result K (Unopened K) → Type 0) (r : Result TurnReport E) (old begun new : Option K) (noted between noted' : List Frame) (steps further steps' : List Entry) → Opened shown reopens old begun → between ≡ noted → further ≡ steps
      → IfOk r (λ x. (left : Option K) × DoesJob shown may applies begun x.receipt left × Delivers shown may applies left new between noted' (further ++ map entry_of (option_items x.receipt)) steps')
      → IfOk r (λ x. (begun : Option K) × (left : Option K) × Opened shown reopens old begun × DoesJob shown may applies begun x.receipt left × Delivers shown may applies left new noted noted' (steps ++ map entry_of (option_items x.receipt)) steps')
  turn_answers reopens (Ok x) old begun new noted between noted' steps further steps' opened a b (left, job, t) =
      (begun, left, opened, job, delivers_as left left new new between noted noted' noted' (further ++ map entry_of (option_items x.receipt)) (steps ++ map entry_of (option_items x.receipt)) steps' steps' refl refl a refl (ap (λ l. l ++ map entry_of (option_items x.receipt)) b) refl t)
  turn_answers reopens (Err e) old begun new noted between noted' steps further steps' opened a b t = tt
