-- The receipts that a site sends through its end of its desk.
use Rattle.std.proofs.Common.{◌≡◌, ℕ, Bool, true, false, true≢false, map, Option, Some, None, Result, Ok, Err, List, [], ◌∷◌, ◌++◌, All, Contains, refl, sym, ap, ◌∙◌, subst, arith, append_assoc, append-nil}
use Rattle.std.specs.Prelude.{IfOk, IfSome, IsTrue}
use Rattle.std.proofs.lemmas.List.Elements.{All-nil, All-cons, All-head, All-tail, Contains-append_right}
use Rattle.std.proofs.lemmas.List.Concat.{flat_map-append}
use Rattle.site_core.specs.declared.inputs.SiteInput.{SiteInput}
use Rattle.site_core.specs.declared.inputs.SiteInput.TheVariants as inputs
use Rattle.site_threads.specs.Ends.{tells, AreFirst, HasTold, SendsReceipt}
use Rattle.site_threads.specs.Inputs.{input_of, is_delivery}
use Rattle.site_threads.specs.Jobs.{entry_of, open_after, option_items, receipts_in, receipts_of, IsEntered}
use Rattle.site_threads.specs.Passing.{EntersFrames, Incoming, TakesFrames}
use Rattle.site_threads.specs.declared.desks.DeskOut.{DeskOut}
use Rattle.site_threads.specs.declared.jobs.Entry.{Entry}
use Rattle.site_threads.specs.declared.jobs.Job.{Job}
use Rattle.site_threads.specs.declared.jobs.Job.TheVariants as jobs
use Rattle.site_threads.specs.declared.jobs.Receipt.{Receipt}
use Rattle.site_threads.specs.declared.turns.TurnReport.{TurnReport}

-- before the first receipt
pub told_none : (o : DeskOut) (me : ℕ) (entries : List Entry) → tells o ≡ [] → entries ≡ [] → HasTold o (receipts_in me entries)
told_none o me entries none empty = record { all = λ _. none ∙ sym (ap (receipts_in me) empty); first = ([], ap (receipts_in me) empty ∙ ap (λ l. l ++ []) (sym none)) }

-- nothing was sent
pub told_on : (old new : DeskOut) (before after : List Receipt) → tells new ≡ tells old → new.dropped ≡ old.dropped → after ≡ before → HasTold old before → HasTold new after
told_on old new before after same dropped is h = record { all = λ no. same ∙ h.all (sym dropped ∙ no) ∙ sym is; first = (h.first.0, is ∙ h.first.1 ∙ ap (λ l. l ++ h.first.0) (sym same)) }

-- a receipt was, or is passed over
held_before : (was now : Bool) → (IsTrue was → IsTrue now) → now ≡ false → was ≡ false
held_before false now stays off = refl
held_before true now stays off = absurd (true≢false (sym (stays refl) ∙ off))

module _ (old new : DeskOut) (x : Receipt) (before after : List Receipt) (t : SendsReceipt old x new) (is : after ≡ before ++ x ∷ []) (h : HasTold old before) where
  told_by : (dropped : Bool) → new.dropped ≡ dropped → HasTold new after
  told_by true d = record {
    all = λ no. absurd (true≢false (sym d ∙ no));
    first = (h.first.0 ++ x ∷ [], is ∙ ap (λ l. l ++ x ∷ []) h.first.1 ∙ append_assoc (tells old) h.first.0 (x ∷ []) ∙ ap (λ l. l ++ (h.first.0 ++ x ∷ [])) (sym (t.kept d)));
  }
  told_by false d =
      let there : tells new ≡ after = t.sent d ∙ ap (λ l. l ++ x ∷ []) (h.all (held_before old.dropped new.dropped t.stays d)) ∙ sym is in
      record { all = λ _. there; first = ([], sym there ∙ sym (append-nil (tells new))) }

  pub told_more : HasTold new after
  told_more = told_by new.dropped refl

-- where there was one, after a job was taken
pub told_one : (old out new : DeskOut) (x : Receipt) (me me' : ℕ) (before after : List Entry) → tells out ≡ tells old → out.dropped ≡ old.dropped → me' ≡ me → receipts_in me after ≡ receipts_in me before ++ x ∷ [] → SendsReceipt out x new → HasTold old (receipts_in me before) → HasTold new (receipts_in me' after)
told_one old out new x me me' before after same dropped is one t h =
    told_more out new x (receipts_in me before) (receipts_in me' after) t (ap (λ k. receipts_in k after) is ∙ one) (told_on old out (receipts_in me before) (receipts_in me before) same dropped refl h)

-- The receipts of a turn.

module _ (me : ℕ) where
  -- those of a step, if this was its input
  abbrev receipts_by : Entry → SiteInput → List Receipt
  receipts_by x input = receipts_of me (record x { input = input })

  has_none : (x : Entry) (input : SiteInput) → x.input ≡ input → is_delivery x.input ≡ true → receipts_of me x ≡ []
  has_none x (inputs.Deliver f) is d = ap (receipts_by x) is
  has_none x (inputs.Capture bytes) is d = absurd (true≢false (sym d ∙ ap is_delivery is))
  has_none x (inputs.Start item) is d = absurd (true≢false (sym d ∙ ap is_delivery is))

  frames_have_none : (xs : List Entry) → All (λ x. IsTrue (is_delivery x.input)) xs → receipts_in me xs ≡ []
  frames_have_none [] all = refl
  frames_have_none (x ∷ xs) all =
      ap (λ l. l ++ receipts_in me xs) (has_none x x.input refl (All-head (λ (y : Entry). IsTrue (is_delivery y.input)) x xs all)) ∙ frames_have_none xs (All-tail (λ (y : Entry). IsTrue (is_delivery y.input)) x xs all)

  receipt_back : (x : Receipt) (job : Job) → x.job ≡ job → x.site ≡ me → receipts_in me (entry_of x ∷ []) ≡ x ∷ []
  receipt_back x (jobs.Capture bytes) is mine = (λ i. receipts_by (entry_of x) (input_of (is i)) ++ []) ∙ (λ i. record { site = sym mine i; number = x.number; job = sym is i; reply = x.reply } ∷ [])
  receipt_back x (jobs.Start item) is mine = (λ i. receipts_by (entry_of x) (input_of (is i)) ++ []) ∙ (λ i. record { site = sym mine i; number = x.number; job = sym is i; reply = x.reply } ∷ [])

  of_receipt : (receipt : Option Receipt) → IfSome receipt (λ x. x.site ≡ me) → receipts_in me (map entry_of (option_items receipt)) ≡ option_items receipt
  of_receipt None mine = refl
  of_receipt (Some x) mine = receipt_back x x.job refl mine

  both : (xs ys : List Entry) → receipts_in me (xs ++ ys) ≡ receipts_in me xs ++ receipts_in me ys
  both xs ys = flat_map-append (receipts_of me) xs ys

  receipts_added : (before after : Bool) (took : _) (old new : List Entry) (receipt : Option Receipt) (n l : ℕ) → IfSome receipt (λ x. x.site ≡ me) → EntersFrames before after took (old ++ map entry_of (option_items receipt)) new n l → receipts_in me new ≡ receipts_in me old ++ option_items receipt
  receipts_added before after took old new receipt n l mine t =
      ap (receipts_in me) t.all ∙ both (old ++ map entry_of (option_items receipt)) t.frames ∙ ap (λ l. receipts_in me (old ++ map entry_of (option_items receipt)) ++ l) (frames_have_none t.frames t.each) ∙ append-nil _
      ∙ both old (map entry_of (option_items receipt)) ∙ ap (λ l. receipts_in me old ++ l) (of_receipt receipt mine)

pub receipts_done : {E : Type 0} (S : TurnReport → Type 0) (me me' low high : ℕ) (noted noted' : Incoming) (after : Bool) (r : Result TurnReport E) (old begun new : List Entry) → begun ≡ old → me' ≡ me → IfOk r (λ report. S report × IfSome report.receipt (λ x. x.site ≡ me'))
    → IfOk r (λ report. TakesFrames me' low high noted noted' (open_after report.receipt) after (begun ++ map entry_of (option_items report.receipt)) new report.applied report.lost) → IfOk r (λ report. receipts_in me new ≡ receipts_in me old ++ option_items report.receipt)
receipts_done S me me' low high noted noted' after (Ok report) old begun new same is done entered =
    let mine = subst (λ k. IfSome report.receipt (λ x. x.site ≡ k)) is done.1 in
    receipts_added me (open_after report.receipt) after entered.took begun new report.receipt report.applied report.lost mine entered.enters ∙ ap (λ l. receipts_in me l ++ option_items report.receipt) same
receipts_done S me me' low high noted noted' after (Err e) old begun new same is done entered = tt

-- A receipt of a list's jobs names a step of it.

module _ (me : ℕ) where
  one_entered : (x : Entry) (xs : List Entry) (input : SiteInput) → x.input ≡ input → All (IsEntered (x ∷ xs)) (receipts_of me x)
  one_entered x xs (inputs.Deliver f) is = subst (λ i. All (IsEntered (x ∷ xs)) (receipts_by me x i)) (sym is) (All-nil (IsEntered (x ∷ xs)))
  one_entered x xs (inputs.Capture bytes) is =
      subst (λ i. All (IsEntered (x ∷ xs)) (receipts_by me x i)) (sym is)
      (All-cons (IsEntered (x ∷ xs)) (record { site = me; number = x.number; job = jobs.Capture bytes; reply = x.reply }) [] (subst (Contains (x ∷ xs)) (λ i. record { number = x.number; input = is i; reply = x.reply }) (0, omega arith, refl)) (All-nil (IsEntered (x ∷ xs))))
  one_entered x xs (inputs.Start item) is =
      subst (λ i. All (IsEntered (x ∷ xs)) (receipts_by me x i)) (sym is)
      (All-cons (IsEntered (x ∷ xs)) (record { site = me; number = x.number; job = jobs.Start item; reply = x.reply }) [] (subst (Contains (x ∷ xs)) (λ i. record { number = x.number; input = is i; reply = x.reply }) (0, omega arith, refl)) (All-nil (IsEntered (x ∷ xs))))

  later : (x : Entry) (xs : List Entry) (rs : List Receipt) → All (IsEntered xs) rs → All (IsEntered (x ∷ xs)) rs
  later x xs [] all = All-nil (IsEntered (x ∷ xs))
  later x xs (r ∷ rs) all = All-cons (IsEntered (x ∷ xs)) r rs (Contains-append_right (x ∷ []) xs (entry_of r) (All-head (IsEntered xs) r rs all)) (later x xs rs (All-tail (IsEntered xs) r rs all))

  all_entered : (xs : List Entry) → All (IsEntered xs) (receipts_in me xs)
  all_entered [] = All-nil (IsEntered [])
  all_entered (x ∷ xs) = joined (IsEntered (x ∷ xs)) _ (receipts_in me xs) (one_entered x xs x.input refl) (later x xs (receipts_in me xs) (all_entered xs))
    where
      joined : (P : Receipt → Type 0) (ys zs : List Receipt) → All P ys → All P zs → All P (ys ++ zs)
      joined P [] zs a b = b
      joined P (y ∷ ys) zs a b = All-cons P y (ys ++ zs) (All-head P y ys a) (joined P ys zs (All-tail P y ys a) b)

  first_of : (P : Receipt → Type 0) (ys zs : List Receipt) → All P (ys ++ zs) → All P ys
  first_of P [] zs all = All-nil P
  first_of P (y ∷ ys) zs all = All-cons P y ys (All-head P y (ys ++ zs) all) (first_of P ys zs (All-tail P y (ys ++ zs) all))

  -- so do the first ones of them
  pub first_entered : (xs : List Entry) (heard : List Receipt) → AreFirst heard (receipts_in me xs) → All (IsEntered xs) heard
  first_entered xs heard first = first_of (IsEntered xs) heard first.0 (subst (All (IsEntered xs)) first.1 (all_entered xs))

-- the first ones of the first ones
pub first_through : {X : Type 0} (xs ys all : List X) → AreFirst xs ys → AreFirst ys all → AreFirst xs all
first_through xs ys all a b = (a.0 ++ b.0, b.1 ∙ ap (λ l. l ++ b.0) a.1 ∙ append_assoc xs a.0 b.0)
