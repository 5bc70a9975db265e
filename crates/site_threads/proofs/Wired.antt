-- What a site noted from the wire and sent over it, one call after another.
use Rattle.std.proofs.Common.{length, ◌≡◌, ◌≢◌, ℕ, zero, suc, ◌+◌, ◌-◌, ◌≤◌, Bool, true, false, true≢false, not, nat_eq, is_some, cond, filter, map, Option, Some, None, Result, Ok, Err, List, [], ◌∷◌, ◌++◌, refl, sym, ap, ◌∙◌, subst, arith, append_assoc, append-nil, eq-eqb, ne_eqb}
use Rattle.std.specs.Prelude.{IfOk, IfErr, IsTrue, MatchOption, is_ok}
use Rattle.std.proofs.lemmas.List.{length-append}
use Rattle.std.proofs.lemmas.List.Elements.{All-nil, All-cons, All-append, filter-append}
use Rattle.std.specs.List.{range_with_len}
use Rattle.frame_core.specs.declared.frames.Frame.{Frame}
use Rattle.site_core.specs.Records.{Record}
use Rattle.site_core.specs.declared.inputs.SiteInput.TheVariants as inputs
use Rattle.wire_core.specs.Changes.{on, asks, offers, sends, receives}
use Rattle.wire_core.specs.Frames.{sender}
use Rattle.wire_core.specs.declared.views.Log.{Log}
use Rattle.world_core.specs.Turns.{addressee}
use Rattle.site_threads.specs.Inputs.{is_delivery}
use Rattle.site_threads.specs.Jobs.{ComesTo, entry_of, is_stop, open_after, option_items}
use Rattle.site_threads.specs.Passing.{AsksEach, Incoming, Rise, Notes, EntersFrames, TakesFrames, incoming, others, outgoing}
use Rattle.site_threads.specs.Running.{Follows}
use Rattle.site_threads.specs.Stamps.{stamp}
use Rattle.site_threads.specs.declared.jobs.Entry.{Entry}
use Rattle.site_threads.specs.declared.jobs.Reply.{Reply}
use Rattle.site_threads.specs.declared.stamps.Stamp.{Stamp}
use Rattle.site_threads.specs.declared.turns.TurnReport.{TurnReport}
use Rattle.site_threads.proofs.OneLog.{on_one}

-- A mark passes nothing.

pub follows_pass : (e : Log) (logs new : List Log) (r : Record) → logs ≡ e ∷ [] → Follows logs r new → (incoming new ≡ incoming logs) × (outgoing new ≡ outgoing logs)
follows_pass e logs new r alone follows =
    let f = follows e alone in (
      ap incoming f.1 ∙ (λ k. record { noted = f.2.noted k ++ []; asked = f.2.asked k ++ [] }) ∙ sym (ap incoming alone),
      ap outgoing f.1 ∙ (λ k. record { sent = f.2.sent k ++ []; offered = f.2.offered k ++ [] }) ∙ sym (ap outgoing alone),
    )

pub may_follow_pass : (shown : Option Record) (e : Log) (logs new : List Log) (kept kept' : Stamp) → logs ≡ e ∷ [] → MatchOption shown ((kept' ≡ kept) × (new ≡ logs)) (λ r. (kept' ≡ stamp r) × Follows logs r new) → (incoming new ≡ incoming logs) × (outgoing new ≡ outgoing logs)
may_follow_pass None e logs new kept kept' alone m = (ap incoming m.1, ap outgoing m.1)
may_follow_pass (Some r) e logs new kept kept' alone m = follows_pass e logs new r alone m.1

-- A frame noted, and a frame sent.

behind : {A : Type 0} (xs : List A) (x : A) → (xs ++ x ∷ []) ++ [] ≡ (xs ++ []) ++ x ∷ []
behind xs x = append-nil (xs ++ x ∷ []) ∙ ap (λ l. l ++ x ∷ []) (sym (append-nil xs))

-- the seat of one site, after a change of its log
module _ (e : Log) (logs : List Log) (me : ℕ) (new : List Log) (alone : logs ≡ e ∷ []) (site : e.site ≡ me) where
  one : (g : Log → Log) → new ≡ on me g logs → new ≡ g e ∷ []
  one g is = is ∙ ap (on me g) alone ∙ on_one e g me site

  pub asked_one : (other : ℕ) → new ≡ on me (asks other) logs → ((incoming new).noted ≡ (incoming logs).noted) × ((incoming new).asked ≡ (incoming logs).asked ++ other ∷ []) × (outgoing new ≡ outgoing logs)
  asked_one other is =
      let all = one (asks other) is in (
        ap (λ l. (incoming l).noted) all ∙ ap (λ l. (incoming l).noted) (sym alone),
        ap (λ l. (incoming l).asked) all ∙ behind e.asked other ∙ ap (λ l. (incoming l).asked ++ other ∷ []) (sym alone),
        ap outgoing all ∙ ap outgoing (sym alone),
      )

  pub noted_one : (other : ℕ) (f : Frame) → new ≡ on me (receives other f) logs
      → ((incoming new).noted ≡ (incoming logs).noted ++ f ∷ []) × ((incoming new).asked ≡ (incoming logs).asked ++ other ∷ []) × (outgoing new ≡ outgoing logs)
  noted_one other f is =
      let all = one (receives other f) is in (
        ap (λ l. (incoming l).noted) all ∙ behind e.noted f ∙ ap (λ l. (incoming l).noted ++ f ∷ []) (sym alone),
        ap (λ l. (incoming l).asked) all ∙ behind e.asked other ∙ ap (λ l. (incoming l).asked ++ other ∷ []) (sym alone),
        ap outgoing all ∙ ap outgoing (sym alone),
      )

  pub offered_one : (f : Frame) → new ≡ on me (offers f) logs → ((outgoing new).sent ≡ (outgoing logs).sent) × ((outgoing new).offered ≡ (outgoing logs).offered ++ f ∷ []) × (incoming new ≡ incoming logs)
  offered_one f is =
      let all = one (offers f) is in (
        ap (λ l. (outgoing l).sent) all ∙ ap (λ l. (outgoing l).sent) (sym alone),
        ap (λ l. (outgoing l).offered) all ∙ behind e.offered f ∙ ap (λ l. (outgoing l).offered ++ f ∷ []) (sym alone),
        ap incoming all ∙ ap incoming (sym alone),
      )

  pub sent_one : (f : Frame) → new ≡ on me (sends f) logs
      → ((outgoing new).sent ≡ (outgoing logs).sent ++ f ∷ []) × ((outgoing new).offered ≡ (outgoing logs).offered ++ f ∷ []) × (incoming new ≡ incoming logs)
  sent_one f is =
      let all = one (sends f) is in (
        ap (λ l. (outgoing l).sent) all ∙ behind e.sent f ∙ ap (λ l. (outgoing l).sent ++ f ∷ []) (sym alone),
        ap (λ l. (outgoing l).offered) all ∙ behind e.offered f ∙ ap (λ l. (outgoing l).offered ++ f ∷ []) (sym alone),
        ap incoming all ∙ ap incoming (sym alone),
      )

-- Numbers that rise.

rise_from : (number : Frame → ℕ) (a b c : ℕ) (fs : List Frame) → a ≤ b → Rise number b fs c → Rise number a fs c
rise_from number a b c [] h r = omega arith
rise_from number a b c (f ∷ fs) h r = (let s = r.0 in omega arith, r.1)

pub rise_more : (number : Frame → ℕ) (a b c : ℕ) (fs gs : List Frame) → Rise number a fs b → Rise number b gs c → Rise number a (fs ++ gs) c
rise_more number a b c [] gs r s = rise_from number a b c gs r s
rise_more number a b c (f ∷ fs) gs r s = (r.0, rise_more number (number f + 1) b c fs gs r.1 s)

pub rise_one : (number : Frame → ℕ) (a : ℕ) (f : Frame) → number f ≡ a → Rise number a (f ∷ []) (a + 1)
rise_one number a f is = (omega arith, omega arith)

-- Who is asked.

range_more : (a n m : ℕ) → range_with_len a (n + m) ≡ range_with_len a n ++ range_with_len (a + n) m
range_more a zero m = ap (range_with_len a) (let z : zero + m ≡ m = omega arith in z) ∙ ap (λ k. range_with_len k m) (let z : a ≡ a + zero = omega arith in z)
range_more a (suc n) m =
    ap (range_with_len a) (let z : suc n + m ≡ suc (n + m) = omega arith in z)
    ∙ ap (λ l. a ∷ l) (range_more (a + 1) n m ∙ ap (λ k. range_with_len (a + 1) n ++ range_with_len k m) (let z : a + 1 + n ≡ a + suc n = omega arith in z))

pub others_more : (me a b c : ℕ) → a ≤ b → b ≤ c → others me a c ≡ others me a b ++ others me b c
others_more me a b c h k =
    let sum : c - a ≡ (b - a) + (c - b) = omega arith in
    let mid : a + (b - a) ≡ b = omega arith in
    ap (filter (λ site. not (nat_eq site me))) (ap (range_with_len a) sum ∙ range_more a (b - a) (c - b) ∙ ap (λ k. range_with_len a (b - a) ++ range_with_len k (c - b)) mid)
    ∙ filter-append (λ site. not (nat_eq site me)) (range_with_len a (b - a)) (range_with_len b (c - b))

pub others_none : (me a : ℕ) → others me a a ≡ []
others_none me a = ap (λ n. filter (λ site. not (nat_eq site me)) (range_with_len a n)) (let z : a - a ≡ 0 = omega arith in z)

one_wide : (me a : ℕ) → others me a (a + 1) ≡ filter (λ site. not (nat_eq site me)) (a ∷ [])
one_wide me a = ap (λ n. filter (λ site. not (nat_eq site me)) (range_with_len a n)) (let z : a + 1 - a ≡ 1 = omega arith in z)

pub others_one : (me other : ℕ) → other ≢ me → others me other (other + 1) ≡ other ∷ []
others_one me other apart = one_wide me other ∙ ap (λ (b : Bool). cond (not b) (other ∷ []) []) (ne_eqb other me apart)

pub others_itself : (me : ℕ) → others me me (me + 1) ≡ []
others_itself me = one_wide me me ∙ ap (λ (b : Bool). cond (not b) (me ∷ []) []) (eq-eqb me me refl)

module _ (me : ℕ) (asked : List ℕ) where
  none_more : (a : ℕ) → asked ≡ asked ++ others me a a
  none_more a = sym (append-nil asked) ∙ ap (λ l. asked ++ l) (sym (others_none me a))

  -- none is to be asked
  pub asks_none : (low high : ℕ) (state : Bool) → low ≤ high → others me low high ≡ [] → AsksEach me low high state state [] asked asked
  asks_none low high true h empty = record {
    end = high;
    within = (h, omega arith);
    asked = sym (append-nil asked) ∙ ap (λ l. asked ++ l) (sym empty);
    all = λ up. refl;
    none = λ down. absurd (true≢false down);
    stopped = λ up down. absurd (true≢false down);
  }
  asks_none low high false h empty = record {
    end = low;
    within = (omega arith, h);
    asked = none_more low;
    all = λ up. absurd (true≢false (sym up));
    none = λ down. (refl, refl);
    stopped = λ up down. absurd (true≢false (sym up));
  }

  -- a closed site asks nobody
  pub asks_closed : (low high : ℕ) (state : Bool) → state ≡ false → low ≤ high → AsksEach me low high state state [] asked asked
  asks_closed low high true down h = absurd (true≢false down)
  asks_closed low high false down h = record { end = low; within = (omega arith, h); asked = none_more low; all = λ up. absurd (true≢false (sym up)); none = λ d. (refl, refl); stopped = λ up d. absurd (true≢false (sym up)) }

  module _ (other : ℕ) (apart : other ≢ me) (now : List ℕ) (is : now ≡ asked ++ other ∷ []) where
    whole : now ≡ asked ++ others me other (other + 1)
    whole = is ∙ ap (λ l. asked ++ l) (sym (others_one me other apart))

    -- nothing lay there
    pub asks_in_vain : (state : Bool) → state ≡ true → AsksEach me other (other + 1) state state [] asked now
    asks_in_vain state up' = record {
      end = other + 1;
      within = (omega arith, omega arith);
      asked = whole;
      all = λ up. refl;
      none = λ down. absurd (true≢false (sym up' ∙ down));
      stopped = λ up down. absurd (true≢false (sym up ∙ down));
    }

    -- a frame lay there
    pub asks_one : (before after : Bool) (f : Frame) → before ≡ true → sender f ≡ other → AsksEach me other (other + 1) before after (f ∷ []) asked now
    asks_one before after f up' from = record {
      end = other + 1;
      within = (omega arith, omega arith);
      asked = whole;
      all = λ up. refl;
      none = λ down. absurd (true≢false (sym up' ∙ down));
      stopped = λ up down. ([], f, refl, ap (λ k. k + 1) from);
    }

asks_more : (me a b c : ℕ) (before between after : Bool) (fs gs : List Frame) (old mid new : List ℕ) → (before ≡ false → between ≡ false) → (between ≡ false → after ≡ false) → AsksEach me a b before between fs old mid → AsksEach me b c between after gs mid new
    → AsksEach me a c before after (fs ++ gs) old new
asks_more me a b c before true after fs gs old mid new shut down s t =
    let all = s.all refl in
    let low = s.within.0 in
    let here = t.within in
    record {
      end = t.end;
      within = (omega (arith, low, all, here), here.1);
      asked = t.asked ∙ ap (λ l. l ++ others me b t.end) (s.asked ∙ ap (λ k. old ++ others me a k) all) ∙ append_assoc old (others me a b) (others me b t.end) ∙ ap (λ l. old ++ l) (sym (others_more me a b t.end (omega (arith, low, all)) here.0));
      all = t.all;
      none = λ d. absurd (true≢false (shut d));
      stopped = λ up d. let l = t.stopped refl d in (fs ++ l.0, l.1, ap (λ m. fs ++ m) l.2 ∙ sym (append_assoc fs l.0 (l.1 ∷ [])), l.3);
    }
asks_more me a b c before false after fs gs old mid new shut down s t =
    let none = t.none refl in
    let low = s.within in
    let here = t.within in
    record {
      end = s.end;
      within = (low.0, omega (arith, low, here));
      asked = t.asked ∙ ap (λ k. mid ++ others me b k) none.0 ∙ ap (λ l. mid ++ l) (others_none me b) ∙ append-nil mid ∙ s.asked;
      all = λ up. absurd (true≢false (sym up ∙ down refl));
      none = λ d. let n = s.none d in (n.0, (λ k. n.1 k ++ none.1 k));
      stopped = λ up d. let l = s.stopped up refl in (l.0, l.1, ap (λ m. fs ++ m) none.1 ∙ append-nil fs ∙ l.2, l.3);
    }

-- What is taken.

abbrev IsFrom : ℕ → Frame → Type 0
IsFrom me f = (addressee f ≡ me) × (sender f ≢ me)

notes_none : (me low high : ℕ) (fs : List Frame) → low ≤ high → Notes me low high fs fs []
notes_none me low high fs h = record { noted = sym (append-nil fs); rise = h; each = All-nil (IsFrom me) }

notes_one : (me other : ℕ) (old new : List Frame) (f : Frame) → new ≡ old ++ f ∷ [] → sender f ≡ other → addressee f ≡ me → other ≢ me → Notes me other (other + 1) old new (f ∷ [])
notes_one me other old new f is from to apart = record { noted = is; rise = rise_one sender other f from; each = All-cons (IsFrom me) f [] (to, λ same. apart (sym from ∙ same)) (All-nil (IsFrom me)) }

notes_more : (me a b c : ℕ) (old mid new fs gs : List Frame) → Notes me a b old mid fs → Notes me b c mid new gs → Notes me a c old new (fs ++ gs)
notes_more me a b c old mid new fs gs s t = record {
  noted = t.noted ∙ ap (λ l. l ++ gs) s.noted ∙ append_assoc old fs gs;
  rise = rise_more sender a b c fs gs s.rise t.rise;
  each = All-append (IsFrom me) fs gs s.each t.each;
}

-- What is entered of it.

comes_more : (before between after : Bool) (xs ys : List Entry) → ComesTo before xs between → ComesTo between ys after → ComesTo before (xs ++ ys) after
comes_more before between after [] ys s t = subst (λ b. ComesTo b ys after) s t
comes_more before between after (x ∷ xs) ys s t = (s.0, comes_more (not (is_stop x.reply)) between after xs ys s.1 t)

-- a closed site makes no step
stays_closed : (before after : Bool) (xs : List Entry) → ComesTo before xs after → before ≡ false → after ≡ false
stays_closed before after [] comes down = comes ∙ down
stays_closed before after (x ∷ xs) comes down = absurd (true≢false (sym comes.0 ∙ down))

abbrev IsOfFrame : Entry → Type 0
IsOfFrame x = IsTrue (is_delivery x.input)

enters_none : (before : Bool) (took : List Frame) (xs : List Entry) → EntersFrames before before took xs xs 0 (length took)
enters_none before took xs = record { frames = []; all = sym (append-nil xs); each = All-nil IsOfFrame; many = refl; counts = omega arith; comes = refl }

enters_more : (before between after : Bool) (fs gs : List Frame) (xs ys zs : List Entry) (n m l k : ℕ) → EntersFrames before between fs xs ys n l → EntersFrames between after gs ys zs m k → EntersFrames before after (fs ++ gs) xs zs (n + m) (l + k)
enters_more before between after fs gs xs ys zs n m l k s t = record {
  frames = s.frames ++ t.frames;
  all = t.all ∙ ap (λ l. l ++ t.frames) s.all ∙ append_assoc xs s.frames t.frames;
  each = All-append IsOfFrame s.frames t.frames s.each t.each;
  many = length-append s.frames t.frames ∙ (λ i. s.many i + t.many i);
  counts = let all = length-append fs gs in let one = s.counts in let two = t.counts in omega (arith, all, one, two);
  comes = comes_more before between after s.frames t.frames s.comes t.comes;
}

module _ {E : Type 0} (old new : List Entry) (before after : Bool) (up : before ≡ true) (n : ℕ) (f : Frame) where
  pub enters_one : (r : Result Reply E) → IfOk r (λ p. new ≡ old ++ (record { number = n; input = inputs.Deliver f; reply = p }) ∷ []) → IfOk r (λ p. after ≡ not (is_stop p)) → IfErr r (λ e. (new ≡ old) × (after ≡ before))
      → EntersFrames before after (f ∷ []) old new (cond (is_ok r) 1 0) (cond (is_ok r) 0 1)
  enters_one (Ok p) h stays back =
      let x : Entry = record { number = n; input = inputs.Deliver f; reply = p } in
      record { frames = x ∷ []; all = h; each = All-cons IsOfFrame x [] refl (All-nil IsOfFrame); many = refl; counts = refl; comes = (up, stays) }
  enters_one (Err e) h stays back =
      subst (λ (b : Bool). EntersFrames before b (f ∷ []) old new 0 1) (sym back.1) (subst (λ l. EntersFrames before before (f ∷ []) old l 0 1) (sym back.0) (enters_none before (f ∷ []) old))

pub kept_back : {A E L : Type 0} (B : E → Type 0) (new old : L) (now was : Option Record) (r : Result A E) → IfErr r (λ e. B e × (new ≡ old) × (now ≡ was)) → IfErr r (λ e. (new ≡ old) × (is_some now ≡ is_some was))
kept_back B new old now was (Ok a) h = tt
kept_back B new old now was (Err e) h = (h.1, ap is_some h.2)

-- Both.

pub takes_none : (me low high : ℕ) (old new : Incoming) (before : Bool) (xs : List Entry) → low ≤ high → new.noted ≡ old.noted → AsksEach me low high before before [] old.asked new.asked → TakesFrames me low high old new before before xs xs 0 0
takes_none me low high old new before xs h same asks = record { took = []; asks = asks; notes = subst (λ l. Notes me low high old.noted l []) (sym same) (notes_none me low high old.noted h); enters = enters_none before [] xs }

-- nobody is to be asked, or the site is closed
pub takes_itself : (me : ℕ) (old : Incoming) (before : Bool) (xs : List Entry) → TakesFrames me me (me + 1) old old before before xs xs 0 0
takes_itself me old before xs = takes_none me me (me + 1) old old before xs (omega arith) refl (asks_none me old.asked me (me + 1) before (omega arith) (others_itself me))

pub takes_at_none : (me low : ℕ) (old : Incoming) (before : Bool) (xs : List Entry) → TakesFrames me low low old old before before xs xs 0 0
takes_at_none me low old before xs = takes_none me low low old old before xs (omega arith) refl (asks_none me old.asked low low before (omega arith) (others_none me low))

pub takes_closed : (me other : ℕ) (old : Incoming) (before : Bool) (xs : List Entry) → before ≡ false → TakesFrames me other (other + 1) old old before before xs xs 0 0
takes_closed me other old before xs down = takes_none me other (other + 1) old old before xs (omega arith) refl (asks_closed me old.asked other (other + 1) before down (omega arith))

pub takes_in_vain : (me other : ℕ) (old new : Incoming) (before : Bool) (xs : List Entry) → other ≢ me → before ≡ true → new.noted ≡ old.noted → new.asked ≡ old.asked ++ other ∷ [] → TakesFrames me other (other + 1) old new before before xs xs 0 0
takes_in_vain me other old new before xs apart up same is = takes_none me other (other + 1) old new before xs (omega arith) same (asks_in_vain me old.asked other apart new.asked is before up)

pub takes_one : (me other : ℕ) (old mid new : Incoming) (f : Frame) (before after : Bool) (xs ys : List Entry) (n l : ℕ) → mid.noted ≡ old.noted ++ f ∷ [] → mid.asked ≡ old.asked ++ other ∷ [] → new ≡ mid → sender f ≡ other → addressee f ≡ me → other ≢ me → before ≡ true
    → EntersFrames before after (f ∷ []) xs ys n l → TakesFrames me other (other + 1) old new before after xs ys n l
takes_one me other old mid new f before after xs ys n l is asked same from to apart up enters = record {
  took = f ∷ [];
  asks = asks_one me old.asked other apart new.asked (ap (λ (i : Incoming). i.asked) same ∙ asked) before after f up from;
  notes = notes_one me other old.noted new.noted f (ap (λ (i : Incoming). i.noted) same ∙ is) from to apart;
  enters = enters;
}

pub takes_more : (me a b c : ℕ) (old mid new : Incoming) (before between after : Bool) (xs ys zs : List Entry) (n m l k : ℕ) → TakesFrames me a b old mid before between xs ys n l → TakesFrames me b c mid new between after ys zs m k
    → TakesFrames me a c old new before after xs zs (n + m) (l + k)
takes_more me a b c old mid new before between after xs ys zs n m l k s t = record {
  took = s.took ++ t.took;
  asks = asks_more me a b c before between after s.took t.took old.asked mid.asked new.asked (stays_closed before between s.enters.frames s.enters.comes) (stays_closed between after t.enters.frames t.enters.comes) s.asks t.asks;
  notes = notes_more me a b c old.noted mid.noted new.noted s.took t.took s.notes t.notes;
  enters = enters_more before between after s.took t.took xs ys zs n m l k s.enters t.enters;
}

-- The same of other names of the same values.

pub takes_as : (low high : ℕ) (me me' : ℕ) (old old' new new' : Incoming) (before before' after after' : Bool) (xs xs' ys ys' : List Entry) (n l : ℕ) → me ≡ me' → old ≡ old' → new ≡ new' → before ≡ before' → after ≡ after' → xs ≡ xs' → ys ≡ ys' → TakesFrames me low high old new before after xs ys n l
    → TakesFrames me' low high old' new' before' after' xs' ys' n l
takes_as low high me me' old old' new new' before before' after after' xs xs' ys ys' n l a b c d e f g t =
    subst (λ (y : ℕ × (Incoming × (Incoming × (Bool × (Bool × (List Entry × List Entry)))))). TakesFrames y.0 low high y.1.0 y.1.1.0 y.1.1.1.0 y.1.1.1.1.0 y.1.1.1.1.1.0 y.1.1.1.1.1.1 n l) (λ i. (a i, (b i, (c i, (d i, (e i, (f i, g i))))))) t

-- a turn's frames, from before it began
pub turn_takes : {E : Type 0} (r : Result TurnReport E) (high me me' : ℕ) (old old' new : Incoming) (after : Bool) (begun before now : List Entry) → me ≡ me' → old ≡ old' → begun ≡ before → IfOk r (λ x. TakesFrames me 0 high old new (open_after x.receipt) after (begun ++ map entry_of (option_items x.receipt)) now x.applied x.lost)
    → IfOk r (λ x. TakesFrames me' 0 high old' new (open_after x.receipt) after (before ++ map entry_of (option_items x.receipt)) now x.applied x.lost)
turn_takes (Ok x) high me me' old old' new after begun before now a b c t = takes_as 0 high me me' old old' new new (open_after x.receipt) (open_after x.receipt) after after _ _ now now x.applied x.lost a b refl refl refl (ap (λ l. l ++ map entry_of (option_items x.receipt)) c) refl t
turn_takes (Err e) high me me' old old' new after begun before now a b c t = tt
